use Rattle.std.proofs.Common.{inl, inr}
use Rattle.doc_tallies.specs.Causes.{AsksDocuments, AsksField, AsksHits}
use Rattle.doc_tallies.specs.Near.{shown}
use Rattle.doc_tallies.specs.Orders.{sort_field}
use Rattle.doc_tallies.proofs.Faults.{cause_wider}
use Rattle.doc_tallies.proofs.hits.first_hits.Goals as goal

pub returns-in-Err-clause-only : goal.returns-in-Err-clause-only
returns-in-Err-clause-only c = λ documents p part sortable.
    let v = c.args.view.now in
    let order = c.args.order in
    let ns = c.args.numbers.now in
    cause_wider (AsksField v p (sort_field order)) (AsksHits v p documents order c.args.wanted ns) v.pieces c.in-Err.fault (λ at len asked. inl asked) (c.in-Err.ensures.only documents p part sortable)

pub returns-in-Err-sorted_hits-clause-only : goal.returns-in-Err-sorted_hits-clause-only
returns-in-Err-sorted_hits-clause-only c = λ documents p part sortable.
    let v = c.args.view.now in
    let order = c.args.order in
    let ns = c.args.numbers.now in
    cause_wider (AsksDocuments p documents (shown order c.args.wanted documents ns)) (AsksHits v p documents order c.args.wanted ns) v.pieces c.in-Err-sorted_hits.fault (λ at len asked. inr asked)
    (c.in-Err-sorted_hits.ensures.only documents p part (c.in-Ok.ensures.only documents p part sortable))
