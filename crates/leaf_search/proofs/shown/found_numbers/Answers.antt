use Rattle.std.proofs.Common.{◌≡◌, ℕ, ◌⊎◌, List, Bool, inl, inr}
use Rattle.doc_value.specs.declared.doc.DocField.{DocField}
use Rattle.query_ast.specs.Meaning.{meaning}
use Rattle.query_ast.specs.Sought.{view}
use Rattle.doc_sets.specs.Asking.{AsksLookups}
use Rattle.doc_sets.specs.Faults.{LacksPart}
use Rattle.doc_sets.proofs.Causes.{cause_wider}
use Rattle.doc_sets.proofs.Searched.{searched}
use Rattle.leaf_search.specs.Answers.{AsksTimes, passes}
use Rattle.leaf_search.specs.Asks.{lookups_of}
use Rattle.leaf_search.specs.Numbers.{numbers_of}
use Rattle.leaf_search.proofs.LeafSteps.{handed}
use Rattle.leaf_search.proofs.ShownParts.{cause_behind}
use Rattle.leaf_search.proofs.shown.found_numbers.Goals as goal

pub returns-in_err-bits-clause-only : goal.returns-in_err-bits-clause-only
returns-in_err-bits-clause-only c = λ documents p part ask.
    let s = c.args.schema.now in
    let r = c.args.request.now in
    let v = c.args.view.now in
    let e = c.in_err-bits.field-0.0 in
    let asked : ℕ → ℕ → Type 0 = λ at len. AsksLookups v s documents p (lookups_of v.footer s (view r.query)) at len ⊎ AsksTimes v p s r.times at len in
    handed (λ ns. ns.items ≡ numbers_of (passes s r) documents) (LacksPart asked v.pieces) c.from_residual.result e c.from_residual.ensures.1
    (cause_wider (AsksLookups v s documents p (lookups_of v.footer s (view r.query))) asked v.pieces e (λ at len h. inl h) (c.in_err-bits.ensures.only documents p (searched v s documents p part) ask.query))

pub returns-clause-only : goal.returns-clause-only
returns-clause-only c = λ documents p part ask.
    let s = c.args.schema.now in
    let r = c.args.request.now in
    let v = c.args.view.now in
    let test : List DocField → Bool = λ d. meaning s d (view r.query) in
    let matched = c.in_ok-matched.ensures.only test documents (c.in_ok-bits.ensures.only documents p (searched v s documents p part) ask.query) in
    cause_behind (AsksTimes v p s r.times) (λ at len. AsksLookups v s documents p (lookups_of v.footer s (view r.query)) at len ⊎ AsksTimes v p s r.times at len) v.pieces (numbers_of (passes s r) documents) c.timed_numbers.result
    (λ at len h. inr h) (c.timed_numbers.ensures.only documents p test part matched)
