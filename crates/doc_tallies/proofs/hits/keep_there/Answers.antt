use Rattle.std.proofs.Common.{◌≡◌, List, None, [], ◌∷◌, ◌++◌, sym, subst}
use Rattle.split_bundle.specs.declared.placed.Placed.{Placed}
use Rattle.doc_tallies.specs.Orders.{firsts}
use Rattle.doc_tallies.proofs.Faults.{address_lacks, here_alone, placed_lacks}
use Rattle.doc_tallies.proofs.hits.keep_there.Goals as goal

pub returns-in-Ok-true-clause-only : goal.returns-in-Ok-true-clause-only
returns-in-Ok-true-clause-only c = λ documents p d part here.
    let late = rw c.in-Ok-true.field-0-test at (c.in-Ok-true.ensures.only c.args.schema.now documents p d part here) in
    subst (λ (ks : List Placed). firsts c.args.wanted None ks ≡ firsts c.args.wanted None (ks ++ d ∷ [])) c.as_slice.ensures.value (sym late)

pub returns-in-Err-placed-clause-only : goal.returns-in-Err-placed-clause-only
returns-in-Err-placed-clause-only c = λ documents p d part here.
    placed_lacks c.args.view.now p documents (c.args.number ∷ []) c.args.number d c.in-Err-placed.fault (here_alone c.args.number) here (c.in-Err-placed.ensures.only documents p d part here)

pub returns-in-Err-clause-only : goal.returns-in-Err-clause-only
returns-in-Err-clause-only c = λ documents p d part here.
    address_lacks c.args.view.now p documents (c.args.number ∷ []) c.args.number d c.in-Err.fault (here_alone c.args.number) here (c.in-Err.ensures.only c.args.schema.now documents p d part here)
