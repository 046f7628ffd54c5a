use Rattle.std.proofs.Common.{ℕ, ◌∙◌, subst}
use Rattle.doc_tallies.specs.Picked.{AllBelow}
use Rattle.doc_tallies.proofs.Regrouped.{picked_long}
use Rattle.doc_tallies.proofs.partials.partial_of.Goals as goal

pub returns-clause-only : goal.returns-clause-only
returns-clause-only c = λ documents p part fast.
    let parts = (rw c.as_slice.ensures at c.in_ok-parts.ensures.only) documents p part fast in
    let below = subst (λ (n : ℕ). AllBelow n c.args.numbers.now) (part.footer.layout.docs ∙ part.is_split.docs) c.requires.below in
    c.parts_together.ensures.stands c.args.request.now _ (picked_long documents c.args.numbers.now below) parts
