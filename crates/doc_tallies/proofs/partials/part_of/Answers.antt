use Rattle.std.proofs.Common.{ℕ, ◌∙◌, subst}
use Rattle.doc_tallies.specs.Picked.{AllBelow}
use Rattle.doc_tallies.proofs.partials.part_of.Goals as goal

pub returns-clause-only : goal.returns-clause-only
returns-clause-only c = λ documents p part fast.
    let columns = (rw (c.as_slice.ensures.value, c.in_ok-fields.ensures) at c.in_ok-columns.ensures.only) documents p part fast in
    let below = subst (λ (n : ℕ). AllBelow n c.args.numbers.now) (part.footer.layout.docs ∙ part.is_split.docs) c.requires.below in
    (rw c.as_slice-2.ensures.value at c.in_ok-part_by_columns.ensures.only) c.args.schema.now documents part.is_split.are_documents columns below
