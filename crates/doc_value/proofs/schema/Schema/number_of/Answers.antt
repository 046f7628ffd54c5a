use Rattle.std.proofs.Common.{arith, refl, ap, sym, ◌∙◌}
use Rattle.std.specs.Ordering.{nat_cmp}
use Rattle.std.specs.Cmp.Lexicographic.{slice_cmp}
use Rattle.doc_value.proofs.Finding.{within-lower, within-higher, within-none, found}
use Rattle.doc_value.proofs.schema.Schema.number_of.Goals as goal

pub loop-low-preserved-in-Less : goal.loop-low-preserved-in-Less
loop-low-preserved-in-Less c =
    within-lower _ _ _ c.loop-low.high _ c.at.result.now c.requires c.loop-low.invariant c.at.ensures (omega arith) (omega arith) (ap (slice_cmp nat_cmp c.args.path.now) (sym c.as_slice.ensures) ∙ sym c.in-Less.ensures)

pub returns-in-Equal : goal.returns-in-Equal
returns-in-Equal c = found _ _ c.at.result.now c.args.path.now c.requires c.at.ensures (ap (slice_cmp nat_cmp c.args.path.now) (sym c.as_slice.ensures) ∙ sym c.in-Equal.ensures)

pub loop-low-preserved : goal.loop-low-preserved
loop-low-preserved c =
    within-higher _ _ c.loop-low.low _ _ _ c.at.result.now c.requires c.loop-low.invariant c.at.ensures (omega arith) (omega arith) refl (ap (slice_cmp nat_cmp c.args.path.now) (sym c.as_slice.ensures) ∙ sym c.in-Greater.ensures)

pub returns : goal.returns
returns c = within-none _ _ c.loop-low.low c.loop-low.high c.loop-low.invariant (omega arith)
