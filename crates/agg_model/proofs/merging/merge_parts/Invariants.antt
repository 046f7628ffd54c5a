use Rattle.agg_model.proofs.Parts.{AreMergedBelow}
use Rattle.agg_model.proofs.merging.merge_parts.Given as goal

abbrev pub invariant-loop-i : goal.invariant-loop-i
invariant-loop-i l = AreMergedBelow l.initial.parts.items l.others l.parts.items l.i
