use Rattle.agg_model.proofs.Parts.{AreCollectedBelow}
use Rattle.agg_model.proofs.partial.collect_parts.Given as goal

abbrev pub invariant-loop-i : goal.invariant-loop-i
invariant-loop-i l = AreCollectedBelow l.documents l.doc l.request l.initial.parts.items l.parts.items l.i
