use Rattle.agg_model.proofs.Totals.{AreShownBelow}
use Rattle.agg_model.proofs.finishing.shown_in_all.Given as goal

abbrev pub invariant-loop-i : goal.invariant-loop-i
invariant-loop-i l = AreShownBelow l.request l.parts.items l.many l.i
