use Rattle.agg_model.proofs.Totals.{AreAnsweredBelow}
use Rattle.agg_model.proofs.finishing.answers.Given as goal

abbrev pub invariant-loop-i : goal.invariant-loop-i
invariant-loop-i l = AreAnsweredBelow l.request l.parts.items l.results l.i
