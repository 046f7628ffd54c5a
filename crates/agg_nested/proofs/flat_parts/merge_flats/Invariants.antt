use Rattle.agg_nested.specs.Zipped.{IsZippedBelow}
use Rattle.agg_nested.proofs.FlatLists.{IsJoined}
use Rattle.agg_nested.proofs.flat_parts.merge_flats.Given as goal

abbrev pub invariant-loop-i : goal.invariant-loop-i
invariant-loop-i l = IsZippedBelow IsJoined l.nested l.others l.initial.parts.items l.parts.items l.i
