use Rattle.agg_nested.specs.Zipped.{IsZippedBelow}
use Rattle.agg_nested.proofs.PartLists.{IsJoined}
use Rattle.agg_nested.proofs.nested_partial.merge_parts.Given as goal

abbrev pub invariant-loop-i : goal.invariant-loop-i
invariant-loop-i l = IsZippedBelow IsJoined l.request l.others.items l.initial.parts.items l.parts.items l.i
