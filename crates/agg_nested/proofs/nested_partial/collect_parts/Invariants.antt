use Rattle.agg_nested.specs.Zipped.{IsZippedBelow}
use Rattle.agg_nested.proofs.PartLists.{IsOneMore}
use Rattle.agg_nested.proofs.nested_partial.collect_parts.Given as goal

abbrev pub invariant-loop-i : goal.invariant-loop-i
invariant-loop-i l = IsZippedBelow (IsOneMore l.doc l.documents) l.request l.request l.initial.parts.items l.parts.items l.i
