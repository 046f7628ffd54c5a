use Rattle.agg_nested.specs.Zipped.{IsZippedBelow}
use Rattle.agg_nested.proofs.FlatLists.{IsOneMore}
use Rattle.agg_nested.proofs.flat_parts.collect_flats.Given as goal

abbrev pub invariant-loop-i : goal.invariant-loop-i
invariant-loop-i l = IsZippedBelow (IsOneMore l.doc) l.nested l.nested l.initial.parts.items l.parts.items l.i
