use Rattle.std.proofs.Common.{◌≡◌, drop}
use Rattle.doc_value.specs.Documents.{values_in}
use Rattle.agg_nested.proofs.flat_part.values_of.Given as goal

abbrev pub invariant-loop-part : goal.invariant-loop-part
invariant-loop-part l = values_in l.doc l.field ≡ values_in (drop l.part-index l.part-items) l.field
