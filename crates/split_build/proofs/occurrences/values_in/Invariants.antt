use Rattle.std.proofs.Common.{◌≡◌, drop}
use Rattle.doc_value.specs.Documents.{values_in}
use Rattle.split_build.proofs.occurrences.values_in.Given as goal

abbrev pub invariant-loop-part : goal.invariant-loop-part
invariant-loop-part l = values_in (drop l.part-index l.doc) l.number ≡ values_in l.doc l.number
