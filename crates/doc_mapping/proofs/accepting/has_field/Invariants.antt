use Rattle.std.proofs.Common.{◌≡◌, drop}
use Rattle.doc_mapping.specs.Documents.{has_number}
use Rattle.doc_mapping.proofs.accepting.has_field.Given as goal

abbrev pub invariant-loop-part : goal.invariant-loop-part
invariant-loop-part l = has_number l.doc l.number ≡ has_number (drop l.part-index l.doc) l.number
