use Rattle.std.proofs.Common.{◌≡◌, drop}
use Rattle.doc_value.specs.Documents.{values_in}
use Rattle.query_ast.proofs.matching.values_of.Given as goal

abbrev pub invariant-loop-f : goal.invariant-loop-f
invariant-loop-f l = values_in (drop l.f-index l.fields) l.number ≡ values_in l.fields l.number
