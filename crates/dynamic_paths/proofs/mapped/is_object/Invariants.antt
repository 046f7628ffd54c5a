use Rattle.std.proofs.Common.{◌≡◌, [], ◌∷◌, ◌++◌, drop}
use Rattle.doc_value.specs.Documents.{mapped_fields}
use Rattle.dynamic_paths.specs.Leaves.{is_object}
use Rattle.dynamic_paths.proofs.Others.{others_from}
use Rattle.dynamic_paths.proofs.mapped.is_object.Given as goal

abbrev pub invariant-loop-number : goal.invariant-loop-number
invariant-loop-number l = is_object (mapped_fields l.schema) (l.path ++ 46 ∷ []) ≡ is_object (others_from l.schema.dynamic l.number (drop l.number l.schema.fields)) (l.path ++ 46 ∷ [])
