use Rattle.std.proofs.Common.{◌≡◌, ℕ, ◌<◌, slice_get, Some}
use Rattle.doc_value.specs.declared.schema.Field.{Field}
use Rattle.index_config.specs.Accepted.{BeginsPlain}
use Rattle.doc_mapping.proofs.faults.begin_plain.Given as goal

abbrev pub invariant-loop-field : goal.invariant-loop-field
invariant-loop-field l = (n : ℕ) (f : Field) → n < l.field-index → slice_get l.field-items n ≡ Some f → BeginsPlain f.path
