use Rattle.std.proofs.Common.{◌≡◌, ℕ, ◌<◌, false, slice_get, Some}
use Rattle.doc_value.specs.declared.schema.Field.{Field}
use Rattle.doc_mapping.specs.Faults.{has_dot}
use Rattle.doc_mapping.proofs.faults.are_flat.Given as goal

abbrev pub invariant-loop-field : goal.invariant-loop-field
invariant-loop-field l = (n : ℕ) (f : Field) → n < l.field-index → slice_get l.field-items n ≡ Some f → has_dot f.path ≡ false
