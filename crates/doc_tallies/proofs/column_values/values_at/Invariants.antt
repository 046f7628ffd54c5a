use Rattle.std.proofs.Common.{◌≡◌, ◌-◌, List, Some, slice_get, take}
use Rattle.std.specs.List.{AllByRecursion}
use Rattle.doc_value.specs.Documents.{AreOfKind, values_in}
use Rattle.fast_fields.specs.Readers.{IsOf}
use Rattle.split_bundle.specs.Columns.{column_rows}
use Rattle.split_bundle.specs.Held.{IsHeldValue}
use Rattle.split_bundle.specs.declared.placed.Placed.{Placed}
use Rattle.doc_tallies.proofs.column_values.values_at.Given as goal

abbrev pub invariant-loop-place : goal.invariant-loop-place
invariant-loop-place l =
    (documents : List Placed) (d : Placed) → IsOf l.field.column (column_rows l.field.number documents) → slice_get documents l.document ≡ Some d
    → AreOfKind l.field.kind (values_in d.doc l.field.number) → AllByRecursion IsHeldValue (values_in d.doc l.field.number)
    → l.values ≡ take (l.place - l.from) (values_in d.doc l.field.number)
