-- The columns of fields.
use Rattle.std.specs.Prelude.{◌≡◌, ℕ, List, Option, Some, None, true, slice_get, MatchOption}
use Rattle.doc_value.specs.declared.schema.Schema.{Schema}
use Rattle.doc_value.specs.declared.schema.Field.{Field}
use Rattle.fast_fields.specs.Readers.{IsOf}
use Rattle.split_bundle.specs.declared.placed.Placed.{Placed}
use Rattle.split_bundle.specs.Columns.{column_rows}
use Rattle.doc_tallies.specs.declared.field_column.FieldColumn.{FieldColumn}

-- the schema has a fast field of this number
abbrev pub IsFast : Schema → ℕ → Type 0
IsFast s number = MatchOption (slice_get s.fields number) ⊥ (λ f. f.fast ≡ true)

-- the column of a field's values in documents
pub record IsColumnFor (s : Schema) (documents : List Placed) (number : ℕ) (c : FieldColumn) : Type 0 where
  pub field : Field
  pub here : slice_get s.fields number ≡ Some field
  pub number_is : c.number ≡ number
  pub kind_is : c.kind ≡ field.kind
  pub is_of : IsOf c.column (column_rows number documents)

-- the column of the timestamp field, or none where there is no such field
abbrev pub IsTimeColumn : Schema → List Placed → Option FieldColumn → Type 0
IsTimeColumn s documents None = s.timestamp ≡ None
IsTimeColumn s documents (Some c) = (number : ℕ) × (s.timestamp ≡ Some number) × IsOf c.column (column_rows number documents)
