-- The columns of the fields of aggregations.
use Rattle.std.specs.Prelude.{◌≡◌, ℕ, List, ◌∷◌, Contains, map}
use Rattle.std.specs.List.{All, AllByRecursion, AllZip, flat_map}
use Rattle.doc_value.specs.declared.doc.DocField.{DocField}
use Rattle.doc_value.specs.declared.schema.Schema.{Schema}
use Rattle.doc_value.specs.Documents.{values_in}
use Rattle.agg_nested.specs.Checking.{field_of}
use Rattle.agg_nested.specs.declared.request.NestedAgg.{NestedAgg}
use Rattle.split_bundle.specs.declared.part_view.PartView.{PartView}
use Rattle.split_bundle.specs.declared.placed.Placed.{Placed}
use Rattle.split_bundle.specs.Files.{Parts}
use Rattle.doc_tallies.specs.declared.field_column.FieldColumn.{FieldColumn}
use Rattle.doc_tallies.specs.Causes.{AsksColumn}
use Rattle.doc_tallies.specs.Cells.{IsColumnFor, IsFast}

-- the field of an aggregation, then those of its nested ones, in order
abbrev pub fields_of : NestedAgg → List ℕ
fields_of asked = field_of asked.agg ∷ map (λ named. field_of named.agg) asked.nested

-- those of all aggregations of a request
abbrev pub fields_asked : List NestedAgg → List ℕ
fields_asked request = flat_map fields_of request

-- each aggregation, also each nested one, is over a fast field
abbrev pub AreOverFast : Schema → List NestedAgg → Type 0
AreOverFast s request = All (IsFast s) (fields_asked request)

-- the column of one of some fields is asked for
pub record AsksColumns (v : PartView) (p : Parts) (fields : List ℕ) (at len : ℕ) : Type 0 where
  pub number : ℕ
  pub among : Contains fields number
  pub column : AsksColumn v p number at len

-- the column of the field of one of some aggregations is asked for
abbrev pub AsksFields : PartView → Parts → List NestedAgg → ℕ → ℕ → Type 0
AsksFields v p request at len = AsksColumns v p (fields_asked request) at len

-- the columns of fields, one by one
abbrev pub AreColumnsFor : Schema → List Placed → List ℕ → List FieldColumn → Type 0
AreColumnsFor s documents fields columns = AllZip (λ n c. IsColumnFor s documents n c) fields columns

-- values have the same of some fields as a document
abbrev pub HasValuesOf : List ℕ → List DocField → List DocField → Type 0
HasValuesOf fields doc shown = AllByRecursion (λ n. values_in shown n ≡ values_in doc n) fields
