-- What a row keeps of documents beside their bytes, and the values of their fast fields, as far as they are read.
use Rattle.std.specs.Prelude.{◌≡◌, ◌-◌, List, length}
use Rattle.std.specs.List.{AllZip}
use Rattle.doc_value.specs.declared.schema.Schema.{Schema}
use Rattle.fast_fields.specs.Columns.{cells}
use Rattle.split_bundle.specs.declared.placed.Placed.{Placed}
use Rattle.split_bundle.specs.Columns.{FastField, column_rows, fast_fields}
use Rattle.split_build.specs.declared.columns.ColumnLog.{ColumnLog}
use Rattle.split_build.specs.HeldColumns.{HasCells, texts_of}
use Rattle.split_build.specs.HeldTags.{HasTags}
use Rattle.split_bundle.specs.Tagged.{tag_numbers}
use Rattle.split_build.specs.Times.{AreTimes, seconds_in}
use Rattle.split_merge.specs.declared.facts.FieldFacts.{FieldFacts}

-- the values of a fast field of documents, of which the last may gain more
pub record HasColumnOf (documents : List Placed) (f : FastField) (l : ColumnLog) : Type 0 where
  pub number : l.number ≡ f.number
  pub cells_are : HasCells (texts_of l.texts.keys) (length documents - 1) (cells (column_rows f.number documents)) l.entries.items

-- of each of these fields
abbrev pub HaveColumns : List Placed → List FastField → List ColumnLog → Type 0
HaveColumns documents fs ls = AllZip (HasColumnOf documents) fs ls

pub record HasFacts (f : FieldFacts) (s : Schema) (documents : List Placed) : Type 0 where
  pub count : f.count ≡ length documents
  pub timestamp : f.timestamp ≡ s.timestamp
  pub tags : HasTags documents (tag_numbers 0 s.fields) f.tags.items
  pub times : AreTimes (seconds_in s.timestamp documents) f.times
  pub columns : HaveColumns documents (fast_fields s) f.columns.items
