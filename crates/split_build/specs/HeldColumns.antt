-- The values of fast fields, as far as they were taken.
use Rattle.std.specs.Prelude.{◌≡◌, ℕ, ◌^◌, ◌<◌, List, ◌++◌, map, length, Some, String, string_bytes, slice_get, slice_index, IsUtf8}
use Rattle.std.specs.List.{AllByRecursion, AllZip}
use Rattle.std.specs.declared.alloc.Global.{Global}
use Rattle.doc_value.specs.declared.doc.Value.{Value}
use Rattle.doc_value.specs.declared.doc.Value.TheVariants as values
use Rattle.doc_value.specs.declared.schema.Kind.{Kind}
use Rattle.doc_value.specs.Documents.{IsOfKind}
use Rattle.fast_fields.specs.declared.entries.Entry.{Entry}
use Rattle.fast_fields.specs.declared.rows.ColumnRow.{ColumnRow}
use Rattle.fast_fields.specs.Columns.{AreGrown, Cell, IsColumn, IsNumber, SomeText, cells}
use Rattle.split_bundle.specs.declared.placed.Placed.{Placed}
use Rattle.split_bundle.specs.Columns.{FastField, column_rows}
use Rattle.split_build.specs.declared.columns.ColumnLog.{ColumnLog}

abbrev pub texts_of : List (String Global) → List (List ℕ)
texts_of names = map string_bytes names

-- texts were put behind others, each that of a value, and the value has a number among them
pub record IsNumbered (before after : List (List ℕ)) (v : Value) (n : ℕ) : Type 0 where
  pub more : List (List ℕ)
  pub after_is : after ≡ before ++ more
  pub each : AllByRecursion (λ t. (v ≡ values.Text t) × IsUtf8 t) more
  pub number : IsNumber after v n
  pub small : n < 2 ^ 64

-- entries of values, of which no document is above one; the number of a text is its place among the texts, each that of some value
pub record HasCells (texts : List (List ℕ)) (document : ℕ) (cs : List Cell) (es : List Entry) : Type 0 where
  pub grown : AreGrown texts document cs es
  pub used : AllByRecursion (SomeText cs) texts
  pub utf8 : AllByRecursion IsUtf8 texts

-- the values of a field of documents
pub record HasRows (documents : List Placed) (f : FastField) (l : ColumnLog) : Type 0 where
  pub number : l.number ≡ f.number
  pub cells_are : HasCells (texts_of l.texts.keys) (length documents) (cells (column_rows f.number documents)) l.entries.items

-- of each of these fields
abbrev pub HasColumns : List Placed → List FastField → List ColumnLog → Type 0
HasColumns documents fs ls = AllZip (HasRows documents) fs ls

-- where a text stands among others
abbrev pub IsPlaceOf : List (List ℕ) → List ℕ → ℕ → Type 0
IsPlaceOf texts t n = slice_get texts n ≡ Some t

-- an entry with the ordinal of its text in the place of its number
abbrev pub renumbered : List ℕ → Entry → Entry
renumbered ordinals e = record { document = e.document; number = slice_index ordinals e.number }

-- what was taken of the values of a field of this kind can be written
pub record CanWrite (kind : Kind) (l : ColumnLog) (cs : List Cell) : Type 0 where
  pub document : ℕ
  pub cells_are : HasCells (texts_of l.texts.keys) document cs l.entries.items
  pub of_kind : AllByRecursion (λ c. IsOfKind kind c.value) cs
  pub few : length cs < 2 ^ 32

-- the column of these values was put behind some bytes
pub record IsPut (kind : Kind) (cs : List Cell) (before after : List ℕ) : Type 0 where
  pub column : List ℕ
  pub after_is : after ≡ before ++ column
  pub is_column : (rows : List ColumnRow) → cells rows ≡ cs → IsColumn kind column rows
