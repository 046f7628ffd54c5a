-- The columns of the fast fields of documents.
use Rattle.std.specs.Prelude.{◌≡◌, ℕ, suc, ◌+◌, List, [], ◌∷◌, ◌++◌, length, if◌then◌else◌}
use Rattle.doc_value.specs.declared.schema.Field.{Field}
use Rattle.doc_value.specs.declared.schema.Schema.{Schema}
use Rattle.doc_value.specs.declared.doc.Value.{Value}
use Rattle.doc_value.specs.Documents.{values_in}
use Rattle.fast_fields.specs.declared.rows.ColumnRow.{ColumnRow}
use Rattle.fast_fields.specs.Columns.{IsColumn}
use Rattle.split_bundle.specs.declared.placed.Placed.{Placed}
use Rattle.split_bundle.specs.declared.layout.ColumnStart.{ColumnStart}

-- a document with its values of a field, if it has some
abbrev pub row_of : ℕ → List Value → List ColumnRow
row_of document [] = []
row_of document (v ∷ vs) = record { document = document; values = v ∷ vs } ∷ []

-- the documents that have values of a field, each by its number, of which the first is a number
abbrev pub rows_from : ℕ → ℕ → List Placed → List ColumnRow
rows_from number n [] = []
rows_from number n (d ∷ ds) = row_of n (values_in d.doc number) ++ rows_from number (suc n) ds

abbrev pub column_rows : ℕ → List Placed → List ColumnRow
column_rows number documents = rows_from number 0 documents

-- a fast field and its number
pub record FastField : Type 0 where
  pub number : ℕ
  pub field : Field

-- the fast ones of some fields, of which the first has that number
abbrev pub fast_from : ℕ → List Field → List FastField
fast_from number [] = []
fast_from number (f ∷ fs) = if f.fast then record { number = number; field = f } ∷ fast_from (suc number) fs else fast_from (suc number) fs

abbrev pub fast_fields : Schema → List FastField
fast_fields s = fast_from 0 s.fields

-- a column stands at the front of these bytes
pub record HasColumn (documents : List Placed) (f : FastField) (bytes : List ℕ) : Type 0 where
  pub column : List ℕ
  pub behind : List ℕ
  pub parts : bytes ≡ column ++ behind
  pub is_column : IsColumn f.field.kind column (column_rows f.number documents)

-- the columns of these fields stand one behind the other, the first at that start
abbrev pub AreColumns : List Placed → ℕ → List FastField → List ColumnStart → List ℕ → Type 0
AreColumns documents start [] [] bytes = bytes ≡ []
AreColumns documents start [] (c ∷ cs) bytes = ⊥
AreColumns documents start (f ∷ fs) [] bytes = ⊥
AreColumns documents start (f ∷ fs) (c ∷ cs) bytes =
    (has : HasColumn documents f bytes) × (c ≡ record { number = f.number; start = start }) × AreColumns documents (start + length has.column) fs cs has.behind
