-- What a column that was read has.
use Rattle.std.specs.Prelude.{◌≡◌, ℕ, ◌+◌, ◌-◌, List, [], ◌∷◌, length, map, Option, Some, None, nat_lt, IsUtf8, ◌==◌, if◌then◌else◌}
use Rattle.std.specs.List.{flat_map, AllByRecursion}
use Rattle.std.specs.Borrow.{Bor}
use Rattle.byte_fields.specs.Spelling.{byte_string}
use Rattle.fast_fields.specs.Packed.{IsPacked, IsWidth}
use Rattle.fast_fields.specs.Columns.{Fits, AreTexts, AreEntries, cells, numbers, least_of, greatest_of, documents_bytes}
use Rattle.fast_fields.specs.Reading.{Parts}
use Rattle.fast_fields.specs.declared.entries.Entry.{Entry}
use Rattle.fast_fields.specs.declared.rows.ColumnRow.{ColumnRow}
use Rattle.fast_fields.specs.declared.column.Column.{Column}

-- the parts of a column, as they stand in its bytes
abbrev pub parts : Column → Parts
parts c = record { count = c.count; texts = record { count = c.text_count; bytes = c.texts.now }; documents = c.documents.now; least = c.least; width = c.width; packed = c.packed.now }

-- a column over these texts and entries
pub record Holds (c : Column) (texts : List (List ℕ)) (es : List Entry) : Type 0 where
  pub fits : Fits es
  pub utf8 : AllByRecursion IsUtf8 texts
  pub count_is : c.count ≡ length es
  pub text_count_is : c.text_count ≡ length texts
  pub texts_are : c.texts.now ≡ flat_map byte_string texts
  pub documents_are : c.documents.now ≡ documents_bytes es
  pub least_is : c.least ≡ least_of (numbers es)
  pub width_is : IsWidth (greatest_of (numbers es) - least_of (numbers es)) c.width
  pub packed_are : IsPacked c.width (map (λ n. n - least_of (numbers es)) (numbers es)) c.packed.now

-- a column of these documents and their values
pub record IsOf (c : Column) (rows : List ColumnRow) : Type 0 where
  pub texts : List (List ℕ)
  pub entries : List Entry
  pub are_texts : AreTexts (cells rows) texts
  pub are_entries : AreEntries texts (cells rows) entries
  pub holds : Holds c texts entries

-- how many entries have a document below one
abbrev pub count_below : ℕ → List Entry → ℕ
count_below document [] = 0
count_below document (e ∷ es) = (if nat_lt e.document document then 1 else 0) + count_below document es

-- the number of the first entry of a document
abbrev pub first_number : ℕ → List Entry → Option ℕ
first_number document [] = None
first_number document (e ∷ es) = if e.document == document then Some e.number else first_number document es

-- what is lent of a text that there may be
abbrev pub LendsText : Option (Bor (List ℕ)) → Option (List ℕ) → Type 0
LendsText None None = Unit {0}
LendsText (Some t) (Some u) = t.now ≡ u
LendsText None (Some u) = ⊥
LendsText (Some t) None = ⊥

-- a number of entries, where there are some
abbrev pub of_some : List Entry → ℕ → Option ℕ
of_some [] n = None
of_some (e ∷ es) n = Some n
