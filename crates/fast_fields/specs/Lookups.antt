-- What the readers of a column answer, whatever bytes it was read from.
use Rattle.std.specs.Prelude.{ℕ, zero, suc, ◌+◌, ◌-◌, ◌*◌, ◌/◌, ◌%◌, ◌^◌, ◌<◌, ◌≤◌, ◌&&◌, ◌==◌, List, take, drop, slice_index, Option, Some, None, Result, Ok, Err, nat_lt, max, if◌then◌else◌}
use Rattle.std.specs.Int.{w32, from_le_bytes}
use Rattle.byte_fields.specs.declared.field_error.FieldError.{FieldError}
use Rattle.byte_fields.specs.Reading.{◌>>=◌, bytes_at, text_at}
use Rattle.fast_fields.specs.Packed.{bit}
use Rattle.fast_fields.specs.declared.column.Column.{Column}

-- the number of so many bits from one on, the low one first
unfoldable pub bits_at : ℕ → List ℕ → ℕ → ℕ
bits_at zero bytes start = 0
bits_at (suc more) bytes start = bit (slice_index bytes (start / 8)) (start % 8) + 2 * bits_at more bytes (start + 1)

-- the value at a place: the least one, and a number of the column's width
unfoldable pub value_of : Column → ℕ → ℕ
value_of c place = (c.least + bits_at c.width c.packed.now (c.width * place)) % 2 ^ 64

-- the document of a place: four bytes, the low one first
unfoldable pub document_of : Column → ℕ → ℕ
document_of c place = from_le_bytes w32 (take 4 (drop (4 * place) c.documents.now))

-- before a place stands a document below this one, and at it one that is not below; where the documents rise there is one such place
pub record IsBound (c : Column) (document place : ℕ) : Type 0 where
  pub within : place ≤ c.count
  pub before : 0 < place → document_of c (place - 1) < document
  pub behind : place < c.count → document ≤ document_of c place

-- two such places, one not behind the other: what they have between them is not known
pub record IsBetween (c : Column) (document low high : ℕ) : Type 0 where
  pub order : low ≤ high
  pub within : high ≤ c.count
  pub before : 0 < low → document_of c (low - 1) < document
  pub behind : high < c.count → document ≤ document_of c high

-- the value at a place, if it is of this document
abbrev pub value_there : Column → ℕ → ℕ → Option ℕ
value_there c document place = if nat_lt place c.count && (document_of c place == document) then Some (value_of c place) else None

-- the text behind so many byte strings
unfoldable pub text_behind : ℕ → List ℕ → ℕ → Result (List ℕ × ℕ) FieldError
text_behind zero bytes at = text_at bytes at
text_behind (suc more) bytes at = do
  passed ← bytes_at bytes at
  text_behind more bytes passed.1

abbrev pub got : Result (List ℕ × ℕ) FieldError → Option (List ℕ)
got (Ok text) = Some text.0
got (Err e) = None

-- the text with an ordinal, if there are so many
unfoldable pub text_of : Column → ℕ → Option (List ℕ)
text_of c ordinal = if nat_lt ordinal c.text_count then got (text_behind ordinal c.texts.now 0) else None

-- the greatest of the values before a place
unfoldable pub greatest_before : Column → ℕ → ℕ
greatest_before c zero = 0
greatest_before c (suc place) = max (value_of c place) (greatest_before c place)

-- a number of a column that has values
abbrev pub if_any : Column → ℕ → Option ℕ
if_any c n = if nat_lt 0 c.count then Some n else None
