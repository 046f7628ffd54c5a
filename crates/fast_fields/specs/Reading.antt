-- Reading a column from left to right, with the first fault that is met.
use Rattle.std.specs.Prelude.{ℕ, zero, suc, ◌+◌, ◌-◌, ◌*◌, ◌/◌, Bool, true, false, List, [], length, take, drop, Result, Ok, nat_le, slice_index, if◌then◌else◌}
use Rattle.byte_fields.specs.declared.corrupt.Corrupt.{Corrupt}
use Rattle.byte_fields.specs.Steps.{◌>>=◌, corrupt_at, count_at, field, piece_at}
use Rattle.byte_fields.specs.Reading.{varint_at, text_at, eight_at}
use Rattle.doc_value.specs.declared.schema.Kind.{Kind}
use Rattle.fast_fields.specs.Columns.{has_texts}

-- the place behind so many texts
unfoldable pub behind_texts : ℕ → List ℕ → ℕ → Result ℕ Corrupt
behind_texts zero bytes at = Ok at
behind_texts (suc more) bytes at = field (text_at bytes at) >>= λ text. behind_texts more bytes text.1

-- the texts of a column, as they stand in its bytes
pub record Area : Type 0 where
  pub count : ℕ
  pub bytes : List ℕ

-- where the values are texts, a count of texts, and these
unfoldable pub area_at : Bool → List ℕ → ℕ → Result (Area × ℕ) Corrupt
area_at false bytes at = Ok (record { count = 0; bytes = [] }, at)
area_at true bytes at = do
  count ← field (varint_at bytes at)
  behind ← behind_texts count.0 bytes count.1
  Ok (record { count = count.0; bytes = take (behind - count.1) (drop count.1 bytes) }, behind)

-- a byte that is a width, of at most 64 bits
unfoldable pub width_at : List ℕ → ℕ → Result (ℕ × ℕ) Corrupt
width_at bytes at =
    if nat_le (length bytes) at then corrupt_at at
    else if nat_le (slice_index bytes at) 64 then Ok (slice_index bytes at, at + 1)
    else corrupt_at at

-- the parts of a column, as they stand in its bytes
pub record Parts : Type 0 where
  pub count : ℕ
  pub texts : Area
  pub documents : List ℕ
  pub least : ℕ
  pub width : ℕ
  pub packed : List ℕ

-- the parts of the column at the front of the bytes, and the place behind it
unfoldable pub column_at : Kind → List ℕ → Result (Parts × ℕ) Corrupt
column_at kind bytes = do
  count ← count_at bytes 0
  texts ← area_at (has_texts kind) bytes count.1
  documents ← piece_at (4 * count.0) bytes texts.1
  least ← field (eight_at bytes documents.1)
  width ← width_at bytes least.1
  packed ← piece_at ((width.0 * count.0 + 7) / 8) bytes width.1
  Ok (record { count = count.0; texts = texts.0; documents = documents.0; least = least.0; width = width.0; packed = packed.0 }, packed.1)
