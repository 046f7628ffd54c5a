-- Reading one field behind another, up to the first that is corrupt.
use Rattle.std.specs.Prelude.{◌≡◌, ℕ, ◌^◌, ◌-◌, ◌+◌, List, length, take, drop, Result, Ok, Err, nat_lt, if◌then◌else◌}
use Rattle.byte_fields.specs.declared.field_error.FieldError.{FieldError}
use Rattle.byte_fields.specs.declared.corrupt.Corrupt.{Corrupt}
use Rattle.byte_fields.specs.Places.{place_of}
use Rattle.byte_fields.specs.Reading.{varint_at}

infixl 10 ◌>>=◌
abbrev pub ◌>>=◌ : {A B : Type 0} → Result A Corrupt → (A → Result B Corrupt) → Result B Corrupt
(Ok x) >>= f = f x
(Err e) >>= f = Err e

-- what a function returned, seen by view, is what reading gives
abbrev pub Gives : {X Y : Type 0} → (X → Y) → Result X Corrupt → Result Y Corrupt → Type 0
Gives view (Ok x) read = read ≡ Ok (view x)
Gives view (Err e) read = read ≡ Err e

-- a place from which on the bytes are not of the form
abbrev pub corrupt : ℕ → Corrupt
corrupt place = record { at = place }

-- that fault
abbrev pub corrupt_at : {A : Type 0} → ℕ → Result A Corrupt
corrupt_at at = Err (record { at = at })

-- a field, whose fault is at its own place
abbrev pub field : {A : Type 0} → Result A FieldError → Result A Corrupt
field (Ok x) = Ok x
field (Err e) = corrupt_at (place_of e)

-- the number at a place, and the place behind it
abbrev pub number_at : List ℕ → ℕ → Result (ℕ × ℕ) Corrupt
number_at bytes at = field (varint_at bytes at)

-- a number below 2 ^ 32
unfoldable pub count_at : List ℕ → ℕ → Result (ℕ × ℕ) Corrupt
count_at bytes at = do
  count ← field (varint_at bytes at)
  if nat_lt count.0 (2 ^ 32) then Ok count else corrupt_at at

-- so many bytes
unfoldable pub piece_at : ℕ → List ℕ → ℕ → Result (List ℕ × ℕ) Corrupt
piece_at len bytes at = if nat_lt (length bytes - at) len then corrupt_at (length bytes) else Ok (take len (drop at bytes), at + len)
