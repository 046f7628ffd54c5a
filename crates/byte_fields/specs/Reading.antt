-- Reading a field at a place, with the first fault that is met.
use Rattle.std.specs.Prelude.{◌≡◌, ℕ, ℤ, pos, negsuc, zero, suc, ◌+◌, ◌-◌, ◌*◌, ◌/◌, ◌%◌, ◌^◌, Bool, true, false, List, length, take, drop, Result, Ok, Err, nat_lt, nat_le, ◌==◌, slice_index, if◌then◌else◌}
use Rattle.std.specs.Int.{w32, w64, from_le_bytes}
use Rattle.std.specs.Str.{is_utf8}
use Rattle.byte_fields.specs.declared.field_error.FieldError.{FieldError}
use Rattle.byte_fields.specs.declared.field_error.FieldError.TheVariants.{Short, NotMinimal, TooLarge, NotText, BadFlag}

infixl 10 ◌>>=◌
abbrev pub ◌>>=◌ : {A B : Type 0} → Result A FieldError → (A → Result B FieldError) → Result B FieldError
(Ok x) >>= f = f x
(Err e) >>= f = Err e

-- what a function returned, seen by view, is what reading gives
abbrev pub Gives : {X Y : Type 0} → (X → Y) → Result X FieldError → Result Y FieldError → Type 0
Gives view (Ok x) read = read ≡ Ok (view x)
Gives view (Err e) read = read ≡ Err e

-- a number whose low seven bits are those of a byte, and whose others were read behind it
abbrev pub joined : ℕ → ℕ → ℕ × ℕ → Result (ℕ × ℕ) FieldError
joined byte start high =
    if high.0 == 0 then Err (NotMinimal start)
    else if nat_lt high.0 (2 ^ 57) then Ok (byte - 128 + 128 * high.0, high.1)
    else Err (TooLarge start)

-- at most so many bytes of a number that began at start
unfoldable pub varint_part : ℕ → List ℕ → ℕ → ℕ → Result (ℕ × ℕ) FieldError
varint_part zero bytes at start = Err (TooLarge start)
varint_part (suc left) bytes at start =
    if nat_le (length bytes) at then Err (Short (length bytes))
    else if nat_lt (slice_index bytes at) 128 then Ok (slice_index bytes at, at + 1)
    else (varint_part left bytes (at + 1) start >>= joined (slice_index bytes at) start)

-- 64 bits have ten digits
unfoldable pub varint_at : List ℕ → ℕ → Result (ℕ × ℕ) FieldError
varint_at bytes at = varint_part 10 bytes at at

unfoldable pub bytes_at : List ℕ → ℕ → Result (List ℕ × ℕ) FieldError
bytes_at bytes at = do
  n ← varint_at bytes at
  if nat_lt (length bytes - n.1) n.0 then Err (Short (length bytes)) else Ok (take n.0 (drop n.1 bytes), n.1 + n.0)

-- a byte string that is UTF-8
unfoldable pub text_at : List ℕ → ℕ → Result (List ℕ × ℕ) FieldError
text_at bytes at = do
  text ← bytes_at bytes at
  if is_utf8 text.0 then Ok text else Err (NotText at)

abbrev pub unzigzag : ℕ → ℤ
unzigzag n = if n % 2 == 0 then pos (n / 2) else negsuc (n / 2)

unfoldable pub signed_at : List ℕ → ℕ → Result (ℤ × ℕ) FieldError
signed_at bytes at = do
  n ← varint_at bytes at
  Ok (unzigzag n.0, n.1)

unfoldable pub flag_at : List ℕ → ℕ → Result (Bool × ℕ) FieldError
flag_at bytes at =
    if nat_le (length bytes) at then Err (Short (length bytes))
    else if slice_index bytes at == 0 then Ok (false, at + 1)
    else if slice_index bytes at == 1 then Ok (true, at + 1)
    else Err (BadFlag at)

unfoldable pub four_at : List ℕ → ℕ → Result (ℕ × ℕ) FieldError
four_at bytes at =
    if nat_lt (length bytes - at) 4 then Err (Short (length bytes))
    else Ok (from_le_bytes w32 (take 4 (drop at bytes)), at + 4)

unfoldable pub eight_at : List ℕ → ℕ → Result (ℕ × ℕ) FieldError
eight_at bytes at =
    if nat_lt (length bytes - at) 8 then Err (Short (length bytes))
    else Ok (from_le_bytes w64 (take 8 (drop at bytes)), at + 8)
