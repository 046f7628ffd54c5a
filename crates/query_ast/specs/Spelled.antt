-- The value that a text spells.
use Rattle.std.specs.Prelude.{◌==◌, ℕ, zero, suc, ◌+◌, ◌-◌, ◌*◌, ◌^◌, nat_lt, nat_le, ◌&&◌, Bool, true, false, List, [], ◌∷◌, Option, Some, None, option_map, option_and_then, ℤ, pos, negsuc, if◌then◌else◌}
use Rattle.std.specs.Char.{is_ascii_digit}
use Rattle.std.specs.Str.{bytes_eq}
use Rattle.clock_time.specs.Datetimes.{rfc3339_seconds, unix_seconds}
use Rattle.doc_value.specs.declared.schema.Kind.{Kind}
use Rattle.doc_value.specs.declared.schema.Kind.TheVariants as kinds
use Rattle.doc_value.specs.declared.doc.Value.{Value}
use Rattle.doc_value.specs.declared.doc.Value.TheVariants as values

-- the number that decimal digits spell behind a number
abbrev pub number_from : ℕ → List ℕ → Option ℕ
number_from n [] = Some n
number_from n (b ∷ bs) = if is_ascii_digit b then number_from (n * 10 + (b - 48)) bs else None

abbrev pub below : ℕ → ℕ → Option ℕ
below limit n = if nat_lt n limit then Some n else None

-- the number below 2^64 that decimal digits spell, of which there is at least one
abbrev pub unsigned_of : List ℕ → Option ℕ
unsigned_of [] = None
unsigned_of (b ∷ bs) = option_and_then (below (2 ^ 64)) (number_from 0 (b ∷ bs))

abbrev pub minus : ℕ → ℤ
minus zero = pos 0
minus (suc n) = negsuc n

-- a number down to -2^63
abbrev pub negative : ℕ → Option ℤ
negative n = if nat_le n (2 ^ 63) then Some (minus n) else None

abbrev pub positive : ℕ → Option ℤ
positive n = if nat_lt n (2 ^ 63) then Some (pos n) else None

-- the number of 64 bits that decimal digits spell, maybe behind a `-`
abbrev pub signed_of : List ℕ → Option ℤ
signed_of [] = None
signed_of (b ∷ bs) = if b == 45 then option_and_then negative (unsigned_of bs) else option_and_then positive (unsigned_of (b ∷ bs))

abbrev pub are_digits : List ℕ → Bool
are_digits [] = true
are_digits (b ∷ bs) = is_ascii_digit b && are_digits bs

abbrev pub truth_of : List ℕ → Option Bool
truth_of text =
    if bytes_eq text (116 ∷ 114 ∷ 117 ∷ 101 ∷ []) then Some true
    else if bytes_eq text (102 ∷ 97 ∷ 108 ∷ 115 ∷ 101 ∷ []) then Some false
    else None

-- a datetime: digits, whose size tells their unit, or an RFC 3339 text
abbrev pub datetime_of : List ℕ → Option ℤ
datetime_of text = if are_digits text then option_and_then unix_seconds (signed_of text) else rfc3339_seconds text

-- the value of a kind that a text spells; any text is a value of a text field
abbrev pub spelled : Kind → List ℕ → Option Value
spelled kinds.Text text = Some (values.Text text)
spelled kinds.TextList text = Some (values.Text text)
spelled kinds.I64 text = option_map values.I64 (signed_of text)
spelled kinds.U64 text = option_map values.U64 (unsigned_of text)
spelled kinds.Bool text = option_map values.Bool (truth_of text)
spelled kinds.Datetime text = option_map values.Datetime (datetime_of text)
