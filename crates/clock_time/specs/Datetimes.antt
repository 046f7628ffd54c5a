-- Which second a text or a number names, and how a second is written.
use Rattle.std.specs.Prelude.{◌≡◌, ℕ, suc, ◌+◌, ◌/◌, ◌%◌, ◌&&◌, nat_le, Bool, List, [], ◌∷◌, ◌++◌, Option, Some, None, option_map, ℤ, pos, negsuc, ◌*ℤ◌, if◌then◌else◌, codes}
use Rattle.std.specs.Result.{result_ok}
use Rattle.jiff.specs.Types.{DateTime}
use Rattle.jiff.specs.Words.{parse_timestamp, civil_nanos, IsTimestampNanos}

-- nanoseconds as whole seconds, rounded down
abbrev pub rounded_down : ℤ → ℤ
rounded_down (pos n) = pos (n / 1_000_000_000)
rounded_down (negsuc n) = negsuc (n / 1_000_000_000)

-- the second of a text, where `jiff` reads the text as a Timestamp
abbrev pub rfc3339_seconds : List ℕ → Option ℤ
rfc3339_seconds text = option_map rounded_down (result_ok (parse_timestamp text))

abbrev pub is_between : ℕ → ℕ → ℕ → Bool
is_between least greatest n = nat_le least n && nat_le n greatest

-- the second of a whole number, whose size tells its unit: seconds, milliseconds, microseconds or nanoseconds
abbrev pub unix_seconds : ℤ → Option ℤ
unix_seconds (negsuc n) = None
unix_seconds (pos n) =
    if is_between 0 8_589_934_591 n then Some (pos n)
    else (if is_between 72_057_595_000 8_589_934_591_000 n then Some (pos (n / 1_000))
    else (if is_between 72_057_595_000_000 8_589_934_591_000_000 n then Some (pos (n / 1_000_000))
    else (if is_between 72_057_595_000_000_000 8_589_934_591_000_000_000 n then Some (pos (n / 1_000_000_000))
    else None)))

-- a second that a `jiff` Timestamp has
abbrev pub IsTimestampSecond : ℤ → Type 0
IsTimestampSecond seconds = IsTimestampNanos (seconds *ℤ pos 1_000_000_000)

-- the clock shows this date and time in UTC at the start of the second
abbrev pub IsShownAt : ℤ → DateTime → Type 0
IsShownAt seconds dt = civil_nanos dt ≡ seconds *ℤ pos 1_000_000_000

-- two and four decimal digits
abbrev pub two_digits : ℕ → List ℕ
two_digits n = (48 + n / 10) ∷ (48 + n % 10) ∷ []

abbrev pub four_digits : ℕ → List ℕ
four_digits n = two_digits (n / 100) ++ two_digits (n % 100)

-- a year in four digits, or below 0 in six with a sign
abbrev pub year_digits : ℤ → List ℕ
year_digits (pos n) = four_digits n
year_digits (negsuc n) = codes "-00" ++ four_digits (suc n)

-- `2023-11-14`
abbrev pub date_text : DateTime → List ℕ
date_text dt = year_digits dt.date.year ++ 45 ∷ two_digits dt.date.month ++ 45 ∷ two_digits dt.date.day

-- `22:13:20`
abbrev pub time_text : DateTime → List ℕ
time_text dt = two_digits dt.time.hour ++ 58 ∷ two_digits dt.time.minute ++ 58 ∷ two_digits dt.time.second

-- `2023-11-14T22:13:20Z`
abbrev pub civil_text : DateTime → List ℕ
civil_text dt = date_text dt ++ 84 ∷ time_text dt ++ 90 ∷ []
