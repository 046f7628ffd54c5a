-- Lengths of time as they are spelled: digits and a unit.
use Rattle.std.specs.Prelude.{ℕ, ◌+◌, ◌-◌, ◌*◌, ◌/◌, ◌%◌, ◌^◌, ◌==◌, ◌&&◌, nat_le, nat_lt, Bool, false, List, [], ◌∷◌, Option, Some, None, option_map, ℤ, pos, neg_ℤ, codes, if◌then◌else◌}
use Rattle.std.specs.Str.{bytes_eq}

abbrev pub is_digit : ℕ → Bool
is_digit c = nat_le 48 c && nat_le c 57

-- the number that the digits at the front make, behind a number
abbrev pub leading_number : ℕ → List ℕ → ℕ
leading_number n [] = n
leading_number n (c ∷ cs) = if is_digit c then leading_number (n * 10 + (c - 48)) cs else n

abbrev pub after_digits : List ℕ → List ℕ
after_digits [] = []
after_digits (c ∷ cs) = if is_digit c then after_digits cs else c ∷ cs

abbrev pub begins_with_digit : List ℕ → Bool
begins_with_digit [] = false
begins_with_digit (c ∷ cs) = is_digit c

-- so many of a unit in seconds; milliseconds are to be whole seconds
abbrev pub in_seconds : ℕ → List ℕ → Option ℕ
in_seconds n unit =
    if bytes_eq unit (codes "ms") then (if n % 1000 == 0 then Some (n / 1000) else None)
    else (if bytes_eq unit (codes "s") then Some n
    else (if bytes_eq unit (codes "m") then Some (n * 60)
    else (if bytes_eq unit (codes "h") then Some (n * 3600)
    else (if bytes_eq unit (codes "d") then Some (n * 86400)
    else None))))

-- the seconds of digits below 2^64 and a unit
unfoldable pub seconds_of : List ℕ → Option ℕ
seconds_of text =
    if begins_with_digit text && nat_lt (leading_number 0 text) (2 ^ 64) then in_seconds (leading_number 0 text) (after_digits text) else None

-- the same with a sign before it, or none
abbrev pub signed_seconds : List ℕ → Option ℤ
signed_seconds [] = None
signed_seconds (c ∷ cs) =
    if c == 45 then option_map (λ n. neg_ℤ (pos n)) (seconds_of cs)
    else (if c == 43 then option_map pos (seconds_of cs) else option_map pos (seconds_of (c ∷ cs)))
