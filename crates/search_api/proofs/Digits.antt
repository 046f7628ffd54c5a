-- Digits make no number smaller.
use Rattle.std.proofs.Common.{◌≡◌, ℕ, suc, ◌+◌, ◌-◌, ◌*◌, ◌^◌, ◌<◌, ◌≤◌, nat_lt, Bool, true, false, List, [], ◌∷◌, length, get_or, drop, drop-cons, refl, ◌∙◌, arith, if◌then◌else◌}
use Rattle.std.proofs.lemmas.Bool.Decides.{nat_tests}
use Rattle.search_api.specs.Intervals.{is_digit, leading_number}

grown_by : (b : Bool) (n m : ℕ) → n * 10 ≤ m → n ≤ (if b then m else n)
grown_by true n m h = omega arith
grown_by false n m h = omega arith

pub leading_grows : (n : ℕ) (cs : List ℕ) → n ≤ leading_number n cs
leading_grows n [] = omega arith
leading_grows n (c ∷ cs) =
    let more = leading_grows (n * 10 + (c - 48)) cs in
    grown_by (is_digit c) n (leading_number (n * 10 + (c - 48)) cs) (omega arith)

-- where one digit more makes a number too large, all digits do
pub too_large : (n i all : ℕ) (bytes : List ℕ) → i < length bytes → is_digit (get_or bytes i 0) ≡ true → 18446744073709551615 < n * 10 + (get_or bytes i 0 - 48)
    → all ≡ leading_number n (drop i bytes) → nat_lt all (2 ^ 64) ≡ false
too_large n i all bytes l digit large e =
    let here : all ≡ leading_number (n * 10 + (get_or bytes i 0 - 48)) (drop (suc i) bytes) = e ∙ (rw (drop-cons bytes i 0, digit) refl) in
    let more = leading_grows (n * 10 + (get_or bytes i 0 - 48)) (drop (suc i) bytes) in
    grind (arith, nat_tests)
