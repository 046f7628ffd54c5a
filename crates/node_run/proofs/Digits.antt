-- What a number's digits are, and when they are read.
use Rattle.std.proofs.Common.{◌≡◌, ◌≢◌, ℕ, zero, suc, ◌<◌, ◌^◌, true, false, not, ◌&&◌, ◌||◌, List, [], ◌∷◌, length, get_or, eqb, refl, sym, ap, ◌∙◌, subst, arith}
use Rattle.std.proofs.lemmas.Bool.{ne_eqb}
use Rattle.std.proofs.lemmas.Fmt.{decimal_digit, decimal_nonempty, first_decimal, parse-decimal, decimal-digits_value, IsAscii-decimal}
use Rattle.std.proofs.lemmas.Str.{IsUtf8-from_ascii}
use Rattle.std.proofs.lemmas.Str.Parse.{IsNumeralModel, numerals_by_value, tells_digits, parse_plain}
use Rattle.std.specs.Prelude.{Result, Ok, Err, decimal}
use Rattle.std.specs.Str.{IsUtf8}
use Rattle.std.specs.Str.Parse.{AllDigits, digits_value, ParsesUnsigned}
use Rattle.node_run.specs.Pieces.{is_plain, is_empty}

own : IsNumeralModel (AllDigits 10) (digits_value 10)
own = numerals_by_value (AllDigits 10) tells_digits

true_is_false : {P : Type 0} → true ≡ false → P
true_is_false e = cc

plain_above : (ds : List ℕ) → 0 < length ds → 48 < get_or ds 0 0 → is_plain ds ≡ true
plain_above [] h a = absurd (omega (arith, h))
plain_above (c ∷ ds) h a = rw (ne_eqb c 43 (λ e. omega (arith, e, a)), ne_eqb c 48 (λ e. omega (arith, e, a))) refl

plain_by : (n : ℕ) → n < 2 ^ 64 → (n ≡ 0 → is_plain (decimal n) ≡ true)
plain_by n h e = subst (λ (ds : List ℕ). is_plain ds ≡ true) (sym (ap decimal e ∙ decimal_digit 0 (omega arith))) refl

-- a number's digits have no sign and no leading zero
pub plain_decimal : (n : ℕ) → n < 2 ^ 64 → is_plain (decimal n) ≡ true
plain_decimal zero h = plain_by 0 h refl
plain_decimal (suc n) h = plain_above (decimal (suc n)) (decimal_nonempty (suc n) h) (first_decimal (suc n) (omega arith) h)

first_not_plus : (bs : List ℕ) → is_plain bs ≡ true → get_or bs 0 0 ≢ 43
first_not_plus [] p e = true_is_false (sym p)
first_not_plus (c ∷ bs) p e = true_is_false (sym p ∙ ap (λ x. not (eqb x 43) && (not (eqb x 48) || is_empty bs)) e)

alone : (bs : List ℕ) → is_empty bs ≡ true → length bs ≡ 0
alone [] e = refl
alone (c ∷ bs) e = true_is_false (sym e)

zero_alone : (bs : List ℕ) → is_plain bs ≡ true → get_or bs 0 0 ≡ 48 → length bs ≡ 1
zero_alone [] p e = true_is_false (sym p)
zero_alone (c ∷ bs) p e =
    ap suc (alone bs (sym (ap (λ x. not (eqb x 43) && (not (eqb x 48) || is_empty bs)) e) ∙ p))

parsed_is : (E : Type 0) (bs : List ℕ) (n : ℕ) → is_plain bs ≡ true → ParsesUnsigned {E = E} 64 10 bs (Ok n) → bs ≡ decimal n
parsed_is E bs n p h =
    let is = parse_plain own {E = E} 64 bs (Ok n) h (first_not_plus bs p) in
    sym (decimal-digits_value own bs is.0.0 is.0.1 (zero_alone bs p) is.0.2) ∙ ap decimal (sym is.1)

-- what is parsed of such digits is the number whose digits they are
pub parsed_of : {E : Type 0} (bs text : List ℕ) (r : Result ℕ E) (n : ℕ) → text ≡ bs → is_plain bs ≡ true → r ≡ Ok n →
    ParsesUnsigned {E = E} 64 10 text r → bs ≡ decimal n
parsed_of {E} bs text r n same p is h =
    parsed_is E bs n p (subst (λ (t : List ℕ). ParsesUnsigned {E = E} 64 10 t (Ok n)) same (subst (λ (x : Result ℕ E). ParsesUnsigned {E = E} 64 10 text x) is h))

pub unparsed : {E : Type 0} (bs text : List ℕ) (r : Result ℕ E) (e : E) → text ≡ bs → r ≡ Err e → ParsesUnsigned {E = E} 64 10 text r →
    (n : ℕ) → n < 2 ^ 64 → bs ≡ decimal n → ⊥
unparsed {E} bs text r e same is h n l digits =
    let given : r ≡ Ok n = parse-decimal {E = E} 64 n text r l l (same ∙ digits) h in cc

pub not_plain : (bs : List ℕ) → is_plain bs ≡ false → (n : ℕ) → n < 2 ^ 64 → bs ≡ decimal n → ⊥
not_plain bs p n h is = true_is_false (sym (plain_decimal n h) ∙ ap is_plain (sym is) ∙ p)

pub decimal_utf8 : (bs : List ℕ) (n : ℕ) → n < 2 ^ 64 → bs ≡ decimal n → IsUtf8 bs
decimal_utf8 bs n h is = subst IsUtf8 (sym is) (IsUtf8-from_ascii (decimal n) (IsAscii-decimal n h))
