-- How many digits the decimal of a number below 1,000 has.
use Rattle.std.proofs.Common.{◌≡◌, ℕ, ◌+◌, ◌/◌, ◌%◌, ◌<◌, ◌≤◌, [], ◌∷◌, length, length-append, decimal, ap, ◌∙◌, arith}
use Rattle.std.proofs.lemmas.Fmt.{decimal_digit, decimal_step}

pub one_digit : (n : ℕ) → n < 10 → length (decimal n) ≡ 1
one_digit n h = ap length (decimal_digit n h)

one_more : (n : ℕ) → 10 ≤ n → n < 1000 → length (decimal n) ≡ length (decimal (n / 10)) + 1
one_more n some few = ap length (decimal_step n some (omega arith)) ∙ length-append (decimal (n / 10)) ((48 + n % 10) ∷ [])

pub two_digits : (n : ℕ) → 10 ≤ n → n < 100 → length (decimal n) ≡ 2
two_digits n some few = one_more n some (omega arith) ∙ ap (λ k. k + 1) (one_digit (n / 10) (omega arith))

pub three_digits : (n : ℕ) → 100 ≤ n → n < 1000 → length (decimal n) ≡ 3
three_digits n some few = one_more n (omega arith) few ∙ ap (λ k. k + 1) (two_digits (n / 10) (omega arith) (omega arith))
