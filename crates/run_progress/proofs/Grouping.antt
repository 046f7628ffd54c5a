-- Numbers in groups of three digits.
use Rattle.std.proofs.Common.{◌≡◌, ℕ, zero, suc, ◌-◌, ◌/◌, ◌≤◌, ◌++◌, refl, arith}
use Rattle.std.proofs.lemmas.Bool.{le-ltb}
use Rattle.run_progress.specs.Numbers.{group_text, grouped_within}

-- from a thousand on, where a comma is left, a number has one more group than its thousands
pub grouped_within-high : (commas number : ℕ) → (commas ≡ 0 → ⊥) → 1000 ≤ number →
    grouped_within commas number ≡ grouped_within (commas - 1) (number / 1000) ++ group_text number
grouped_within-high zero number some high = absurd (some refl)
grouped_within-high (suc commas) number some high =
    let less : suc commas - 1 ≡ commas = omega arith in
    rw (less, le-ltb number 1000 high) refl
