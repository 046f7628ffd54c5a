-- The level of a number of documents: there is only one, and the loop finds it.
use Rattle.std.proofs.Common.{◌≡◌, ℕ, zero, suc, ◌+◌, ◌*◌, ◌^◌, ◌<◌, ◌≤◌, ◌==◌, Bool, true, false, refl, sym, ap, subst, ◌∙◌, add-one, eq-eqb, inl, inr, arith}
use Rattle.std.specs.Prelude.{nat_lt, nat_le, ◌&&◌}
use Rattle.std.proofs.Math.Nat.{mul-le-mul, mul-le-mul_left, pow-le-pow_right, pow-zero, pow-suc}
use Rattle.std.proofs.lemmas.Bool.{cases_lt}
use Rattle.std.proofs.lemmas.Bool.Decides.{nat_tests}
use Rattle.merge_policy.specs.Choice.{is_log_level}

-- a higher power of the factor gives no less
pub higher : (least factor i j : ℕ) → 2 ≤ factor → i ≤ j → least * factor ^ i ≤ least * factor ^ j
higher least factor i j two le =
    let pos : zero < factor = omega arith in
    mul-le-mul_left least (pow-le-pow_right pos le)

pub bounded : (bound factor docs : ℕ) → bound ≤ docs → docs < 16777216 → factor ≤ 100 → bound * factor ≤ 1677721600
bounded bound factor docs le below small =
    let high : bound ≤ 16777216 = omega arith in
    mul-le-mul high small

pub grows : (bound factor : ℕ) → 2 ≤ factor → 1 ≤ bound → bound + 1 ≤ bound * factor
grows bound factor two one =
    let double : bound * 2 ≤ bound * factor = mul-le-mul_left bound two in
    omega arith

pub at_first : (least factor : ℕ) → least ≡ least * factor ^ 0
at_first least factor = rw pow-zero (omega arith)

pub stepped : (least factor level bound : ℕ) → bound ≡ least * factor ^ level → bound * factor ≡ least * factor ^ (level + 1)
stepped least factor level bound e = rw (add-one, pow-suc, e) (omega arith)

pub reached_next : (least factor docs level bound : ℕ) → bound ≡ least * factor ^ level → bound ≤ docs → (k : ℕ) → level + 1 ≡ suc k → least * factor ^ k ≤ docs
reached_next least factor docs level bound e le k p =
    let q : level ≡ k = omega arith in
    subst (λ (n : ℕ). least * factor ^ n ≤ docs) q (omega arith)

both : (a b : Bool) → a ≡ true → b ≡ true → (a && b) ≡ true
both a b p q = rw (p, q) refl

first_fails : (a b : Bool) → a ≡ false → (a && b) ≡ false
first_fails a b p = rw p refl

second_fails : (a b : Bool) → b ≡ false → (a && b) ≡ false
second_fails true b q = q
second_fails false b q = refl

le_true : (a b : ℕ) → a ≤ b → nat_le a b ≡ true
le_true a b h = grind (arith, nat_tests)

le_false : (a b : ℕ) → b < a → nat_le a b ≡ false
le_false a b h = grind (arith, nat_tests)

lt_true : (a b : ℕ) → a < b → nat_lt a b ≡ true
lt_true a b h = grind (arith, nat_tests)

lt_false : (a b : ℕ) → b ≤ a → nat_lt a b ≡ false
lt_false a b h = grind (arith, nat_tests)

eq_false : (a b : ℕ) → (a ≡ b → ⊥) → (a == b) ≡ false
eq_false a b h = grind (arith, nat_tests)

module _ (least factor docs : ℕ) (two : 2 ≤ factor) where
  abbrev at : ℕ → ℕ
  at k = least * factor ^ k

  -- the number is below the power of this level, and not below the one before it
  abbrev Reached : ℕ → Type 0
  Reached level = (k : ℕ) → level ≡ suc k → at k ≤ docs

  low : (level : ℕ) → docs < at level → Reached level → nat_lt docs least ≡ (level == zero)
  low zero below reached = let e : least * factor ^ zero ≡ least = rw pow-zero (omega arith) in lt_true docs least (omega arith)
  low (suc m) below reached =
      let e : least * factor ^ zero ≡ least = rw pow-zero (omega arith) in
      let h = higher least factor zero m two (omega arith) in
      let r = reached m refl in
      lt_false docs least (omega arith) ∙ sym (eq_false (suc m) zero (λ p. omega arith))

  high : (level k : ℕ) → docs < at level → Reached level → (nat_le (at k) docs && nat_lt docs (at (suc k))) ≡ (level == suc k)
  high zero k below reached =
      let h = higher least factor zero k two (omega arith) in
      first_fails _ _ (le_false (at k) docs (omega arith)) ∙ sym (eq_false zero (suc k) (λ p. omega arith))
  high (suc m) k below reached = elim (cases_lt k m) [
    | inl less ↦
        let h = higher least factor (suc k) m two (omega arith) in
        let r = reached m refl in
        second_fails (nat_le (at k) docs) _ (lt_false docs (at (suc k)) (omega arith)) ∙ sym (eq_false (suc m) (suc k) (λ p. omega arith))
    | inr more ↦ elim (cases_lt m k) [
      | inl less ↦
          let h = higher least factor (suc m) k two (omega arith) in
          first_fails _ _ (le_false (at k) docs (omega arith)) ∙ sym (eq_false (suc m) (suc k) (λ p. omega arith))
      | inr same ↦
          let e : m ≡ k = omega arith in
          let l : at k ≤ docs = reached k (ap suc e) in
          let u : docs < at (suc k) = rw (← e) below in
          both _ _ (le_true (at k) docs l) (lt_true docs (at (suc k)) u) ∙ sym (eq-eqb (suc m) (suc k) (ap suc e))
    ]
  ]

  pub only_level : (level : ℕ) → docs < at level → Reached level → (k : ℕ) → is_log_level least factor docs k ≡ (level == k)
  only_level level below reached zero = low level below reached
  only_level level below reached (suc k) = high level k below reached
