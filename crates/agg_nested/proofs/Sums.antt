-- Sums that are told in 128 bits, and sums over the items that pass a test.
use Rattle.std.proofs.Common.{◌≡◌, ℕ, zero, suc, ◌<◌, ◌≤◌, ◌+◌, ◌-◌, ◌*◌, ◌^◌, Bool, true, false, cond, not, List, [], ◌∷◌, map, filter, length, min, refl, sym, ◌∙◌, ap, arith, ◌⊎◌, inl, inr}
use Rattle.std.proofs.Math.Nat.{suc-mul}
use Rattle.std.proofs.lemmas.Bool.{cases_lt}
use Rattle.std.proofs.lemmas.List.Filters.{length-filter_both, sum_by-filter_both}
use Rattle.std.proofs.lemmas.List.Sums.{sum_by-cons}
use Rattle.std.proofs.lemmas.Nat.{mul-le}
use Rattle.std.specs.List.{sum_by}

pub told_both : (a b : ℕ) → min (min a (2 ^ 128 - 1) + min b (2 ^ 128 - 1)) (2 ^ 128 - 1) ≡ min (a + b) (2 ^ 128 - 1)
told_both a b = omega arith

pub told_more : (a b : ℕ) → min (min a (2 ^ 128 - 1) + b) (2 ^ 128 - 1) ≡ min (a + b) (2 ^ 128 - 1)
told_more a b = omega arith

told_times : (a b : ℕ) → min (a * min b (2 ^ 128 - 1)) (2 ^ 128 - 1) ≡ min (a * b) (2 ^ 128 - 1)
told_times a b = at (cases_lt b (2 ^ 128))
  where
    many : (a : ℕ) → 2 ^ 128 ≤ b → min (a * (2 ^ 128 - 1)) (2 ^ 128 - 1) ≡ min (a * b) (2 ^ 128 - 1)
    many zero l = omega arith
    many (suc a) l =
        let one = mul-le 1 b (suc a) b (omega arith) (omega arith) in
        let two = mul-le 1 (2 ^ 128 - 1) (suc a) (2 ^ 128 - 1) (omega arith) (omega arith) in
        omega (arith, one, two)

    at : (b < 2 ^ 128) ⊎ (2 ^ 128 ≤ b) → min (a * min b (2 ^ 128 - 1)) (2 ^ 128 - 1) ≡ min (a * b) (2 ^ 128 - 1)
    at (inl few) = let same : min b (2 ^ 128 - 1) ≡ b = omega (arith, few) in rw same refl
    at (inr l) = let same : min b (2 ^ 128 - 1) ≡ 2 ^ 128 - 1 = omega (arith, l) in rw same (many a l)

-- own buckets, those within, and those within each of the empty ones
pub told_part : (own inner empty each : ℕ) → min (min (own + min inner (2 ^ 128 - 1)) (2 ^ 128 - 1) + min (empty * min each (2 ^ 128 - 1)) (2 ^ 128 - 1)) (2 ^ 128 - 1)
    ≡ min (own + inner + empty * each) (2 ^ 128 - 1)
told_part own inner empty each = rw (told_times empty each) (omega arith)

pub sum_mapped : {X Y : Type 0} (f : Y → ℕ) (k : X → Y) (xs : List X) → sum_by f (map k xs) ≡ sum_by (λ x. f (k x)) xs
sum_mapped f k [] = refl
sum_mapped f k (x ∷ xs) = sum_by-cons f (k x) (map k xs) ∙ ap (λ n. f (k x) + n) (sum_mapped f k xs) ∙ sym (sum_by-cons (λ y. f (k y)) x xs)

module _ {X : Type 0} (p : X → Bool) (g : X → ℕ) (v : ℕ) (same : (x : X) → p x ≡ false → g x ≡ v) where
  others : (xs : List X) → sum_by g (filter (λ x. not (p x)) xs) ≡ length (filter (λ x. not (p x)) xs) * v
  others [] = omega arith
  others (x ∷ xs) = at (p x) refl (others xs)
    where
      at : (b : Bool) → b ≡ p x → sum_by g (filter (λ y. not (p y)) xs) ≡ length (filter (λ y. not (p y)) xs) * v
          → sum_by g (cond (not b) (x ∷ filter (λ y. not (p y)) xs) (filter (λ y. not (p y)) xs)) ≡ length (cond (not b) (x ∷ filter (λ y. not (p y)) xs) (filter (λ y. not (p y)) xs)) * v
      at true e rest = rest
      at false e rest =
          let rs : List X = filter (λ y. not (p y)) xs in
          let one : g x ≡ v = same x (sym e) in
          sum_by-cons g x rs ∙ rw (one, rest) (omega (arith, suc-mul (length rs) v))

  -- the items that don't pass have this number each
  pub sum_kept : (xs : List X) → sum_by g xs ≡ sum_by g (filter p xs) + (length xs - length (filter p xs)) * v
  sum_kept xs =
      let both = sum_by-filter_both p (λ x. not (p x)) (λ x. refl) g xs in
      let long = length-filter_both p (λ x. not (p x)) (λ x. refl) xs in
      let apart : length xs - length (filter p xs) ≡ length (filter (λ x. not (p x)) xs) = omega (arith, long) in
      rw (apart, ← others xs) (sym both)
