-- The steps from the least to the greatest, as a part has them.
use Rattle.std.proofs.Common.{◌≡◌, ℕ, zero, suc, ◌<◌, ◌≤◌, ◌+◌, ◌-◌, ◌*◌, List, [], ◌∷◌, Some, sym, ap, arith, length, slice_get, ℤ, pos, negsuc, ◌-ℤ◌, ◌*ℤ◌, ◌≤ℤ◌, ◌⊎◌, inl, inr}
use Rattle.std.proofs.lemmas.Bool.{cases_lt}
use Rattle.std.proofs.Math.Nat.{mul-le-mul_right}
use Rattle.std.proofs.lemmas.Int.{ints, unsigned_abs-mul}
use Rattle.std.proofs.lemmas.Option.{none-some, same_Some}
use Rattle.std.specs.Int.RustNames.{unsigned_abs}
use Rattle.agg_model.specs.Spans.{last_step, spread}
use Rattle.agg_model.proofs.Shown.{length_span}

pub last_at : (x : ℤ) (n : ℕ) (es : List (ℤ × ℕ)) (k : ℕ) (last : ℤ) (m : ℕ) → k ≡ length es → slice_get ((x, n) ∷ es) k ≡ Some (last, m) → last ≡ last_step x es
last_at x n [] zero last m e f = sym (ap (λ (p : ℤ × ℕ). p.0) (same_Some (x, n) (last, m) f))
last_at x n [] (suc k) last m e f = absurd (omega arith)
last_at x n (y ∷ es) zero last m e f = absurd (omega arith)
last_at x n (y ∷ es) (suc k) last m e f = last_at y.0 y.1 es k last m (omega arith) f

pub spread_is : (es : List (ℤ × ℕ)) (first last : ℤ) (n m : ℕ) → slice_get es 0 ≡ Some (first, n) → slice_get es (length es - 1) ≡ Some (last, m) → unsigned_abs (last -ℤ first) + 1 ≡ length (spread es)
spread_is [] first last n m f l = absurd (none-some (first, n) f)
spread_is (e ∷ es) first last n m f l =
    let top : last ≡ last_step e.0 es = last_at e.0 e.1 es (length (e ∷ es) - 1) last m (omega arith) l in
    let low : e.0 ≡ first = ap (λ (p : ℤ × ℕ). p.0) (same_Some e (first, n) f) in
    rw (top, ← low) (sym (length_span e.0 (unsigned_abs (last_step e.0 es -ℤ e.0) + 1)))

-- what lies between two numbers is no larger than they
between_abs : (a s b : ℤ) (m : ℕ) → a ≤ℤ s → s ≤ℤ b → unsigned_abs a ≤ m → unsigned_abs b ≤ m → unsigned_abs s ≤ m
between_abs a (pos s) (pos b) m h k p q = omega (arith, ints)
between_abs a (pos s) (negsuc b) m h k p q = absurd (omega (arith, ints))
between_abs (pos a) (negsuc s) b m h k p q = absurd (omega (arith, ints))
between_abs (negsuc a) (negsuc s) b m h k p q = omega (arith, ints)

larger : (a b : ℤ) → (m : ℕ) × (unsigned_abs a ≤ m) × (unsigned_abs b ≤ m) × ((i n : ℕ) → unsigned_abs a * i < n → unsigned_abs b * i < n → m * i < n)
larger a b = at (cases_lt (unsigned_abs a) (unsigned_abs b))
  where
    at : (unsigned_abs a < unsigned_abs b) ⊎ (unsigned_abs b ≤ unsigned_abs a) → (m : ℕ) × (unsigned_abs a ≤ m) × (unsigned_abs b ≤ m) × ((i n : ℕ) → unsigned_abs a * i < n → unsigned_abs b * i < n → m * i < n)
    at (inl h) = (unsigned_abs b, omega arith, omega arith, λ i n p q. q)
    at (inr h) = (unsigned_abs a, omega arith, h, λ i n p q. p)

pub near_between : (a s b i : ℤ) (n : ℕ) → a ≤ℤ s → s ≤ℤ b → unsigned_abs (a *ℤ i) < n → unsigned_abs (b *ℤ i) < n → unsigned_abs (s *ℤ i) < n
near_between a s b i n h k p q =
    let m = larger a b in
    let low : unsigned_abs s ≤ m.0 = between_abs a s b m.0 h k m.1 m.2 in
    let most = mul-le-mul_right (unsigned_abs i) low in
    let all = m.3 (unsigned_abs i) n (rw unsigned_abs-mul at p) (rw unsigned_abs-mul at q) in
    rw (unsigned_abs-mul s i) (omega arith)
