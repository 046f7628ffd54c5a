-- The first bit that is set, from a number on.
use Rattle.std.proofs.Common.{◌≡◌, ℕ, ◌+◌, ◌-◌, ◌*◌, ◌/◌, ◌%◌, ◌^◌, ◌<◌, ◌≤◌, ◌⊎◌, inl, inr, List, get_or, min, bit_and, ap, sym, ◌∙◌, arith, w64}
use Rattle.std.specs.Int.{bit_at, trailing_zeros}
use Rattle.std.proofs.lemmas.Nat.Bits.{bit_at-lt, bit_at-zero, bit_at_and, ones_shl, bit_at_mask_inside, bit_at_mask_below, bit_at-trailing_zeros}
use Rattle.doc_sets.specs.BitWords.{bit_of}
use Rattle.std.proofs.lemmas.Bool.{cases_lt}
use Rattle.doc_sets.proofs.WordBits.{bit_here}

-- a word without its low bits
abbrev pub high_part : ℕ → ℕ → ℕ
high_part w m = bit_and w (18446744073709551615 * 2 ^ m % 18446744073709551616)

high_is : (w m i : ℕ) → m ≤ 64 → bit_at (high_part w m) i ≡ min (bit_at w i) (bit_at (2 ^ 64 - 2 ^ m) i)
high_is w m i le = ap (λ x. bit_at (bit_and w x) i) (ones_shl 64 m le) ∙ bit_at_and w (2 ^ 64 - 2 ^ m) i

high_above : (w m i : ℕ) → m ≤ i → i < 64 → bit_at (high_part w m) i ≡ bit_at w i
high_above w m i le lt = high_is w m i (omega arith) ∙ (let one = bit_at_mask_inside m 64 i le lt in let two = bit_at-lt w i in omega arith)

high_below : (w m i : ℕ) → i < m → m ≤ 64 → bit_at (high_part w m) i ≡ 0
high_below w m i lt le = high_is w m i le ∙ (let one = bit_at_mask_below m 64 i lt in omega arith)

-- a bit that is set is no low one
not_low : (w v m n : ℕ) → m ≤ 64 → v ≡ high_part w m → bit_at v n ≡ 1 → m ≤ n
not_low w v m n le is one = go (cases_lt n m)
  where
    go : ((n < m) ⊎ (m ≤ n)) → m ≤ n
    go (inr h) = h
    go (inl h) = let bad = ap (λ x. bit_at x n) is ∙ high_below w m n h le in omega (arith, one, bad)

-- the lowest bit of a word
pub lowest_in : (words : List ℕ) (at k : ℕ) → 0 < get_or words at 0 → get_or words at 0 < 2 ^ 64
    → (trailing_zeros w64 (get_or words at 0) < 64) × (bit_of words (64 * at + trailing_zeros w64 (get_or words at 0)) ≡ 1) × ((k : ℕ) → 64 * at ≤ k → k < 64 * at + trailing_zeros w64 (get_or words at 0) → bit_of words k ≡ 0)
lowest_in words at k some fits =
    let t = bit_at-trailing_zeros w64 (get_or words at 0) some fits in
    let n : ℕ = trailing_zeros w64 (get_or words at 0) in
    let lt : n < 64 = t.0 in
    let e : (64 * at + n) % 64 ≡ n = omega arith in (
      t.0,
      sym (bit_here words at (64 * at + n) (omega arith)) ∙ (ap (λ i. bit_at (get_or words at 0) i) e ∙ t.1),
      λ j le below. sym (bit_here words at j (omega arith)) ∙ t.2 (j % 64) (omega arith),
    )

-- where the first word has a bit from the number on, the lowest of them is the first
pub first_high : (words : List ℕ) (from v : ℕ) → v ≡ high_part (get_or words (from / 64) 0) (from % 64) → 0 < v → v < 2 ^ 64
    → (from ≤ 64 * (from / 64) + trailing_zeros w64 v) × (trailing_zeros w64 v < 64) × (bit_of words (64 * (from / 64) + trailing_zeros w64 v) ≡ 1) × ((k : ℕ) → from ≤ k → k < 64 * (from / 64) + trailing_zeros w64 v → bit_of words k ≡ 0)
first_high words from v is some fits =
    let t = bit_at-trailing_zeros w64 v some fits in
    let n : ℕ = trailing_zeros w64 v in
    let lt : n < 64 = t.0 in
    let le : from % 64 ≤ n = not_low (get_or words (from / 64) 0) v (from % 64) n (omega arith) is t.1 in
    let e : (64 * (from / 64) + n) % 64 ≡ n = omega arith in (
      omega arith,
      t.0,
      sym (bit_here words (from / 64) (64 * (from / 64) + n) (omega arith)) ∙ (ap (λ i. bit_at (get_or words (from / 64) 0) i) e ∙ (sym (high_above (get_or words (from / 64) 0) (from % 64) n le lt) ∙ (ap (λ x. bit_at x n) (sym is) ∙ t.1))),
      λ k low below. sym (bit_here words (from / 64) k (omega arith)) ∙ (sym (high_above (get_or words (from / 64) 0) (from % 64) (k % 64) (omega arith) (omega arith)) ∙ (ap (λ x. bit_at x (k % 64)) (sym is) ∙ t.2 (k % 64) (omega arith))),
    )

-- where it has none, there is none in it
pub none_high : (words : List ℕ) (from k : ℕ) → high_part (get_or words (from / 64) 0) (from % 64) ≡ 0 → from ≤ k → k < 64 * (from / 64) + 64 → bit_of words k ≡ 0
none_high words from k is low high =
    sym (bit_here words (from / 64) k (omega arith)) ∙ (sym (high_above (get_or words (from / 64) 0) (from % 64) (k % 64) (omega arith) (omega arith)) ∙ (ap (λ x. bit_at x (k % 64)) is ∙ bit_at-zero (k % 64)))

-- a word of zeros has no bit
pub none_in : (words : List ℕ) (at k : ℕ) → get_or words at 0 ≡ 0 → 64 * at ≤ k → k < 64 * at + 64 → bit_of words k ≡ 0
none_in words at k is low high = sym (bit_here words at k (omega arith)) ∙ (ap (λ x. bit_at x (k % 64)) is ∙ bit_at-zero (k % 64))
