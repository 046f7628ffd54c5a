-- The bits of words one behind the other.
use Rattle.std.proofs.Common.{◌≡◌, ℕ, zero, suc, replicate, ◌+◌, ◌-◌, ◌*◌, ◌/◌, ◌%◌, ◌^◌, ◌<◌, ◌≤◌, ◌≢◌, ◌⊎◌, inl, inr, List, length, get_or, set, min, max, bit_and, bit_or, refl, ap, sym, ◌∙◌, arith, w64, get_or-set_same, get_or-set_other}
use Rattle.std.specs.Int.{bit_at, bit_not}
use Rattle.std.proofs.lemmas.List.{get_or_past}
use Rattle.std.proofs.lemmas.Bool.{cases_eq}
use Rattle.std.proofs.lemmas.Nat.Bits.{bit_at-lt, bit_at-zero, bit_at_and, bit_at_or, bit_at_not, bit_at_ones, bit_at_ones_above, ones_shr, bit_at_set_same, bit_at_set_other}
use Rattle.doc_sets.specs.BitWords.{bit_of}

-- a bit is 0 or 1
pub bit_below : (words : List ℕ) (k : ℕ) → bit_of words k < 2
unfolding bit_of
bit_below words k = bit_at-lt (get_or words (k / 64) 0) (k % 64)

-- behind the words every bit is 0
pub bit_past : (words : List ℕ) (k : ℕ) → length words ≤ k / 64 → bit_of words k ≡ 0
unfolding bit_of
bit_past words k h = ap (λ w. bit_at w (k % 64)) (get_or_past words (k / 64) 0 h) ∙ bit_at-zero (k % 64)

pub bits_and : (news olds others : List ℕ) → ((j : ℕ) → get_or news j 0 ≡ bit_and (get_or olds j 0) (get_or others j 0)) → (k : ℕ) → bit_of news k ≡ min (bit_of olds k) (bit_of others k)
unfolding bit_of
bits_and news olds others h k = ap (λ w. bit_at w (k % 64)) (h (k / 64)) ∙ bit_at_and (get_or olds (k / 64) 0) (get_or others (k / 64) 0) (k % 64)

pub bits_or : (news olds others : List ℕ) → ((j : ℕ) → get_or news j 0 ≡ bit_or (get_or olds j 0) (get_or others j 0)) → (k : ℕ) → bit_of news k ≡ max (bit_of olds k) (bit_of others k)
unfolding bit_of
bits_or news olds others h k = ap (λ w. bit_at w (k % 64)) (h (k / 64)) ∙ bit_at_or (get_or olds (k / 64) 0) (get_or others (k / 64) 0) (k % 64)

pub bit_turned : (news olds : List ℕ) (k : ℕ) → get_or news (k / 64) 0 ≡ bit_not w64 (get_or olds (k / 64) 0) → get_or olds (k / 64) 0 < 2 ^ 64 → bit_of news k ≡ 1 - bit_of olds k
unfolding bit_of
bit_turned news olds k h fits = ap (λ w. bit_at w (k % 64)) h ∙ bit_at_not w64 (get_or olds (k / 64) 0) (k % 64) fits (omega arith)

-- a word cut behind some of its bits
cut_low : (w n i : ℕ) → 0 < n → n < 64 → i < n → bit_at (bit_and w (18446744073709551615 / 2 ^ (64 - n))) i ≡ bit_at w i
cut_low w n i some within low =
    let e : 64 - (64 - n) ≡ n = omega arith in
    let ones : 18446744073709551615 / 2 ^ (64 - n) ≡ 2 ^ n - 1 = ones_shr 64 (64 - n) (omega arith) ∙ ap (λ m. 2 ^ m - 1) e in
    ap (λ m. bit_at (bit_and w m) i) ones ∙ (bit_at_and w (2 ^ n - 1) i ∙ (let one = bit_at_ones n i low in let two = bit_at-lt w i in omega arith))

cut_high : (w n i : ℕ) → 0 < n → n < 64 → n ≤ i → bit_at (bit_and w (18446744073709551615 / 2 ^ (64 - n))) i ≡ 0
cut_high w n i some within high =
    let e : 64 - (64 - n) ≡ n = omega arith in
    let ones : 18446744073709551615 / 2 ^ (64 - n) ≡ 2 ^ n - 1 = ones_shr 64 (64 - n) (omega arith) ∙ ap (λ m. 2 ^ m - 1) e in
    ap (λ m. bit_at (bit_and w m) i) ones ∙ (bit_at_and w (2 ^ n - 1) i ∙ (let one = bit_at_ones_above n i high in omega arith))

pub bit_set_other_word : (words : List ℕ) (at value k : ℕ) → k / 64 ≢ at → bit_of (set words at value) k ≡ bit_of words k
unfolding bit_of
bit_set_other_word words at value k ne = ap (λ w. bit_at w (k % 64)) (get_or-set_other words at (k / 64) value 0 ne)

pub bit_set_this_word : (words : List ℕ) (at value k : ℕ) → at < length words → k / 64 ≡ at → bit_of (set words at value) k ≡ bit_at value (k % 64)
unfolding bit_of
bit_set_this_word words at value k lt e = ap (λ j. bit_at (get_or (set words at value) j 0) (k % 64)) e ∙ ap (λ w. bit_at w (k % 64)) (get_or-set_same words at value 0 lt)

pub bit_here : (words : List ℕ) (at k : ℕ) → k / 64 ≡ at → bit_at (get_or words at 0) (k % 64) ≡ bit_of words k
unfolding bit_of
bit_here words at k e = ap (λ j. bit_at (get_or words j 0) (k % 64)) (sym e)

pub cut_below : (words : List ℕ) (size k : ℕ) → 0 < size % 64 → length words ≡ (size + 63) / 64 → k < size
    → bit_of (set words (size / 64) (bit_and (get_or words (size / 64) 0) (18446744073709551615 / 2 ^ (64 - size % 64)))) k ≡ bit_of words k
cut_below words size k some len lt = go (cases_eq (k / 64) (size / 64))
  where
    go : ((k / 64 ≡ size / 64) ⊎ (k / 64 ≢ size / 64)) → bit_of (set words (size / 64) (bit_and (get_or words (size / 64) 0) (18446744073709551615 / 2 ^ (64 - size % 64)))) k ≡ bit_of words k
    go (inl e) = bit_set_this_word words (size / 64) _ k (omega arith) e ∙ (cut_low (get_or words (size / 64) 0) (size % 64) (k % 64) some (omega arith) (omega arith) ∙ bit_here words (size / 64) k e)
    go (inr ne) = bit_set_other_word words (size / 64) _ k ne

pub cut_behind : (words : List ℕ) (size k : ℕ) → 0 < size % 64 → length words ≡ (size + 63) / 64 → size ≤ k
    → bit_of (set words (size / 64) (bit_and (get_or words (size / 64) 0) (18446744073709551615 / 2 ^ (64 - size % 64)))) k ≡ 0
cut_behind words size k some len le = go (cases_eq (k / 64) (size / 64))
  where
    go : ((k / 64 ≡ size / 64) ⊎ (k / 64 ≢ size / 64)) → bit_of (set words (size / 64) (bit_and (get_or words (size / 64) 0) (18446744073709551615 / 2 ^ (64 - size % 64)))) k ≡ 0
    go (inl e) = bit_set_this_word words (size / 64) _ k (omega arith) e ∙ cut_high (get_or words (size / 64) 0) (size % 64) (k % 64) some (omega arith) (omega arith)
    go (inr ne) = bit_set_other_word words (size / 64) _ k ne ∙ bit_past words k (omega arith)

-- a bit is set, and no other one
pub bit_set : (words : List ℕ) (n : ℕ) → n / 64 < length words → bit_of (set words (n / 64) (bit_or (get_or words (n / 64) 0) (1 * 2 ^ (n % 64) % 18446744073709551616))) n ≡ 1
bit_set words n lt = bit_set_this_word words (n / 64) _ n lt refl ∙ bit_at_set_same w64 (get_or words (n / 64) 0) (n % 64) (omega arith)

pub bit_kept : (words : List ℕ) (n k : ℕ) → n / 64 < length words → k ≢ n → bit_of (set words (n / 64) (bit_or (get_or words (n / 64) 0) (1 * 2 ^ (n % 64) % 18446744073709551616))) k ≡ bit_of words k
bit_kept words n k lt ne = go (cases_eq (k / 64) (n / 64))
  where
    go : ((k / 64 ≡ n / 64) ⊎ (k / 64 ≢ n / 64)) → bit_of (set words (n / 64) (bit_or (get_or words (n / 64) 0) (1 * 2 ^ (n % 64) % 18446744073709551616))) k ≡ bit_of words k
    go (inl e) = bit_set_this_word words (n / 64) _ k lt e ∙ (bit_at_set_other w64 (get_or words (n / 64) 0) (n % 64) (omega arith) (k % 64) (λ same. ne (omega arith)) ∙ bit_here words (n / 64) k e)
    go (inr other) = bit_set_other_word words (n / 64) _ k other

-- words of zeros have no bit
pub bit_zeros : (n k : ℕ) → bit_of (replicate {A = ℕ} n 0) k ≡ 0
unfolding bit_of
bit_zeros n k = ap (λ w. bit_at w (k % 64)) (go n (k / 64)) ∙ bit_at-zero (k % 64)
  where
    go : (n i : ℕ) → get_or (replicate {A = ℕ} n 0) i 0 ≡ 0
    go zero i = refl
    go (suc n) zero = refl
    go (suc n) (suc i) = go n i
