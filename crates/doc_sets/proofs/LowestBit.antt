-- A word without its lowest bit, and the numbers of its bits.
use Rattle.std.proofs.Common.{◌≡◌, ℕ, zero, suc, ◌+◌, ◌-◌, ◌*◌, ◌/◌, ◌%◌, ◌^◌, ◌<◌, ◌≤◌, ◌⊎◌, inl, inr, List, [], ◌∷◌, ◌++◌, length, take, get_or, nat_eq, bit_and, ap, sym, ◌∙◌, arith, w64, eq-eqb, length-append, append_assoc, append-nil, Vec, Result, Ok, Err, IfOk}
use Rattle.std.specs.Int.{bit_at, trailing_zeros}
use Rattle.std.specs.declared.alloc.AllocError.{AllocError}
use Rattle.std.proofs.Math.Nat.{mod-add-div}
use Rattle.std.proofs.lemmas.Bool.{cases_lt}
use Rattle.std.proofs.lemmas.List.{length-take-le}
use Rattle.std.proofs.lemmas.Nat.Bits.{bit_at-suc, bit_at-zero, bit_at_and, bit_at_cat_low, bit_at_cat_high, bit_at_lowest, bit_at-trailing_zeros, same_from_bits_below}
use Rattle.doc_sets.specs.BitWords.{bit_of, is_set, members}
use Rattle.doc_sets.proofs.Members.{members_first, members_few, members_more, members_none, members_same}
use Rattle.doc_sets.proofs.WordBits.{bit_here}

pow_some : (t : ℕ) → 0 < 2 ^ t
pow_some zero = omega arith
pow_some (suc t) = let h = pow_some t in omega arith

-- a number whose low bits are 0 is a multiple
low_none : (w t : ℕ) → ((i : ℕ) → i < t → bit_at w i ≡ 0) → w ≡ w / 2 ^ t * 2 ^ t + 0
low_none w t none =
    let some = pow_some t in
    let split = mod-add-div w (2 ^ t) in
    let whole : w ≡ w / 2 ^ t * 2 ^ t + w % 2 ^ t = omega (arith, split) in
    let low : w % 2 ^ t ≡ 0 = same_from_bits_below t (w % 2 ^ t) 0 (omega arith) some
    (λ i lt. sym (bit_at_cat_low (w / 2 ^ t) t (w % 2 ^ t) i lt) ∙ (ap (λ x. bit_at x i) (sym whole) ∙ (none i lt ∙ sym (bit_at-zero i)))) in
    whole ∙ ap (λ r. w / 2 ^ t * 2 ^ t + r) low

-- an odd number less one has the same bits but the lowest
odd_less : (q j : ℕ) → q % 2 ≡ 1 → bit_at (q - 1) (suc j) ≡ bit_at q (suc j)
odd_less q j odd = let e : (q - 1) / 2 ≡ q / 2 = omega arith in bit_at-suc (q - 1) j ∙ (ap (λ x. bit_at x j) e ∙ sym (bit_at-suc q j))

even_less : (q : ℕ) → q % 2 ≡ 1 → bit_at (q - 1) 0 ≡ 0
even_less q odd = bit_at_lowest (q - 1) ∙ (let e : (q - 1) % 2 ≡ 0 = omega arith in e)

less_one : (m x : ℕ) → 0 < x → (m + 1) * x + 0 - 1 ≡ m * x + (x - 1)
less_one m x some = omega arith

module _ (w t : ℕ) (odd : bit_at w t ≡ 1) (none : (i : ℕ) → i < t → bit_at w i ≡ 0) where
  abbrev part : ℕ
  part = w / 2 ^ t

  one_less : w - 1 ≡ (part - 1) * 2 ^ t + (2 ^ t - 1)
  one_less =
      let is_odd : part % 2 ≡ 1 = odd in
      let q : part ≡ (part - 1) + 1 = omega arith in
      ap (λ x. x - 1) (low_none w t none ∙ ap (λ x. x * 2 ^ t + 0) q) ∙ less_one (part - 1) (2 ^ t) (pow_some t)

  high_less : (i : ℕ) → t ≤ i → bit_at (w - 1) i ≡ bit_at (part - 1) (i - t)
  high_less i le = ap (λ x. bit_at x i) one_less ∙ bit_at_cat_high (part - 1) t (2 ^ t - 1) i (let some = pow_some t in omega arith) le

  high_whole : (i : ℕ) → t ≤ i → bit_at w i ≡ bit_at part (i - t)
  high_whole i le = ap (λ x. bit_at x i) (low_none w t none) ∙ bit_at_cat_high part t 0 i (pow_some t) le

  -- up to the lowest bit no bit is left
  low_left : (i : ℕ) → i < t → bit_at (bit_and w (w - 1)) i ≡ 0
  low_left i lt = bit_at_and w (w - 1) i ∙ (let h = none i lt in omega arith)

  pub first_left : (i : ℕ) → i ≡ t → bit_at (bit_and w (w - 1)) i ≡ 0
  first_left i e =
      let z : i - t ≡ 0 = omega arith in
      let h : bit_at (w - 1) i ≡ 0 = high_less i (omega arith) ∙ (ap (λ j. bit_at (part - 1) j) z ∙ even_less part odd) in
      bit_at_and w (w - 1) i ∙ omega (arith, h)

  -- the others stay
  pub others_left : (i : ℕ) → t < i → bit_at (bit_and w (w - 1)) i ≡ bit_at w i
  others_left i lt =
      let s : i - t ≡ suc (i - t - 1) = omega arith in
      let same : bit_at (w - 1) i ≡ bit_at w i =
      high_less i (omega arith) ∙ (ap (λ j. bit_at (part - 1) j) s ∙ (odd_less part (i - t - 1) odd ∙ (sym (ap (λ j. bit_at part j) s) ∙ sym (high_whole i (omega arith))))) in
      bit_at_and w (w - 1) i ∙ omega (arith, same)

  pub none_left : (i : ℕ) → i ≤ t → bit_at (bit_and w (w - 1)) i ≡ 0
  none_left i le = go (cases_lt i t)
    where
      go : ((i < t) ⊎ (t ≤ i)) → bit_at (bit_and w (w - 1)) i ≡ 0
      go (inl lt) = low_left i lt
      go (inr ge) = first_left i (omega arith)

-- the first number of a word's bits, and those of the word without it
step_at : (w first t : ℕ) → t < 64 → bit_at w t ≡ 1 → ((i : ℕ) → i < t → bit_at w i ≡ 0)
    → members (is_set w first) first 64 ≡ (first + t) ∷ members (is_set (bit_and w (w - 1)) first) first 64
step_at w first t lt odd none =
    let back : first + t - first ≡ t = omega arith in
    members_first (is_set w first) (is_set (bit_and w (w - 1)) first) first 64 (first + t) (omega arith) (omega arith)
    (eq-eqb (bit_at w (first + t - first)) 1 (ap (λ i. bit_at w i) back ∙ odd))
    (λ k low high. ap (λ b. nat_eq b 1) (none (k - first) (omega arith)))
    (λ k low high. ap (λ b. nat_eq b 1) (none_left w t odd none (k - first) (omega arith)))
    (λ k low high. ap (λ b. nat_eq b 1) (sym (others_left w t odd none (k - first) (omega arith))))

pub word_step : (w first : ℕ) → 0 < w → w < 2 ^ 64
    → members (is_set w first) first 64 ≡ (first + trailing_zeros w64 w) ∷ members (is_set (bit_and w (w - 1)) first) first 64
word_step w first some fits =
    let h = bit_at-trailing_zeros w64 w some fits in
    step_at w first (trailing_zeros w64 w) h.0 h.1 h.2

-- a word of zeros has none
pub word_none : (w first : ℕ) → w ≡ 0 → members (is_set w first) first 64 ≡ []
word_none w first e = members_none (is_set w first) first 64 (λ k low high. ap (λ b. nat_eq b 1) (ap (λ x. bit_at x (k - first)) e ∙ bit_at-zero (k - first)))

-- while a bit is left, there is room for its number
pub word_room : (w v first count : ℕ) (found : List ℕ) → length found ≡ 64 → count ≤ 64 → 0 < v → v < 2 ^ 64
    → take count found ++ members (is_set v first) first 64 ≡ members (is_set w first) first 64 → count < 64
word_room w v first count found room within some fits e =
    let step = ap length (word_step v first some fits) in
    let few = members_few (is_set w first) first 64 in
    let total = ap length e in
    let front = length-take-le count found (omega (arith, room, within)) in
    omega (arith, length-append (take count found) (members (is_set v first) first 64), step, few, total, front)

-- the number of the lowest bit is put behind those before it
pub word_more : (w v first : ℕ) (front more : List ℕ) → 0 < v → v < 2 ^ 64 → more ≡ front ++ (first + trailing_zeros w64 v) ∷ []
    → front ++ members (is_set v first) first 64 ≡ members (is_set w first) first 64 → more ++ members (is_set (bit_and v (v - 1)) first) first 64 ≡ members (is_set w first) first 64
word_more w v first front more some fits e h =
    ap (λ l. l ++ members (is_set (bit_and v (v - 1)) first) first 64) e
    ∙ (append_assoc front ((first + trailing_zeros w64 v) ∷ []) (members (is_set (bit_and v (v - 1)) first) first 64)
    ∙ (ap (λ l. front ++ l) (sym (word_step v first some fits)) ∙ h))

-- the numbers of one word more
pub words_more : (words : List ℕ) (at : ℕ) (numbers : List ℕ) → numbers ≡ members (λ k. nat_eq (bit_of words k) 1) 0 (64 * at)
    → numbers ++ members (is_set (get_or words at 0) (64 * at)) (64 * at) 64 ≡ members (λ k. nat_eq (bit_of words k) 1) 0 (64 * (at + 1))
words_more words at numbers e =
    let test = λ (k : ℕ). nat_eq (bit_of words k) 1 in
    let more : 64 * (at + 1) ≡ 64 * at + 64 = omega arith in
    let here : members (is_set (get_or words at 0) (64 * at)) (64 * at) 64 ≡ members test (64 * at) 64 =
    members_same (is_set (get_or words at 0) (64 * at)) test (64 * at) 64
    (λ k low high. let i : k - 64 * at ≡ k % 64 = omega arith in ap (λ j. nat_eq (bit_at (get_or words at 0) j) 1) i ∙ ap (λ b. nat_eq b 1) (bit_here words at k (omega arith))) in
    ap (λ l. l ++ members (is_set (get_or words at 0) (64 * at)) (64 * at) 64) e
    ∙ (ap (λ l. members test 0 (64 * at) ++ l) here
    ∙ (ap (λ n. members test 0 (64 * at) ++ members test n 64) (let z : 64 * at ≡ 0 + 64 * at = omega arith in z)
    ∙ (sym (members_more test 0 (64 * at) 64) ∙ sym (ap (λ n. members test 0 n) more))))

-- behind a size no bit is set
pub numbers_cut : (words : List ℕ) (size : ℕ) → size ≤ 64 * length words → ((k : ℕ) → size ≤ k → bit_of words k ≡ 0)
    → members (λ k. nat_eq (bit_of words k) 1) 0 (64 * length words) ≡ members (λ k. nat_eq (bit_of words k) 1) 0 size
numbers_cut words size le behind =
    let test = λ (k : ℕ). nat_eq (bit_of words k) 1 in
    let more = 64 * length words - size in
    let e : 64 * length words ≡ size + more = omega arith in
    ap (λ c. members test 0 c) e
    ∙ (members_more test 0 size more
    ∙ (ap (λ l. members test 0 size ++ l) (members_none test (0 + size) more (λ k low high. ap (λ b. nat_eq b 1) (behind k (omega arith)))) ∙ append-nil (members test 0 size)))

pub numbers_given : {Z : Type 0} (r : Result (Vec ℕ Z) AllocError) (words seen : List ℕ) (size : ℕ) → seen ≡ words → size ≤ 64 * length words → ((k : ℕ) → size ≤ k → bit_of words k ≡ 0)
    → IfOk r (λ ns. ns.items ≡ members (λ k. nat_eq (bit_of seen k) 1) 0 (64 * length seen)) → IfOk r (λ ns. ns.items ≡ members (λ k. nat_eq (bit_of words k) 1) 0 size)
numbers_given (Ok ns) words seen size e le behind h = h ∙ (ap (λ (l : List ℕ). members (λ k. nat_eq (bit_of l k) 1) 0 (64 * length l)) e ∙ numbers_cut words size le behind)
numbers_given (Err fault) words seen size e le behind h = tt
