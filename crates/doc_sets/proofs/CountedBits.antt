-- How many numbers there are of the bits of a word.
use Rattle.std.proofs.Common.{◌≡◌, ℕ, zero, suc, ◌+◌, ◌-◌, ◌*◌, ◌/◌, ◌%◌, ◌^◌, ◌<◌, ◌≤◌, ◌⊎◌, inl, inr, Bool, cond, List, ◌∷◌, length, get_or, nat_eq, count_ones, refl, ap, sym, ◌∙◌, arith, length-append}
use Rattle.std.specs.Int.{bit_at}
use Rattle.std.specs.Int.Count.{ones_step}
use Rattle.std.proofs.lemmas.Nat.{ones_le_self}
use Rattle.std.proofs.lemmas.Nat.Bits.{bit_at-suc, bit_at_lowest}
use Rattle.doc_sets.specs.BitWords.{bit_of, is_set, members}
use Rattle.doc_sets.proofs.BitTests.{two_bits}
use Rattle.doc_sets.proofs.LowestBit.{numbers_cut, words_more}
use Rattle.doc_sets.proofs.Members.{members_few}

bits_counted : (p : ℕ → Bool) (w n d : ℕ) → w < 2 ^ d → ((i : ℕ) → i < d → p (n + i) ≡ nat_eq (bit_at w i) 1) → length (members p n d) ≡ count_ones w
unfolding members
bits_counted p w n zero small same = let few = ones_le_self w in let none : 0 ≡ count_ones w = omega (arith, small, few) in none
bits_counted p w n (suc d) small same =
    let z : n ≡ n + 0 = omega arith in
    let here : p n ≡ nat_eq (w % 2) 1 = ap p z ∙ (same 0 (omega arith) ∙ ap (λ b. nat_eq b 1) (bit_at_lowest w)) in
    let rest = bits_counted p (w / 2) (suc n) d (omega (arith, small)) (λ i lt. ap p (let e : suc n + i ≡ n + suc i = omega arith in e) ∙ (same (suc i) (omega arith) ∙ ap (λ b. nat_eq b 1) (bit_at-suc w i))) in
    ap (λ b. length (cond b (n ∷ members p (suc n) d) (members p (suc n) d))) here ∙ (go (w % 2) (two_bits (w % 2) (omega arith)) rest ∙ sym (ones_step w))
  where
    go : (b : ℕ) → ((b ≡ 0) ⊎ (b ≡ 1)) → length (members p (suc n) d) ≡ count_ones (w / 2) → length (cond (nat_eq b 1) (n ∷ members p (suc n) d) (members p (suc n) d)) ≡ b + count_ones (w / 2)
    go b (inl e) h = rw (e) (h ∙ (let z : count_ones (w / 2) ≡ 0 + count_ones (w / 2) = omega arith in z))
    go b (inr e) h = rw (e) (ap suc h ∙ (let z : suc (count_ones (w / 2)) ≡ 1 + count_ones (w / 2) = omega arith in z))

-- as many as bits are set
pub word_counted : (w first : ℕ) → w < 2 ^ 64 → length (members (is_set w first) first 64) ≡ count_ones w
word_counted w first small = bits_counted (is_set w first) w first 64 small (λ i lt. ap (λ j. nat_eq (bit_at w j) 1) (let e : first + i - first ≡ i = omega arith in e))

-- those of one word more
pub counted_more : (words : List ℕ) (at count more : ℕ) → count ≡ length (members (λ k. nat_eq (bit_of words k) 1) 0 (64 * at)) → more ≡ length (members (is_set (get_or words at 0) (64 * at)) (64 * at) 64)
    → count + more ≡ length (members (λ k. nat_eq (bit_of words k) 1) 0 (64 * (at + 1)))
counted_more words at count more e f =
    let test = λ (k : ℕ). nat_eq (bit_of words k) 1 in
    let here = members (is_set (get_or words at 0) (64 * at)) (64 * at) 64 in
    ap (λ n. n + more) e ∙ (ap (λ n. length (members test 0 (64 * at)) + n) f
    ∙ (sym (length-append (members test 0 (64 * at)) here) ∙ ap length (words_more words at (members test 0 (64 * at)) refl)))

-- a word has few
pub word_few : (w first more : ℕ) → more ≡ length (members (is_set w first) first 64) → more ≤ 64
word_few w first more e = let few = members_few (is_set w first) first 64 in omega (arith, few, e)

-- there are few
pub counted_few : (words : List ℕ) (at count : ℕ) → count ≡ length (members (λ k. nat_eq (bit_of words k) 1) 0 (64 * at)) → count ≤ 64 * at
counted_few words at count e = let few = members_few (λ k. nat_eq (bit_of words k) 1) 0 (64 * at) in omega (arith, few, e)

-- behind a size no bit is set
pub count_given : (words seen : List ℕ) (size count : ℕ) → seen ≡ words → size ≤ 64 * length words → ((k : ℕ) → size ≤ k → bit_of words k ≡ 0)
    → count ≡ length (members (λ k. nat_eq (bit_of seen k) 1) 0 (64 * length seen)) → count ≡ length (members (λ k. nat_eq (bit_of words k) 1) 0 size)
count_given words seen size count e le behind h = h ∙ ap length (ap (λ (l : List ℕ). members (λ k. nat_eq (bit_of l k) 1) 0 (64 * length l)) e ∙ numbers_cut words size le behind)
