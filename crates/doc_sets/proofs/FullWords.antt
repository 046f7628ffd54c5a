-- The numbers of a word of which each bit is set.
use Rattle.std.proofs.Common.{◌≡◌, ℕ, ◌+◌, ◌-◌, ◌^◌, true, List, [], ◌∷◌, ◌++◌, nat_eq, ap, sym, ◌∙◌, arith}
use Rattle.std.proofs.lemmas.Nat.Bits.{bit_at_ones}
use Rattle.doc_sets.specs.BitWords.{is_set, members}
use Rattle.doc_sets.proofs.Members.{members_more, members_same}

-- one number more
pub full_more : (first at : ℕ) (front now : List ℕ) → now ≡ front ++ (first + at) ∷ [] → front ≡ members (λ k. true) first at → now ≡ members (λ k. true) first (at + 1)
unfolding members
full_more first at front now e f = e ∙ (ap (λ l. l ++ (first + at) ∷ []) f ∙ sym (members_more (λ k. true) first at 1))

-- each number has its bit
pub full_word : (first : ℕ) → members (λ k. true) first 64 ≡ members (is_set (2 ^ 64 - 1) first) first 64
full_word first = members_same (λ k. true) (is_set (2 ^ 64 - 1) first) first 64 (λ k low high. sym (ap (λ b. nat_eq b 1) (bit_at_ones 64 (k - first) (omega arith))))
