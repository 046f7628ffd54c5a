use Rattle.std.proofs.Common.{◌≡◌, ◌⊎◌, inl, inr, ◌<◌, ◌≤◌, ℕ, ◌+◌, ◌*◌, ◌/◌, ◌^◌, ◌%◌, get_or, refl, arith}
use Rattle.std.proofs.lemmas.Nat.{and_le_l}
use Rattle.std.proofs.lemmas.Bool.{cases_lt}
use Rattle.doc_sets.specs.BitWords.{bit_of}
use Rattle.doc_sets.proofs.WordBits.{bit_past}
use Rattle.doc_sets.proofs.NextBit.{first_high, none_high, none_in, lowest_in}
use Rattle.doc_sets.proofs.bit_words.next_word.Goals as goal

pub returns-then-first-words : goal.returns-then-first-words
returns-then-first-words c = λ k le. bit_past c.args.words.now k (omega arith)

pub returns-then-word-ne0 : goal.returns-then-word-ne0
returns-then-word-ne0 c =
    let h = first_high c.args.words.now c.args.from _ refl (omega arith) (omega (arith, and_le_l (get_or c.args.words.now (c.args.from / 64) 0) (18446744073709551615 * 2 ^ (c.args.from % 64) % 18446744073709551616), (c.type_inv.words (c.args.from / 64)).fits)) in
    let lt = h.1 in
    (h.0, omega arith, h.2, h.3)

pub loop-at-init : goal.loop-at-init
loop-at-init c = λ k low high. none_high c.args.words.now c.args.from k c.if-word-ne0.false low (omega arith)

pub returns-then-word-ne0-2 : goal.returns-then-word-ne0-2
returns-then-word-ne0-2 c =
    let h = lowest_in c.args.words.now c.loop-at.at 0 (omega arith) (c.type_inv.words c.loop-at.at).fits in
    let lt = h.0 in
    let auto : c.args.from / 64 + 1 ≤ c.loop-at.at = c.loop-at.auto.at in
    (omega arith, omega arith, h.1, λ k low high. elim (cases_lt k (64 * c.loop-at.at)) [ inl lt ↦ c.loop-at.invariant k low lt | inr le ↦ h.2 k le high ])

pub loop-at-preserved : goal.loop-at-preserved
loop-at-preserved c = λ k low high. go k low high (cases_lt k (64 * c.loop-at.at))
  where
    go : (k : ℕ) → c.args.from ≤ k → k < 64 * (c.loop-at.at + 1) → ((k < 64 * c.loop-at.at) ⊎ (64 * c.loop-at.at ≤ k)) → bit_of c.args.words.now k ≡ 0
    go k low high (inl lt) = c.loop-at.invariant k low lt
    go k low high (inr le) = none_in c.args.words.now c.loop-at.at k c.if-word-ne0-2.false le (omega arith)

pub returns : goal.returns
returns c = λ k low. go k low (cases_lt k (64 * c.loop-at.at))
  where
    go : (k : ℕ) → c.args.from ≤ k → ((k < 64 * c.loop-at.at) ⊎ (64 * c.loop-at.at ≤ k)) → bit_of c.args.words.now k ≡ 0
    go k low (inl lt) = c.loop-at.invariant k low lt
    go k low (inr le) = bit_past c.args.words.now k (omega arith)
