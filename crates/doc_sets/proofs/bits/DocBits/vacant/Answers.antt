use Rattle.std.proofs.Common.{nat_eq, ap, ◌∙◌}
use Rattle.doc_sets.specs.BitWords.{bit_of}
use Rattle.doc_sets.proofs.WordBits.{bit_zeros}
use Rattle.doc_sets.proofs.bits.DocBits.vacant.Goals as goal

pub invariant_of-result : goal.invariant_of-result
invariant_of-result c = record {
  words_len = c.in_ok-words.ensures.len;
  behind = λ k le. ap (λ ws. bit_of ws k) (c.in_ok-words.ensures.items_if_clones_equal (λ y e. e)) ∙ bit_zeros _ k;
}

pub returns-clause-none : goal.returns-clause-none
returns-clause-none c = λ k. ap (λ ws. nat_eq (bit_of ws k) 1) (c.in_ok-words.ensures.items_if_clones_equal (λ y e. e)) ∙ ap (λ b. nat_eq b 1) (bit_zeros _ k)
