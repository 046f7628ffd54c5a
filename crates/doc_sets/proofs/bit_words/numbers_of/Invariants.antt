use Rattle.std.proofs.Common.{◌≡◌, ◌*◌, nat_eq}
use Rattle.doc_sets.specs.BitWords.{bit_of, members}
use Rattle.doc_sets.proofs.bit_words.numbers_of.Given as goal

abbrev pub invariant-loop-at : goal.invariant-loop-at
invariant-loop-at l = l.numbers.items ≡ members (λ k. nat_eq (bit_of l.words k) 1) 0 (64 * l.at)
