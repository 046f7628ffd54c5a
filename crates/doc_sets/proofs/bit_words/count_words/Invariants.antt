use Rattle.std.proofs.Common.{◌≡◌, ◌*◌, length, nat_eq}
use Rattle.doc_sets.specs.BitWords.{bit_of, members}
use Rattle.doc_sets.proofs.bit_words.count_words.Given as goal

abbrev pub invariant-loop-at : goal.invariant-loop-at
invariant-loop-at l = l.count ≡ length (members (λ k. nat_eq (bit_of l.words k) 1) 0 (64 * l.at))
