use Rattle.std.proofs.Common.{◌≡◌, length, take, true}
use Rattle.doc_sets.specs.BitWords.{members}
use Rattle.doc_sets.proofs.bit_words.full_numbers.Given as goal

abbrev pub invariant-loop-at : goal.invariant-loop-at
invariant-loop-at l = record {
  room : length l.found ≡ 64;
  only : take l.at l.found ≡ members (λ k. true) l.first l.at;
}
