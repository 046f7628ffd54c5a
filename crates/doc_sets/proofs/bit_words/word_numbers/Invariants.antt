use Rattle.std.proofs.Common.{◌≡◌, ◌++◌, ◌≤◌, ◌<◌, ◌^◌, length, take}
use Rattle.doc_sets.specs.BitWords.{is_set, members}
use Rattle.doc_sets.proofs.bit_words.word_numbers.Given as goal

abbrev pub invariant-loop-left : goal.invariant-loop-left
invariant-loop-left l = record {
  within : l.count ≤ 64;
  fits : l.left < 2 ^ 64;
  room : length l.found ≡ 64;
  only : take l.count l.found ++ members (is_set l.left l.first) l.first 64 ≡ members (is_set l.word l.first) l.first 64;
}

abbrev pub decreases-loop-left : goal.decreases-loop-left
decreases-loop-left l = l.left
