use Rattle.std.proofs.Common.{◌≡◌, ℕ, ◌<◌, ◌≤◌, ◌^◌, get_or, w64}
use Rattle.std.specs.Int.{bit_not}
use Rattle.doc_sets.proofs.bit_words.turn_words.Given as goal

abbrev pub invariant-loop-word : goal.invariant-loop-word
invariant-loop-word l = record {
  before : (j : ℕ) → j < l.word-index → get_or l.words j 0 ≡ bit_not w64 (get_or l.fn.words j 0);
  fits : (j : ℕ) → j < l.word-index → get_or l.fn.words j 0 < 2 ^ 64;
  rest : (j : ℕ) → l.word-index ≤ j → get_or l.words j 0 ≡ get_or l.fn.words j 0;
}
