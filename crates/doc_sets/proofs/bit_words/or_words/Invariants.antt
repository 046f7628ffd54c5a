use Rattle.std.proofs.Common.{◌≡◌, ℕ, ◌<◌, ◌≤◌, get_or, bit_or}
use Rattle.doc_sets.proofs.bit_words.or_words.Given as goal

abbrev pub invariant-loop-i : goal.invariant-loop-i
invariant-loop-i l = record {
  before : (j : ℕ) → j < l.i → get_or l.words j 0 ≡ bit_or (get_or l.fn.words j 0) (get_or l.others j 0);
  rest : (j : ℕ) → l.i ≤ j → get_or l.words j 0 ≡ get_or l.fn.words j 0;
}
