use Rattle.std.proofs.Common.{◌≡◌, ℕ, ◌++◌, true, List, vec_len}
use Rattle.term_postings.specs.Cursors.{StandsBefore}
use Rattle.term_postings.specs.declared.list.Posting.{Posting}
use Rattle.doc_sets.proofs.places.take_places.Given as goal

abbrev pub invariant-loop-taken : goal.invariant-loop-taken
invariant-loop-taken l = record {
  count : vec_len l.places ≡ l.taken;
  given : l.cursor.given ≡ l.fn.cursor.given;
  only : (after : List Posting) (left : List ℕ) → StandsBefore true l.fn.cursor after left
      → (rest : List ℕ) × StandsBefore true l.cursor after rest × (left ≡ l.places.items ++ rest);
}
