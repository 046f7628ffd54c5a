use Rattle.std.proofs.Common.{◌≡◌, ℕ, ◌+◌, ◌<◌, ◌≤◌, drop, take, filter, get_or, length}
use Rattle.term_postings.specs.Postings.{AreRising}
use Rattle.doc_sets.specs.Asked.{is_among}
use Rattle.doc_sets.proofs.distances.put_in_front.Given as goal

abbrev pub invariant-loop-number : goal.invariant-loop-number
invariant-loop-number l = record {
  kept : l.kept ≤ l.number;
  at : l.at ≤ length l.places;
  rest : (j : ℕ) → l.number ≤ j → get_or l.starts j 0 ≡ get_or l.fn.starts j 0;
  only : AreRising l.fn.starts → AreRising l.places
      → (take l.kept l.starts ≡ filter (λ start. is_among (start + l.distance) l.places) (take l.number l.fn.starts))
      × ((j : ℕ) → l.number ≤ j → j < length l.fn.starts → is_among (get_or l.fn.starts j 0 + l.distance) (drop l.at l.places) ≡ is_among (get_or l.fn.starts j 0 + l.distance) l.places);
}
