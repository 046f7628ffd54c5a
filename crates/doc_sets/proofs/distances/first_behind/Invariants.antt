use Rattle.std.proofs.Common.{◌≡◌, ℕ, ◌+◌, ◌≤◌, drop}
use Rattle.doc_sets.specs.Asked.{is_among}
use Rattle.doc_sets.proofs.distances.first_behind.Given as goal

abbrev pub invariant-loop-at : goal.invariant-loop-at
invariant-loop-at l = (m : ℕ) → l.start + l.distance ≤ m → is_among m (drop l.at l.places) ≡ is_among m (drop l.from l.places)
