use Rattle.split_merge.proofs.PlaceLemmas.{TakesPlaces}
use Rattle.split_merge.proofs.lists.take_places.Given as goal

abbrev pub invariant-loop-count : goal.invariant-loop-count
invariant-loop-count l = TakesPlaces l.fn.places.items l.places.items l.count l.last l.fn.cursor l.cursor
