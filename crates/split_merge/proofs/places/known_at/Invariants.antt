use Rattle.std.proofs.Common.{drop}
use Rattle.split_bundle.specs.declared.split_view.SplitView.{SplitView}
use Rattle.split_merge.specs.Places.{ArePlaces}
use Rattle.split_merge.proofs.places.known_at.Given as goal

abbrev pub invariant-loop-other : goal.invariant-loop-other
invariant-loop-other l = (v : SplitView) → ArePlaces v l.known → ArePlaces v (drop l.other-index l.known)
