-- Partitions that are known by their places.
use Rattle.std.proofs.Common.{◌≡◌, List, [], ◌∷◌, ◌++◌, sym, subst}
use Rattle.split_bundle.specs.declared.split_view.SplitView.{SplitView}
use Rattle.split_merge.specs.declared.places.KnownPlace.{KnownPlace}
use Rattle.split_merge.specs.Places.{ArePlaces, IsPlace}
use Rattle.split_merge.proofs.KeptLemmas.{all_push}

pub places_more : (v : SplitView) (old new : List KnownPlace) (k : KnownPlace) → new ≡ old ++ k ∷ [] → ArePlaces v old → IsPlace v k → ArePlaces v new
places_more v old new k is known here = subst (λ (ks : List KnownPlace). ArePlaces v ks) (sym is) (all_push (IsPlace v) old k known here)
