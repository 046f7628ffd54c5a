use Rattle.std.proofs.Common.{◌≡◌, ℕ, ◌+◌, ◌-◌, ◌<◌, List, Ok}
use Rattle.split_bundle.specs.declared.placed.Placed.{Placed}
use Rattle.split_merge.specs.Keeping.{is_named, RiseFrom}
use Rattle.split_merge.specs.Kept.{HasKept}
use Rattle.split_merge.specs.Places.{ArePlaces}
use Rattle.split_merge.specs.Reading.{behind, documents_of}
use Rattle.split_merge.proofs.keeping.take_view.Given as goal

abbrev pub invariant-loop-doc : goal.invariant-loop-doc
invariant-loop-doc l = record {
  place : l.place ≡ l.first + l.doc;
  rise : RiseFrom l.place l.rest;
  same : (m : ℕ) → l.place < m + 1 → is_named m l.rest ≡ is_named m l.places;
  exact : (before : List Placed) → HasKept l.initial.documents l.schema before → (now : List Placed) × HasKept l.documents l.schema now
      × ArePlaces l.view l.known.items × (behind (Ok now) (documents_of l.schema l.rest l.view l.place l.doc (l.view.layout.docs - l.doc)) ≡ behind (Ok before) (documents_of l.schema l.places l.view l.first 0 l.view.layout.docs));
}
