-- The times of documents.
use Rattle.std.specs.Prelude.{◌≡◌, ℕ, ℤ, ◌≤ℤ◌, List, [], ◌∷◌, Option, Some, None, Contains}
use Rattle.std.specs.List.{flat_map, AllByRecursion}
use Rattle.doc_value.specs.Documents.{values_in}
use Rattle.split_states.specs.declared.facts.Times.{Times}
use Rattle.split_bundle.specs.declared.placed.Placed.{Placed}
use Rattle.split_bundle.specs.Tagged.{second_of}

-- the seconds of the timestamp field, document by document
abbrev pub seconds_in : Option ℕ → List Placed → List ℤ
seconds_in None documents = []
seconds_in (Some number) documents = flat_map (λ d. flat_map second_of (values_in d.doc number)) documents

-- the least and the greatest of some seconds
pub record AreEnds (seconds : List ℤ) (t : Times) : Type 0 where
  pub least : Contains seconds t.least
  pub greatest : Contains seconds t.greatest
  pub within : AllByRecursion (λ z. (t.least ≤ℤ z) × (z ≤ℤ t.greatest)) seconds

-- none where there are no seconds
abbrev pub AreTimes : List ℤ → Option Times → Type 0
AreTimes seconds None = seconds ≡ []
AreTimes seconds (Some t) = AreEnds seconds t
