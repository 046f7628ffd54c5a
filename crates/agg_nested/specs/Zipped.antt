-- Items of a list that were changed one after another, each by what stands at its place in two other lists.
use Rattle.std.specs.Prelude.{◌≡◌, ℕ, ◌<◌, ◌≤◌, List, length}
use Rattle.std.specs.List.{slice_index_or}

-- the first i items were changed
pub record IsZippedBelow {A B C : Type 0} (S : A → C → B → B → Type 0) (xs : List A) (cs : List C) (old new : List B) (i : ℕ) : Type 0 where
  pub long : length new ≡ length old
  pub done : (k : ℕ) (a : A) (c : C) (b : B) → k < i → S (slice_index_or xs k a) (slice_index_or cs k c) (slice_index_or old k b) (slice_index_or new k b)
  pub rest : (k : ℕ) (b : B) → i ≤ k → slice_index_or new k b ≡ slice_index_or old k b

-- all were
abbrev pub IsZipped : {A B C : Type 0} → (A → C → B → B → Type 0) → List A → List C → List B → List B → Type 0
IsZipped S xs cs old new = IsZippedBelow S xs cs old new (length xs)
