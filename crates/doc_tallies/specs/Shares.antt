-- The first items of lists of which each gave a share.
use Rattle.std.specs.Prelude.{◌≡◌, ℕ, ◌⊎◌, Bool, true, List, [], ◌∷◌, ◌++◌, drop}
use Rattle.std.specs.List.{AllByRecursion}
use Rattle.doc_tallies.specs.Firsts.{sorted_by, firsts_by}

-- some lists, one after the other
abbrev pub joined : {X : Type 0} → List (List X) → List X
joined [] = []
joined (xs ∷ lists) = xs ++ joined lists

-- the first so many of a list, of which all others stand behind an item
pub record IsCut {X : Type 0} (before : X → X → Bool) (z : X) (own share : List X) : Type 0 where
  pub many : ℕ
  pub firsts : share ≡ firsts_by many before own
  pub behind : AllByRecursion (λ y. before z y ≡ true) (drop many (sorted_by before own))

-- these, or as many of it as are wanted
abbrev pub IsShare : {X : Type 0} → (X → X → Bool) → ℕ → X → List X → List X → Type 0
IsShare before wanted z own share = (share ≡ firsts_by wanted before own) ⊎ IsCut before z own share
