-- Elements that are changed one after another.
use Rattle.std.specs.Prelude.{◌≡◌, ℕ, zero, suc, List, [], ◌∷◌}

-- so many first ones were changed, and the others not yet
abbrev pub ChangedUpTo : {X : Type 0} → (X → X → Type 0) → ℕ → List X → List X → Type 0
ChangedUpTo R count [] [] = Unit {0}
ChangedUpTo R count [] (new ∷ news) = ⊥
ChangedUpTo R count (old ∷ olds) [] = ⊥
ChangedUpTo R zero (old ∷ olds) (new ∷ news) = (new ≡ old) × ChangedUpTo R zero olds news
ChangedUpTo R (suc count) (old ∷ olds) (new ∷ news) = R old new × ChangedUpTo R count olds news
