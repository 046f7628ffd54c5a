-- The distinct ones of a list, in order.
use Rattle.std.specs.Prelude.{Bool, List, [], ◌∷◌, if◌then◌else◌}

-- an item at its place among ordered ones, once
abbrev pub with_item : {X : Type 0} → (X → X → Bool) → X → List X → List X
with_item below x [] = x ∷ []
with_item below x (y ∷ ys) = if below x y then x ∷ y ∷ ys else if below y x then y ∷ with_item below x ys else y ∷ ys

abbrev pub ordered : {X : Type 0} → (X → X → Bool) → List X → List X
ordered below [] = []
ordered below (x ∷ xs) = with_item below x (ordered below xs)
