-- The first so many of a list that is sorted.
use Rattle.std.specs.Prelude.{ℕ, Bool, List, [], ◌∷◌, take, if◌then◌else◌}

-- an item put before the first one that it does not stand behind
abbrev pub put_by : {X : Type 0} → (X → X → Bool) → X → List X → List X
put_by before x [] = x ∷ []
put_by before x (y ∷ ys) = if before y x then y ∷ put_by before x ys else x ∷ y ∷ ys

-- the items in order; those of which none stands before the other stay as they are
abbrev pub sorted_by : {X : Type 0} → (X → X → Bool) → List X → List X
sorted_by before [] = []
sorted_by before (x ∷ xs) = put_by before x (sorted_by before xs)

-- the first so many of them
abbrev pub firsts_by : {X : Type 0} → ℕ → (X → X → Bool) → List X → List X
firsts_by n before xs = take n (sorted_by before xs)

-- an item put before the first one that stands behind it
abbrev pub put_last_by : {X : Type 0} → (X → X → Bool) → X → List X → List X
put_last_by before x [] = x ∷ []
put_last_by before x (y ∷ ys) = if before x y then x ∷ y ∷ ys else y ∷ put_last_by before x ys
