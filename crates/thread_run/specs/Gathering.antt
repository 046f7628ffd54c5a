-- What is gathered of the elements of a list.
use Rattle.std.specs.Prelude.{List, [], ◌∷◌, ◌++◌}

-- what there is of each, in their order
abbrev pub gathered : {A B : Type 0} → (A → List B) → List A → List B
gathered f [] = []
gathered f (x ∷ xs) = f x ++ gathered f xs
