-- Every so many of a list.
use Rattle.std.specs.Prelude.{ℕ, zero, suc, ◌-◌, List, [], ◌∷◌}

-- every `count` ones of a list, the first of them behind so many others
abbrev pub every : {A : Type 0} → (count left : ℕ) → List A → List A
every count left [] = []
every count zero (x ∷ xs) = x ∷ every count (count - 1) xs
every count (suc left) (x ∷ xs) = every count left xs
