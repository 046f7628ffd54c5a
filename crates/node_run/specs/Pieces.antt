-- Pieces of a line.
use Rattle.std.specs.Prelude.{ℕ, ◌==◌, ◌||◌, ◌&&◌, not, Bool, true, false, List, [], ◌∷◌}

abbrev pub is_empty : List ℕ → Bool
is_empty [] = true
is_empty (c ∷ text) = false

-- it begins with no sign, and with a zero only where that is all
abbrev pub is_plain : List ℕ → Bool
is_plain [] = false
is_plain (c ∷ more) = not (c == 43) && (not (c == 48) || is_empty more)
