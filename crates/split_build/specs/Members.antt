-- Membership of a text.
use Rattle.std.specs.Prelude.{◌≡◌, ℕ, List, [], ◌∷◌, ◌⊎◌}

abbrev pub IsAmong : List (List ℕ) → List ℕ → Type 0
IsAmong [] key = ⊥
IsAmong (k ∷ ks) key = (k ≡ key) ⊎ IsAmong ks key
