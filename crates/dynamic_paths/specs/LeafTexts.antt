-- The text under which a leaf is listed, and which are kept.
use Rattle.std.specs.Prelude.{ℕ, nat_le, Bool, List, ◌∷◌, ◌++◌, length, map, filter, decimal}

-- a leaf of a record: its path, and its text
abbrev pub Leaf : Type 0
Leaf = List ℕ × List ℕ

-- the path's length in bytes in decimal, a colon, the path, a colon, the text
abbrev pub leaf_text : List ℕ → List ℕ → List ℕ
leaf_text path text = decimal (length path) ++ 58 ∷ path ++ 58 ∷ text

abbrev pub max_leaf_text : ℕ
max_leaf_text = 255

abbrev pub fits : List ℕ → Bool
fits text = nat_le (length text) max_leaf_text

-- the leaf texts of these leaves that are not too long
abbrev pub fitting_texts : List Leaf → List (List ℕ)
fitting_texts leaves = filter fits (map (λ leaf. leaf_text leaf.0 leaf.1) leaves)
