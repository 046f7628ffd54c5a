-- What is written of a document from one row to the next.
use Rattle.std.specs.Prelude.{ℕ, Bool, true, false, List, [], ◌∷◌, ◌++◌, if◌then◌else◌}
use Rattle.std.specs.Str.{bytes_eq}
use Rattle.doc_value.specs.Printed.{quoted, comma, Members, inside, behind, members_text}

-- all names but the last: the objects on the way to a value
abbrev pub front : List (List ℕ) → List (List ℕ)
front [] = []
front (n ∷ []) = []
front (n ∷ m ∷ ns) = n ∷ front (m ∷ ns)

-- the ends of these objects, the innermost first
abbrev pub closings : List (List ℕ) → List ℕ
closings [] = []
closings (o ∷ os) = closings os ++ 125 ∷ []

-- a text at a path, with the objects that begin on the way
abbrev pub begun : Bool → List (List ℕ) → List ℕ → List ℕ
begun first [] t = []
begun first (n ∷ []) t = comma first ++ (quoted n ++ 58 ∷ t)
begun first (n ∷ m ∷ ns) t = comma first ++ (quoted n ++ 58 ∷ 123 ∷ begun true (m ∷ ns) t)

-- what is written of a row where these objects are open: those that it doesn't lie in end before
abbrev pub row_text : Bool → List (List ℕ) → List (List ℕ) → List ℕ → List ℕ
row_text first os [] t = []
row_text first [] (n ∷ ns) t = begun first (n ∷ ns) t
row_text first (o ∷ os) (n ∷ []) t = closings (o ∷ os) ++ begun false (n ∷ []) t
row_text first (o ∷ os) (n ∷ m ∷ ns) t =
    if bytes_eq o n then row_text false os (m ∷ ns) t else closings (o ∷ os) ++ begun false (n ∷ m ∷ ns) t

-- what stands behind a place at which these objects are open, up to the end of all members
abbrev pub remaining : Bool → List (List ℕ) → Members → List ℕ
remaining first [] ms = members_text first ms
remaining first (o ∷ os) ms = remaining false os (inside o ms) ++ 125 ∷ members_text false (behind o ms)
