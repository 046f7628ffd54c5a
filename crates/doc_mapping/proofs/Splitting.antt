-- The names of a path, by its first dot.
use Rattle.std.proofs.Common.{◌≡◌, ◌≢◌, ℕ, suc, ◌==◌, ◌<◌, false, List, [], ◌∷◌, ◌++◌, length, length-append, get_or, refl, sym, ap, ◌∙◌, arith}
use Rattle.std.proofs.lemmas.Bool.Decides.{nat_tests}
use Rattle.std.specs.Prelude.{Option, Some, None, option_and_then}
use Rattle.serde_json.specs.Data.{Data}
use Rattle.serde_json.specs.Find.{get}
use Rattle.doc_value.specs.Printed.{names_of}
use Rattle.doc_mapping.specs.Documents.{value_at}

-- no byte of the text is a dot
abbrev pub HasNoDot : List ℕ → Type 0
HasNoDot text = (i : ℕ) → i < length text → get_or text i 0 ≢ 46

head-no_dot : (c : ℕ) (cs : List ℕ) → HasNoDot (c ∷ cs) → (c == 46) ≡ false
head-no_dot c cs h = let other : c ≢ 46 = h 0 (omega arith) in grind (arith, nat_tests)

tail-no_dot : (c : ℕ) (cs : List ℕ) → HasNoDot (c ∷ cs) → HasNoDot cs
tail-no_dot c cs h = λ i l. h (suc i) (omega arith)

pub one-name : (path : List ℕ) → HasNoDot path → names_of path ≡ path ∷ []
one-name [] h = refl
one-name (c ∷ cs) h = rw (head-no_dot c cs h, one-name cs (tail-no_dot c cs h)) refl

more-names : (a b : List ℕ) → HasNoDot a → names_of (a ++ 46 ∷ b) ≡ a ∷ names_of b
more-names [] b h = refl
more-names (c ∷ cs) b h = rw (head-no_dot c cs h, more-names cs b (tail-no_dot c cs h)) refl

pub names-parted : (path a b : List ℕ) → path ≡ a ++ 46 ∷ b → HasNoDot a → names_of path ≡ a ∷ names_of b
names-parted path a b e h = rw e (more-names a b h)

pub rest-shorter : (path a b : List ℕ) → path ≡ a ++ 46 ∷ b → length b < length path
rest-shorter path a b e = omega (arith, ap length e, length-append a (46 ∷ b))

and-then-itself : (o : Option Data) → option_and_then (value_at []) o ≡ o
and-then-itself None = refl
and-then-itself (Some d) = refl

-- a path without a dot is one name
pub at-name : (path : List ℕ) (d : Data) (found : Option Data) → HasNoDot path → found ≡ get path d → found ≡ value_at (names_of path) d
at-name path d found h e = rw (one-name path h) (e ∙ sym (and-then-itself (get path d)))

-- behind the first name stands what the other names find there
pub at-inner : (path name rest : List ℕ) (d inner : Data) (found : Option Data) → path ≡ name ++ 46 ∷ rest → HasNoDot name
    → Some inner ≡ get name d → found ≡ value_at (names_of rest) inner → found ≡ value_at (names_of path) d
at-inner path name rest d inner found p h g e =
    rw (names-parted path name rest p h) (e ∙ ap (option_and_then (value_at (names_of rest))) g)

pub at-nothing : (path name rest : List ℕ) (d : Data) → path ≡ name ++ 46 ∷ rest → HasNoDot name
    → None ≡ get name d → None ≡ value_at (names_of path) d
at-nothing path name rest d p h g =
    rw (names-parted path name rest p h) (ap (option_and_then (value_at (names_of rest))) g)
