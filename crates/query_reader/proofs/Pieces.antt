-- Pieces that are appended one after another.
use Rattle.std.proofs.Common.{◌≡◌, ℕ, ℤ, List, [], ◌∷◌, ◌++◌, refl, ap, sym, ◌∙◌, subst, append_assoc, append-nil}
use Rattle.std.specs.Prelude.{Result, Ok, Err, OnOk}
use Rattle.query_reader.specs.Printed.{Piece, Written, Second, Spells, Appends, IsSecondText}

pub spells_more : (ps qs : List Piece) (v w : List ℕ) → Spells ps v → Spells qs w → Spells (ps ++ qs) (v ++ w)
spells_more [] qs v w e h = subst (λ x. Spells qs (x ++ w)) (sym e) h
spells_more (Written x ∷ ps) qs v w p h = (p.0 ++ w, ap (λ t. t ++ w) p.1 ∙ append_assoc x p.0 w, spells_more ps qs p.0 w p.2 h)
spells_more (Second n ∷ ps) qs v w p h = (p.0, p.1 ++ w, p.2, ap (λ t. t ++ w) p.3 ∙ append_assoc p.0 p.1 w, spells_more ps qs p.1 w p.4 h)

pub appends_more : (a b c : List ℕ) (ps qs : List Piece) → Appends a b ps → Appends b c qs → Appends a c (ps ++ qs)
appends_more a b c ps qs p q = (p.0 ++ q.0, q.1 ∙ ap (λ t. t ++ q.0) p.1 ∙ append_assoc a p.0 q.0, spells_more ps qs p.0 q.0 p.2 q.2)

-- the same where the last of them may have failed
pub appends_then : {E : Type 0} (r : Result (Unit {0}) E) (a b c : List ℕ) (ps qs : List Piece) → Appends a b ps → OnOk r (Appends b c qs) → OnOk r (Appends a c (ps ++ qs))
appends_then (Ok done) a b c ps qs p q = appends_more a b c ps qs p q
appends_then (Err e) a b c ps qs p q = tt

pub written : (a b w : List ℕ) → b ≡ a ++ w → Appends a b (Written w ∷ [])
written a b w e = (w, e, ([], sym (append-nil w), refl))

pub second : (a b w : List ℕ) (n : ℤ) → IsSecondText n w → b ≡ a ++ w → Appends a b (Second n ∷ [])
second a b w n s e = (w, e, (w, [], s, sym (append-nil w), refl))

-- what is written at once
pub spells_written : (w bytes : List ℕ) → Spells (Written w ∷ []) bytes → bytes ≡ w
spells_written w bytes p = p.1 ∙ ap (λ t. w ++ t) p.2 ∙ append-nil w

-- the pieces of two lists
abbrev pub Split : List Piece → List Piece → List ℕ → Type 0
Split ps qs bytes = (v : List ℕ) × (w : List ℕ) × (bytes ≡ v ++ w) × Spells ps v × Spells qs w

pub spells_split : (ps qs : List Piece) (bytes : List ℕ) → Spells (ps ++ qs) bytes → Split ps qs bytes
spells_split [] qs bytes h = ([], bytes, refl, refl, h)
spells_split (Written x ∷ ps) qs bytes h =
    let s : Split ps qs h.0 = spells_split ps qs h.0 h.2 in
    (x ++ s.0, s.1, h.1 ∙ ap (λ t. x ++ t) s.2 ∙ sym (append_assoc x s.0 s.1), (s.0, refl, s.3), s.4)
spells_split (Second n ∷ ps) qs bytes h =
    let s : Split ps qs h.1 = spells_split ps qs h.1 h.4 in
    (h.0 ++ s.0, s.1, h.3 ∙ ap (λ t. h.0 ++ t) s.2 ∙ sym (append_assoc h.0 s.0 s.1), (h.0, s.0, h.2, refl, s.3), s.4)
