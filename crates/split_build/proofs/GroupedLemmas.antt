-- Occurrences grouped run by run.
use Rattle.std.proofs.Common.{◌≡◌, ℕ, suc, ◌-◌, Bool, true, false, List, [], ◌∷◌, ◌++◌, length, take, drop, refl, sym, ◌∙◌, ap, subst, arith, eq-eqb, append_assoc, length-drop}
use Rattle.std.specs.Prelude.{◌==◌, if◌then◌else◌}
use Rattle.std.proofs.lemmas.Bool.{eqb-true}
use Rattle.term_postings.specs.declared.list.Posting.{Posting}
use Rattle.split_build.specs.Grouped.{onto, grouped, run_of}

-- the places of the first so many occurrences, and of the others
abbrev pub own : Bool → ℕ → List ℕ → List ℕ
own true n places = take n places
own false n places = []

abbrev pub others : Bool → ℕ → List ℕ → List ℕ
others true n places = drop n places
others false n places = places

abbrev pub row : ℕ → List ℕ → List Posting → List Posting
row d ps qs = record { document = d; positions = ps } ∷ qs

onto_row : (d : ℕ) (ps rs : List ℕ) (qs : List Posting) → onto d ps (row d rs qs) ≡ row d (ps ++ rs) qs
onto_row d ps rs qs = rw (eq-eqb d d refl) refl

-- the first document is not this one
abbrev FirstIsNot : ℕ → List Posting → Type 0
FirstIsNot d [] = Unit {0}
FirstIsNot d (q ∷ qs) = (q.document == d) ≡ false

first_onto : (d x : ℕ) (ps : List ℕ) (qs : List Posting) → (x == d) ≡ false → FirstIsNot d (onto x ps qs)
first_onto d x ps [] ne = ne
first_onto d x ps (q ∷ qs) ne = by (q.document == x) refl
  where
    by : (b : Bool) → (q.document == x) ≡ b → FirstIsNot d (onto x ps (q ∷ qs))
    by true is = rw is ne
    by false is = rw is ne

onto_other : (d : ℕ) (ps : List ℕ) (qs : List Posting) → FirstIsNot d qs → onto d ps qs ≡ row d ps qs
onto_other d ps [] h = refl
onto_other d ps (q ∷ qs) h = rw h refl

counted_run : (d : ℕ) (ds ps : List ℕ) (p : ℕ) → length ps ≡ length ds
    → grouped true (d ∷ ds) (p ∷ ps) ≡ row d (p ∷ take (run_of d ds) ps) (grouped true (drop (run_of d ds) ds) (drop (run_of d ds) ps))
counted_run d [] [] p e = refl
counted_run d [] (q ∷ qs) p e = absurd (omega (arith, e))
counted_run d (x ∷ xs) [] p e = absurd (omega (arith, e))
counted_run d (x ∷ xs) (q ∷ qs) p e = by (x == d) refl (counted_run d xs qs q (omega (arith, e)))
  where
    by : (b : Bool) → (x == d) ≡ b → grouped true (d ∷ xs) (q ∷ qs) ≡ row d (q ∷ take (run_of d xs) qs) (grouped true (drop (run_of d xs) xs) (drop (run_of d xs) qs))
        → grouped true (d ∷ x ∷ xs) (p ∷ q ∷ qs) ≡ row d (p ∷ take (run_of d (x ∷ xs)) (q ∷ qs)) (grouped true (drop (run_of d (x ∷ xs)) (x ∷ xs)) (drop (run_of d (x ∷ xs)) (q ∷ qs)))
    by true is ih =
        let same : x ≡ d = eqb-true x d is in
        rw is (ap (λ (n : ℕ). onto d (p ∷ []) (grouped true (n ∷ xs) (q ∷ qs))) same ∙ ap (λ (l : List Posting). onto d (p ∷ []) l) ih
        ∙ onto_row d (p ∷ []) (q ∷ take (run_of d xs) qs) (grouped true (drop (run_of d xs) xs) (drop (run_of d xs) qs)))
    by false is ih = rw is (onto_other d (p ∷ []) (grouped true (x ∷ xs) (q ∷ qs)) (first_onto d x (q ∷ []) (grouped true xs qs) is))

plain_run : (d : ℕ) (ds ps : List ℕ) → grouped false (d ∷ ds) ps ≡ row d [] (grouped false (drop (run_of d ds) ds) ps)
plain_run d [] ps = refl
plain_run d (x ∷ xs) ps = by (x == d) refl (plain_run d xs ps)
  where
    by : (b : Bool) → (x == d) ≡ b → grouped false (d ∷ xs) ps ≡ row d [] (grouped false (drop (run_of d xs) xs) ps) → grouped false (d ∷ x ∷ xs) ps ≡ row d [] (grouped false (drop (run_of d (x ∷ xs)) (x ∷ xs)) ps)
    by true is ih =
        let same : x ≡ d = eqb-true x d is in
        rw is (ap (λ (n : ℕ). onto d [] (grouped false (n ∷ xs) ps)) same ∙ ap (λ (l : List Posting). onto d [] l) ih ∙ onto_row d [] [] (grouped false (drop (run_of d xs) xs) ps))
    by false is ih = rw is (onto_other d [] (grouped false (x ∷ xs) ps) (first_onto d x [] (grouped false xs ps) is))

-- the first run is a row
pub first_run : (kept : Bool) (d n : ℕ) (ds all places : List ℕ) → all ≡ d ∷ ds → n ≡ run_of d all → (kept ≡ true → length places ≡ length all)
    → grouped kept all places ≡ row d (own kept n places) (grouped kept (drop n all) (others kept n places))
first_run kept d n ds all places is count sizes = subst (λ (l : List ℕ). n ≡ run_of d l → (kept ≡ true → length places ≡ length l) → grouped kept l places ≡ row d (own kept n places) (grouped kept (drop n l) (others kept n places))) (sym is) (λ e h. at kept places h e) count sizes
  where
    first : run_of d (d ∷ ds) ≡ suc (run_of d ds)
    first = rw (eq-eqb d d refl) refl

    at : (kept : Bool) (places : List ℕ) → (kept ≡ true → length places ≡ length (d ∷ ds)) → n ≡ run_of d (d ∷ ds)
        → grouped kept (d ∷ ds) places ≡ row d (own kept n places) (grouped kept (drop n (d ∷ ds)) (others kept n places))
    at true [] h e = absurd (omega (arith, h refl))
    at true (p ∷ ps) h e = rw (e ∙ first) (counted_run d ds ps p (omega (arith, h refl)))
    at false ps h e = rw (e ∙ first) (plain_run d ds ps)

-- how many places so many occurrences have
abbrev pub places_in : Bool → ℕ → ℕ
places_in kept n = if kept then n else 0

own_is : (kept : Bool) (n : ℕ) (places : List ℕ) → own kept n places ≡ take (places_in kept n) places
own_is true n places = refl
own_is false n places = refl

others_are : (kept : Bool) (n : ℕ) (places : List ℕ) → others kept n places ≡ drop (places_in kept n) places
others_are true n places = refl
others_are false n places = refl

pub sizes_step : (kept : Bool) (n m : ℕ) (left later rest behind : List ℕ) → m ≡ places_in kept n → later ≡ drop n left → behind ≡ drop m rest → (kept ≡ true → length rest ≡ length left) → kept ≡ true → length behind ≡ length later
sizes_step true n m left later rest behind count later_is behind_is sizes is =
    let gone : length behind ≡ length rest - n = ap (λ (l : List ℕ). length l) (behind_is ∙ ap (λ (k : ℕ). drop k rest) count) ∙ length-drop n rest in
    let gone2 : length later ≡ length left - n = ap (λ (l : List ℕ). length l) later_is ∙ length-drop n left in
    omega (arith, gone, gone2, sizes refl)
sizes_step false n m left later rest behind count later_is behind_is sizes is = absurd cc

pub rows_step : (kept : Bool) (d n m : ℕ) (ds left later rest positions behind : List ℕ) (rows more whole : List Posting) → left ≡ d ∷ ds → n ≡ run_of d left → m ≡ places_in kept n → (kept ≡ true → length rest ≡ length left)
    → later ≡ drop n left → positions ≡ take m rest → behind ≡ drop m rest → more ≡ rows ++ record { document = d; positions = positions } ∷ [] → rows ++ grouped kept left rest ≡ whole → more ++ grouped kept later behind ≡ whole
rows_step kept d n m ds left later rest positions behind rows more whole is run count sizes later_is positions_are behind_is pushed inv =
    let first = first_run kept d n ds left rest is run sizes in
    let own_places : own kept n rest ≡ positions = own_is kept n rest ∙ ap (λ (k : ℕ). take k rest) (sym count) ∙ sym positions_are in
    let other_places : others kept n rest ≡ behind = others_are kept n rest ∙ ap (λ (k : ℕ). drop k rest) (sym count) ∙ sym behind_is in
    let whole_is : grouped kept left rest ≡ row d positions (grouped kept later behind) =
    first ∙ ap (λ (l : List ℕ). row d l (grouped kept (drop n left) (others kept n rest))) own_places ∙ ap (λ (l : List ℕ). row d positions (grouped kept l (others kept n rest))) (sym later_is)
    ∙ ap (λ (l : List ℕ). row d positions (grouped kept later l)) other_places in
    ap (λ (l : List Posting). l ++ grouped kept later behind) pushed ∙ append_assoc rows (record { document = d; positions = positions } ∷ []) (grouped kept later behind)
    ∙ ap (λ (l : List Posting). rows ++ l) (sym whole_is) ∙ inv
