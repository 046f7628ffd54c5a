-- The posting list of a key is the occurrences of the key, grouped by their documents.
use Rattle.std.proofs.Common.{◌≡◌, ℕ, suc, ◌<◌, ◌≤◌, Bool, true, false, List, [], ◌∷◌, ◌++◌, map, length, refl, sym, ◌∙◌, ap, subst, arith, eq-eqb}
use Rattle.std.proofs.lemmas.Bool.{ne_eqb}
use Rattle.std.specs.Prelude.{if◌then◌else◌}
use Rattle.std.specs.List.{AllByRecursion}
use Rattle.std.specs.Str.{bytes_eq}
use Rattle.doc_value.specs.declared.schema.Schema.{Schema}
use Rattle.term_postings.specs.declared.list.Posting.{Posting}
use Rattle.term_postings.specs.Postings.{AreRising, documents}
use Rattle.split_bundle.specs.declared.placed.Placed.{Placed}
use Rattle.split_bundle.specs.Keys.{Occurrence, keys_of}
use Rattle.split_bundle.specs.Lists.{has_key, places_of, keeps_places, posted}
use Rattle.split_build.specs.Said.{Said, in_document, said_from, with_key, places_kept}
use Rattle.split_build.specs.Grouped.{onto, grouped}

-- ---- of occurrences

abbrev pub own_place : Bool → ℕ → List ℕ
own_place true p = p ∷ []
own_place false p = []

abbrev pub grouped_said : Bool → List Said → List Posting
grouped_said kept [] = []
grouped_said kept (o ∷ os) = onto o.document (own_place kept o.place) (grouped_said kept os)

pub grouped-said : (kept : Bool) (os : List Said) → grouped kept (map (λ o. o.document) os) (places_kept kept os) ≡ grouped_said kept os
grouped-said true [] = refl
grouped-said false [] = refl
grouped-said true (o ∷ os) = ap (λ (l : List Posting). onto o.document (o.place ∷ []) l) (grouped-said true os)
grouped-said false (o ∷ os) = ap (λ (l : List Posting). onto o.document [] l) (grouped-said false os)

-- ---- of one document

no_places : (key : List ℕ) (os : List Occurrence) → has_key key os ≡ false → places_of key os ≡ []
no_places key [] e = refl
no_places key (o ∷ os) e = by (bytes_eq o.key key) refl (no_places key os)
  where
    by : (b : Bool) → bytes_eq o.key key ≡ b → (has_key key os ≡ false → places_of key os ≡ []) → places_of key (o ∷ os) ≡ []
    by true is rest =
        let wrong : true ≡ false = rw is at e in
        absurd cc
    by false is rest = rw is (rest (rw is at e))

-- the first of the documents is above a number
abbrev pub IsFirstAbove : ℕ → List Posting → Type 0
IsFirstAbove n [] = Unit {0}
IsFirstAbove n (q ∷ qs) = n < q.document

onto_other : (n : ℕ) (ps : List ℕ) (qs : List Posting) → IsFirstAbove n qs → onto n ps qs ≡ record { document = n; positions = ps } ∷ qs
onto_other n ps [] h = refl
onto_other n ps (q ∷ qs) h = rw (ne_eqb q.document n (λ e. absurd (omega arith))) refl

onto_same : (n : ℕ) (ps rs : List ℕ) (qs : List Posting) → onto n ps (record { document = n; positions = rs } ∷ qs) ≡ record { document = n; positions = ps ++ rs } ∷ qs
onto_same n ps rs qs = rw (eq-eqb n n refl) refl

-- the posting of a document with this number, if it has the key
abbrev pub own_posting : Bool → List ℕ → ℕ → List Occurrence → List Posting → List Posting
own_posting kept key n os qs = if has_key key os then record { document = n; positions = if kept then places_of key os else [] } ∷ qs else qs

own_yes : (kept : Bool) (key : List ℕ) (n : ℕ) (os : List Occurrence) (qs : List Posting) → has_key key os ≡ true → own_posting kept key n os qs ≡ record { document = n; positions = if kept then places_of key os else [] } ∷ qs
own_yes kept key n os qs e = rw e refl

own_no : (kept : Bool) (key : List ℕ) (n : ℕ) (os : List Occurrence) (qs : List Posting) → has_key key os ≡ false → own_posting kept key n os qs ≡ qs
own_no kept key n os qs e = rw e refl

of_document : (kept : Bool) (key : List ℕ) (n : ℕ) (os : List Occurrence) (more : List Said) → IsFirstAbove n (grouped_said kept more)
    → grouped_said kept (with_key key (in_document n os) ++ more) ≡ own_posting kept key n os (grouped_said kept more)
of_document kept key n [] more h = refl
of_document kept key n (o ∷ os) more h = by (bytes_eq o.key key) refl (of_document kept key n os more h)
  where
    at : (c : Bool) (kept : Bool) → has_key key os ≡ c → grouped_said kept (with_key key (in_document n os) ++ more) ≡ own_posting kept key n os (grouped_said kept more) → IsFirstAbove n (grouped_said kept more)
        → onto n (own_place kept o.place) (grouped_said kept (with_key key (in_document n os) ++ more)) ≡ record { document = n; positions = if kept then o.place ∷ places_of key os else [] } ∷ grouped_said kept more
    at true true is ih above = ap (λ (l : List Posting). onto n (o.place ∷ []) l) (ih ∙ own_yes true key n os (grouped_said true more) is) ∙ onto_same n (o.place ∷ []) (places_of key os) (grouped_said true more)
    at true false is ih above = ap (λ (l : List Posting). onto n [] l) (ih ∙ own_yes false key n os (grouped_said false more) is) ∙ onto_same n [] [] (grouped_said false more)
    at false true is ih above =
        ap (λ (l : List Posting). onto n (o.place ∷ []) l) (ih ∙ own_no true key n os (grouped_said true more) is) ∙ onto_other n (o.place ∷ []) (grouped_said true more) above
        ∙ ap (λ (ps : List ℕ). record { document = n; positions = o.place ∷ ps } ∷ grouped_said true more) (sym (no_places key os is))
    at false false is ih above = ap (λ (l : List Posting). onto n [] l) (ih ∙ own_no false key n os (grouped_said false more) is) ∙ onto_other n [] (grouped_said false more) above

    by : (b : Bool) → bytes_eq o.key key ≡ b → grouped_said kept (with_key key (in_document n os) ++ more) ≡ own_posting kept key n os (grouped_said kept more)
        → grouped_said kept (with_key key (in_document n (o ∷ os)) ++ more) ≡ own_posting kept key n (o ∷ os) (grouped_said kept more)
    by true is ih = rw is (at (has_key key os) kept refl ih h)
    by false is ih = rw is ih

-- ---- of all documents

pub with_key-append : (key : List ℕ) (xs ys : List Said) → with_key key (xs ++ ys) ≡ with_key key xs ++ with_key key ys
with_key-append key [] ys = refl
with_key-append key (x ∷ xs) ys = by (bytes_eq x.key key) refl (with_key-append key xs ys)
  where
    by : (b : Bool) → bytes_eq x.key key ≡ b → with_key key (xs ++ ys) ≡ with_key key xs ++ with_key key ys → with_key key ((x ∷ xs) ++ ys) ≡ with_key key (x ∷ xs) ++ with_key key ys
    by true is ih = rw is (ap (λ (l : List Said). x ∷ l) ih)
    by false is ih = rw is ih

weaker : (n : ℕ) (qs : List Posting) → AllByRecursion (λ p. suc n ≤ p.document) qs → AllByRecursion (λ p. n ≤ p.document) qs
weaker n [] h = tt
weaker n (q ∷ qs) h = (omega (arith, h.0), weaker n qs h.1)

pub posted_from : (s : Schema) (key : List ℕ) (n : ℕ) (ds : List Placed) → AllByRecursion (λ p. n ≤ p.document) (posted s key n ds)
posted_from s key n [] = tt
posted_from s key n (d ∷ ds) = by (has_key key (keys_of s d.doc)) refl (weaker n (posted s key (suc n) ds) (posted_from s key (suc n) ds))
  where
    by : (b : Bool) → has_key key (keys_of s d.doc) ≡ b → AllByRecursion (λ p. n ≤ p.document) (posted s key (suc n) ds) → AllByRecursion (λ p. n ≤ p.document) (posted s key n (d ∷ ds))
    by true is rest = rw is (omega arith, rest)
    by false is rest = rw is rest

first_above : (n : ℕ) (qs : List Posting) → AllByRecursion (λ p. suc n ≤ p.document) qs → IsFirstAbove n qs
first_above n [] h = tt
first_above n (q ∷ qs) h = omega (arith, h.0)

pub grouped-posted : (s : Schema) (key : List ℕ) (n : ℕ) (ds : List Placed) → grouped_said (keeps_places s key) (with_key key (said_from s n ds)) ≡ posted s key n ds
grouped-posted s key n [] = refl
grouped-posted s key n (d ∷ ds) =
    let ih = grouped-posted s key (suc n) ds in
    let above = first_above n (posted s key (suc n) ds) (posted_from s key (suc n) ds) in
    ap (λ (l : List Said). grouped_said (keeps_places s key) l) (with_key-append key (in_document n (keys_of s d.doc)) (said_from s (suc n) ds))
    ∙ of_document (keeps_places s key) key n (keys_of s d.doc) (with_key key (said_from s (suc n) ds)) (subst (λ (qs : List Posting). IsFirstAbove n qs) (sym ih) above)
    ∙ ap (λ (qs : List Posting). own_posting (keeps_places s key) key n (keys_of s d.doc) qs) ih

-- ---- the documents rise

rise_of : (n : ℕ) (qs : List Posting) → AllByRecursion (λ p. suc n ≤ p.document) qs → AllByRecursion (λ m. n < m) (documents qs)
rise_of n [] h = tt
rise_of n (q ∷ qs) h = (omega (arith, h.0), rise_of n qs h.1)

pub posted_rise : (s : Schema) (key : List ℕ) (n : ℕ) (ds : List Placed) → AreRising (documents (posted s key n ds))
posted_rise s key n [] = tt
posted_rise s key n (d ∷ ds) = by (has_key key (keys_of s d.doc)) refl (posted_rise s key (suc n) ds)
  where
    by : (b : Bool) → has_key key (keys_of s d.doc) ≡ b → AreRising (documents (posted s key (suc n) ds)) → AreRising (documents (posted s key n (d ∷ ds)))
    by true is rest = rw is (rise_of n (posted s key (suc n) ds) (posted_from s key (suc n) ds), rest)
    by false is rest = rw is rest

pub posted_few : (s : Schema) (key : List ℕ) (n : ℕ) (ds : List Placed) → length (posted s key n ds) ≤ length ds
posted_few s key n [] = omega arith
posted_few s key n (d ∷ ds) = by (has_key key (keys_of s d.doc)) refl (posted_few s key (suc n) ds)
  where
    by : (b : Bool) → has_key key (keys_of s d.doc) ≡ b → length (posted s key (suc n) ds) ≤ length ds → length (posted s key n (d ∷ ds)) ≤ length (d ∷ ds)
    by true is ih = rw is (omega (arith, ih))
    by false is ih = rw is (omega (arith, ih))
