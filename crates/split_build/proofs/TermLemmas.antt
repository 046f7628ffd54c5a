-- A dictionary that grows by a key and its list.
use Rattle.std.proofs.Common.{◌≡◌, ℕ, suc, ◌+◌, ◌<◌, ◌^◌, Bool, true, false, List, [], ◌∷◌, ◌++◌, map, length, refl, sym, ◌∙◌, ap, arith, length-append, append_assoc}
use Rattle.std.proofs.lemmas.List.{append-nil}
use Rattle.std.specs.Prelude.{if◌then◌else◌}
use Rattle.std.specs.List.{AllByRecursion, flat_map}
use Rattle.doc_value.specs.declared.schema.Schema.{Schema}
use Rattle.doc_value.specs.Documents.{IsSchema}
use Rattle.term_dict.specs.declared.term.Term.{Term}
use Rattle.term_dict.specs.Keys.{is_below}
use Rattle.term_dict.specs.Terms.{IsRising}
use Rattle.term_postings.specs.declared.list.Posting.{Posting}
use Rattle.term_postings.specs.Postings.{AreRising as NumbersRise, MayHave, documents}
use Rattle.split_bundle.specs.declared.placed.Placed.{Placed}
use Rattle.split_bundle.specs.Keys.{keys_of}
use Rattle.split_bundle.specs.Lists.{has_key, places_of, keeps_places, posted, posting_list, list_of, places_in, term_of, terms_from, terms_of}
use Rattle.split_bundle.specs.Splits.{AreRising}
use Rattle.split_build.specs.Said.{Said, said_from, with_key, places_kept}
use Rattle.split_build.specs.Grouped.{grouped}
use Rattle.split_build.specs.Walks.{IsShortDoc}
use Rattle.split_build.specs.WrittenTerms.{IsListOf, CanBeListed}
use Rattle.split_build.proofs.PostedLemmas.{grouped-said, grouped-posted, posted_rise, posted_few}
use Rattle.split_build.proofs.PlacesLemmas.{places_rise}

-- ---- the list of a key

pub list_posted : (s : Schema) (ds : List Placed) (key numbers places : List ℕ) → IsListOf s ds key numbers places → grouped (keeps_places s key) numbers places ≡ posting_list s ds key
list_posted s ds key numbers places h =
    ap (λ (ns : List ℕ). grouped (keeps_places s key) ns places) h.documents_are ∙ ap (λ (ps : List ℕ). grouped (keeps_places s key) (map (λ (o : Said). o.document) (with_key key (said_from s 0 ds))) ps) h.places_are
    ∙ grouped-said (keeps_places s key) (with_key key (said_from s 0 ds)) ∙ grouped-posted s key 0 ds

sizes : (os : List Said) → length (map (λ (o : Said). o.place) os) ≡ length (map (λ (o : Said). o.document) os)
sizes [] = refl
sizes (o ∷ os) = omega (arith, sizes os)

pub list_sizes : (s : Schema) (ds : List Placed) (key numbers places : List ℕ) → IsListOf s ds key numbers places → keeps_places s key ≡ true → length places ≡ length numbers
list_sizes s ds key numbers places h kept =
    let os = with_key key (said_from s 0 ds) in
    ap (λ (ps : List ℕ). length ps) (h.places_are ∙ ap (λ (b : Bool). places_kept b (with_key key (said_from s 0 ds))) kept) ∙ sizes (with_key key (said_from s 0 ds)) ∙ ap (λ (ns : List ℕ). length ns) (sym h.documents_are)

pub list_rises : (s : Schema) (ds : List Placed) (key : List ℕ) → NumbersRise (documents (posting_list s ds key))
list_rises s ds key = posted_rise s key 0 ds

abbrev pub CanPost : Bool → List Posting → Type 0
CanPost kept ps = AllByRecursion (λ p. NumbersRise p.positions × MayHave kept p.positions) ps

can_post : (s : Schema) (key : List ℕ) (n : ℕ) (ds : List Placed) → IsSchema s → AllByRecursion (λ d. IsShortDoc d.doc) ds → CanPost (keeps_places s key) (posted s key n ds)
can_post s key n [] schema short = tt
can_post s key n (d ∷ ds) schema short = by (has_key key (keys_of s d.doc)) refl (can_post s key (suc n) ds schema short.1)
  where
    own : (kept : Bool) → keeps_places s key ≡ kept → NumbersRise (if kept then places_of key (keys_of s d.doc) else []) × MayHave kept (if kept then places_of key (keys_of s d.doc) else [])
    own true is = (places_rise s d.doc key schema short.0 is, tt)
    own false is = (tt, refl)

    by : (b : Bool) → has_key key (keys_of s d.doc) ≡ b → CanPost (keeps_places s key) (posted s key (suc n) ds) → CanPost (keeps_places s key) (posted s key n (d ∷ ds))
    by true is rest = rw is (own (keeps_places s key) refl, rest)
    by false is rest = rw is rest

pub list_posts : (s : Schema) (ds : List Placed) (key : List ℕ) → CanBeListed s ds → CanPost (keeps_places s key) (posting_list s ds key)
list_posts s ds key h = can_post s key 0 ds h.schema h.short

pub list_few : (s : Schema) (ds : List Placed) (key : List ℕ) → CanBeListed s ds → length (posting_list s ds key) < 2 ^ 32
list_few s ds key h = omega (arith, h.few, posted_few s key 0 ds)

-- ---- the terms of keys

pub flat_push : (f : List ℕ → List ℕ) (ks : List (List ℕ)) (k : List ℕ) → flat_map f (ks ++ k ∷ []) ≡ flat_map f ks ++ f k
flat_push f [] k = append-nil (f k)
flat_push f (x ∷ xs) k = ap (λ (l : List ℕ). f x ++ l) (flat_push f xs k) ∙ sym (append_assoc (f x) (flat_map f xs) (f k))

terms_push : (s : Schema) (ds : List Placed) (start place : ℕ) (ks : List (List ℕ)) (k : List ℕ) → terms_from s ds start place (ks ++ k ∷ [])
    ≡ terms_from s ds start place ks ++ term_of s ds k (start + length (flat_map (list_of s ds) ks)) (place + length (flat_map (places_in s ds) ks)) ∷ []
terms_push s ds start place [] k =
    let a : start ≡ start + 0 = omega arith in
    let b : place ≡ place + 0 = omega arith in
    ap (λ (n : ℕ). term_of s ds k n place ∷ []) a ∙ ap (λ (m : ℕ). term_of s ds k (start + 0) m ∷ []) b
terms_push s ds start place (x ∷ xs) k =
    let ih = terms_push s ds (start + length (list_of s ds x)) (place + length (places_in s ds x)) xs k in
    let a : start + length (list_of s ds x) + length (flat_map (list_of s ds) xs) ≡ start + length (list_of s ds x ++ flat_map (list_of s ds) xs) = omega (arith, length-append (list_of s ds x) (flat_map (list_of s ds) xs)) in
    let b : place + length (places_in s ds x) + length (flat_map (places_in s ds) xs) ≡ place + length (places_in s ds x ++ flat_map (places_in s ds) xs) = omega (arith, length-append (places_in s ds x) (flat_map (places_in s ds) xs)) in
    let before = terms_from s ds (start + length (list_of s ds x)) (place + length (places_in s ds x)) xs in
    ap (λ (l : List Term). term_of s ds x start place ∷ l)
    (ih ∙ ap (λ (n : ℕ). terms_from s ds (start + length (list_of s ds x)) (place + length (places_in s ds x)) xs ++ term_of s ds k n (place + length (places_in s ds x) + length (flat_map (places_in s ds) xs)) ∷ []) a
    ∙ ap (λ (m : ℕ). terms_from s ds (start + length (list_of s ds x)) (place + length (places_in s ds x)) xs ++ term_of s ds k (start + length (list_of s ds x ++ flat_map (list_of s ds) xs)) m ∷ []) b)

pub terms_more : (s : Schema) (ds : List Placed) (ks : List (List ℕ)) (k : List ℕ)
    → terms_of s ds (ks ++ k ∷ []) ≡ terms_of s ds ks ++ term_of s ds k (length (flat_map (list_of s ds) ks)) (length (flat_map (places_in s ds) ks)) ∷ []
terms_more s ds ks k =
    let a : 0 + length (flat_map (list_of s ds) ks) ≡ length (flat_map (list_of s ds) ks) = omega arith in
    let b : 0 + length (flat_map (places_in s ds) ks) ≡ length (flat_map (places_in s ds) ks) = omega arith in
    terms_push s ds 0 0 ks k ∙ ap (λ (n : ℕ). terms_of s ds ks ++ term_of s ds k n (0 + length (flat_map (places_in s ds) ks)) ∷ []) a
    ∙ ap (λ (m : ℕ). terms_of s ds ks ++ term_of s ds k (length (flat_map (list_of s ds) ks)) m ∷ []) b

above_all : (s : Schema) (ds : List Placed) (k : List ℕ) (start place : ℕ) (ks : List (List ℕ)) → AllByRecursion (λ u. is_below k u ≡ true) ks → AllByRecursion (λ (u : Term). is_below k u.key ≡ true) (terms_from s ds start place ks)
above_all s ds k start place [] h = tt
above_all s ds k start place (x ∷ xs) h = (h.0, above_all s ds k (start + length (list_of s ds x)) (place + length (places_in s ds x)) xs h.1)

pub terms_rise : (s : Schema) (ds : List Placed) (start place : ℕ) (ks : List (List ℕ)) → AreRising ks → IsRising (terms_from s ds start place ks)
terms_rise s ds start place [] h = tt
terms_rise s ds start place (x ∷ xs) h =
    (above_all s ds x (start + length (list_of s ds x)) (place + length (places_in s ds x)) xs h.0, terms_rise s ds (start + length (list_of s ds x)) (place + length (places_in s ds x)) xs h.1)

-- the keys up to one of rising keys rise
front_all : (P : List ℕ → Type 0) (xs ys : List (List ℕ)) → AllByRecursion P (xs ++ ys) → AllByRecursion P xs
front_all P [] ys h = tt
front_all P (x ∷ xs) ys h = (h.0, front_all P xs ys h.1)

pub front_rises : (xs ys : List (List ℕ)) → AreRising (xs ++ ys) → AreRising xs
front_rises [] ys h = tt
front_rises (x ∷ xs) ys h = (front_all (λ u. is_below x u ≡ true) xs ys h.0, front_rises xs ys h.1)

-- the rows of a list are its key's posting list
pub rows_posted : (s : Schema) (ds : List Placed) (key numbers places : List ℕ) (kept : Bool) (rows : List Posting) → IsListOf s ds key numbers places → kept ≡ keeps_places s key → rows ≡ grouped kept numbers places → rows ≡ posting_list s ds key
rows_posted s ds key numbers places kept rows h kept_is is = is ∙ ap (λ (b : Bool). grouped b numbers places) kept_is ∙ list_posted s ds key numbers places h
