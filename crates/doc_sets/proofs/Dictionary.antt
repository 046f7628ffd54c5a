-- A key that a dictionary has not is no document's.
use Rattle.std.proofs.Common.{◌≡◌, ℕ, zero, suc, ◌+◌, ◌<◌, Bool, true, false, ◌||◌, cond, List, [], ◌∷◌, length, get_or, slice_get, Option, Some, None, IsTrue, refl, sym, ap, subst, ◌∙◌, arith}
use Rattle.std.proofs.lemmas.Bool.{or_parts}
use Rattle.std.specs.Str.{bytes_eq}
use Rattle.std.proofs.lemmas.Map.Text.{is_eq-slice_cmp}
use Rattle.std.proofs.lemmas.Slice.Eq.{bytes_eq-Decides}
use Rattle.doc_value.specs.declared.schema.Schema.{Schema}
use Rattle.term_dict.specs.Terms.{lookup}
use Rattle.term_dict.specs.declared.term.TermInfo.{TermInfo}
use Rattle.split_bundle.specs.declared.placed.Placed.{Placed}
use Rattle.split_bundle.specs.Keys.{keys_of}
use Rattle.split_bundle.specs.Lists.{has_key, stands_in, list_of, places_in, term_of, terms_from, terms_of}
use Rattle.split_bundle.specs.Splits.{AreKeys}

module _ (s : Schema) (ds : List Placed) (key : List ℕ) where
  abbrev info_of : List ℕ → ℕ → ℕ → TermInfo
  info_of k start place = (term_of s ds k start place).info

  abbrev none : Option TermInfo
  none = None

  found_by : (b : Bool) (i : TermInfo) (rest : Option TermInfo) → b ≡ true → cond b (Some i) rest ≡ none → ⊥
  found_by true i rest test e = cc
  found_by false i rest test e = let x : false ≡ true = test in cc

  behind_by : (b : Bool) (i : TermInfo) (rest : Option TermInfo) → cond b (Some i) rest ≡ none → rest ≡ none
  behind_by true i rest e = absurd (let x : Some i ≡ none = e in cc)
  behind_by false i rest e = e

  listed_is_found : (keys : List (List ℕ)) (start place k : ℕ) → k < length keys → get_or keys k key ≡ key → lookup key (terms_from s ds start place keys) ≡ none → ⊥
  listed_is_found [] start place k lt e found = omega arith
  listed_is_found (x ∷ xs) start place zero lt e found =
      let test : cond (bytes_eq x key) (Some (info_of x start place)) (lookup key (terms_from s ds (start + length (list_of s ds x)) (place + length (places_in s ds x)) xs)) ≡ none =
      subst (λ (b : Bool). cond b (Some (info_of x start place)) (lookup key (terms_from s ds (start + length (list_of s ds x)) (place + length (places_in s ds x)) xs)) ≡ none) (is_eq-slice_cmp x key) found in
      found_by (bytes_eq x key) (info_of x start place) _ ((bytes_eq-Decides x key).1 e) test
  listed_is_found (x ∷ xs) start place (suc k) lt e found =
      let test : cond (bytes_eq x key) (Some (info_of x start place)) (lookup key (terms_from s ds (start + length (list_of s ds x)) (place + length (places_in s ds x)) xs)) ≡ none =
      subst (λ (b : Bool). cond b (Some (info_of x start place)) (lookup key (terms_from s ds (start + length (list_of s ds x)) (place + length (places_in s ds x)) xs)) ≡ none) (is_eq-slice_cmp x key) found in
      listed_is_found xs (start + length (list_of s ds x)) (place + length (places_in s ds x)) k (omega arith) e (behind_by (bytes_eq x key) (info_of x start place) _ test)

  not_true : (b : Bool) → (IsTrue b → ⊥) → b ≡ false
  not_true false h = refl
  not_true true h = absurd (h refl)

  pub no_document : (keys : List (List ℕ)) → AreKeys s ds keys → lookup key (terms_of s ds keys) ≡ none → stands_in s key ds ≡ false
  no_document keys are found = not_true (stands_in s key ds) (λ stands. let listed = (are.exact key).1 stands in listed_is_found keys 0 0 listed.0 listed.1 listed.2 found)

-- a key that stands in no document is not one of a document among them
pub not_here : (s : Schema) (key : List ℕ) (i : ℕ) (d : Placed) (ds : List Placed) → slice_get ds i ≡ Some d → stands_in s key ds ≡ false → has_key key (keys_of s d.doc) ≡ false
not_here s key i d [] got none = absurd (cc)
not_here s key zero d (x ∷ xs) got none = let same : x ≡ d = cc in ap (λ y. has_key key (keys_of s y.doc)) (sym same) ∙ (or_parts (has_key key (keys_of s x.doc)) (stands_in s key xs) none).0
not_here s key (suc i) d (x ∷ xs) got none = not_here s key i d xs got (or_parts (has_key key (keys_of s x.doc)) (stands_in s key xs) none).1
