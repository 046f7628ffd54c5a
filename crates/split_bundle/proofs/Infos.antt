-- Where the lists of a term stand.
use Rattle.std.proofs.Common.{◌≡◌, ℕ, ◌+◌, ◌≤◌, Bool, true, false, cond, List, [], ◌∷◌, ◌++◌, length, take, drop, Option, Some, refl, sym, ap, subst, ◌∙◌, arith, append_assoc, length-append}
use Rattle.std.specs.List.{flat_map, AllByRecursion}
use Rattle.std.specs.Str.{bytes_eq}
use Rattle.std.proofs.Math.Seq.{drop-append_seam}
use Rattle.std.proofs.lemmas.List.{take_at}
use Rattle.std.proofs.lemmas.Map.Text.{is_eq-slice_cmp}
use Rattle.std.proofs.lemmas.Slice.Eq.{bytes_eq-Decides}
use Rattle.doc_value.specs.declared.schema.Schema.{Schema}
use Rattle.term_dict.specs.Terms.{lookup}
use Rattle.term_dict.specs.declared.term.TermInfo.{TermInfo}
use Rattle.term_postings.specs.Postings.{AreDocuments}
use Rattle.split_bundle.specs.declared.placed.Placed.{Placed}
use Rattle.split_bundle.specs.Files.{Parts}
use Rattle.split_bundle.specs.Lists.{keeps_places, posting_list, list_of, places_in, term_of, terms_from, terms_of}
use Rattle.split_bundle.specs.Splits.{IsSplitOf}
use Rattle.split_bundle.specs.Lending.{IsListAt}

-- the first of some pieces behind others
pub piece_behind : (whole front piece behind : List ℕ) (start : ℕ) → whole ≡ front ++ (piece ++ behind) → start ≡ length front
    → (start + length piece ≤ length whole) × (take (length piece) (drop start whole) ≡ piece)
piece_behind whole front piece behind start e is = (
  omega (arith, ap (λ (l : List ℕ). length l) e, length-append front (piece ++ behind), length-append piece behind),
  ap (λ (l : List ℕ). take (length piece) (drop start l)) e ∙ ap (λ (n : ℕ). take (length piece) (drop n (front ++ (piece ++ behind)))) is
      ∙ ap (λ (l : List ℕ). take (length piece) l) (drop-append_seam front (piece ++ behind)) ∙ take_at piece behind (length piece) refl,
)

module _ (s : Schema) (ds : List Placed) (p : Parts) (key : List ℕ) (info : TermInfo) where
  abbrev info_of : List ℕ → ℕ → ℕ → TermInfo
  info_of k start place = (term_of s ds k start place).info

  abbrev one : TermInfo → Option TermInfo
  one i = Some i

  one_is : (x y : TermInfo) → one x ≡ one y → x ≡ y
  one_is x y e = cc

  -- the lists of a key stand where its numbers say
  listed : (k : List ℕ) (start place : ℕ) (front front_places behind behind_places : List ℕ) → AreDocuments (keeps_places s k) (posting_list s ds k)
      → p.postings ≡ front ++ (list_of s ds k ++ behind) → p.positions ≡ front_places ++ (places_in s ds k ++ behind_places) → start ≡ length front → place ≡ length front_places
      → IsListAt p (info_of k start place) (keeps_places s k) (posting_list s ds k)
  unfolding list_of places_in
  listed k start place front front_places behind behind_places are postings positions start_is place_is =
      let a = piece_behind p.postings front (list_of s ds k) behind start postings start_is in
      let b = piece_behind p.positions front_places (places_in s ds k) behind_places place positions place_is in
      record { are_documents = are; docs = refl; postings_within = a.0; postings = a.1; positions_within = b.0; positions = b.1 }

  abbrev Sought : Type 0
  Sought = IsListAt p info (keeps_places s key) (posting_list s ds key)

  -- a key that is another one's is the one sought, or else it is behind
  sought_by : (b : Bool) (k : List ℕ) (start place : ℕ) (rest : Option TermInfo) → bytes_eq k key ≡ b → cond b (one (info_of k start place)) rest ≡ one info
      → IsListAt p (info_of k start place) (keeps_places s k) (posting_list s ds k) → (rest ≡ one info → Sought) → Sought
  sought_by true k start place rest test e here later =
      let key_is : k ≡ key = (bytes_eq-Decides k key).0 test in
      let info_is : info_of k start place ≡ info = one_is (info_of k start place) info e in
      subst (λ (i : TermInfo). IsListAt p i (keeps_places s key) (posting_list s ds key)) info_is (subst (λ (l : List ℕ). IsListAt p (info_of k start place) (keeps_places s l) (posting_list s ds l)) key_is here)
  sought_by false k start place rest test e here later = later e

  pub info_in : (keys : List (List ℕ)) (start place : ℕ) (front front_places : List ℕ) → AllByRecursion (λ k. AreDocuments (keeps_places s k) (posting_list s ds k)) keys
      → p.postings ≡ front ++ flat_map (list_of s ds) keys → p.positions ≡ front_places ++ flat_map (places_in s ds) keys → start ≡ length front → place ≡ length front_places
      → lookup key (terms_from s ds start place keys) ≡ one info → Sought
  info_in [] start place front front_places are postings positions start_is place_is e = absurd cc
  info_in (k ∷ ks) start place front front_places are postings positions start_is place_is e =
      let rest = lookup key (terms_from s ds (start + length (list_of s ds k)) (place + length (places_in s ds k)) ks) in
      let test : cond (bytes_eq k key) (one (info_of k start place)) rest ≡ one info = subst (λ (b : Bool). cond b (one (info_of k start place)) rest ≡ one info) (is_eq-slice_cmp k key) e in
      sought_by (bytes_eq k key) k start place rest refl test
      (listed k start place front front_places (flat_map (list_of s ds) ks) (flat_map (places_in s ds) ks) are.0 postings positions start_is place_is)
      (λ later. info_in ks (start + length (list_of s ds k)) (place + length (places_in s ds k)) (front ++ list_of s ds k) (front_places ++ places_in s ds k) are.1
      (postings ∙ sym (append_assoc front (list_of s ds k) (flat_map (list_of s ds) ks))) (positions ∙ sym (append_assoc front_places (places_in s ds k) (flat_map (places_in s ds) ks)))
      (omega (arith, start_is, length-append front (list_of s ds k))) (omega (arith, place_is, length-append front_places (places_in s ds k))) later)

  pub info_found : IsSplitOf s ds p → lookup key (terms_of s ds p.keys) ≡ one info → Sought
  info_found is e = info_in p.keys 0 0 [] [] is.lists is.postings is.positions refl refl e
