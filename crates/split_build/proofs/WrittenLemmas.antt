-- A key is written behind others.
use Rattle.std.proofs.Common.{◌≡◌, ℕ, ◌-◌, Bool, List, [], ◌∷◌, ◌++◌, length, refl, sym, ◌∙◌, ap, subst, arith, length-append}
use Rattle.std.specs.List.{AllByRecursion, flat_map}
use Rattle.doc_value.specs.declared.schema.Schema.{Schema}
use Rattle.term_dict.specs.declared.term.Term.{Term}
use Rattle.term_dict.specs.declared.term.TermInfo.{TermInfo}
use Rattle.term_dict.specs.Terms.{IsRising}
use Rattle.term_dict.specs.Builders.{HasTaken, term_with}
use Rattle.term_postings.specs.declared.list.Posting.{Posting}
use Rattle.term_postings.specs.Postings.{AreDocuments, list_bytes, position_bytes}
use Rattle.term_postings.specs.Rows.{AppendsList}
use Rattle.split_bundle.specs.declared.placed.Placed.{Placed}
use Rattle.split_bundle.specs.Lists.{keeps_places, posting_list, list_of, places_in, term_of, terms_of}
use Rattle.split_bundle.specs.Splits.{AreRising}
use Rattle.split_build.specs.declared.term_parts.TermWriter.{TermWriter}
use Rattle.split_build.specs.WrittenTerms.{HasWritten}
use Rattle.split_build.proofs.TermLemmas.{flat_push, terms_more, terms_rise}

list_is : (s : Schema) (ds : List Placed) (key : List ℕ) → list_of s ds key ≡ list_bytes (keeps_places s key) (posting_list s ds key)
unfolding list_of
list_is s ds key = refl

places_are : (s : Schema) (ds : List Placed) (key : List ℕ) → places_in s ds key ≡ position_bytes (posting_list s ds key)
unfolding places_in
places_are s ds key = refl

all_push : (P : List ℕ → Type 0) (ks : List (List ℕ)) (k : List ℕ) → AllByRecursion P ks → P k → AllByRecursion P (ks ++ k ∷ [])
all_push P [] k h p = (p, tt)
all_push P (x ∷ xs) k h p = (h.0, all_push P xs k h.1 p)

behind : (xs ys zs : List ℕ) → zs ≡ xs ++ ys → length zs - length xs ≡ length ys
behind xs ys zs is = omega (arith, ap (λ (l : List ℕ). length l) is, length-append xs ys)

-- what is known of a list that was appended
pub record IsListed (s : Schema) (ds : List Placed) (key : List ℕ) (postings positions now_postings now_positions : List ℕ) : Type 0 where
  pub documents : AreDocuments (keeps_places s key) (posting_list s ds key)
  pub postings_are : now_postings ≡ postings ++ list_of s ds key
  pub positions_are : now_positions ≡ positions ++ places_in s ds key

pub listed : (s : Schema) (ds : List Placed) (key : List ℕ) (kept : Bool) (ps : List Posting) (postings positions now_postings now_positions : List ℕ) → kept ≡ keeps_places s key → ps ≡ posting_list s ds key
    → AppendsList kept ps postings positions now_postings now_positions → IsListed s ds key postings positions now_postings now_positions
listed s ds key kept ps postings positions now_postings now_positions kept_is posted h =
    let at : AppendsList (keeps_places s key) (posting_list s ds key) postings positions now_postings now_positions =
    subst (λ (b : Bool). AppendsList b (posting_list s ds key) postings positions now_postings now_positions) kept_is
    (subst (λ (qs : List Posting). AppendsList kept qs postings positions now_postings now_positions) posted h) in
    record {
      documents = at.are_documents;
      postings_are = at.postings_are ∙ ap (λ (l : List ℕ). postings ++ l) (sym (list_is s ds key));
      positions_are = at.positions_are ∙ ap (λ (l : List ℕ). positions ++ l) (sym (places_are s ds key));
    }

-- the numbers of a key's term
pub record IsInfo (s : Schema) (ds : List Placed) (key : List ℕ) (info : TermInfo) (postings positions now_postings now_positions : List ℕ) : Type 0 where
  pub docs : info.docs ≡ length (posting_list s ds key)
  pub postings_start : info.postings ≡ length postings
  pub postings_size : info.postings_len ≡ length now_postings - length postings
  pub positions_start : info.positions ≡ length positions
  pub positions_size : info.positions_len ≡ length now_positions - length positions

pub term_is : (s : Schema) (ds : List Placed) (keys : List (List ℕ)) (key : List ℕ) (info : TermInfo) (w : TermWriter) (now_postings now_positions : List ℕ) → HasWritten w s ds keys
    → IsListed s ds key w.postings.items w.positions.items now_postings now_positions → IsInfo s ds key info w.postings.items w.positions.items now_postings now_positions
    → terms_of s ds keys ++ term_with key info ∷ [] ≡ terms_of s ds (keys ++ key ∷ [])
term_is s ds keys key info w now_postings now_positions h l i =
    let start : info.postings ≡ length (flat_map (list_of s ds) keys) = i.postings_start ∙ ap (λ (x : List ℕ). length x) h.postings in
    let size : info.postings_len ≡ length (list_of s ds key) = i.postings_size ∙ behind w.postings.items (list_of s ds key) now_postings l.postings_are in
    let place : info.positions ≡ length (flat_map (places_in s ds) keys) = i.positions_start ∙ ap (λ (x : List ℕ). length x) h.positions in
    let places : info.positions_len ≡ length (places_in s ds key) = i.positions_size ∙ behind w.positions.items (places_in s ds key) now_positions l.positions_are in
    let same : term_with key info ≡ term_of s ds key (length (flat_map (list_of s ds) keys)) (length (flat_map (places_in s ds) keys)) =
    λ j. record { key = key; info = record { docs = i.docs j; postings = start j; postings_len = size j; positions = place j; positions_len = places j } } in
    ap (λ (t : Term). terms_of s ds keys ++ t ∷ []) same ∙ sym (terms_more s ds keys key)

pub terms_go_on : (s : Schema) (ds : List Placed) (keys : List (List ℕ)) (key : List ℕ) (info : TermInfo) → AreRising (keys ++ key ∷ []) → terms_of s ds keys ++ term_with key info ∷ [] ≡ terms_of s ds (keys ++ key ∷ [])
    → IsRising (terms_of s ds keys ++ term_with key info ∷ [])
terms_go_on s ds keys key info rise is = subst (λ (ts : List Term). IsRising ts) (sym is) (terms_rise s ds 0 0 (keys ++ key ∷ []) rise)

pub written_more : (s : Schema) (ds : List Placed) (keys : List (List ℕ)) (key : List ℕ) (info : TermInfo) (old new : TermWriter) → HasWritten old s ds keys
    → IsListed s ds key old.postings.items old.positions.items new.postings.items new.positions.items → terms_of s ds keys ++ term_with key info ∷ [] ≡ terms_of s ds (keys ++ key ∷ [])
    → HasTaken new.dictionary (terms_of s ds keys ++ term_with key info ∷ []) → HasWritten new s ds (keys ++ key ∷ [])
written_more s ds keys key info old new h l is taken = record {
  taken = subst (λ (ts : List Term). HasTaken new.dictionary ts) is taken;
  lists = all_push (λ k. AreDocuments (keeps_places s k) (posting_list s ds k)) keys key h.lists l.documents;
  postings = l.postings_are ∙ ap (λ (x : List ℕ). x ++ list_of s ds key) h.postings ∙ sym (flat_push (list_of s ds) keys key);
  positions = l.positions_are ∙ ap (λ (x : List ℕ). x ++ places_in s ds key) h.positions ∙ sym (flat_push (places_in s ds) keys key);
}
