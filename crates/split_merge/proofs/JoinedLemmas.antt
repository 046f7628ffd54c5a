-- A key is written behind others.
use Rattle.std.proofs.Common.{◌≡◌, ℕ, ◌+◌, List, [], ◌∷◌, ◌++◌, length, sym, ◌∙◌, ap, subst, arith, length-append}
use Rattle.std.specs.List.{flat_map}
use Rattle.doc_value.specs.declared.schema.Schema.{Schema}
use Rattle.term_dict.specs.declared.term.Term.{Term}
use Rattle.term_dict.specs.declared.term.TermInfo.{TermInfo}
use Rattle.term_dict.specs.Builders.{HasTaken, term_with}
use Rattle.term_postings.specs.Postings.{AreDocuments}
use Rattle.term_postings.proofs.Lists.{all_both}
use Rattle.split_bundle.specs.declared.placed.Placed.{Placed}
use Rattle.split_bundle.specs.Lists.{keeps_places, posting_list, list_of, places_in, term_of, terms_of}
use Rattle.split_build.proofs.TermLemmas.{flat_push, terms_more}
use Rattle.split_build.proofs.WrittenLemmas.{IsListed, IsInfo}
use Rattle.split_merge.specs.declared.terms.JoinedTerms.{JoinedTerms}
use Rattle.split_merge.specs.Terms.{HasJoined}

longer : (xs ys zs : List ℕ) → zs ≡ xs ++ ys → length zs ≡ length xs + length ys
longer xs ys zs is = ap (λ (l : List ℕ). length l) is ∙ length-append xs ys

module _ (s : Schema) (ds : List Placed) (keys : List (List ℕ)) (key : List ℕ) (info : TermInfo) (old : JoinedTerms) (now_postings now_positions : List ℕ) (h : HasJoined old s ds keys)
    (l : IsListed s ds key old.postings.items old.positions.items now_postings now_positions) where
  pub term_is : IsInfo s ds key info old.postings.items old.positions.items now_postings now_positions → terms_of s ds keys ++ term_with key info ∷ [] ≡ terms_of s ds (keys ++ key ∷ [])
  term_is i =
      let start : info.postings ≡ length (flat_map (list_of s ds) keys) = i.postings_start ∙ ap (λ (x : List ℕ). length x) h.postings in
      let size : info.postings_len ≡ length (list_of s ds key) = omega (arith, i.postings_size, longer old.postings.items (list_of s ds key) now_postings l.postings_are) in
      let place : info.positions ≡ length (flat_map (places_in s ds) keys) = i.positions_start ∙ ap (λ (x : List ℕ). length x) h.positions in
      let places : info.positions_len ≡ length (places_in s ds key) = omega (arith, i.positions_size, longer old.positions.items (places_in s ds key) now_positions l.positions_are) in
      let same : term_with key info ≡ term_of s ds key (length (flat_map (list_of s ds) keys)) (length (flat_map (places_in s ds) keys)) =
      λ j. record { key = key; info = record { docs = i.docs j; postings = start j; postings_len = size j; positions = place j; positions_len = places j } } in
      ap (λ (t : Term). terms_of s ds keys ++ t ∷ []) same ∙ sym (terms_more s ds keys key)

  pub written_more : (new : JoinedTerms) → new.postings.items ≡ now_postings → new.positions.items ≡ now_positions → new.count ≡ old.count + 1 → terms_of s ds keys ++ term_with key info ∷ [] ≡ terms_of s ds (keys ++ key ∷ [])
      → HasTaken new.dictionary (terms_of s ds keys ++ term_with key info ∷ []) → HasJoined new s ds (keys ++ key ∷ [])
  written_more new postings positions count is taken = record {
    taken = subst (λ (ts : List Term). HasTaken new.dictionary ts) is taken;
    lists = all_both (λ k. AreDocuments (keeps_places s k) (posting_list s ds k)) keys (key ∷ []) h.lists (l.documents, tt);
    postings = postings ∙ l.postings_are ∙ ap (λ (x : List ℕ). x ++ list_of s ds key) h.postings ∙ sym (flat_push (list_of s ds) keys key);
    positions = positions ∙ l.positions_are ∙ ap (λ (x : List ℕ). x ++ places_in s ds key) h.positions ∙ sym (flat_push (places_in s ds) keys key);
    count = omega (arith, count, h.count, length-append keys (key ∷ []));
  }
