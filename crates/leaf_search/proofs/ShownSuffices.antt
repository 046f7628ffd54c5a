-- The ranges that a request needs in rounds suffice.
use Rattle.std.proofs.Common.{◌≡◌, ℕ, ◌<◌, ◌⊎◌, inl, inr, Bool, true, false, Result, Ok, Err, MatchResult, List, refl}
use Rattle.doc_value.specs.declared.schema.Schema.{Schema}
use Rattle.split_bundle.specs.declared.part_view.PartView.{PartView}
use Rattle.split_bundle.specs.declared.placed.Placed.{Placed}
use Rattle.split_bundle.specs.Files.{Parts}
use Rattle.split_bundle.specs.Lending.{IsPartOf}
use Rattle.doc_sets.specs.declared.leaf_error.LeafError.{LeafError}
use Rattle.doc_sets.specs.Faults.{LacksPart, IsMemory}
use Rattle.doc_tallies.specs.Causes.{AsksDocument, AsksDocuments, AsksHits}
use Rattle.leaf_search.specs.Answers.{AsksLeaf, passes}
use Rattle.leaf_search.specs.FileRanges.{AreRangesOf, HasPart, SomeRange}
use Rattle.leaf_search.specs.Needs.{AreHeld, NeedsBlocks}
use Rattle.leaf_search.specs.Numbers.{numbers_of}
use Rattle.leaf_search.specs.Shown.{NeedsListed, NeedsShown, NeedsStarts, are_few, shown_of}
use Rattle.leaf_search.specs.declared.file_ranges.FileRange.{FileRange}
use Rattle.leaf_search.specs.declared.request.LeafRequest.{LeafRequest}
use Rattle.leaf_search.proofs.ShownParts.{shown_below}
use Rattle.leaf_search.proofs.Suffices.{document_within, held_memory, range_there, wider_part}

module _ (v : PartView) (s : Schema) (ds : List Placed) (p : Parts) (part : IsPartOf v s ds p) (r : LeafRequest) (blocks listed starts shown : List FileRange) (b : AreRangesOf (NeedsBlocks v s ds p r) blocks)
    (l : AreRangesOf (NeedsListed v s ds p r) listed) (st : AreRangesOf (NeedsStarts v s ds r) starts) (sh : AreRangesOf (NeedsShown s ds p r) shown) where
  -- a document that may be shown
  document_paged : 0 < r.wanted → (at len : ℕ) → AsksDocuments p ds (shown_of s r ds) at len → SomeRange (HasPart at len) starts ⊎ SomeRange (HasPart at len) shown
  document_paged wanted at len d = go (are_few s r ds) refl d.document
    where
      go : (few : Bool) → are_few s r ds ≡ few → AsksDocument p ds d.number at len → SomeRange (HasPart at len) starts ⊎ SomeRange (HasPart at len) shown
      go true few (inl h) = inl (st.cover at len (inl (few, record { number = d.number; among = d.among; is_part = h })))
      go true few (inr h) = inr (sh.cover at len (few, record { number = d.number; among = d.among; is_part = h }))
      go false few h =
          let within = document_within v s ds p part d.number at len (shown_below s r ds d.number d.among) h in
          inl (wider_part starts 4 v.footer.layout.sections.documents at len within.0 within.1 (st.cover 4 v.footer.layout.sections.documents (inr (few, (wanted, refl, refl)))))

  -- each part that a request asks for lies in a range of some round
  part_paged : (at len : ℕ) → AsksLeaf v s ds p r at len → SomeRange (HasPart at len) blocks ⊎ (SomeRange (HasPart at len) listed ⊎ (SomeRange (HasPart at len) starts ⊎ SomeRange (HasPart at len) shown))
  part_paged at len (inl h) = inl (b.cover at len h)
  part_paged at len (inr (inl h)) = inr (inl (l.cover at len (inl h)))
  part_paged at len (inr (inr (inl h))) = inr (inl (l.cover at len (inr (inl h))))
  part_paged at len (inr (inr (inr (inl h)))) = inr (inl (l.cover at len (inr (inr (inl h)))))
  part_paged at len (inr (inr (inr (inr h)))) = hits h.wanted h.asks
    where
      hits : 0 < r.wanted → AsksHits v p ds r.order r.wanted (numbers_of (passes s r) ds) at len → SomeRange (HasPart at len) blocks ⊎ (SomeRange (HasPart at len) listed ⊎ (SomeRange (HasPart at len) starts ⊎ SomeRange (HasPart at len) shown))
      hits wanted (inl f) = inr (inl (l.cover at len (inr (inr (inr (wanted, f))))))
      hits wanted (inr d) = inr (inr (document_paged wanted at len d))

  -- an answer whose fault is one of a part that is asked for is one, or want of memory, where the ranges of all rounds are held
  pub paged_result : {X : Type 0} (good : X → Type 0) (result : Result X LeafError) → AreHeld v.pieces blocks → AreHeld v.pieces listed → AreHeld v.pieces starts → AreHeld v.pieces shown
      → MatchResult result good (LacksPart (AsksLeaf v s ds p r) v.pieces) → MatchResult result good IsMemory
  paged_result good (Ok x) in_blocks in_listed in_starts in_shown h = h
  paged_result good (Err e) in_blocks in_listed in_starts in_shown h =
      held_memory (AsksLeaf v s ds p r) v.pieces e
      (λ at len asked. elim (part_paged at len asked) [
        | inl x ↦ range_there v.pieces blocks at len in_blocks x
        | inr (inl x) ↦ range_there v.pieces listed at len in_listed x
        | inr (inr (inl x)) ↦ range_there v.pieces starts at len in_starts x
        | inr (inr (inr x)) ↦ range_there v.pieces shown at len in_shown x
      ]) h
