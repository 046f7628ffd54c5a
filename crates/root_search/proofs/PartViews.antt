-- A view of what is kept of a split has each part that a request asks for.
use Rattle.std.proofs.Common.{◌≡◌, ◌≢◌, ℕ, ◌+◌, ◌-◌, ◌<◌, ◌≤◌, ◌⊎◌, inl, inr, Bool, true, false, refl, min, List, [], ◌∷◌, ◌++◌, length, take, drop, Option, Some, None, ap, sym, ◌∙◌, subst, arith, length-drop, length-take}
use Rattle.std.specs.List.{AllZip}
use Rattle.std.proofs.lemmas.List.{take-append-drop}
use Rattle.doc_value.specs.declared.schema.Schema.{Schema}
use Rattle.split_bundle.specs.Files.{Parts, file_bytes}
use Rattle.split_bundle.specs.Lending.{IsPartOf}
use Rattle.split_bundle.specs.Pieces.{ArePieces, IsPieceOf, held_in, part_in}
use Rattle.split_bundle.specs.Splits.{IsSplitOf}
use Rattle.split_bundle.specs.Views.{IsFooterOf}
use Rattle.split_bundle.specs.declared.footer.Footer.{Footer}
use Rattle.split_bundle.specs.declared.part_view.PartView.{PartView}
use Rattle.split_bundle.specs.declared.pieces.FilePiece.{FilePiece}
use Rattle.split_bundle.specs.declared.placed.Placed.{Placed}
use Rattle.split_bundle.specs.declared.pieces.Section.TheVariants.{Documents}
use Rattle.split_bundle.proofs.SectionBytes.{section_within}
use Rattle.doc_sets.proofs.WithinFile.{lookups_within}
use Rattle.doc_tallies.specs.Cells.{IsFast}
use Rattle.doc_tallies.specs.Causes.{AsksDocument, AsksDocuments, AsksHits}
use Rattle.doc_tallies.specs.Orders.{IsSortable, sort_field}
use Rattle.doc_tallies.specs.declared.hit_order.HitOrder.{HitOrder}
use Rattle.leaf_search.specs.Answers.{AsksLeaf, IsAsked, passes}
use Rattle.leaf_search.specs.Counts.{request_lookups}
use Rattle.leaf_search.specs.FileRanges.{AreRangesOf, HasPart, SomeRange}
use Rattle.leaf_search.specs.Needs.{NeedsBlocks}
use Rattle.leaf_search.specs.Numbers.{numbers_of}
use Rattle.leaf_search.specs.Shown.{NeedsListed, NeedsShown, NeedsStarts, TellsShown, are_few, shown_of}
use Rattle.leaf_search.specs.declared.file_ranges.FileRange.{FileRange}
use Rattle.leaf_search.specs.declared.request.LeafRequest.{LeafRequest}
use Rattle.leaf_search.proofs.ColumnParts.{timestamp_fast}
use Rattle.leaf_search.proofs.Counted.{over_fast}
use Rattle.leaf_search.proofs.ReadBounds.{column_between}
use Rattle.leaf_search.proofs.ShownParts.{shown_below}
use Rattle.leaf_search.proofs.Suffices.{behind_there, document_within, else_there, inside_there, none, wider_part}
use Rattle.root_search.specs.Leaves.{HasAsked}
use Rattle.root_search.specs.FetchedSplits.{HasNeeded, HoldsBlocks, HoldsListed, HoldsStarts, IsLentOf, over, piece_at, pieces_at}
use Rattle.root_search.specs.declared.fetched_splits.FetchedSplit.{FetchedSplit}
use Rattle.root_search.specs.declared.fetched_splits.KeptPiece.{KeptPiece}
use Rattle.root_search.proofs.SameFooters.{blocks_alike, listed_alike, starts_alike}

-- ---- pieces of a file

lent_piece : (file : List ℕ) (r : FileRange) (piece : FilePiece) → IsLentOf (piece_at file r) piece → IsPieceOf file piece
lent_piece file r piece is =
    let rest : List ℕ = drop r.start file in
    let two : rest ≡ piece.bytes.now ++ drop r.len rest = sym (take-append-drop r.len rest) ∙ ap (λ (l : List ℕ). l ++ drop r.len rest) (sym is.bytes) in
    record {
      before = take r.start file;
      behind = drop r.len rest;
      parts = sym (take-append-drop r.start file) ∙ ap (λ (l : List ℕ). take r.start file ++ l) two;
      start = is.start ∙ sym (length-take r.start file);
    }

pub lent_pieces : (file : List ℕ) (rs : List FileRange) (lent : List FilePiece) → AllZip IsLentOf (pieces_at file rs) lent → ArePieces file lent
lent_pieces file [] [] h = tt
lent_pieces file [] (x ∷ xs) h = absurd h
lent_pieces file (r ∷ rs) [] h = absurd h
lent_pieces file (r ∷ rs) (x ∷ xs) h = (lent_piece file r x h.0, lent_pieces file rs xs h.1)

part_lent : (file : List ℕ) (r : FileRange) (piece : FilePiece) (at len : ℕ) → IsLentOf (piece_at file r) piece → at + len ≤ length file → HasPart at len r → part_in piece at len ≢ none
part_lent file r piece at len is within has =
    let long : length piece.bytes.now ≡ min r.len (length file - r.start) = ap length is.bytes ∙ (length-take r.len (drop r.start file) ∙ ap (min r.len) (length-drop r.start file)) in
    inside_there piece at len (record { behind = omega (arith, is.start, has.0); before = omega (arith, is.start, long, has.0, has.1, within); room = omega (arith, is.start, long, has.0, has.1, within) })

pub part_kept : (file : List ℕ) (rs : List FileRange) (lent : List FilePiece) (at len : ℕ) → AllZip IsLentOf (pieces_at file rs) lent → at + len ≤ length file → SomeRange (HasPart at len) rs → held_in lent at len ≢ none
part_kept file [] lent at len h within has = absurd has
part_kept file (r ∷ rs) [] at len h within has = absurd h
part_kept file (r ∷ rs) (x ∷ xs) at len h within (inl has) = else_there (part_in x at len) (held_in xs at len) (part_lent file r x at len h.0 within has)
part_kept file (r ∷ rs) (x ∷ xs) at len h within (inr has) = behind_there (part_in x at len) (held_in xs at len) (part_kept file rs xs at len h.1 within has)

-- ---- what is asked for lies within the file

pub sorted_fast : (s : Schema) (order : Option HitOrder) (number : ℕ) → IsSortable s order → sort_field order ≡ Some number → IsFast s number
sorted_fast s None number h e = absurd (cc)
sorted_fast s (Some order) number h e = let same : order.field ≡ number = cc in subst (IsFast s) same h

module _ (v : PartView) (s : Schema) (ds : List Placed) (p : Parts) (part : IsPartOf v s ds p) (r : LeafRequest) where
  in_documents : (at len : ℕ) → at + len ≤ 4 + v.footer.layout.sections.documents → at + len ≤ length (file_bytes p)
  in_documents at len inside =
      let long : v.footer.layout.sections.documents ≡ length p.documents = ap (λ (l : _). l.documents) part.footer.layout.sections in
      omega (arith, inside, long, section_within Documents p)

  starts_within : (at len : ℕ) → NeedsStarts v s ds r at len → at + len ≤ length (file_bytes p)
  starts_within at len (inl h) = in_documents at len (document_within v s ds p part h.1.number at len (shown_below s r ds h.1.number h.1.among) (inl h.1.is_part)).1
  starts_within at len (inr h) = in_documents at len (omega (arith, h.1.1, h.1.2))

module _ (v : PartView) (s : Schema) (ds : List Placed) (p : Parts) (part : IsPartOf v s ds p) (r : LeafRequest) (ask : IsAsked s r) where
  hits_within : (at len : ℕ) → AsksHits v p ds r.order r.wanted (numbers_of (passes s r) ds) at len → at + len ≤ length (file_bytes p)
  hits_within at len (inl f) = (column_between v s ds p part f.number at len (sorted_fast s r.order f.number ask.order f.is_field) f.column).1
  hits_within at len (inr d) = in_documents v s ds p part r at len (document_within v s ds p part d.number at len (shown_below s r ds d.number d.among) d.document).1

  pub asked_within : (at len : ℕ) → AsksLeaf v s ds p r at len → at + len ≤ length (file_bytes p)
  asked_within at len (inl h) = lookups_within v s ds p part (request_lookups v.footer s r) at len (inl h)
  asked_within at len (inr (inl h)) = lookups_within v s ds p part (request_lookups v.footer s r) at len (inr h)
  asked_within at len (inr (inr (inl h))) =
      (column_between v s ds p part h.asks.number at len (timestamp_fast s h.asks.number part.is_split.are_documents.schema h.asks.is_field) h.asks.column).1
  asked_within at len (inr (inr (inr (inl h)))) =
      let fast : IsFast s h.number = subst (λ (n : ℕ). IsFast s n) h.among.2 (over_fast s r.aggs ask.aggs h.among.0 h.number h.among.1) in
      (column_between v s ds p part h.number at len fast h.column).1
  asked_within at len (inr (inr (inr (inr h)))) = hits_within at len h.asks

-- ---- each part that a request asks for lies in a range of some round

module _ (v : PartView) (s : Schema) (ds : List Placed) (p : Parts) (part : IsPartOf v s ds p) (r : LeafRequest) (blocks listed starts shown : List FileRange) (b : AreRangesOf (NeedsBlocks v s ds p r) blocks)
    (l : AreRangesOf (NeedsListed v s ds p r) listed) (st : AreRangesOf (NeedsStarts v s ds r) starts) (sh : AreRangesOf (NeedsShown s ds p r) shown) where
  document_paged : 0 < r.wanted → (at len : ℕ) → AsksDocuments p ds (shown_of s r ds) at len → SomeRange (HasPart at len) starts ⊎ SomeRange (HasPart at len) shown
  document_paged wanted at len d = go (are_few s r ds) refl d.document
    where
      go : (few : Bool) → are_few s r ds ≡ few → AsksDocument p ds d.number at len → SomeRange (HasPart at len) starts ⊎ SomeRange (HasPart at len) shown
      go true few (inl h) = inl (st.cover at len (inl (few, record { number = d.number; among = d.among; is_part = h })))
      go true few (inr h) = inr (sh.cover at len (few, record { number = d.number; among = d.among; is_part = h }))
      go false few h =
          let within = document_within v s ds p part d.number at len (shown_below s r ds d.number d.among) h in
          inl (wider_part starts 4 v.footer.layout.sections.documents at len within.0 within.1 (st.cover 4 v.footer.layout.sections.documents (inr (few, (wanted, refl, refl)))))

  part_paged : (at len : ℕ) → AsksLeaf v s ds p r at len → (SomeRange (HasPart at len) blocks ⊎ SomeRange (HasPart at len) listed) ⊎ (SomeRange (HasPart at len) starts ⊎ SomeRange (HasPart at len) shown)
  part_paged at len (inl h) = inl (inl (b.cover at len h))
  part_paged at len (inr (inl h)) = inl (inr (l.cover at len (inl h)))
  part_paged at len (inr (inr (inl h))) = inl (inr (l.cover at len (inr (inl h))))
  part_paged at len (inr (inr (inr (inl h)))) = inl (inr (l.cover at len (inr (inr (inl h)))))
  part_paged at len (inr (inr (inr (inr h)))) = hits h.wanted h.asks
    where
      hits : 0 < r.wanted → AsksHits v p ds r.order r.wanted (numbers_of (passes s r) ds) at len → (SomeRange (HasPart at len) blocks ⊎ SomeRange (HasPart at len) listed) ⊎ (SomeRange (HasPart at len) starts ⊎ SomeRange (HasPart at len) shown)
      hits wanted (inl f) = inl (inr (l.cover at len (inr (inr (inr (wanted, f))))))
      hits wanted (inr d) = inr (document_paged wanted at len d)

-- ---- views

some_front : (P : FileRange → Type 0) (xs ys : List FileRange) → SomeRange P xs → SomeRange P (xs ++ ys)
some_front P [] ys h = absurd h
some_front P (x ∷ xs) ys (inl h) = inl h
some_front P (x ∷ xs) ys (inr h) = inr (some_front P xs ys h)

some_behind : (P : FileRange → Type 0) (xs ys : List FileRange) → SomeRange P ys → SomeRange P (xs ++ ys)
some_behind P [] ys h = h
some_behind P (x ∷ xs) ys h = inr (some_behind P xs ys h)

pub part_of : (v : PartView) (s : Schema) (ds : List Placed) (p : Parts) (footer : Footer) (kept : List KeptPiece) (rs : List FileRange) → IsSplitOf s ds p → IsFooterOf p footer → v.footer ≡ footer → kept ≡ pieces_at (file_bytes p) rs → AllZip IsLentOf kept v.pieces
    → IsPartOf v s ds p
part_of v s ds p footer kept rs is foot same pieces lent =
    record {
      is_split = is;
      footer = subst (IsFooterOf p) (sym same) foot;
      pieces = lent_pieces (file_bytes p) rs v.pieces (subst (λ (ks : List KeptPiece). AllZip IsLentOf ks v.pieces) pieces lent);
    }

some_of : (P : FileRange → Type 0) (xs ys : List FileRange) → SomeRange P xs ⊎ SomeRange P ys → SomeRange P (xs ++ ys)
some_of P xs ys (inl h) = some_front P xs ys h
some_of P xs ys (inr h) = some_behind P xs ys h

-- a view of ranges of the file has each part that lies in one of them
kept_held : (p : Parts) (kept : List KeptPiece) (v : PartView) (rs : List FileRange) → kept ≡ pieces_at (file_bytes p) rs → AllZip IsLentOf kept v.pieces → (at len : ℕ) → at + len ≤ length (file_bytes p) → SomeRange (HasPart at len) rs → held_in v.pieces at len ≢ none
kept_held p kept v rs pieces lent at len within has = part_kept (file_bytes p) rs v.pieces at len (subst (λ (ks : List KeptPiece). AllZip IsLentOf ks v.pieces) pieces lent) within has

pub has_asked : (s : Schema) (r : LeafRequest) (part : FetchedSplit) (documents : List Placed) (v : PartView) → IsAsked s r → HasNeeded s r part documents → v.footer ≡ part.footer → AllZip IsLentOf part.pieces v.pieces → HasAsked s r v documents
has_asked s r part ds v ask h same lent =
    let p = h.parts in
    let rs : List FileRange = (h.blocks ++ h.listed) ++ (h.starts ++ h.shown) in
    let is = part_of v s ds p part.footer part.pieces rs h.is_split h.footer same h.pieces lent in
    let b = blocks_alike (over part.footer) v s ds p r h.blocks (sym same) h.are_blocks in
    let l = listed_alike (over part.footer) v s ds p r h.listed (sym same) h.are_listed in
    let st = starts_alike (over part.footer) v s ds r h.starts (sym same) h.are_starts in
    record {
      parts = p;
      is_part = is;
      held = λ at len asked.
          kept_held p part.pieces v rs h.pieces lent at len (asked_within v s ds p is r ask at len asked)
          (some_of (HasPart at len) (h.blocks ++ h.listed) (h.starts ++ h.shown)
          (elim (part_paged v s ds p is r h.blocks h.listed h.starts h.shown b l st h.are_shown at len asked) [
            | inl x ↦ inl (some_of (HasPart at len) h.blocks h.listed x)
            | inr y ↦ inr (some_of (HasPart at len) h.starts h.shown y)
          ]));
    }

-- ---- what is there, round by round

-- the blocks that are needed
pub blocks_held : (s : Schema) (r : LeafRequest) (ds : List Placed) (p : Parts) (footer : Footer) (kept : List KeptPiece) (v : PartView) → IsAsked s r → (h : HoldsBlocks s r ds p footer kept) → IsPartOf v s ds p → v.footer ≡ footer → AllZip IsLentOf kept v.pieces
    → (at len : ℕ) → NeedsBlocks v s ds p r at len → held_in v.pieces at len ≢ none
blocks_held s r ds p footer kept v ask h is same lent at len asked =
    let b = blocks_alike (over footer) v s ds p r h.blocks (sym same) h.are_blocks in
    kept_held p kept v h.blocks h.pieces lent at len (asked_within v s ds p is r ask at len (inl asked)) (b.cover at len asked)

-- what tells which documents may be shown
pub tells_held : (s : Schema) (r : LeafRequest) (ds : List Placed) (p : Parts) (footer : Footer) (kept : List KeptPiece) (v : PartView) → IsAsked s r → (h : HoldsListed s r ds p footer kept) → IsPartOf v s ds p → v.footer ≡ footer → AllZip IsLentOf kept v.pieces
    → (at len : ℕ) → TellsShown v s ds p r at len → held_in v.pieces at len ≢ none
tells_held s r ds p footer kept v ask h is same lent at len tells = by tells
  where
    there : AsksLeaf v s ds p r at len → SomeRange (HasPart at len) h.blocks ⊎ SomeRange (HasPart at len) h.listed → held_in v.pieces at len ≢ none
    there asked some = kept_held p kept v (h.blocks ++ h.listed) h.pieces lent at len (asked_within v s ds p is r ask at len asked) (some_of (HasPart at len) h.blocks h.listed some)

    b : AreRangesOf (NeedsBlocks v s ds p r) h.blocks
    b = blocks_alike (over footer) v s ds p r h.blocks (sym same) h.are_blocks

    l : AreRangesOf (NeedsListed v s ds p r) h.listed
    l = listed_alike (over footer) v s ds p r h.listed (sym same) h.are_listed

    by : TellsShown v s ds p r at len → held_in v.pieces at len ≢ none
    by (inl (inl x)) = there (inl x) (inl (b.cover at len x))
    by (inl (inr x)) = there (inr (inl x)) (inr (l.cover at len (inl x)))
    by (inr (inl x)) = there (inr (inr (inl x))) (inr (l.cover at len (inr (inl x))))
    by (inr (inr x)) = there (inr (inr (inr (inr (record { wanted = x.0; asks = inl x.1 }))))) (inr (l.cover at len (inr (inr (inr x)))))

-- the starts of the documents that may be shown, or else their section
pub starts_held : (s : Schema) (r : LeafRequest) (ds : List Placed) (p : Parts) (footer : Footer) (kept : List KeptPiece) (v : PartView) → (h : HoldsStarts s r ds p footer kept) → IsPartOf v s ds p → v.footer ≡ footer → AllZip IsLentOf kept v.pieces
    → (at len : ℕ) → NeedsStarts v s ds r at len → held_in v.pieces at len ≢ none
starts_held s r ds p footer kept v h is same lent at len asked =
    let st = starts_alike (over footer) v s ds r h.starts (sym same) h.are_starts in
    kept_held p kept v (h.before ++ h.starts) h.pieces lent at len (starts_within v s ds p is r at len asked) (some_behind (HasPart at len) h.before h.starts (st.cover at len asked))
