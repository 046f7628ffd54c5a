-- Lists without positions, taken block by block.
use Rattle.std.proofs.Common.{◌≡◌, ℕ, ◌+◌, ◌<◌, ◌≤◌, Bool, true, false, List, [], ◌∷◌, ◌++◌, length, take, drop, Option, Some, refl, sym, ap, subst, ◌∙◌, arith, append_assoc, length-append}
use Rattle.std.specs.List.{AllByRecursion}
use Rattle.std.proofs.lemmas.List.{append-nil, map-append, take-append-drop}
use Rattle.term_postings.specs.Cursors.{GivesMany, StandsBefore, last_positions}
use Rattle.term_postings.specs.Postings.{AreRising, documents}
use Rattle.term_postings.specs.Reading.{last_of}
use Rattle.term_postings.specs.declared.cursor.Cursor.{Cursor}
use Rattle.term_postings.specs.declared.list.Posting.{Posting}
use Rattle.term_postings.proofs.Lists.{all_left, all_right}
use Rattle.split_merge.specs.Joining.{Adds, AreAbove, CanHave, CanSpell, bare, is_above, renumbered}
use Rattle.split_merge.specs.declared.lists.KeyList.{KeyList}
use Rattle.split_merge.proofs.ListLemmas.{AddsThese, PutsList, both_added, documents_push, length-documents, renumbered_both}
use Rattle.split_merge.proofs.PlaceLemmas.{IsLast, next_last, rising_below}

-- ---- numbers above a last one

pub above_push : (before : Option ℕ) (ns : List ℕ) (n : ℕ) → AreAbove before ns → is_above (last_of ns before) n ≡ true → AreAbove before (ns ++ n ∷ [])
above_push before [] n above up = (up, tt)
above_push before (m ∷ ms) n above up = (above.0, above_push (Some m) ms n above.1 up)

pub above_here : (before : Option ℕ) (ns : List ℕ) (n : ℕ) (rest : List ℕ) → AreAbove before (ns ++ n ∷ rest) → is_above (last_of ns before) n ≡ true
above_here before [] n rest above = above.0
above_here before (m ∷ ms) n rest above = above_here (Some m) ms n rest above.1

last_block : (last : Option ℕ) (ns bs : List ℕ) → IsLast last ns → AreAbove last bs → IsLast (last_of bs last) (ns ++ bs)
last_block last ns [] h above = subst (λ (l : List ℕ). IsLast last l) (sym (append-nil ns)) h
last_block last ns (b ∷ bs) h above = subst (λ (l : List ℕ). IsLast (last_of bs (Some b)) l) (append_assoc ns (b ∷ []) bs) (last_block (Some b) (ns ++ b ∷ []) bs (next_last last ns b h above.0) above.1)

above_block : (last : Option ℕ) (ns bs more : List ℕ) → IsLast last ns → AreRising (ns ++ (bs ++ more)) → AreAbove last bs
above_block last ns [] more h rise = tt
above_block last ns (b ∷ bs) more h rise =
    let up = h.above b (rising_below ns b (bs ++ more) rise) in
    (up, above_block (Some b) (ns ++ b ∷ []) bs more (next_last last ns b h up) (subst AreRising (sym (append_assoc ns (b ∷ []) (bs ++ more))) rise))

-- ---- documents without positions

bare_again : (ps : List Posting) → AllByRecursion (λ p. CanHave false p.positions) ps → bare (documents ps) ≡ ps
bare_again [] can = refl
bare_again (p ∷ ps) can =
    let none : [] ≡ p.positions = sym can.0.may in
    let same : ◌≡◌ {A = Posting} (record { document = p.document; positions = [] }) p = λ i. record { document = p.document; positions = none i } in
    ap (λ (q : Posting). q ∷ bare (documents ps)) same ∙ ap (λ (qs : List Posting). p ∷ qs) (bare_again ps can.1)

-- one document more of a block
pub one_bare : (number : ℕ → Option ℕ) (start mid now : KeyList) (front next : List ℕ) (n : ℕ) → next ≡ front ++ n ∷ [] → Adds false start mid (renumbered number (bare front)) → Adds false mid now (renumbered number (bare (n ∷ [])))
    → Adds false start now (renumbered number (bare next))
one_bare number start mid now front next n next_is so_far one =
    subst (λ (ps : List Posting). Adds false start now ps)
    (sym (renumbered_both number (bare front) (bare (n ∷ []))) ∙ ap (λ (ps : List Posting). renumbered number ps) (sym (map-append (λ (m : ℕ). record { document = m; positions = [] }) front (n ∷ [])))
    ∙ ap (λ (l : List ℕ). renumbered number (bare l)) (sym next_is))
    (both_added false start mid now (renumbered number (bare front)) (renumbered number (bare (n ∷ []))) so_far one)

-- ---- blocks that are put

-- what `next_block` says of a list
abbrev pub GivesBlock : Cursor → Cursor → List ℕ → Type 0
GivesBlock old new block = (told : Bool) (after : List Posting) (left : List ℕ) → StandsBefore told old after left → GivesMany told new after left block

module _ (number : ℕ → Option ℕ) (start : KeyList) (l : KeyList) (taken : ℕ) (last : Option ℕ) (old mid : Cursor) (h : PutsList false (AddsThese false number start l) taken last old mid) (new : Cursor) (block : List ℕ) where
  gives_all : (list : List Posting) → GivesBlock mid new block → StandsBefore false old list [] → CanSpell false list → (rest : List Posting) × (left : List ℕ) × GivesMany false new rest left block × (length list ≡ taken + length rest)
      × (documents list ≡ h.documents_are ++ (block ++ documents (drop (length block) rest)))
  gives_all list gives stands can =
      let o = h.only list stands can in
      let g = gives false o.1 o.2 o.3 in
      let k = length block in
      let rest_is : documents o.1 ≡ block ++ documents (drop k o.1) = ap (λ (ps : List Posting). documents ps) (sym (take-append-drop k o.1)) ∙ documents_push (take k o.1) (drop k o.1)
      ∙ ap (λ (ns : List ℕ). ns ++ documents (drop k o.1)) (sym g.passes.given_are) in (
        o.1,
        o.2,
        g,
        omega (arith, h.size, ap (λ (ps : List Posting). length ps) o.4, length-append o.0 o.1, length-documents o.0, ap (λ (ns : List ℕ). length ns) o.5),
        ap (λ (ps : List Posting). documents ps) o.4 ∙ documents_push o.0 o.1 ∙ ap (λ (ns : List ℕ). ns ++ documents o.1) o.5 ∙ ap (λ (ns : List ℕ). h.documents_are ++ ns) rest_is,
      )

  -- of a list each document of a block is above the one before
  pub block_above : (list : List Posting) → GivesBlock mid new block → StandsBefore false old list [] → CanSpell false list → AreAbove last block
  block_above list gives stands can =
      let a = gives_all list gives stands can in
      above_block last h.documents_are block (documents (drop (length block) a.0)) h.is_last (subst AreRising a.4 can.rising)

  -- of a list with documents to come a block has some, and no more than these
  pub block_fits : (list : List Posting) (left : ℕ) → GivesBlock mid new block → StandsBefore false old list [] → CanSpell false list → 0 < left → length list ≡ taken + left → (length block ≡ 0 → ⊥) × (length block ≤ left)
  block_fits list left gives stands can some size =
      let a = gives_all list gives stands can in
      let rest : length a.0 ≡ left = omega (arith, size, a.3) in
      (λ none. absurd (omega (arith, some, rest, ap (λ (ps : List Posting). length ps) (a.2.some none))), omega (arith, rest, a.2.passes.within))

  pub block_put : (now : KeyList) → GivesBlock mid new block → AreAbove last block → Adds false l now (renumbered number (bare block)) → PutsList false (AddsThese false number start now) (taken + length block) (last_of block last) old new
  block_put now gives above added = record {
    documents_are = h.documents_are ++ block;
    size = length-append h.documents_are block ∙ omega (arith, h.size);
    is_last = last_block last h.documents_are block h.is_last above;
    only = λ list stands can.
        let o = h.only list stands can in
        let g = gives false o.1 o.2 o.3 in
        let k = length block in
        let whole : list ≡ (o.0 ++ take k o.1) ++ drop k o.1 = o.4 ∙ ap (λ (ps : List Posting). o.0 ++ ps) (sym (take-append-drop k o.1)) ∙ sym (append_assoc o.0 (take k o.1) (drop k o.1)) in
        let each : AllByRecursion (λ p. CanHave false p.positions) ((o.0 ++ take k o.1) ++ drop k o.1) = subst (λ (ps : List Posting). AllByRecursion (λ p. CanHave false p.positions) ps) whole can.each in
        let here = all_right (λ p. CanHave false p.positions) o.0 (take k o.1) (all_left (λ p. CanHave false p.positions) (o.0 ++ take k o.1) (drop k o.1) each) in
        let block_is : bare block ≡ take k o.1 = ap (λ (ns : List ℕ). bare ns) g.passes.given_are ∙ bare_again (take k o.1) here in (
          o.0 ++ take k o.1,
          drop k o.1,
          last_positions (take k o.1) o.2,
          g.passes.stands,
          whole,
          documents_push o.0 (take k o.1) ∙ ap (λ (ns : List ℕ). ns ++ documents (take k o.1)) o.5 ∙ ap (λ (ns : List ℕ). h.documents_are ++ ns) (sym g.passes.given_are),
          subst (λ (ps : List Posting). Adds false start now ps) (ap (λ (ps : List Posting). renumbered number o.0 ++ renumbered number ps) block_is ∙ sym (renumbered_both number o.0 (take k o.1)))
              (both_added false start l now (renumbered number o.0) (renumbered number (bare block)) o.6 added),
        );
  }
