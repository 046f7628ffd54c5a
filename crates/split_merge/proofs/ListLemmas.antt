-- Lists that grow by a document.
use Rattle.std.proofs.Common.{◌≡◌, ℕ, ◌+◌, ◌<◌, ◌^◌, Bool, true, false, List, [], ◌∷◌, ◌++◌, length, drop, map, Option, Some, None, Result, Ok, Err, refl, sym, ap, subst, ◌∙◌, arith, append_assoc, length-append}
use Rattle.std.specs.Prelude.{MatchResult}
use Rattle.std.specs.List.{AllByRecursion}
use Rattle.std.proofs.lemmas.List.{append-nil, length-map, map-append, nil_from_length, map_push}
use Rattle.byte_fields.specs.declared.corrupt.Corrupt.{Corrupt}
use Rattle.term_postings.specs.Cursors.{StandsBefore, first_document, first_positions}
use Rattle.term_postings.specs.Postings.{AreRising, Fits, documents, gaps, position_bytes, varints}
use Rattle.term_postings.specs.declared.cursor.Cursor.{Cursor}
use Rattle.term_postings.specs.declared.list.Posting.{Posting}
use Rattle.term_postings.proofs.Lists.{all_both, all_right, position-append}
use Rattle.split_bundle.specs.declared.split_error.SplitError.{SplitError}
use Rattle.split_merge.specs.Faults.{IsWant}
use Rattle.split_merge.specs.Joining.{Adds, CanHave, CanSpell, Holds, Lists, is_above, listed, renumbered, with_number}
use Rattle.split_merge.specs.declared.lists.KeyList.{KeyList}
use Rattle.split_merge.specs.declared.lists.Listed.{Listed}
use Rattle.split_merge.proofs.PlaceLemmas.{IsLast, next_last, no_last, rising_below}

-- ---- what is held

abbrev posting : ℕ → List ℕ → Posting
posting document positions = record { document = document; positions = positions }

pub pushed : (kept : Bool) (l now : KeyList) (ps : List Posting) (more : List ℕ) (document positions : ℕ) → Holds kept l ps → now.entries.items ≡ l.entries.items ++ record { document = document; positions = positions } ∷ []
    → now.places.items ≡ l.places.items ++ varints (gaps 0 more) → length more ≡ positions → document < 2 ^ 32 → CanHave kept more → Holds kept now (ps ++ posting document more ∷ [])
pushed kept l now ps more document positions h entries places len small can =
    let p = posting document more in
    let e : Listed = record { document = document; positions = positions } in
    let same : e ≡ listed p = λ i. record { document = document; positions = sym len i } in
    record {
      entries = entries ∙ ap (λ (es : List Listed). es ++ e ∷ []) h.entries ∙ ap (λ (x : Listed). map listed ps ++ x ∷ []) same ∙ sym (map_push listed ps p);
      places = places ∙ ap (λ (ns : List ℕ). ns ++ varints (gaps 0 more)) h.places ∙ ap (λ (ns : List ℕ). position_bytes ps ++ ns) (sym (append-nil (varints (gaps 0 more)))) ∙ sym (position-append ps (p ∷ []));
      each = all_both (Fits kept) ps (p ∷ []) h.each (record { document = small; numbers = can.numbers; rising = can.rising; may_have = can.may }, tt);
    }

pub held_length : (kept : Bool) (l : KeyList) (ps : List Posting) → Holds kept l ps → length ps ≡ length l.entries.items
held_length kept l ps h = sym (length-map ps listed) ∙ ap (λ (es : List Listed). length es) (sym h.entries)

none_listed : (ps : List Posting) → map listed ps ≡ [] → ps ≡ []
none_listed [] e = refl
none_listed (p ∷ ps) e = absurd cc

pub none_held : (kept : Bool) (l : KeyList) → Holds kept l [] → l.entries.items ≡ []
none_held kept l h = h.entries

pub held_none : (kept : Bool) (l : KeyList) (ps : List Posting) → Holds kept l ps → l.entries.items ≡ [] → ps ≡ []
held_none kept l ps h none = none_listed ps (sym h.entries ∙ none)

-- ---- the documents of a list

-- so many documents were taken, and those of a list are still to come; this holds of those that were taken
pub record PutsList (kept : Bool) (holds : List Posting → Type 0) (taken : ℕ) (last : Option ℕ) (old new : Cursor) : Type 0 where
  pub documents_are : List ℕ
  pub size : length documents_are ≡ taken
  pub is_last : IsLast last documents_are
  pub only : (list : List Posting) → StandsBefore kept old list [] → CanSpell kept list
      → (front : List Posting) × (rest : List Posting) × (left : List ℕ) × StandsBefore kept new rest left × (list ≡ front ++ rest) × (documents front ≡ documents_are) × holds front

pub none_put : (kept : Bool) (holds : List Posting → Type 0) (c : Cursor) → holds [] → PutsList kept holds 0 None c c
none_put kept holds c none = record {
  documents_are = [];
  size = refl;
  is_last = no_last;
  only = λ list stands can. ([], list, [], stands, refl, refl, none);
}

pub none_added : (kept : Bool) (l : KeyList) → Adds kept l l []
none_added kept l ps h = subst (λ (qs : List Posting). Holds kept l qs) (sym (append-nil ps)) h

-- what is added behind what was added
pub both_added : (kept : Bool) (start mid now : KeyList) (qs rs : List Posting) → Adds kept start mid qs → Adds kept mid now rs → Adds kept start now (qs ++ rs)
both_added kept start mid now qs rs f g ps h = subst (λ (l : List Posting). Holds kept now l) (append_assoc ps qs rs) (g (ps ++ qs) (f ps h))

pub documents_push : (ps qs : List Posting) → documents (ps ++ qs) ≡ documents ps ++ documents qs
documents_push [] qs = refl
documents_push (p ∷ ps) qs = ap (λ (l : List ℕ). p.document ∷ l) (documents_push ps qs)

pub renumbered_both : (number : ℕ → Option ℕ) (ps qs : List Posting) → renumbered number (ps ++ qs) ≡ renumbered number ps ++ renumbered number qs
renumbered_both number [] qs = refl
renumbered_both number (p ∷ ps) qs = by (number p.document) (renumbered_both number ps qs)
  where
    by : (o : Option ℕ) → renumbered number (ps ++ qs) ≡ renumbered number ps ++ renumbered number qs → with_number o p.positions (renumbered number (ps ++ qs)) ≡ with_number o p.positions (renumbered number ps) ++ renumbered number qs
    by None rest = rest
    by (Some k) rest = ap (λ (l : List Posting). posting k p.positions ∷ l) rest

abbrev pub found : Option ℕ → Result (Option ℕ) Corrupt
found o = Ok o

-- what `next` says of a list
abbrev pub GivesNext : Bool → Cursor → Cursor → Result (Option ℕ) Corrupt → Type 0
GivesNext told old new result = (after : List Posting) (left : List ℕ) → StandsBefore told old after left → (result ≡ found (first_document after)) × StandsBefore told new (drop 1 after) (first_positions after left)

first_found : (after : List Posting) (n : ℕ) → found (Some n) ≡ found (first_document after) → (p : Posting) × (after ≡ p ∷ drop 1 after) × (p.document ≡ n)
first_found [] n e = absurd cc
first_found (p ∷ ps) n e = let same : p.document ≡ n = cc in (p, refl, same)

none_found : (after : List Posting) → found None ≡ found (first_document after) → after ≡ []
none_found [] e = refl
none_found (p ∷ ps) e = absurd cc

-- the documents that were taken are added
abbrev pub AddsThese : Bool → (ℕ → Option ℕ) → KeyList → KeyList → List Posting → Type 0
AddsThese kept number start now front = Adds kept start now (renumbered number front)

-- one document more, by the number that was found
pub one_added : (kept : Bool) (number : ℕ → Option ℕ) (start mid now : KeyList) (document : ℕ) (n : Option ℕ) → n ≡ number document → (front : List Posting) (p : Posting) → p.document ≡ document → AddsThese kept number start mid front
    → Adds kept mid now (with_number n p.positions []) → AddsThese kept number start now (front ++ p ∷ [])
one_added kept number start mid now document n is front p same front_added added =
    let one : with_number n p.positions [] ≡ renumbered number (p ∷ []) = ap (λ (m : Option ℕ). with_number m p.positions []) is ∙ ap (λ (m : ℕ). with_number (number m) p.positions []) (sym same) in
    subst (λ (ps : List Posting). Adds kept start now ps) (ap (λ (ps : List Posting). renumbered number front ++ ps) one ∙ sym (renumbered_both number front (p ∷ [])))
    (both_added kept start mid now (renumbered number front) (with_number n p.positions []) front_added added)

-- ---- documents that are listed with their counts

pub none_counted : (number : ℕ → Option ℕ) (es : List Listed) → Lists number es es []
none_counted number es = record { entries = sym (append-nil es); places = refl; each = tt }

pub one_counted : (number : ℕ → Option ℕ) (start mid now : List Listed) (document n count : ℕ) (front : List Posting) (p : Posting) → Some n ≡ number document → p.document ≡ document → n < 2 ^ 32 → count ≡ length p.positions
    → CanHave true p.positions → now ≡ mid ++ record { document = n; positions = count } ∷ [] → Lists number start mid front → Lists number start now (front ++ p ∷ [])
one_counted number start mid now document n count front p is same small count_is can now_is h =
    let q : Posting = posting n p.positions in
    let e : Listed = record { document = n; positions = count } in
    let e_is : e ≡ listed q = λ i. record { document = n; positions = count_is i } in
    let one : renumbered number (p ∷ []) ≡ q ∷ [] = ap (λ (m : ℕ). with_number (number m) p.positions []) same ∙ ap (λ (m : Option ℕ). with_number m p.positions []) (sym is) in
    let whole : renumbered number (front ++ p ∷ []) ≡ renumbered number front ++ q ∷ [] = renumbered_both number front (p ∷ []) ∙ ap (λ (ps : List Posting). renumbered number front ++ ps) one in
    record {
      entries = now_is ∙ ap (λ (x : Listed). mid ++ x ∷ []) e_is ∙ ap (λ (es : List Listed). es ++ listed q ∷ []) h.entries ∙ append_assoc start (map listed (renumbered number front)) (listed q ∷ [])
          ∙ ap (λ (es : List Listed). start ++ es) (sym (map_push listed (renumbered number front) q)) ∙ ap (λ (ps : List Posting). start ++ map listed ps) (sym whole);
      places = ap (λ (ps : List Posting). position_bytes ps) whole ∙ position-append (renumbered number front) (q ∷ []) ∙ ap (λ (ns : List ℕ). ns ++ position_bytes (q ∷ [])) h.places ∙ sym (position-append front (p ∷ []));
      each = subst (λ (ps : List Posting). AllByRecursion (Fits true) ps) (sym whole) (all_both (Fits true) (renumbered number front) (q ∷ []) h.each (record { document = small; numbers = can.numbers; rising = can.rising; may_have = can.may }, tt));
    }

-- the documents of a list are held when they are listed and the bytes of their positions stand behind others
pub counted_held : (number : ℕ → Option ℕ) (old now : KeyList) (list : List Posting) → Lists number old.entries.items now.entries.items list → now.places.items ≡ old.places.items ++ position_bytes list → Adds true old now (renumbered number list)
counted_held number old now list h places ps held = record {
  entries = h.entries ∙ ap (λ (es : List Listed). es ++ map listed (renumbered number list)) held.entries ∙ sym (map-append listed ps (renumbered number list));
  places = places ∙ ap (λ (ns : List ℕ). ns ++ position_bytes list) held.places ∙ ap (λ (ns : List ℕ). position_bytes ps ++ ns) (sym h.places) ∙ sym (position-append ps (renumbered number list));
  each = all_both (Fits true) ps (renumbered number list) held.each h.each;
}

pub length-documents : (ps : List Posting) → length (documents ps) ≡ length ps
length-documents [] = refl
length-documents (p ∷ ps) = omega (arith, length-documents ps)

module _ (kept : Bool) (holds : List Posting → Type 0) (taken : ℕ) (last : Option ℕ) (old mid : Cursor) (h : PutsList kept holds taken last old mid) where
  -- one document more
  pub one_put : (holds_now : List Posting → Type 0) (document : ℕ) (next new : Cursor) → GivesNext kept mid next (found (Some document)) → is_above last document ≡ true
      → ((front : List Posting) (p : Posting) (after : List Posting) → p.document ≡ document → holds front → StandsBefore kept next after p.positions → CanHave kept p.positions
      → holds_now (front ++ p ∷ []) × ((given : List ℕ) × StandsBefore kept new after given))
      → PutsList kept holds_now (taken + 1) (Some document) old new
  one_put holds_now document next new gives up step = record {
    documents_are = h.documents_are ++ document ∷ [];
    size = length-append h.documents_are (document ∷ []) ∙ omega (arith, h.size);
    is_last = next_last last h.documents_are document h.is_last up;
    only = λ list stands can.
        let o = h.only list stands can in
        let g = gives o.1 o.2 o.3 in
        let first = first_found o.1 document g.0 in
        let p = first.0 in
        let whole : list ≡ o.0 ++ (p ∷ drop 1 o.1) = o.4 ∙ ap (λ (ps : List Posting). o.0 ++ ps) first.1 in
        let each : AllByRecursion (λ q. CanHave kept q.positions) (o.0 ++ (p ∷ drop 1 o.1)) = subst (λ (ps : List Posting). AllByRecursion (λ q. CanHave kept q.positions) ps) whole can.each in
        let here = (all_right (λ q. CanHave kept q.positions) o.0 (p ∷ drop 1 o.1) each).0 in
        let stands_next : StandsBefore kept next (drop 1 o.1) p.positions = subst (λ (ps : List Posting). StandsBefore kept next (drop 1 o.1) (first_positions ps o.2)) first.1 g.1 in
        let x = step o.0 p (drop 1 o.1) first.2 o.6 stands_next here in (
          o.0 ++ p ∷ [],
          drop 1 o.1,
          x.1.0,
          x.1.1,
          whole ∙ sym (append_assoc o.0 (p ∷ []) (drop 1 o.1)),
          documents_push o.0 (p ∷ []) ∙ ap (λ (ns : List ℕ). ns ++ p.document ∷ []) o.5 ∙ ap (λ (m : ℕ). h.documents_are ++ m ∷ []) first.2,
          x.0,
        );
  }

  -- what is to come of a list behind a document that was found
  pub found_next : (document : ℕ) (next : Cursor) (list : List Posting) → GivesNext kept mid next (found (Some document)) → StandsBefore kept old list [] → CanSpell kept list
      → (rest : List Posting) × (left : List ℕ) × StandsBefore kept next rest left × CanHave kept left
  found_next document next list gives stands can =
      let o = h.only list stands can in
      let g = gives o.1 o.2 o.3 in
      let first = first_found o.1 document g.0 in
      let p = first.0 in
      let whole : list ≡ o.0 ++ (p ∷ drop 1 o.1) = o.4 ∙ ap (λ (ps : List Posting). o.0 ++ ps) first.1 in
      let each : AllByRecursion (λ q. CanHave kept q.positions) (o.0 ++ (p ∷ drop 1 o.1)) = subst (λ (ps : List Posting). AllByRecursion (λ q. CanHave kept q.positions) ps) whole can.each in
      (drop 1 o.1, p.positions, subst (λ (ps : List Posting). StandsBefore kept next (drop 1 o.1) (first_positions ps o.2)) first.1 g.1, (all_right (λ q. CanHave kept q.positions) o.0 (p ∷ drop 1 o.1) each).0)

  -- of a list each document is above the last
  pub document_above : (document : ℕ) (next : Cursor) (list : List Posting) → GivesNext kept mid next (found (Some document)) → StandsBefore kept old list [] → CanSpell kept list → is_above last document ≡ false → ⊥
  document_above document next list gives stands can low =
      let o = h.only list stands can in
      let first = first_found o.1 document (gives o.1 o.2 o.3).0 in
      let whole : documents list ≡ h.documents_are ++ document ∷ documents (drop 1 o.1) =
      ap (λ (ps : List Posting). documents ps) (o.4 ∙ ap (λ (ps : List Posting). o.0 ++ ps) first.1) ∙ documents_push o.0 (first.0 ∷ drop 1 o.1) ∙ ap (λ (ns : List ℕ). ns ++ first.0.document ∷ documents (drop 1 o.1)) o.5
      ∙ ap (λ (n : ℕ). h.documents_are ++ n ∷ documents (drop 1 o.1)) first.2 in
      let up = h.is_last.above document (rising_below h.documents_are document (documents (drop 1 o.1)) (subst AreRising whole can.rising)) in
      absurd cc

  -- a document of a list is there as long as not all were taken
  pub document_there : (next : Cursor) (r : Result (Option ℕ) Corrupt) (list : List Posting) → GivesNext kept mid next r → StandsBefore kept old list [] → CanSpell kept list → taken < length list → ((document : ℕ) → r ≡ found (Some document) → ⊥) → ⊥
  document_there next r list gives stands can lt none =
      let o = h.only list stands can in
      by o.1 (gives o.1 o.2 o.3).0 (omega (arith, lt, h.size, ap (λ (ps : List Posting). length ps) o.4, length-append o.0 o.1, length-documents o.0, ap (λ (ns : List ℕ). length ns) o.5))
    where
      by : (rest : List Posting) → r ≡ found (first_document rest) → 0 < length rest → ⊥
      by [] e lt = absurd (omega (arith, lt))
      by (p ∷ ps) e lt = none p.document e

  pub all_put : (list : List Posting) → StandsBefore kept old list [] → CanSpell kept list → length list ≡ taken → holds list
  all_put list stands can len =
      let o = h.only list stands can in
      let none : o.1 ≡ [] = nil_from_length o.1 (omega (arith, len, h.size, ap (λ (ps : List Posting). length ps) o.4, length-append o.0 o.1, length-documents o.0, ap (λ (ns : List ℕ). length ns) o.5)) in
      let whole : list ≡ o.0 = o.4 ∙ ap (λ (ps : List Posting). o.0 ++ ps) none ∙ append-nil o.0 in
      subst holds (sym whole) o.6

-- ---- positions that are copied

abbrev Done : Type 0
Done = Result (Unit {0}) SplitError

-- what is listed is held once the bytes of the positions are there
pub places_copied : (number : ℕ → Option ℕ) (old now : KeyList) (list : List Posting) (r : Done) → Lists number old.entries.items now.entries.items list
    → MatchResult r (λ _. now.places.items ≡ old.places.items ++ position_bytes list) IsWant → MatchResult r (λ _. Adds true old now (renumbered number list)) IsWant
places_copied number old now list (Ok u) h places = counted_held number old now list h places
places_copied number old now list (Err e) h want = want

-- what is put behind what was taken back
pub put_again : (number : ℕ → Option ℕ) (old mid now : KeyList) (list : List Posting) (r : Done) → mid.entries.items ≡ old.entries.items → mid.places.items ≡ old.places.items
    → MatchResult r (λ _. Adds true mid now (renumbered number list)) IsWant → MatchResult r (λ _. Adds true old now (renumbered number list)) IsWant
put_again number old mid now list (Ok u) entries places added = λ ps held. added ps (record { entries = entries ∙ held.entries; places = places ∙ held.places; each = held.each })
put_again number old mid now list (Err e) entries places want = want
