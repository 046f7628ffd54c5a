-- Walks of a cursor, document by document and block by block.
use Rattle.std.proofs.Common.{◌≡◌, ℕ, zero, suc, ◌+◌, ◌-◌, ◌<◌, ◌≤◌, Bool, true, List, [], ◌∷◌, ◌++◌, length, take, drop, Some, Result, Ok, Err, refl, sym, ◌∙◌, ◌≢◌, ap, subst, arith, append_assoc, length-append, length-drop}
use Rattle.std.specs.Prelude.{IsOkAnd}
use Rattle.std.specs.List.{AllByRecursion}
use Rattle.std.proofs.lemmas.Bool.{lt-ltb, le-ltb}
use Rattle.std.proofs.lemmas.List.{drop_at, take-append-drop, nil_from_length}
use Rattle.byte_fields.specs.declared.corrupt.Corrupt.{Corrupt}
use Rattle.byte_fields.specs.Spelling.{varint}
use Rattle.term_postings.specs.Postings.{gaps, varints, AreDocuments, AreRising, documents, document_bytes, position_bytes, head_list, later_blocks, list_bytes, last_document}
use Rattle.term_postings.specs.Cursors.{AreBehind, StandsIn, StandsAt, StandsBefore, PositionsAt, first_document, first_positions, from_document}
use Rattle.term_postings.specs.declared.list.Posting.{Posting}
use Rattle.term_postings.specs.declared.cursor.Cursor.{Cursor}
use Rattle.term_postings.specs.declared.cursor.Place.{Place}
use Rattle.term_postings.proofs.Lists.{block_behind, all_right}
use Rattle.term_postings.proofs.Numbers.{varint_some}
use Rattle.term_postings.proofs.Passes.{moved}

-- ---- one document

-- what passing a document gives
abbrev pub PassesOne : Bool → Cursor → Cursor → Result ℕ Corrupt → Type 0
PassesOne told c d r = (passed after : List Posting) (p : Posting) (left : List ℕ) → StandsAt told c passed (p ∷ after) left → (r ≡ Ok p.document) × StandsAt told d (passed ++ p ∷ []) after p.positions

given_is : (r : Result ℕ Corrupt) (p : Posting) → r ≡ Ok p.document → IsOkAnd r (λ document. Some p.document ≡ Some document)
given_is (Ok d) p e =
    let same : d ≡ p.document = cc in
    ap (λ (x : ℕ). Some x) (sym same)
given_is (Err e) p is = absurd cc

pub step_given : (told : Bool) (c d : Cursor) (r : Result ℕ Corrupt) (after : List Posting) (left now : List ℕ) → StandsBefore told c after now → 0 < c.left → PassesOne told c d r
    → IsOkAnd r (λ document. first_document after ≡ Some document) × StandsBefore told d (drop 1 after) (first_positions after left)
step_given told c d r [] left now s some pass = absurd (omega (arith, s.1.stands.left_are))
step_given told c d r (p ∷ ps) left now s some pass =
    let got = pass s.0 ps p now s.1 in
    (given_is r p got.0, (s.0 ++ p ∷ [], got.1))

-- no documents are to come where none are left
pub none_left : (told : Bool) (c : Cursor) (after : List Posting) (left : List ℕ) → StandsBefore told c after left → c.left ≡ 0 → after ≡ []
none_left told c after left s e = nil_from_length after (sym s.1.stands.left_are ∙ e)

-- where a block is passed, what is to come stays
pub block_done : (told : Bool) (c d : Cursor) (passed after : List Posting) (left : List ℕ) → StandsAt told c passed after left → c.passed ≡ 128 → StandsAt told d [] (drop 128 (passed ++ after)) [] → StandsAt told d [] after []
block_done told c d passed after left s full moved =
    subst (λ (l : List Posting). StandsAt told d [] l []) (drop_at passed after 128 (sym s.stands.passed_are ∙ full)) moved

pub more_than_block : (told : Bool) (c : Cursor) (passed after : List Posting) (left : List ℕ) → StandsAt told c passed after left → 128 < c.left + c.passed → 128 < length (passed ++ after)
more_than_block told c passed after left s lt = omega (arith, s.stands.passed_are, s.stands.left_are, length-append passed after)

-- ---- documents below one

pub from_skip : (document : ℕ) (xs ys : List Posting) → AllByRecursion (λ p. p.document < document) xs → from_document document (xs ++ ys) ≡ from_document document ys
from_skip document [] ys h = refl
from_skip document (x ∷ xs) ys h = rw (lt-ltb x.document document h.0) (from_skip document xs ys h.1)

last_from : (n : ℕ) (xs : List Posting) → AllByRecursion (λ m. n < m) (documents xs) → AreRising (documents xs) → n ≤ last_document n xs
last_from n [] h r = omega arith
last_from n (x ∷ xs) h r = omega (arith, h.0, last_from x.document xs r.0 r.1)

below_last : (document before : ℕ) (xs : List Posting) → AreRising (documents xs) → last_document before xs < document → AllByRecursion (λ p. p.document < document) xs
below_last document before [] h lt = tt
below_last document before (x ∷ xs) h lt = (omega (arith, lt, last_from x.document xs h.0 h.1), below_last document x.document xs h.1 lt)

drop_past : (xs ys : List Posting) (n : ℕ) → length xs ≤ n → drop n (xs ++ ys) ≡ drop (n - length xs) ys
drop_past [] ys n le =
    let whole : n ≡ n - 0 = omega arith in
    ap (λ (i : ℕ). drop i ys) whole
drop_past (x ∷ xs) ys zero le = absurd (omega arith)
drop_past (x ∷ xs) ys (suc n) le = drop_past xs ys n (omega arith) ∙ ap (λ (i : ℕ). drop i ys) (omega arith)

take_past : (xs ys : List Posting) (n : ℕ) → length xs ≤ n → take n (xs ++ ys) ≡ xs ++ take (n - length xs) ys
take_past [] ys n le =
    let whole : n ≡ n - 0 = omega arith in
    ap (λ (i : ℕ). take i ys) whole
take_past (x ∷ xs) ys zero le = absurd (omega arith)
take_past (x ∷ xs) ys (suc n) le = ap (λ (l : List Posting). x ∷ l) (take_past xs ys n (omega arith) ∙ ap (λ (i : ℕ). xs ++ take i ys) (omega arith))

-- a block whose last document is below one is passed over
pub skip_block : (told : Bool) (c : Cursor) (document : ℕ) (passed after : List Posting) (left : List ℕ) → StandsAt told c passed after left → last_document c.block_before (take 128 (passed ++ after)) < document
    → from_document document after ≡ from_document document (drop 128 (passed ++ after))
skip_block told c document passed after left s lt =
    let few : length passed ≤ 128 = omega (arith, s.stands.passed_are, c.passed_within) in
    let block = block_behind c.counted c.block_before (passed ++ after) s.stands.are_behind in
    let below = below_last document c.block_before (take 128 (passed ++ after)) block.rising lt in
    let here : AllByRecursion (λ p. p.document < document) (take (128 - length passed) after) =
    all_right (λ (p : Posting). p.document < document) passed (take (128 - length passed) after)
    (subst (λ (l : List Posting). AllByRecursion (λ p. p.document < document) l) (take_past passed after 128 few) below) in
    ap (λ (l : List Posting). from_document document l) (sym (take-append-drop (128 - length passed) after))
    ∙ from_skip document (take (128 - length passed) after) (drop (128 - length passed) after) here
    ∙ ap (λ (l : List Posting). from_document document l) (sym (drop_past passed after 128 few))

-- ---- the document that is sought

first_is : (after : List Posting) (d : ℕ) → first_document after ≡ Some d → (p : Posting) × (ps : List Posting) × (after ≡ p ∷ ps) × (p.document ≡ d)
first_is [] d e = absurd cc
first_is (p ∷ ps) d e = (p, ps, refl, cc)

pub found_here : (document d : ℕ) (now : List Posting) → first_document now ≡ Some d → document ≤ d → from_document document now ≡ now
found_here document d [] e le = refl
found_here document d (p ∷ ps) e le =
    let same : p.document ≡ d = cc in
    let up : document ≤ p.document = omega (arith, same) in
    rw (le-ltb p.document document up) refl

pub found_later : (document d : ℕ) (now : List Posting) → first_document now ≡ Some d → d < document → from_document document now ≡ from_document document (drop 1 now)
found_later document d [] e lt = absurd cc
found_later document d (p ∷ ps) e lt =
    let same : p.document ≡ d = cc in
    let down : p.document < document = omega (arith, same) in
    rw (lt-ltb p.document document down) refl

-- the positions of a document that there is are those of no earlier one
pub same_positions : (ps : List Posting) (d : ℕ) (a b : List ℕ) → first_document ps ≡ Some d → first_positions ps a ≡ first_positions ps b
same_positions [] d a b e = absurd cc
same_positions (p ∷ ps) d a b e = refl

-- ---- where a walk begins

zero_below : (ps : List Posting) → AllByRecursion (λ p. 0 ≤ p.document) ps
zero_below [] = tt
zero_below (p ∷ ps) = (omega arith, zero_below ps)

pub start_behind : (counted : Bool) (ps : List Posting) → AreDocuments counted ps → AreBehind counted 0 ps
start_behind counted ps h = record { rising = h.rising; fits = h.fits; not_below = zero_below ps; size = h.size; positions_size = h.positions_size }

pub list_parts : (bytes more : List ℕ) (counted : Bool) (ps : List Posting) → bytes ≡ list_bytes counted ps ++ more → bytes ≡ head_list (later_blocks ps) counted 0 ps ++ (document_bytes counted 0 ps ++ more)
list_parts bytes more counted ps e = e ∙ append_assoc (head_list (later_blocks ps) counted 0 ps) (document_bytes counted 0 ps) more

-- ---- where nothing was found, the positions of the document given last are still to come

pub back_to_place : (told : Bool) (c d e : Cursor) (passed gone after : List Posting) (left now : List ℕ) → StandsAt told c passed after left → StandsAt told d gone [] now → d.positions.now ≡ c.positions.now
    → StandsIn e gone [] → e.positions.now ≡ d.positions.now → e.place ≡ c.place → e.positions_block ≡ d.positions_block → StandsAt told e gone [] left
back_to_place told c d e passed gone after left now old new same stands positions_is place_is block_is = record {
  stands = stands;
  positions = λ t.
      let o = old.positions t in
      let n = new.positions t in
      record {
        at = subst (λ (b : List ℕ). PositionsAt b e.place left []) (sym (positions_is ∙ same))
            (subst (λ (p : Place). PositionsAt c.positions.now p left []) (sym place_is) (record {
              skipped = o.at.skipped;
              skipped_are = o.at.skipped_are;
              skipped_fit = o.at.skipped_fit;
              count_is = o.at.count_is;
              rising = o.at.rising;
              fits = o.at.fits;
              not_below = o.at.not_below;
              behind = position_bytes after ++ o.at.behind;
              here = o.at.here;
            }));
        behind_block = n.behind_block;
        block = ap (λ (b : List ℕ). drop e.positions_block b) positions_is ∙ ap (λ (i : ℕ). drop i d.positions.now) block_is ∙ n.block;
      };
}

-- ---- one position

-- the numbers up to the next position, and what stands behind it
pub position_parts : (positions : List ℕ) (place : Place) (n : ℕ) (left : List ℕ) (after : List Posting) (h : PositionsAt positions place (n ∷ left) after)
    → drop place.at positions ≡ varints h.skipped ++ (varint (n - place.last) ++ (varints (gaps n left) ++ (position_bytes after ++ h.behind)))
position_parts positions place n left after h = h.here ∙ simp append_assoc

pub place_within : (positions : List ℕ) (place : Place) (n : ℕ) (left : List ℕ) (after : List Posting) → PositionsAt positions place (n ∷ left) after → place.at ≤ length positions
place_within positions place n left after h =
    let parts = ap (λ (l : List ℕ). length l) (position_parts positions place n left after h) in
    omega (
      arith,
      parts,
      varint_some (n - place.last),
      length-drop place.at positions,
      length-append (varints h.skipped) (varint (n - place.last) ++ (varints (gaps n left) ++ (position_bytes after ++ h.behind))),
      length-append (varint (n - place.last)) (varints (gaps n left) ++ (position_bytes after ++ h.behind)),
    )

above_of : (n : ℕ) (ns : List ℕ) → AllByRecursion (λ m. n < m) ns → AllByRecursion (λ m. n ≤ m) ns
above_of n [] h = tt
above_of n (m ∷ ms) h = (omega (arith, h.0), above_of n ms h.1)

pub next_place : (positions : List ℕ) (old new : Place) (n : ℕ) (left : List ℕ) (after : List Posting) (h : PositionsAt positions old (n ∷ left) after) → new.skipped ≡ 0 → new.count + 1 ≡ old.count → new.last ≡ n
    → drop new.at positions ≡ varints (gaps n left) ++ (position_bytes after ++ h.behind) → PositionsAt positions new left after
next_place positions old new n left after h skipped_is count_is last_is here = record {
  skipped = [];
  skipped_are = skipped_is;
  skipped_fit = tt;
  count_is = omega (arith, h.count_is, count_is);
  rising = h.rising.1;
  fits = h.fits.1;
  not_below = subst (λ (m : ℕ). AllByRecursion (λ k. m ≤ k) left) (sym last_is) (above_of n left h.rising.0);
  behind = h.behind;
  here = here ∙ ap (λ (m : ℕ). varints (gaps m left) ++ (position_bytes after ++ h.behind)) (sym last_is);
}

pub given_position : (c : Cursor) (passed after : List Posting) (left : List ℕ) → StandsAt true c passed after left → c.place.count ≢ 0
    → (n : ℕ) × (ns : List ℕ) × (left ≡ n ∷ ns) × PositionsAt c.positions.now c.place (n ∷ ns) after
given_position c passed after [] s ne = absurd (ne ((s.positions refl).at.count_is))
given_position c passed after (n ∷ ns) s ne = (n, ns, refl, (s.positions refl).at)

-- a cursor whose place alone has changed
pub new_place : (c : Cursor) (place : Place) (h : c.head ≤ length c.postings.now) (i : c.block ≤ length c.postings.now) (j : c.at ≤ length c.postings.now) (k : c.passed ≤ 128)
    (passed after : List Posting) (left now : List ℕ) → StandsAt true c passed after left → place.skipped + place.count ≤ c.place.skipped + c.place.count → PositionsAt c.positions.now place now after
    → StandsAt true (moved c c.left c.passed c.head c.block c.at c.block_before c.before c.given c.positions_block place h i j k) passed after now
new_place c place h i j k passed after left now s less at = record {
  stands = record {
    sound = s.stands.sound;
    are_behind = s.stands.are_behind;
    passed_are = s.stands.passed_are;
    left_are = s.stands.left_are;
    before_is = s.stands.before_is;
    behind_heads = s.stands.behind_heads;
    heads = s.stands.heads;
    behind_block = s.stands.behind_block;
    block = s.stands.block;
    here = s.stands.here;
    counts = omega (arith, s.stands.counts);
    place_size = s.stands.place_size;
  };
  positions = λ t.
      let p = s.positions refl in
      record { at = at; behind_block = p.behind_block; block = p.block };
}

-- at the end, with the place from before
pub back_at_end : (told : Bool) (c d : Cursor) (h : d.head ≤ length d.postings.now) (i : d.block ≤ length d.postings.now) (j : d.at ≤ length d.postings.now) (k : d.passed ≤ 128)
    (passed gone after : List Posting) (left now : List ℕ) → StandsAt told c passed after left → StandsAt told d gone [] now → d.positions.now ≡ c.positions.now
    → StandsAt told (moved d d.left d.passed d.head d.block d.at d.block_before d.before c.given d.positions_block c.place h i j k) gone [] left
back_at_end told c d h i j k passed gone after left now old new same =
    let counts = old.stands.counts in
    back_to_place told c d (moved d d.left d.passed d.head d.block d.at d.block_before d.before c.given d.positions_block c.place h i j k) passed gone after left now old new same
    (record {
      sound = new.stands.sound;
      are_behind = new.stands.are_behind;
      passed_are = new.stands.passed_are;
      left_are = new.stands.left_are;
      before_is = new.stands.before_is;
      behind_heads = new.stands.behind_heads;
      heads = new.stands.heads;
      behind_block = new.stands.behind_block;
      block = new.stands.block;
      here = new.stands.here;
      counts = omega arith;
      place_size = new.stands.place_size;
    }) refl refl refl
