-- Documents and positions put one behind the other.
use Rattle.std.proofs.Common.{◌≡◌, ℕ, ◌-◌, ◌^◌, ◌<◌, ◌≤◌, Bool, List, [], ◌∷◌, ◌++◌, zero, suc, ◌+◌, length, take, drop, get_or, refl, sym, ◌∙◌, ap, subst, arith, append_assoc, length-append, length-drop, suc-add}
use Rattle.std.specs.List.{AllByRecursion}
use Rattle.std.proofs.lemmas.List.{append-nil, take-append-drop, take_all, drop_all, take-map, drop-map, length-map}
use Rattle.byte_fields.specs.Spelling.{varint}
use Rattle.term_postings.specs.Postings.{gaps, varints, count_bytes, document_bytes, position_bytes, last_document, head_bytes, head_list, later_blocks, AreRising, documents, Fits, MayHave, list_bytes}
use Rattle.term_postings.specs.Rows.{lent_one, lent, AppendsList}
use Rattle.term_postings.specs.declared.list.Row.{Row}
use Rattle.term_postings.specs.declared.list.Posting.{Posting}
use Rattle.term_postings.proofs.Lists.{document-append, position-append, head_step, all_left, all_right, all_both, rising_left, rising_right, behind_last, above_documents}

-- some of the numbers were put, and the rest completes them
pub record PutsNumbers (start out : List ℕ) (last : ℕ) (rest all : List ℕ) : Type 0 where
  pub bytes : out ++ varints (gaps last rest) ≡ start ++ varints (gaps 0 all)
  pub rising : AreRising rest
  pub above : AllByRecursion (λ n. last ≤ n) rest
  pub fits : AllByRecursion (λ n. n < 2 ^ 64) rest → AllByRecursion (λ n. n < 2 ^ 64) all

above_zero : (ns : List ℕ) → AllByRecursion (λ n. 0 ≤ n) ns
above_zero [] = tt
above_zero (n ∷ ns) = (omega arith, above_zero ns)

pub no_numbers : (start all : List ℕ) → AreRising all → PutsNumbers start start 0 all all
no_numbers start all h = record { bytes = refl; rising = h; above = above_zero all; fits = λ f. f }

above_of : (n : ℕ) (ns : List ℕ) → AllByRecursion (λ m. n < m) ns → AllByRecursion (λ m. n ≤ m) ns
above_of n [] h = tt
above_of n (m ∷ ms) h = (omega (arith, h.0), above_of n ms h.1)

pub one_number : (start out next : List ℕ) (last n : ℕ) (rest ns all : List ℕ) → rest ≡ n ∷ ns → PutsNumbers start out last rest all → next ≡ out ++ varint (n - last) → n < 2 ^ 64 → PutsNumbers start next n ns all
one_number start out next last n rest ns all is p next_is small =
    let q : PutsNumbers start out last (n ∷ ns) all = subst (λ (l : List ℕ). PutsNumbers start out last l all) is p in
    record {
      bytes = ap (λ (l : List ℕ). l ++ varints (gaps n ns)) next_is ∙ append_assoc out (varint (n - last)) (varints (gaps n ns)) ∙ q.bytes;
      rising = q.rising.1;
      above = above_of n ns q.rising.0;
      fits = λ f. q.fits (small, f);
    }

pub number_above : (start out : List ℕ) (last n : ℕ) (rest ns all : List ℕ) → rest ≡ n ∷ ns → PutsNumbers start out last rest all → last ≤ n
number_above start out last n rest ns all is p =
    let q : PutsNumbers start out last (n ∷ ns) all = subst (λ (l : List ℕ). PutsNumbers start out last l all) is p in
    q.above.0

pub all_numbers : (start out : List ℕ) (last : ℕ) (rest all : List ℕ) → rest ≡ [] → PutsNumbers start out last rest all → (out ≡ start ++ varints (gaps 0 all)) × AllByRecursion (λ n. n < 2 ^ 64) all
all_numbers start out last rest all is p =
    let q : PutsNumbers start out last [] all = subst (λ (l : List ℕ). PutsNumbers start out last l all) is p in
    (sym (append-nil out) ∙ q.bytes, q.fits tt)

-- what is asked of documents that are put
abbrev pub Wants : Bool → Posting → Type 0
Wants counted p = AreRising p.positions × MayHave counted p.positions

-- some of the documents were put, and the rest completes them
pub record PutsDocuments (counted : Bool) (start places_start out places : List ℕ) (before last : ℕ) (rest all : List Posting) : Type 0 where
  pub blocks : out ++ document_bytes counted last rest ≡ start ++ document_bytes counted before all
  pub places_are : places ++ position_bytes rest ≡ places_start ++ position_bytes all
  pub rising : AreRising (documents rest)
  pub above : AllByRecursion (λ p. last ≤ p.document) rest
  pub wants : AllByRecursion (Wants counted) rest
  pub fits : AllByRecursion (Fits counted) rest → AllByRecursion (Fits counted) all
  pub last_is : last_document last rest ≡ last_document before all
  pub up : before ≤ last

pub no_documents : (counted : Bool) (start places_start : List ℕ) (before : ℕ) (all : List Posting) → AreRising (documents all) → AllByRecursion (λ p. before ≤ p.document) all → AllByRecursion (Wants counted) all
    → PutsDocuments counted start places_start start places_start before before all all
no_documents counted start places_start before all rising above wants = record {
  blocks = refl;
  places_are = refl;
  rising = rising;
  above = above;
  wants = wants;
  fits = λ f. f;
  last_is = refl;
  up = omega arith;
}

pub first_document_of : (counted : Bool) (start places_start out places : List ℕ) (before last : ℕ) (p : Posting) (rest ps all : List Posting) → rest ≡ p ∷ ps
    → PutsDocuments counted start places_start out places before last rest all → PutsDocuments counted start places_start out places before last (p ∷ ps) all
first_document_of counted start places_start out places before last p rest ps all is h = subst (λ (l : List Posting). PutsDocuments counted start places_start out places before last l all) is h

three : (a b c d : List ℕ) → (a ++ (b ++ c)) ++ d ≡ a ++ (b ++ (c ++ d))
three a b c d = simp append_assoc

pub one_document : (counted : Bool) (start places_start out places next next_places : List ℕ) (before last : ℕ) (p : Posting) (rest ps all : List Posting) → rest ≡ p ∷ ps
    → PutsDocuments counted start places_start out places before last rest all → next ≡ out ++ (varint (p.document - last) ++ count_bytes counted p.positions)
    → next_places ≡ places ++ varints (gaps 0 p.positions) → p.document < 2 ^ 32 → AllByRecursion (λ n. n < 2 ^ 64) p.positions
    → PutsDocuments counted start places_start next next_places before p.document ps all
one_document counted start places_start out places next next_places before last p rest ps all is h next_is places_is small numbers =
    let q = first_document_of counted start places_start out places before last p rest ps all is h in
    record {
      blocks = ap (λ (l : List ℕ). l ++ document_bytes counted p.document ps) next_is ∙ three out (varint (p.document - last)) (count_bytes counted p.positions) (document_bytes counted p.document ps) ∙ q.blocks;
      places_are = ap (λ (l : List ℕ). l ++ position_bytes ps) places_is ∙ append_assoc places (varints (gaps 0 p.positions)) (position_bytes ps) ∙ q.places_are;
      rising = q.rising.1;
      above = above_documents p.document ps q.rising.0;
      wants = q.wants.1;
      fits = λ f. q.fits (record { document = small; numbers = numbers; rising = q.wants.0.0; may_have = q.wants.0.1 }, f);
      last_is = q.last_is;
      up = omega (arith, q.up, q.above.0);
    }

-- all documents were put
pub record PutsAll (counted : Bool) (start places_start out places : List ℕ) (before last : ℕ) (all : List Posting) : Type 0 where
  pub blocks : out ≡ start ++ document_bytes counted before all
  pub places_are : places ≡ places_start ++ position_bytes all
  pub fits : AllByRecursion (Fits counted) all
  pub last_is : last ≡ last_document before all
  pub up : before ≤ last

pub all_documents : (counted : Bool) (start places_start out places : List ℕ) (before last i : ℕ) (all : List Posting) → length all ≤ i
    → PutsDocuments counted start places_start out places before last (drop i all) all → PutsAll counted start places_start out places before last all
all_documents counted start places_start out places before last i all whole h =
    let q : PutsDocuments counted start places_start out places before last [] all = subst (λ (l : List Posting). PutsDocuments counted start places_start out places before last l all) (drop_all i all whole) h in
    record { blocks = sym (append-nil out) ∙ q.blocks; places_are = sym (append-nil places) ∙ q.places_are; fits = q.fits tt; last_is = q.last_is; up = q.up }

pub length_behind : (all front behind : List ℕ) → all ≡ front ++ behind → length front ≤ length all
length_behind all front behind is = omega (arith, ap (λ (l : List ℕ). length l) is, length-append front behind)

-- some of the blocks were put, and the rest completes them
pub record PutsBlocks (counted : Bool) (start places_start heads blocks places : List ℕ) (before : ℕ) (rest all : List Posting) : Type 0 where
  pub heads_are : heads ++ head_list (later_blocks rest) counted before rest ≡ start ++ head_list (later_blocks all) counted 0 all
  pub blocks_are : blocks ++ document_bytes counted before rest ≡ document_bytes counted 0 all
  pub places_are : places ++ position_bytes rest ≡ places_start ++ position_bytes all
  pub rising : AreRising (documents rest)
  pub above : AllByRecursion (λ p. before ≤ p.document) rest
  pub wants : AllByRecursion (Wants counted) rest
  pub fits : AllByRecursion (Fits counted) rest → AllByRecursion (Fits counted) all

zero_below : (ps : List Posting) → AllByRecursion (λ p. 0 ≤ p.document) ps
zero_below [] = tt
zero_below (p ∷ ps) = (omega arith, zero_below ps)

pub no_blocks : (counted : Bool) (start places_start : List ℕ) (all : List Posting) → AreRising (documents all) → AllByRecursion (Wants counted) all
    → PutsBlocks counted start places_start start [] places_start 0 all all
no_blocks counted start places_start all rising wants = record { heads_are = refl; blocks_are = refl; places_are = refl; rising = rising; above = zero_below all; wants = wants; fits = λ f. f }

-- what is asked of the first block
pub record IsBlock (counted : Bool) (before : ℕ) (block : List Posting) : Type 0 where
  pub rising : AreRising (documents block)
  pub above : AllByRecursion (λ p. before ≤ p.document) block
  pub wants : AllByRecursion (Wants counted) block

pub first_block : (counted : Bool) (start places_start heads blocks places : List ℕ) (before : ℕ) (rest all : List Posting) → PutsBlocks counted start places_start heads blocks places before rest all → IsBlock counted before (take 128 rest)
first_block counted start places_start heads blocks places before rest all h =
    let whole = take-append-drop 128 rest in
    record {
      rising = rising_left (take 128 rest) (drop 128 rest) (subst (λ (l : List Posting). AreRising (documents l)) (sym whole) h.rising);
      above = all_left (λ (p : Posting). before ≤ p.document) (take 128 rest) (drop 128 rest) (subst (λ (l : List Posting). AllByRecursion (λ p. before ≤ p.document) l) (sym whole) h.above);
      wants = all_left (Wants counted) (take 128 rest) (drop 128 rest) (subst (λ (l : List Posting). AllByRecursion (Wants counted) l) (sym whole) h.wants);
    }

pub one_block : (counted : Bool) (start places_start heads blocks places next_heads next_blocks next_places : List ℕ) (before last gap len places_len : ℕ) (rest all : List Posting) → 128 < length rest
    → PutsBlocks counted start places_start heads blocks places before rest all → last ≡ last_document before (take 128 rest) → gap ≡ last - before
    → next_blocks ≡ blocks ++ document_bytes counted before (take 128 rest) → next_places ≡ places ++ position_bytes (take 128 rest) → AllByRecursion (Fits counted) (take 128 rest)
    → len ≡ length next_blocks - length blocks → places_len ≡ length next_places - length places → next_heads ≡ heads ++ (varint gap ++ (varint len ++ varint places_len))
    → PutsBlocks counted start places_start next_heads next_blocks next_places last (drop 128 rest) all
one_block counted start places_start heads blocks places next_heads next_blocks next_places before last gap len places_len rest all more h last_is gap_is blocks_is places_is fits len_is places_len_is heads_is =
    let whole = take-append-drop 128 rest in
    let len_of : len ≡ length (document_bytes counted before (take 128 rest)) =
    omega (arith, len_is, ap (λ (l : List ℕ). length l) blocks_is, length-append blocks (document_bytes counted before (take 128 rest))) in
    let places_len_of : places_len ≡ length (position_bytes (take 128 rest)) =
    omega (arith, places_len_is, ap (λ (l : List ℕ). length l) places_is, length-append places (position_bytes (take 128 rest))) in
    let head : varint gap ++ (varint len ++ varint places_len) ≡ head_bytes counted before (take 128 rest) =
    ap (λ (n : ℕ). varint n ++ (varint len ++ varint places_len)) (gap_is ∙ ap (λ (n : ℕ). n - before) last_is)
    ∙ ap (λ (n : ℕ). varint (last_document before (take 128 rest) - before) ++ (varint n ++ varint places_len)) len_of
    ∙ ap (λ (n : ℕ). varint (last_document before (take 128 rest) - before) ++ (varint (length (document_bytes counted before (take 128 rest))) ++ varint n)) places_len_of in
    let blocks_split : document_bytes counted before rest ≡ document_bytes counted before (take 128 rest) ++ document_bytes counted last (drop 128 rest) =
    ap (λ (l : List Posting). document_bytes counted before l) (sym whole) ∙ document-append counted before (take 128 rest) (drop 128 rest)
    ∙ ap (λ (n : ℕ). document_bytes counted before (take 128 rest) ++ document_bytes counted n (drop 128 rest)) (sym last_is) in
    let places_split : position_bytes rest ≡ position_bytes (take 128 rest) ++ position_bytes (drop 128 rest) =
    ap (λ (l : List Posting). position_bytes l) (sym whole) ∙ position-append (take 128 rest) (drop 128 rest) in
    let rising : AreRising (documents (take 128 rest ++ drop 128 rest)) = subst (λ (l : List Posting). AreRising (documents l)) (sym whole) h.rising in
    let above : AllByRecursion (λ p. before ≤ p.document) (take 128 rest ++ drop 128 rest) = subst (λ (l : List Posting). AllByRecursion (λ p. before ≤ p.document) l) (sym whole) h.above in
    let wants : AllByRecursion (Wants counted) (take 128 rest ++ drop 128 rest) = subst (λ (l : List Posting). AllByRecursion (Wants counted) l) (sym whole) h.wants in
    record {
      heads_are = ap (λ (l : List ℕ). l ++ head_list (later_blocks (drop 128 rest)) counted last (drop 128 rest)) (heads_is ∙ ap (λ (l : List ℕ). heads ++ l) head)
          ∙ append_assoc heads (head_bytes counted before (take 128 rest)) (head_list (later_blocks (drop 128 rest)) counted last (drop 128 rest))
          ∙ ap (λ (n : ℕ). heads ++ (head_bytes counted before (take 128 rest) ++ head_list (later_blocks (drop 128 rest)) counted n (drop 128 rest))) last_is
          ∙ ap (λ (l : List ℕ). heads ++ l) (sym (head_step counted before rest more)) ∙ h.heads_are;
      blocks_are = ap (λ (l : List ℕ). l ++ document_bytes counted last (drop 128 rest)) blocks_is ∙ append_assoc blocks (document_bytes counted before (take 128 rest)) (document_bytes counted last (drop 128 rest))
          ∙ ap (λ (l : List ℕ). blocks ++ l) (sym blocks_split) ∙ h.blocks_are;
      places_are = ap (λ (l : List ℕ). l ++ position_bytes (drop 128 rest)) places_is ∙ append_assoc places (position_bytes (take 128 rest)) (position_bytes (drop 128 rest))
          ∙ ap (λ (l : List ℕ). places ++ l) (sym places_split) ∙ h.places_are;
      rising = rising_right (take 128 rest) (drop 128 rest) rising;
      above = subst (λ (n : ℕ). AllByRecursion (λ p. n ≤ p.document) (drop 128 rest)) (sym last_is)
          (behind_last before (take 128 rest) (drop 128 rest) (all_right (λ (p : Posting). before ≤ p.document) (take 128 rest) (drop 128 rest) above) rising);
      wants = all_right (Wants counted) (take 128 rest) (drop 128 rest) wants;
      fits = λ f. h.fits (subst (λ (l : List Posting). AllByRecursion (Fits counted) l) whole (all_both (Fits counted) (take 128 rest) (drop 128 rest) fits f));
    }

-- the last block
pub last_block : (counted : Bool) (start places_start heads blocks places now places_now : List ℕ) (before : ℕ) (rest all : List Posting) → length rest ≤ 128
    → PutsBlocks counted start places_start heads blocks places before rest all → AreRising (documents all) → now ≡ (heads ++ blocks) ++ document_bytes counted before rest
    → places_now ≡ places ++ position_bytes rest → AllByRecursion (Fits counted) rest → length now < 2 ^ 64 → length places_now < 2 ^ 64 → AppendsList counted all start places_start now places_now
last_block counted start places_start heads blocks places now places_now before rest all few h rising now_is places_is fits size places_size =
    let none : later_blocks rest ≡ 0 = omega arith in
    let heads_are : heads ≡ start ++ head_list (later_blocks all) counted 0 all = sym (append-nil heads) ∙ ap (λ (n : ℕ). heads ++ head_list n counted before rest) (sym none) ∙ h.heads_are in
    let now_are : now ≡ start ++ list_bytes counted all =
    now_is ∙ append_assoc heads blocks (document_bytes counted before rest) ∙ ap (λ (l : List ℕ). heads ++ l) h.blocks_are
    ∙ ap (λ (l : List ℕ). l ++ document_bytes counted 0 all) heads_are ∙ append_assoc start (head_list (later_blocks all) counted 0 all) (document_bytes counted 0 all) in
    let places_are = places_is ∙ h.places_are in
    record {
      are_documents = record {
        rising = rising;
        fits = h.fits fits;
        size = omega (
          arith,
          size,
          ap (λ (l : List ℕ). length l) now_are,
          length-append start (list_bytes counted all),
          length-append (head_list (later_blocks all) counted 0 all) (document_bytes counted 0 all),
        );
        positions_size = omega (arith, places_size, ap (λ (l : List ℕ). length l) places_are, length-append places_start (position_bytes all));
      };
      postings_are = now_are;
      positions_are = places_are;
    }

-- ---- rows

pub lent-length : (rows : List Row) → length (lent rows) ≡ length rows
lent-length rows = length-map rows lent_one

pub lent-take : (n : ℕ) (rows : List Row) → lent (take n rows) ≡ take n (lent rows)
lent-take n rows = sym (take-map lent_one n rows)

pub lent-drop : (n : ℕ) (rows : List Row) → lent (drop n rows) ≡ drop n (lent rows)
lent-drop n rows = sym (drop-map lent_one n rows)

pub row_front : (rows : List Row) (i : ℕ) (d : Row) → i < length rows → drop i (lent rows) ≡ lent_one (get_or rows i d) ∷ drop (i + 1) (lent rows)
row_front [] i d lt = absurd (omega arith)
row_front (r ∷ rs) zero d lt = refl
row_front (r ∷ rs) (suc i) d lt = rw suc-add (row_front rs i d (omega arith))

pub block_front : (rows : List Row) (from : ℕ) → lent (take (from + 128 - from) (drop from rows)) ≡ take 128 (drop from (lent rows))
block_front rows from =
    let size : from + 128 - from ≡ 128 = omega arith in
    ap (λ (n : ℕ). lent (take n (drop from rows))) size ∙ lent-take 128 (drop from rows) ∙ ap (λ (l : List Posting). take 128 l) (lent-drop from rows)

pub rest_front : (rows : List Row) (from : ℕ) → lent (take (length rows - from) (drop from rows)) ≡ drop from (lent rows)
rest_front rows from =
    let whole : length (drop from rows) ≤ length rows - from = omega (arith, length-drop from rows) in
    ap (λ (l : List Row). lent l) (take_all (length rows - from) (drop from rows) whole) ∙ lent-drop from rows
