-- Lists of documents, in parts.
use Rattle.std.proofs.Common.{◌≡◌, ℕ, suc, ◌+◌, ◌-◌, ◌^◌, ◌<◌, ◌≤◌, Bool, List, [], ◌∷◌, ◌++◌, length, take, drop, refl, sym, ◌∙◌, ap, subst, arith, append_assoc, length-append, length-drop}
use Rattle.std.specs.List.{flat_map, AllByRecursion}
use Rattle.std.proofs.lemmas.List.{take-append-drop}
use Rattle.std.proofs.lemmas.List.Concat.{flat_map-append}
use Rattle.byte_fields.specs.Spelling.{varint}
use Rattle.term_postings.specs.Postings.{gaps, varints, count_bytes, document_bytes, position_bytes, last_document, head_bytes, head_list, later_blocks, AreRising, documents, Fits}
use Rattle.term_postings.specs.Cursors.{AreBehind, position_count}
use Rattle.term_postings.specs.declared.list.Posting.{Posting}
use Rattle.term_postings.proofs.Numbers.{varint_some}

pub document-append : (counted : Bool) (before : ℕ) (xs ys : List Posting) → document_bytes counted before (xs ++ ys) ≡ document_bytes counted before xs ++ document_bytes counted (last_document before xs) ys
document-append counted before [] ys = refl
document-append counted before (x ∷ xs) ys =
    ap (λ (l : List ℕ). varint (x.document - before) ++ (count_bytes counted x.positions ++ l)) (document-append counted x.document xs ys) ∙ simp append_assoc

pub position-append : (xs ys : List Posting) → position_bytes (xs ++ ys) ≡ position_bytes xs ++ position_bytes ys
position-append xs ys = flat_map-append (λ (p : Posting). varints (gaps 0 p.positions)) xs ys

pub last-append : (before : ℕ) (xs ys : List Posting) → last_document before (xs ++ ys) ≡ last_document (last_document before xs) ys
last-append before [] ys = refl
last-append before (x ∷ xs) ys = last-append x.document xs ys

pub all_left : {X : Type 0} (P : X → Type 0) (xs ys : List X) → AllByRecursion P (xs ++ ys) → AllByRecursion P xs
all_left P [] ys h = tt
all_left P (x ∷ xs) ys h = (h.0, all_left P xs ys h.1)

pub all_right : {X : Type 0} (P : X → Type 0) (xs ys : List X) → AllByRecursion P (xs ++ ys) → AllByRecursion P ys
all_right P [] ys h = h
all_right P (x ∷ xs) ys h = all_right P xs ys h.1

pub all_both : {X : Type 0} (P : X → Type 0) (xs ys : List X) → AllByRecursion P xs → AllByRecursion P ys → AllByRecursion P (xs ++ ys)
all_both P [] ys g h = h
all_both P (x ∷ xs) ys g h = (g.0, all_both P xs ys g.1 h)

pub above_documents : (n : ℕ) (ps : List Posting) → AllByRecursion (λ m. n < m) (documents ps) → AllByRecursion (λ p. n ≤ p.document) ps
above_documents n [] h = tt
above_documents n (p ∷ ps) h = (omega (arith, h.0), above_documents n ps h.1)

documents_right : (n : ℕ) (xs ys : List Posting) → AllByRecursion (λ m. n < m) (documents (xs ++ ys)) → AllByRecursion (λ m. n < m) (documents ys)
documents_right n [] ys h = h
documents_right n (x ∷ xs) ys h = documents_right n xs ys h.1

documents_left : (n : ℕ) (xs ys : List Posting) → AllByRecursion (λ m. n < m) (documents (xs ++ ys)) → AllByRecursion (λ m. n < m) (documents xs)
documents_left n [] ys h = tt
documents_left n (x ∷ xs) ys h = (h.0, documents_left n xs ys h.1)

pub rising_left : (xs ys : List Posting) → AreRising (documents (xs ++ ys)) → AreRising (documents xs)
rising_left [] ys h = tt
rising_left (x ∷ xs) ys h = (documents_left x.document xs ys h.0, rising_left xs ys h.1)

pub rising_right : (xs ys : List Posting) → AreRising (documents (xs ++ ys)) → AreRising (documents ys)
rising_right [] ys h = h
rising_right (x ∷ xs) ys h = rising_right xs ys h.1

-- what stands behind documents is not below the last of them
pub behind_last : (before : ℕ) (xs ys : List Posting) → AllByRecursion (λ p. before ≤ p.document) ys → AreRising (documents (xs ++ ys)) → AllByRecursion (λ p. last_document before xs ≤ p.document) ys
behind_last before [] ys low h = low
behind_last before (x ∷ xs) ys low h = behind_last x.document xs ys (above_documents x.document ys (documents_right x.document xs ys h.0)) h.1

pub left_behind : (counted : Bool) (before : ℕ) (xs ys : List Posting) → AreBehind counted before (xs ++ ys) → AreBehind counted before xs
left_behind counted before xs ys h =
    let size = ap (λ (l : List ℕ). length l) (document-append counted before xs ys) in
    let positions = ap (λ (l : List ℕ). length l) (position-append xs ys) in
    record {
      rising = rising_left xs ys h.rising;
      fits = all_left (Fits counted) xs ys h.fits;
      not_below = all_left (λ (p : Posting). before ≤ p.document) xs ys h.not_below;
      size = omega (arith, h.size, size, length-append (document_bytes counted before xs) (document_bytes counted (last_document before xs) ys));
      positions_size = omega (arith, h.positions_size, positions, length-append (position_bytes xs) (position_bytes ys));
    }

pub right_behind : (counted : Bool) (before : ℕ) (xs ys : List Posting) → AreBehind counted before (xs ++ ys) → AreBehind counted (last_document before xs) ys
right_behind counted before xs ys h =
    let size = ap (λ (l : List ℕ). length l) (document-append counted before xs ys) in
    let positions = ap (λ (l : List ℕ). length l) (position-append xs ys) in
    record {
      rising = rising_right xs ys h.rising;
      fits = all_right (Fits counted) xs ys h.fits;
      not_below = behind_last before xs ys (all_right (λ (p : Posting). before ≤ p.document) xs ys h.not_below) h.rising;
      size = omega (arith, h.size, size, length-append (document_bytes counted before xs) (document_bytes counted (last_document before xs) ys));
      positions_size = omega (arith, h.positions_size, positions, length-append (position_bytes xs) (position_bytes ys));
    }

-- the first block and what is behind it
pub block_behind : (counted : Bool) (before : ℕ) (ps : List Posting) → AreBehind counted before ps → AreBehind counted before (take 128 ps)
block_behind counted before ps h =
    left_behind counted before (take 128 ps) (drop 128 ps) (subst (λ (l : List Posting). AreBehind counted before l) (sym (take-append-drop 128 ps)) h)

pub rest_behind : (counted : Bool) (before : ℕ) (ps : List Posting) → AreBehind counted before ps → AreBehind counted (last_document before (take 128 ps)) (drop 128 ps)
rest_behind counted before ps h =
    right_behind counted before (take 128 ps) (drop 128 ps) (subst (λ (l : List Posting). AreBehind counted before l) (sym (take-append-drop 128 ps)) h)

-- the last of some documents is within its type
pub last_fits : (counted : Bool) (before : ℕ) (ps : List Posting) → AllByRecursion (Fits counted) ps → before < 2 ^ 32 → last_document before ps < 2 ^ 32
last_fits counted before [] h lt = lt
last_fits counted before (p ∷ ps) h lt = last_fits counted p.document ps h.1 h.0.document

pub gap_fits : (counted : Bool) (before : ℕ) (ps : List Posting) → AllByRecursion (Fits counted) ps → last_document before ps - before < 2 ^ 64
gap_fits counted before [] h = omega arith
gap_fits counted before (p ∷ ps) h = omega (arith, last_fits counted p.document ps h.1 h.0.document)

pub last_above : (before : ℕ) (ps : List Posting) → AllByRecursion (λ p. before ≤ p.document) ps → AreRising (documents ps) → before ≤ last_document before ps
last_above before [] low h = omega arith
last_above before (p ∷ ps) low h = omega (arith, low.0, last_above p.document ps (above_documents p.document ps h.0) h.1)

-- where more than one block stands, one head stands in front of the others
pub later_step : (ps : List Posting) → 128 < length ps → later_blocks ps ≡ suc (later_blocks (drop 128 ps))
later_step ps lt = omega (arith, length-drop 128 ps)

pub head_step : (counted : Bool) (before : ℕ) (ps : List Posting) → 128 < length ps
    → head_list (later_blocks ps) counted before ps ≡ head_bytes counted before (take 128 ps) ++ head_list (later_blocks (drop 128 ps)) counted (last_document before (take 128 ps)) (drop 128 ps)
head_step counted before ps lt = ap (λ (n : ℕ). head_list n counted before ps) (later_step ps lt)

-- a position takes a byte at least
length-gaps : (before : ℕ) (ns : List ℕ) → length ns ≤ length (varints (gaps before ns))
length-gaps before [] = omega arith
length-gaps before (n ∷ ns) = omega (arith, length-gaps n ns, varint_some (n - before), length-append (varint (n - before)) (varints (gaps n ns)))

pub counts_within : (ps : List Posting) → position_count ps ≤ length (position_bytes ps)
counts_within [] = omega arith
counts_within (p ∷ ps) =
    let count : position_count (p ∷ ps) ≡ length p.positions + position_count ps = length-append p.positions (flat_map (λ (q : Posting). q.positions) ps) in
    let size : length (position_bytes (p ∷ ps)) ≡ length (varints (gaps 0 p.positions)) + length (position_bytes ps) = length-append (varints (gaps 0 p.positions)) (position_bytes ps) in
    omega (arith, length-gaps 0 p.positions, counts_within ps)

pub gaps_fit : (before : ℕ) (ns : List ℕ) → AllByRecursion (λ n. n < 2 ^ 64) ns → AllByRecursion (λ n. n < 2 ^ 64) (gaps before ns)
gaps_fit before [] h = tt
gaps_fit before (n ∷ ns) h = (omega (arith, h.0), gaps_fit n ns h.1)

pub length_of_gaps : (before : ℕ) (ns : List ℕ) → length (gaps before ns) ≡ length ns
length_of_gaps before [] = refl
length_of_gaps before (n ∷ ns) = ap (λ (i : ℕ). suc i) (length_of_gaps n ns)

pub last_some : (counted : Bool) (before : ℕ) (ps : List Posting) → AllByRecursion (Fits counted) ps → 0 < length ps → last_document before ps < 2 ^ 32
last_some counted before [] h lt = absurd (omega arith)
last_some counted before (p ∷ ps) h lt = last_fits counted p.document ps h.1 h.0.document
