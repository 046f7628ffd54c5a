-- The documents of a block, given at once.
use Rattle.std.proofs.Common.{◌≡◌, ℕ, zero, suc, ◌+◌, ◌<◌, Bool, List, [], ◌∷◌, ◌++◌, length, take, drop, Option, Some, Result, Ok, Err, refl, sym, ◌∙◌, ap, subst, suc-add, arith, append_assoc, length-append, length-drop, length-take}
use Rattle.std.specs.Prelude.{IsOkAnd}
use Rattle.std.proofs.lemmas.List.{drop-drop, map-append, take_at}
use Rattle.byte_fields.specs.declared.corrupt.Corrupt.{Corrupt}
use Rattle.term_postings.specs.Postings.{documents}
use Rattle.term_postings.specs.Cursors.{StandsBefore, first_document, first_positions, last_positions, PassesMany, GivesMany}
use Rattle.byte_fields.specs.Steps.{◌>>=◌}
use Rattle.term_postings.specs.Reading.{Walk, passed_one, passed_many, last_of}
use Rattle.term_postings.specs.declared.list.Posting.{Posting}
use Rattle.term_postings.specs.declared.cursor.Cursor.{Cursor}
use Rattle.term_postings.proofs.Walks.{PassesOne, step_given}

-- ---- over any bytes

abbrev stepped : ℕ × Walk → Result (ℕ × Walk) Corrupt
stepped x = Ok x

abbrev behind : List ℕ → Result (List ℕ × Walk) Corrupt → Result (List ℕ × Walk) Corrupt
behind given read = read >>= λ more. Ok (given ++ more.0, more.1)

joined : (given next : List ℕ) (document : ℕ) (read : Result (List ℕ × Walk) Corrupt) → next ≡ given ++ document ∷ []
    → behind given (read >>= λ more. Ok (document ∷ more.0, more.1)) ≡ behind next read
joined given next document (Ok x) e =
    let result : List ℕ → Result (List ℕ × Walk) Corrupt = λ l. Ok (l, x.1) in
    ap result (sym (append_assoc given (document ∷ []) x.0) ∙ ap (λ (l : List ℕ). l ++ x.0) (sym e))
joined given next document (Err c) e = refl

pub one_read : (n m : ℕ) (w now : Walk) (document : ℕ) (given next : List ℕ) (whole : Result (List ℕ × Walk) Corrupt) → n ≡ suc m → stepped (document, now) ≡ passed_one w → next ≡ given ++ document ∷ []
    → whole ≡ (passed_many n w >>= λ more. Ok (given ++ more.0, more.1)) → whole ≡ (passed_many m now >>= λ more. Ok (next ++ more.0, more.1))
one_read n m w now document given next whole count step is so_far =
    so_far ∙ (rw (count, sym step) (joined given next document (passed_many m now) is))

-- ---- over the bytes of documents

documents-append : (xs ys : List Posting) → documents (xs ++ ys) ≡ documents xs ++ documents ys
documents-append xs ys = map-append (λ (p : Posting). p.document) xs ys

one_more : (after : List Posting) (k : ℕ) (p : Posting) (ps : List Posting) → drop k after ≡ p ∷ ps → take (k + 1) after ≡ take k after ++ p ∷ []
one_more [] zero p ps e = absurd cc
one_more [] (suc k) p ps e = absurd cc
one_more (x ∷ xs) zero p ps e =
    let same : x ≡ p = cc in
    ap (λ (y : Posting). y ∷ []) same
one_more (x ∷ xs) (suc k) p ps e = rw suc-add (ap (λ (l : List Posting). x ∷ l) (one_more xs k p ps e))

last-positions : (xs : List Posting) (p : Posting) (left : List ℕ) → last_positions (xs ++ p ∷ []) left ≡ p.positions
last-positions [] p left = refl
last-positions (x ∷ xs) p left = last-positions xs p x.positions

pub last_same : (ps : List Posting) (a b : List ℕ) → 0 < length ps → last_positions ps a ≡ last_positions ps b
last_same [] a b lt = absurd (omega arith)
last_same (p ∷ ps) a b lt = refl

pub none_given : (told : Bool) (c : Cursor) (after : List Posting) (left : List ℕ) → StandsBefore told c after left → PassesMany told c after left []
none_given told c after left s = record { within = omega arith; given_are = refl; stands = s }

pub one_given : (told : Bool) (c d : Cursor) (r : Result ℕ Corrupt) (after : List Posting) (left given next : List ℕ) (document : ℕ) → PassesMany told c after left given → 0 < c.left → PassesOne told c d r
    → r ≡ Ok document → next ≡ given ++ document ∷ [] → PassesMany told d after left next
one_given told c d r after left given next document m some pass is next_is =
    let k = length given in
    let step = step_given told c d r (drop k after) (last_positions (take k after) left) (last_positions (take k after) left) m.stands some pass in
    let first : first_document (drop k after) ≡ Some document = subst (λ (x : Result ℕ Corrupt). IsOkAnd x (λ n. first_document (drop k after) ≡ Some n)) is step.0 in
    by_rest (drop k after) refl first step.1
  where
    by_rest : (rest : List Posting) → drop (length given) after ≡ rest → first_document rest ≡ Some document
        → StandsBefore told d (drop 1 rest) (first_positions rest (last_positions (take (length given) after) left)) → PassesMany told d after left next
    by_rest [] e first stands = absurd cc
    by_rest (p ∷ ps) e first stands =
        let k = length given in
        let same : p.document ≡ document = cc in
        let size : length next ≡ length given + 1 = omega (arith, ap (λ (l : List ℕ). length l) next_is, length-append given (document ∷ [])) in
        let front : take (length next) after ≡ take k after ++ p ∷ [] = ap (λ (n : ℕ). take n after) size ∙ one_more after k p ps e in
        let back : drop (length next) after ≡ ps = ap (λ (n : ℕ). drop n after) size ∙ sym (drop-drop 1 k after) ∙ ap (λ (l : List Posting). drop 1 l) e in
        record {
          within = omega (arith, size, ap (λ (l : List Posting). length l) e, length-drop k after);
          given_are = next_is ∙ ap (λ (l : List ℕ). l ++ document ∷ []) m.given_are ∙ ap (λ (n : ℕ). documents (take k after) ++ n ∷ []) (sym same)
              ∙ sym (documents-append (take k after) (p ∷ [])) ∙ ap (λ (l : List Posting). documents l) (sym front);
          stands = subst (λ (l : List Posting). StandsBefore told d l (last_positions (take (length next) after) left)) (sym back)
              (subst (λ (l : List ℕ). StandsBefore told d ps l) (sym (ap (λ (l : List Posting). last_positions l left) front ∙ last-positions (take k after) p left)) stands);
        }

-- what was given of a block, told by the positions that were left before it
pub many_given : (told : Bool) (c : Cursor) (after : List Posting) (left now given whole : List ℕ) (count : ℕ) → PassesMany told c after now given → length given ≡ count → 0 < count
    → GivesMany told c after left (take count (given ++ whole))
many_given told c after left now given whole count m size some =
    let front : take count (given ++ whole) ≡ given = take_at given whole count size in
    let taken : 0 < length (take (length given) after) = omega (arith, m.within, length-take (length given) after) in
    rw front (record {
      passes = record {
        within = m.within;
        given_are = m.given_are;
        stands = subst (λ (l : List ℕ). StandsBefore told c (drop (length given) after) l) (last_same (take (length given) after) now left taken) m.stands;
      };
      some = λ none. absurd (omega arith);
    })

-- a document that is there is not refused
pub pass_refused : (told : Bool) (c d : Cursor) (r : Result ℕ Corrupt) (fault : Corrupt) (after : List Posting) (left given : List ℕ) → PassesMany told c after left given → 0 < c.left → PassesOne told c d r → r ≡ Err fault → ⊥
pass_refused told c d r fault after left given m some pass is =
    let k = length given in
    let step = step_given told c d r (drop k after) (last_positions (take k after) left) (last_positions (take k after) left) m.stands some pass in
    subst (λ (x : Result ℕ Corrupt). IsOkAnd x (λ n. first_document (drop k after) ≡ Some n)) is step.0

pub last_one : (found : List ℕ) (document : ℕ) (before : Option ℕ) → last_of (found ++ document ∷ []) before ≡ Some document
last_one [] document before = refl
last_one (x ∷ xs) document before = last_one xs document (Some x)
