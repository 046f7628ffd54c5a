-- Positions that are taken one after the other, and lists that grow.
use Rattle.std.proofs.Common.{◌≡◌, ℕ, ◌+◌, ◌-◌, ◌<◌, ◌≤◌, true, false, List, [], ◌∷◌, ◌++◌, length, drop, Option, Some, None, Result, Ok, Err, refl, sym, ap, subst, ◌∙◌, arith, append_assoc, length-append}
use Rattle.std.specs.List.{AllByRecursion}
use Rattle.std.proofs.lemmas.List.{append-nil}
use Rattle.byte_fields.specs.declared.corrupt.Corrupt.{Corrupt}
use Rattle.byte_fields.specs.Spelling.{varint}
use Rattle.term_postings.specs.Cursors.{StandsBefore, first_number}
use Rattle.term_postings.specs.Postings.{AreRising, gaps, varints}
use Rattle.term_postings.specs.declared.cursor.Cursor.{Cursor}
use Rattle.term_postings.specs.declared.list.Posting.{Posting}
use Rattle.std.proofs.lemmas.Bool.{lt-ltb}
use borrow.Author.Tests.{ltb-true}
use Rattle.term_postings.proofs.Lists.{all_both, all_right}
use Rattle.split_merge.specs.Joining.{is_above, last_or_zero}

-- ---- numbers that rise

pub rising_push : (xs : List ℕ) (n : ℕ) → AreRising xs → AllByRecursion (λ m. m < n) xs → AreRising (xs ++ n ∷ [])
rising_push [] n rise below = (tt, tt)
rising_push (x ∷ xs) n rise below = (all_both (λ m. x < m) xs (n ∷ []) rise.0 (below.0, tt), rising_push xs n rise.1 below.1)

below_weaker : (xs : List ℕ) (a b : ℕ) → a ≤ b → AllByRecursion (λ m. m < a) xs → AllByRecursion (λ m. m < b) xs
below_weaker [] a b le h = tt
below_weaker (x ∷ xs) a b le h = (omega (arith, h.0), below_weaker xs a b le h.1)

-- each of rising numbers before one is below it
pub rising_below : (xs : List ℕ) (n : ℕ) (ys : List ℕ) → AreRising (xs ++ n ∷ ys) → AllByRecursion (λ m. m < n) xs
rising_below [] n ys rise = tt
rising_below (x ∷ xs) n ys rise = (by xs rise.0, rising_below xs n ys rise.1)
  where
    by : (zs : List ℕ) → AllByRecursion (λ m. x < m) (zs ++ n ∷ ys) → x < n
    by [] h = h.0
    by (z ∷ zs) h = by zs h.1

-- numbers of which each is below whatever is above the last
pub record IsLast (last : Option ℕ) (ns : List ℕ) : Type 0 where
  pub rising : AreRising ns
  pub below : (n : ℕ) → is_above last n ≡ true → AllByRecursion (λ m. m < n) ns
  pub above : (n : ℕ) → AllByRecursion (λ m. m < n) ns → is_above last n ≡ true

pub no_last : IsLast None []
no_last = record { rising = tt; below = λ n h. tt; above = λ n h. refl }

pub next_last : (last : Option ℕ) (ns : List ℕ) (n : ℕ) → IsLast last ns → is_above last n ≡ true → IsLast (Some n) (ns ++ n ∷ [])
next_last last ns n h up = record {
  rising = rising_push ns n h.rising (h.below n up);
  below = λ m lt. let above : n < m = ltb-true n m lt in all_both (λ k. k < m) ns (n ∷ []) (below_weaker ns n m (omega arith) (h.below n up)) (above, tt);
  above = λ m all. lt-ltb n m (all_right (λ k. k < m) ns (n ∷ []) all).0;
}

-- ---- numbers in bytes

-- the last of numbers, or one that stands before them
abbrev pub last_number : ℕ → List ℕ → ℕ
last_number before [] = before
last_number before (n ∷ ns) = last_number n ns

last_push : (before : ℕ) (ns : List ℕ) (n : ℕ) → last_number before (ns ++ n ∷ []) ≡ n
last_push before [] n = refl
last_push before (m ∷ ms) n = last_push m ms n

-- one number more
spelled_push : (before : ℕ) (ns : List ℕ) (n : ℕ) → varints (gaps before (ns ++ n ∷ [])) ≡ varints (gaps before ns) ++ varint (n - last_number before ns)
spelled_push before [] n = append-nil (varint (n - before))
spelled_push before (m ∷ ms) n = ap (λ (l : List ℕ). varint (m - before) ++ l) (spelled_push m ms n) ∙ sym (append_assoc (varint (m - before)) (varints (gaps m ms)) (varint (n - last_number m ms)))

-- ---- the positions of a document

-- so many positions were taken, and those of a list are still to come
pub record TakesPlaces (start now : List ℕ) (count : ℕ) (last : Option ℕ) (old new : Cursor) : Type 0 where
  pub taken : List ℕ
  pub now_is : now ≡ start ++ varints (gaps 0 taken)
  pub size : length taken ≡ count
  pub is_last : IsLast last taken
  pub last_is : last_or_zero last ≡ last_number 0 taken
  pub only : (after : List Posting) (left : List ℕ) → StandsBefore true old after left → AreRising left → (rest : List ℕ) × StandsBefore true new after rest × (left ≡ taken ++ rest)

pub no_places : (start : List ℕ) (c : Cursor) → TakesPlaces start start 0 None c c
no_places start c = record { taken = []; now_is = sym (append-nil start); size = refl; is_last = no_last; last_is = refl; only = λ after left stands rise. (left, stands, refl) }

abbrev answer : Option ℕ → Result (Option ℕ) Corrupt
answer o = Ok o

-- what `next_position` says of a list
abbrev pub GivesPlace : Cursor → Cursor → Result (Option ℕ) Corrupt → Type 0
GivesPlace old new result = (after : List Posting) (left : List ℕ) → StandsBefore true old after left → (result ≡ answer (first_number left)) × StandsBefore true new after (drop 1 left)

first_is : (left : List ℕ) (n : ℕ) → answer (Some n) ≡ answer (first_number left) → left ≡ n ∷ drop 1 left
first_is [] n e = absurd cc
first_is (m ∷ ms) n e = let same : n ≡ m = cc in ap (λ (k : ℕ). k ∷ ms) (sym same)

none_is : (left : List ℕ) → answer None ≡ answer (first_number left) → left ≡ []
none_is [] e = refl
none_is (m ∷ ms) e = absurd cc

module _ (start now : List ℕ) (count : ℕ) (last : Option ℕ) (old mid : Cursor) (h : TakesPlaces start now count last old mid) where
  pub one_place : (next : List ℕ) (place gap : ℕ) (new : Cursor) → GivesPlace mid new (answer (Some place)) → is_above last place ≡ true → gap ≡ place - last_or_zero last → next ≡ now ++ varint gap → TakesPlaces start next (count + 1) (Some place) old new
  one_place next place gap new gives up gap_is next_is = record {
    taken = h.taken ++ place ∷ [];
    now_is = next_is ∙ ap (λ (n : ℕ). now ++ varint n) (gap_is ∙ ap (λ (n : ℕ). place - n) h.last_is) ∙ ap (λ (l : List ℕ). l ++ varint (place - last_number 0 h.taken)) h.now_is
        ∙ append_assoc start (varints (gaps 0 h.taken)) (varint (place - last_number 0 h.taken)) ∙ ap (λ (l : List ℕ). start ++ l) (sym (spelled_push 0 h.taken place));
    size = length-append h.taken (place ∷ []) ∙ omega (arith, h.size);
    is_last = next_last last h.taken place h.is_last up;
    last_is = sym (last_push 0 h.taken place);
    only = λ after left stands rise.
        let o = h.only after left stands rise in
        let g = gives after o.0 o.1 in
        let first = first_is o.0 place g.0 in
        (drop 1 o.0, g.1, o.2 ∙ ap (λ (l : List ℕ). h.taken ++ l) first ∙ sym (append_assoc h.taken (place ∷ []) (drop 1 o.0)));
  }

  -- of a list each position is above the last
  pub place_above : (place : ℕ) (new : Cursor) (after : List Posting) (left : List ℕ) → GivesPlace mid new (answer (Some place)) → StandsBefore true old after left → AreRising left → is_above last place ≡ false → ⊥
  place_above place new after left gives stands rise low =
      let o = h.only after left stands rise in
      let first = first_is o.0 place (gives after o.0 o.1).0 in
      let rises : AreRising (h.taken ++ place ∷ drop 1 o.0) = subst AreRising (o.2 ∙ ap (λ (l : List ℕ). h.taken ++ l) first) rise in
      let up = h.is_last.above place (rising_below h.taken place (drop 1 o.0) rises) in
      absurd cc

  pub all_places : (new : Cursor) (after : List Posting) (left : List ℕ) → GivesPlace mid new (answer None) → StandsBefore true old after left → AreRising left → (now ≡ start ++ varints (gaps 0 left)) × (length left ≡ count) × StandsBefore true new after []
  all_places new after left gives stands rise =
      let o = h.only after left stands rise in
      let g = gives after o.0 o.1 in
      let none = none_is o.0 g.0 in
      let whole : left ≡ h.taken = o.2 ∙ ap (λ (l : List ℕ). h.taken ++ l) none ∙ append-nil h.taken in
      (h.now_is ∙ ap (λ (l : List ℕ). start ++ varints (gaps 0 l)) (sym whole), ap (λ (l : List ℕ). length l) whole ∙ h.size, subst (λ (l : List ℕ). StandsBefore true new after (drop 1 l)) none g.1)

  pub no_fault : (fault : Corrupt) (new : Cursor) (after : List Posting) (left : List ℕ) → GivesPlace mid new (Err fault) → StandsBefore true old after left → AreRising left → ⊥
  no_fault fault new after left gives stands rise =
      let o = h.only after left stands rise in
      let wrong = (gives after o.0 o.1).0 in
      absurd cc
