-- The entries of one document in a column.
use Rattle.std.proofs.Common.{◌≡◌, ℕ, zero, suc, ◌+◌, ◌-◌, ◌<◌, ◌≤◌, List, [], ◌∷◌, ◌++◌, length, slice_get, Option, Some, None, refl, ap, sym, ◌∙◌, subst, arith, append_assoc, length-append}
use Rattle.std.specs.List.{AllByRecursion}
use Rattle.std.proofs.lemmas.Bool.{lt-ltb, le-ltb, eq-eqb, ne_eqb}
use Rattle.doc_value.specs.declared.doc.Value.{Value}
use Rattle.fast_fields.specs.Columns.{Cell, cells, cells_of, AreEntries, IsNumber}
use Rattle.fast_fields.specs.Readers.{count_below, first_number}
use Rattle.fast_fields.specs.declared.entries.Entry.{Entry}
use Rattle.fast_fields.specs.declared.rows.ColumnRow.{ColumnRow}
use Rattle.doc_value.specs.Documents.{values_in}
use Rattle.split_bundle.specs.Columns.{row_of, rows_from}
use Rattle.split_bundle.specs.declared.placed.Placed.{Placed}

abbrev pub first_of : List Entry → Option ℕ
first_of [] = None
first_of (e ∷ es) = Some e.number

-- the entries of a document with these values stand one behind the other
pub record Own (texts : List (List ℕ)) (k : ℕ) (vs : List Value) (es : List Entry) : Type 0 where
  pub before : List Entry
  pub own : List Entry
  pub behind : List Entry
  pub parts : es ≡ before ++ (own ++ behind)
  pub are : AreEntries texts (cells_of k vs) own
  pub below : count_below k es ≡ length before
  pub next : count_below (k + 1) es ≡ length before + length own
  pub first : first_number k es ≡ first_of own

-- ---- entries in two parts

record Halves (texts : List (List ℕ)) (cs ds : List Cell) (es : List Entry) : Type 0 where
  front : List Entry
  back : List Entry
  parts : es ≡ front ++ back
  front_are : AreEntries texts cs front
  back_are : AreEntries texts ds back

halves : (texts : List (List ℕ)) (cs ds : List Cell) (es : List Entry) → AreEntries texts (cs ++ ds) es → Halves texts cs ds es
halves texts [] ds es are = record { front = []; back = es; parts = refl; front_are = tt; back_are = are }
halves texts (c ∷ cs) ds [] are = absurd are
halves texts (c ∷ cs) ds (e ∷ es) are =
    let rest = halves texts cs ds es are.2 in
    record {
      front = e ∷ rest.front;
      back = rest.back;
      parts = ap (λ (zs : List Entry). e ∷ zs) rest.parts;
      front_are = (are.0, are.1, rest.front_are);
      back_are = rest.back_are;
    }

row_cells : (n : ℕ) (vs : List Value) (rows : List ColumnRow) → cells (row_of n vs ++ rows) ≡ cells_of n vs ++ cells rows
row_cells n [] rows = refl
row_cells n (v ∷ vs) rows = refl

-- ---- documents of entries

all_own : (texts : List (List ℕ)) (k : ℕ) (vs : List Value) (own : List Entry) → AreEntries texts (cells_of k vs) own → AllByRecursion (λ e. e.document ≡ k) own
all_own texts k [] [] are = tt
all_own texts k [] (e ∷ es) are = absurd are
all_own texts k (v ∷ vs) [] are = absurd are
all_own texts k (v ∷ vs) (e ∷ es) are = (are.0, all_own texts k vs es are.2)

from_own : (k n : ℕ) (es : List Entry) → n ≤ k → AllByRecursion (λ e. e.document ≡ k) es → AllByRecursion (λ e. n ≤ e.document) es
from_own k n [] le same = tt
from_own k n (e ∷ es) le same = (let is : e.document ≡ k = same.0 in omega arith, from_own k n es le same.1)

from_less : (n m : ℕ) (es : List Entry) → n ≤ m → AllByRecursion (λ e. m ≤ e.document) es → AllByRecursion (λ e. n ≤ e.document) es
from_less n m [] le more = tt
from_less n m (e ∷ es) le more = (let is : m ≤ e.document = more.0 in omega arith, from_less n m es le more.1)

both_from : (n : ℕ) (xs ys : List Entry) → AllByRecursion (λ e. n ≤ e.document) xs → AllByRecursion (λ e. n ≤ e.document) ys → AllByRecursion (λ e. n ≤ e.document) (xs ++ ys)
both_from n [] ys front back = back
both_from n (x ∷ xs) ys front back = (front.0, both_from n xs ys front.1 back)

-- the entries of the documents from a number on
later : (texts : List (List ℕ)) (number n : ℕ) (ds : List Placed) (es : List Entry) → AreEntries texts (cells (rows_from number n ds)) es → AllByRecursion (λ e. n ≤ e.document) es
later texts number n [] [] are = tt
later texts number n [] (e ∷ es) are = absurd are
later texts number n (d ∷ ds) es are =
    let vs = values_in d.doc number in
    let two = halves texts (cells_of n vs) (cells (rows_from number (suc n) ds)) es (subst (λ (cs : List Cell). AreEntries texts cs es) (row_cells n vs (rows_from number (suc n) ds)) are) in
    subst (λ (zs : List Entry). AllByRecursion (λ e. n ≤ e.document) zs) (sym two.parts)
    (both_from n two.front two.back (from_own n n two.front (omega arith) (all_own texts n vs two.front two.front_are))
    (from_less n (suc n) two.back (omega arith) (later texts number (suc n) ds two.back two.back_are)))

-- ---- counts

none_below : (k : ℕ) (es : List Entry) → AllByRecursion (λ e. k ≤ e.document) es → count_below k es ≡ 0
none_below k [] all = refl
none_below k (e ∷ es) all =
    let rest : count_below k es ≡ 0 = none_below k es all.1 in
    rw (le-ltb e.document k all.0) (omega arith)

all_below : (k n : ℕ) (es : List Entry) → n < k → AllByRecursion (λ e. e.document ≡ n) es → count_below k es ≡ length es
all_below k n [] lt all = refl
all_below k n (e ∷ es) lt all =
    let is : e.document ≡ n = all.0 in
    let less : e.document < k = omega arith in
    let rest : count_below k es ≡ length es = all_below k n es lt all.1 in
    rw (lt-ltb e.document k less) (omega arith)

count_append : (k : ℕ) (xs ys : List Entry) → count_below k (xs ++ ys) ≡ count_below k xs + count_below k ys
count_append k [] ys = omega arith
count_append k (x ∷ xs) ys =
    let rest : count_below k (xs ++ ys) ≡ count_below k xs + count_below k ys = count_append k xs ys in
    omega arith

-- ---- first numbers

no_first : (k : ℕ) (es : List Entry) → AllByRecursion (λ e. suc k ≤ e.document) es → first_number k es ≡ None
no_first k [] all = refl
no_first k (e ∷ es) all =
    let more : suc k ≤ e.document = all.0 in
    let other : e.document ≡ k → ⊥ = λ same. omega arith in
    rw (ne_eqb e.document k other) (no_first k es all.1)

passed_first : (k n : ℕ) (xs ys : List Entry) → n < k → AllByRecursion (λ e. e.document ≡ n) xs → first_number k (xs ++ ys) ≡ first_number k ys
passed_first k n [] ys lt all = refl
passed_first k n (x ∷ xs) ys lt all =
    let is : x.document ≡ n = all.0 in
    let other : x.document ≡ k → ⊥ = λ same. omega arith in
    rw (ne_eqb x.document k other) (passed_first k n xs ys lt all.1)

own_first : (k : ℕ) (xs ys : List Entry) → AllByRecursion (λ e. e.document ≡ k) xs → AllByRecursion (λ e. suc k ≤ e.document) ys → first_number k (xs ++ ys) ≡ first_of xs
own_first k [] ys all more = no_first k ys more
own_first k (x ∷ xs) ys all more = rw (eq-eqb x.document k all.0) refl

-- ---- the entries of a document

here : (texts : List (List ℕ)) (n : ℕ) (vs : List Value) (es front back : List Entry) → es ≡ front ++ back → AreEntries texts (cells_of n vs) front → AllByRecursion (λ e. suc n ≤ e.document) back → Own texts n vs es
here texts n vs es front back parts are more =
    let all = all_own texts n vs front are in
    let less : AllByRecursion (λ e. n ≤ e.document) back = from_less n (suc n) back (omega arith) more in
    let next : AllByRecursion (λ e. n + 1 ≤ e.document) back = from_less (n + 1) (suc n) back (omega arith) more in
    let below : count_below n (front ++ back) ≡ 0 = none_below n (front ++ back) (both_from n front back (from_own n n front (omega arith) all) less) in
    let own : count_below (n + 1) front ≡ length front = all_below (n + 1) n front (omega arith) all in
    let rest : count_below (n + 1) back ≡ 0 = none_below (n + 1) back next in
    let both : count_below (n + 1) (front ++ back) ≡ count_below (n + 1) front + count_below (n + 1) back = count_append (n + 1) front back in
    record {
      before = [];
      own = front;
      behind = back;
      parts = parts;
      are = are;
      below = ap (count_below n) parts ∙ below;
      next = ap (count_below (n + 1)) parts ∙ omega arith;
      first = ap (first_number n) parts ∙ own_first n front back all more;
    }

there : (texts : List (List ℕ)) (k n : ℕ) (vs : List Value) (es front back : List Entry) → es ≡ front ++ back → n < k → AllByRecursion (λ e. e.document ≡ n) front → Own texts k vs back → Own texts k vs es
there texts k n vs es front back parts lt all rest =
    let low : count_below k front ≡ length front = all_below k n front lt all in
    let high : count_below (k + 1) front ≡ length front = all_below (k + 1) n front (omega arith) all in
    let low_both : count_below k (front ++ back) ≡ count_below k front + count_below k back = count_append k front back in
    let high_both : count_below (k + 1) (front ++ back) ≡ count_below (k + 1) front + count_below (k + 1) back = count_append (k + 1) front back in
    let long : length (front ++ rest.before) ≡ length front + length rest.before = length-append front rest.before in
    let below = rest.below in
    let next = rest.next in
    record {
      before = front ++ rest.before;
      own = rest.own;
      behind = rest.behind;
      parts = parts ∙ (ap (λ (zs : List Entry). front ++ zs) rest.parts ∙ sym (append_assoc front rest.before (rest.own ++ rest.behind)));
      are = rest.are;
      below = ap (count_below k) parts ∙ omega arith;
      next = ap (count_below (k + 1)) parts ∙ omega arith;
      first = ap (first_number k) parts ∙ (passed_first k n front back lt all ∙ rest.first);
    }

own_entries : (texts : List (List ℕ)) (number n : ℕ) (ds : List Placed) (m k : ℕ) (d : Placed) (es : List Entry) → AreEntries texts (cells (rows_from number n ds)) es → slice_get ds m ≡ Some d → k ≡ n + m
    → Own texts k (values_in d.doc number) es
own_entries texts number n [] m k d es are got at = absurd (cc)
own_entries texts number n (o ∷ ds) zero k d es are got at =
    let same : o ≡ d = cc in
    let first : n ≡ k = omega arith in
    let vs = values_in o.doc number in
    let two = halves texts (cells_of n vs) (cells (rows_from number (suc n) ds)) es (subst (λ (cs : List Cell). AreEntries texts cs es) (row_cells n vs (rows_from number (suc n) ds)) are) in
    subst (λ (j : ℕ). Own texts j (values_in d.doc number) es) first
    (subst (λ (x : Placed). Own texts n (values_in x.doc number) es) same
    (here texts n vs es two.front two.back two.parts two.front_are (later texts number (suc n) ds two.back two.back_are)))
own_entries texts number n (o ∷ ds) (suc m) k d es are got at =
    let vs = values_in o.doc number in
    let two = halves texts (cells_of n vs) (cells (rows_from number (suc n) ds)) es (subst (λ (cs : List Cell). AreEntries texts cs es) (row_cells n vs (rows_from number (suc n) ds)) are) in
    there texts k n (values_in d.doc number) es two.front two.back two.parts (omega arith) (all_own texts n vs two.front two.front_are)
    (own_entries texts number (suc n) ds m k d two.back two.back_are got (omega arith))

pub owned : (texts : List (List ℕ)) (number k : ℕ) (documents : List Placed) (d : Placed) (es : List Entry) → AreEntries texts (cells (rows_from number 0 documents)) es → slice_get documents k ≡ Some d
    → Own texts k (values_in d.doc number) es
owned texts number k documents d es are got = own_entries texts number 0 documents k k d es are got (omega arith)

-- ---- the value at a place

pub own_length : (texts : List (List ℕ)) (k : ℕ) (vs : List Value) (own : List Entry) → AreEntries texts (cells_of k vs) own → length own ≡ length vs
own_length texts k [] [] are = refl
own_length texts k [] (e ∷ es) are = absurd are
own_length texts k (v ∷ vs) [] are = absurd are
own_length texts k (v ∷ vs) (e ∷ es) are = ap (λ n. suc n) (own_length texts k vs es are.2)

pub record At (texts : List (List ℕ)) (vs : List Value) (es : List Entry) (place j : ℕ) : Type 0 where
  pub entry : Entry
  pub value : Value
  pub entry_is : slice_get es place ≡ Some entry
  pub value_is : slice_get vs j ≡ Some value
  pub is_number : IsNumber texts value entry.number

own_at : (texts : List (List ℕ)) (k : ℕ) (vs : List Value) (own : List Entry) (j : ℕ) → AreEntries texts (cells_of k vs) own → j < length vs → At texts vs own j j
own_at texts k [] own j are lt = absurd (omega arith)
own_at texts k (v ∷ vs) [] j are lt = absurd are
own_at texts k (v ∷ vs) (e ∷ es) zero are lt = record { entry = e; value = v; entry_is = refl; value_is = refl; is_number = are.1 }
own_at texts k (v ∷ vs) (e ∷ es) (suc j) are lt =
    let rest = own_at texts k vs es j are.2 (omega arith) in
    record { entry = rest.entry; value = rest.value; entry_is = rest.entry_is; value_is = rest.value_is; is_number = rest.is_number }

get_front : {X : Type 0} (xs ys : List X) (j : ℕ) (x : X) → slice_get xs j ≡ Some x → slice_get (xs ++ ys) j ≡ Some x
get_front [] ys j x got = absurd (cc)
get_front (z ∷ xs) ys zero x got = got
get_front (z ∷ xs) ys (suc j) x got = get_front xs ys j x got

get_behind : {X : Type 0} (xs ys : List X) (i j : ℕ) → i ≡ length xs + j → slice_get (xs ++ ys) i ≡ slice_get ys j
get_behind [] ys i j at = let same : i ≡ j = omega arith in ap (λ n. slice_get ys n) same
get_behind (x ∷ xs) ys zero j at = absurd (omega arith)
get_behind (x ∷ xs) ys (suc i) j at = get_behind xs ys i j (omega arith)

-- the value at a place among those of a document
pub at_place : (texts : List (List ℕ)) (k : ℕ) (vs : List Value) (es : List Entry) (own : Own texts k vs es) (place j : ℕ) → place ≡ count_below k es + j → j < length vs → At texts vs es place j
at_place texts k vs es own place j at lt =
    let one = own_at texts k vs own.own j own.are lt in
    let below = own.below in
    let where_it_is : place ≡ length own.before + j = omega arith in
    record {
      entry = one.entry;
      value = one.value;
      entry_is = ap (λ (zs : List Entry). slice_get zs place) own.parts ∙ (get_behind own.before (own.own ++ own.behind) place j where_it_is ∙ get_front own.own own.behind j one.entry one.entry_is);
      value_is = one.value_is;
      is_number = one.is_number;
    }

-- a place between those of a document
pub place_of : (texts : List (List ℕ)) (k : ℕ) (vs : List Value) (es : List Entry) (own : Own texts k vs es) (from to place : ℕ) → from ≡ count_below k es → to ≡ count_below (k + 1) es → from ≤ place → place < to
    → At texts vs es place (place - from)
place_of texts k vs es own from to place at end le lt =
    let below = own.below in
    let next = own.next in
    let long : length own.own ≡ length vs = own_length texts k vs own.own own.are in
    at_place texts k vs es own place (place - from) (omega arith) (omega arith)

pub past_all : (texts : List (List ℕ)) (k : ℕ) (vs : List Value) (es : List Entry) (own : Own texts k vs es) (from to place : ℕ) → from ≡ count_below k es → to ≡ count_below (k + 1) es → to ≤ place → length vs ≤ place - from
past_all texts k vs es own from to place at end le =
    let below = own.below in
    let next = own.next in
    let long : length own.own ≡ length vs = own_length texts k vs own.own own.are in
    omega arith
