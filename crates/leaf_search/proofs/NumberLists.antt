-- The numbers of the documents that pass, and the documents of numbers.
use Rattle.std.proofs.Common.{◌≡◌, ℕ, zero, suc, ◌+◌, ◌<◌, Bool, true, false, ◌&&◌, cond, List, [], ◌∷◌, ◌++◌, length, map, filter, slice_get, option_to_list, Vec, Result, Ok, Err, IfOk, refl, ap, sym, subst, ◌∙◌, arith}
use Rattle.std.specs.List.{All, AllByRecursion}
use Rattle.std.specs.declared.alloc.AllocError.{AllocError}
use Rattle.doc_value.specs.declared.doc.DocField.{DocField}
use Rattle.split_bundle.specs.declared.placed.Placed.{Placed}
use Rattle.doc_value.specs.declared.schema.Schema.{Schema}
use Rattle.doc_value.specs.declared.facts.TimeRange.{TimeRange}
use Rattle.query_ast.specs.Meaning.{within_times}
use Rattle.doc_tallies.specs.Picked.{picked}
use Rattle.doc_tallies.specs.Times.{lies_within, numbers_within}
use Rattle.doc_sets.specs.declared.bits.DocBits.{DocBits}
use Rattle.doc_sets.specs.Bits.{has}
use Rattle.doc_sets.specs.BitWords.{members}
use Rattle.doc_sets.specs.Sets.{holds_at, IsSetOf}
use Rattle.doc_sets.proofs.Members.{members_below}
use Rattle.leaf_search.specs.Numbers.{numbers_from, numbers_of}

-- the numbers of a set of documents
members_from : (p : ℕ → Bool) (test : List DocField → Bool) (n : ℕ) (ds : List Placed) → ((k : ℕ) → k < length ds → p (n + k) ≡ holds_at test ds k) → members p n (length ds) ≡ numbers_from test n ds
unfolding members
members_from p test n [] same = refl
members_from p test n (d ∷ ds) same =
    let z : n ≡ n + 0 = omega arith in
    let here : p n ≡ test d.doc = ap p z ∙ same 0 (omega arith) in
    let rest = members_from p test (suc n) ds (λ k lt. ap p (let e : suc n + k ≡ n + suc k = omega arith in e) ∙ same (suc k) (omega arith)) in
    ap (λ b. cond b (n ∷ members p (suc n) (length ds)) (members p (suc n) (length ds))) here ∙ ap (λ l. cond (test d.doc) (n ∷ l) l) rest

pub members_of : (test : List DocField → Bool) (ds : List Placed) (b : DocBits) → IsSetOf test ds b → members (has b) 0 b.size ≡ numbers_of test ds
members_of test ds b set =
    ap (λ count. members (has b) 0 count) set.size ∙ members_from (has b) test 0 ds (λ k lt. ap (has b) (let e : 0 + k ≡ k = omega arith in e) ∙ set.each k lt)

pub members_given : {Z : Type 0} (r : Result (Vec ℕ Z) AllocError) (test : List DocField → Bool) (ds : List Placed) (b : DocBits) → IsSetOf test ds b → IfOk r (λ ns. ns.items ≡ members (has b) 0 b.size)
    → IfOk r (λ ns. ns.items ≡ numbers_of test ds)
members_given (Ok ns) test ds b set h = h ∙ members_of test ds b set
members_given (Err e) test ds b set h = tt

-- one document more before the others
shift : (test : List DocField → Bool) (n : ℕ) (ds : List Placed) → numbers_from test (suc n) ds ≡ map suc (numbers_from test n ds)
shift test n [] = refl
shift test n (d ∷ ds) = go (test d.doc) (shift test (suc n) ds)
  where
    go : (b : Bool) → numbers_from test (suc (suc n)) ds ≡ map suc (numbers_from test (suc n) ds)
        → cond b (suc n ∷ numbers_from test (suc (suc n)) ds) (numbers_from test (suc (suc n)) ds) ≡ map suc (cond b (n ∷ numbers_from test (suc n) ds) (numbers_from test (suc n) ds))
    go true h = ap (λ l. suc n ∷ l) h
    go false h = h

-- ---- the documents of numbers

picked_shift : (x : Placed) (whole : List Placed) (ns : List ℕ) → picked (map suc ns) (x ∷ whole) ≡ picked ns whole
picked_shift x whole [] = refl
picked_shift x whole (n ∷ ns) = ap (λ l. option_to_list (slice_get whole n) ++ l) (picked_shift x whole ns)

picked_next : (test : List DocField → Bool) (d : Placed) (ds : List Placed) → picked (numbers_of test ds) ds ≡ filter (λ e. test e.doc) ds → picked (numbers_from test (suc zero) ds) (d ∷ ds) ≡ filter (λ e. test e.doc) ds
picked_next test d ds h = ap (λ ns. picked ns (d ∷ ds)) (shift test zero ds) ∙ (picked_shift d ds (numbers_of test ds) ∙ h)

pub picked_of : (test : List DocField → Bool) (ds : List Placed) → picked (numbers_of test ds) ds ≡ filter (λ d. test d.doc) ds
picked_of test [] = refl
picked_of test (d ∷ ds) = go (test d.doc) (picked_next test d ds (picked_of test ds))
  where
    go : (b : Bool) → picked (numbers_from test (suc zero) ds) (d ∷ ds) ≡ filter (λ e. test e.doc) ds
        → picked (cond b (zero ∷ numbers_from test (suc zero) ds) (numbers_from test (suc zero) ds)) (d ∷ ds) ≡ cond b (d ∷ filter (λ e. test e.doc) ds) (filter (λ e. test e.doc) ds)
    go true rest = ap (λ l. d ∷ l) rest
    go false rest = rest

within_shift : (s : Schema) (times : TimeRange) (x : Placed) (whole : List Placed) (ns : List ℕ) → filter (lies_within s times (x ∷ whole)) (map suc ns) ≡ map suc (filter (lies_within s times whole) ns)
within_shift s times x whole [] = refl
within_shift s times x whole (n ∷ ns) = go (lies_within s times whole n) (within_shift s times x whole ns)
  where
    go : (b : Bool) → filter (lies_within s times (x ∷ whole)) (map suc ns) ≡ map suc (filter (lies_within s times whole) ns)
        → cond b (suc n ∷ filter (lies_within s times (x ∷ whole)) (map suc ns)) (filter (lies_within s times (x ∷ whole)) (map suc ns)) ≡ map suc (cond b (n ∷ filter (lies_within s times whole) ns) (filter (lies_within s times whole) ns))
    go true h = ap (λ l. suc n ∷ l) h
    go false h = h

within_next : (s : Schema) (times : TimeRange) (test : List DocField → Bool) (d : Placed) (ds : List Placed) → numbers_within s times ds (numbers_of test ds) ≡ numbers_of (λ e. test e && within_times s times e) ds
    → filter (lies_within s times (d ∷ ds)) (numbers_from test (suc zero) ds) ≡ numbers_from (λ e. test e && within_times s times e) (suc zero) ds
within_next s times test d ds h =
    ap (filter (lies_within s times (d ∷ ds))) (shift test zero ds)
    ∙ (within_shift s times d ds (numbers_of test ds) ∙ (ap (map suc) h ∙ sym (shift (λ e. test e && within_times s times e) zero ds)))

pub within_of : (s : Schema) (times : TimeRange) (test : List DocField → Bool) (ds : List Placed) → numbers_within s times ds (numbers_of test ds) ≡ numbers_of (λ d. test d && within_times s times d) ds
within_of s times test [] = refl
within_of s times test (d ∷ ds) = go (test d.doc) (within_times s times d.doc) refl (within_next s times test d ds (within_of s times test ds))
  where
    go : (b c : Bool) → within_times s times d.doc ≡ c
        → filter (lies_within s times (d ∷ ds)) (numbers_from test (suc zero) ds) ≡ numbers_from (λ e. test e && within_times s times e) (suc zero) ds
        → filter (lies_within s times (d ∷ ds)) (cond b (zero ∷ numbers_from test (suc zero) ds) (numbers_from test (suc zero) ds))
        ≡ cond (b && c) (zero ∷ numbers_from (λ e. test e && within_times s times e) (suc zero) ds) (numbers_from (λ e. test e && within_times s times e) (suc zero) ds)
    go false c e rest = rest
    go true c e rest = ap (λ t. cond t (zero ∷ filter (lies_within s times (d ∷ ds)) (numbers_from test (suc zero) ds)) (filter (lies_within s times (d ∷ ds)) (numbers_from test (suc zero) ds))) e
        ∙ ap (λ l. cond c (zero ∷ l) l) rest

-- those of the numbers of documents that lie in the times
pub timed : (s : Schema) (times : TimeRange) (test : List DocField → Bool) (ds : List Placed) (ns : List ℕ) → ns ≡ numbers_of test ds → numbers_within s times ds ns ≡ numbers_of (λ d. test d && within_times s times d) ds
timed s times test ds ns same = ap (numbers_within s times ds) same ∙ within_of s times test ds

filter_below : (size : ℕ) (test : ℕ → Bool) (ns : List ℕ) → AllByRecursion (λ n. n < size) ns → AllByRecursion (λ n. n < size) (filter test ns)
filter_below size test [] h = tt
filter_below size test (n ∷ ns) h = go (test n) (filter_below size test ns h.1)
  where
    go : (b : Bool) → AllByRecursion (λ m. m < size) (filter test ns) → AllByRecursion (λ m. m < size) (cond b (n ∷ filter test ns) (filter test ns))
    go true rest = (h.0, rest)
    go false rest = rest

by_recursion : (size : ℕ) (ns : List ℕ) → All (λ n. n < size) ns → AllByRecursion (λ n. n < size) ns
by_recursion size [] h = tt
by_recursion size (n ∷ ns) h = (h 0 n (omega arith), by_recursion size ns (λ k d lt. h (suc k) d (omega arith)))

pub all_cons : {X : Type 0} (P : X → Type 0) (x : X) (xs : List X) → P x → All P xs → All P (x ∷ xs)
all_cons P x xs h rest zero d lt = h
all_cons P x xs h rest (suc k) d lt = rest k d (omega arith)

by_index : (size : ℕ) (ns : List ℕ) → AllByRecursion (λ n. n < size) ns → All (λ n. n < size) ns
by_index size [] h = λ k d lt. absurd (omega arith)
by_index size (n ∷ ns) h = all_cons (λ m. m < size) n ns h.0 (by_index size ns h.1)

-- and these are below as the others are
pub timed_below : (s : Schema) (times : TimeRange) (ds : List Placed) (size : ℕ) (ns : List ℕ) → All (λ n. n < size) ns → All (λ n. n < size) (numbers_within s times ds ns)
timed_below s times ds size ns h = by_index size (numbers_within s times ds ns) (filter_below size (lies_within s times ds) ns (by_recursion size ns h))

-- the numbers that pass are below those that were asked
pub members_within : {Z : Type 0} (r : Result (Vec ℕ Z) AllocError) (b : DocBits) → IfOk r (λ ns. ns.items ≡ members (has b) 0 b.size) → IfOk r (λ ns. All (λ n. n < b.size) ns.items)
members_within (Ok ns) b h = subst (λ (l : List ℕ). All (λ n. n < b.size) l) (sym h) (by_index b.size (members (has b) 0 b.size) (members_below (has b) 0 b.size b.size (omega arith)))
members_within (Err e) b h = tt
