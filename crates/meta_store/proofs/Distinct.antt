-- Spans whose ranges are all different, as those that cover are.
use Rattle.std.proofs.Common.{◌≡◌, ℕ, ◌+◌, ◌<◌, ◌≤◌, ◌==◌, ◌||◌, Bool, true, false, not, List, [], ◌∷◌, ◌++◌, map, sum_by, IsPermutation, bytes_eq, refl, ap, ap₂, ◌∙◌, inl, inr, arith, eqb-true, ne_eqb, filter, append-nil}
use Rattle.std.proofs.lemmas.Bool.{cases_Bool, or_right, false_from_ne_true}
use Rattle.std.proofs.lemmas.List.Sums.{sum_by-append, sum_by-cons}
use Rattle.std.proofs.lemmas.List.Sorted.{sum_by-IsPermutation, IsPermutation-map, IsPermutation-sym}
use Rattle.source_checkpoint.proofs.Ranges.{range_itself}
use Rattle.meta_store.proofs.RowLists.{AllOf, AllOf-weaker}
use Rattle.meta_store.proofs.Covering.{one_if}
use Rattle.meta_store.proofs.Lists.{IsPermutation-filter}
use Rattle.std.proofs.lemmas.List.Elements.{filter-append}
use Rattle.delete_tasks.specs.Ledger.{Ledger, is_among, raised_among}
use Rattle.meta_store.specs.Laws.{Covers, CoversInOrder, of_partition, all_ranges}
use Rattle.source_checkpoint.specs.Deltas.{Partition, range_of, same_range, raised}
use Rattle.source_checkpoint.specs.declared.delta.Part.{Part}
use Rattle.source_checkpoint.specs.declared.span.Span.{Span}

-- how many of these spans have this range
abbrev pub times : Part → List Span → ℕ
times r spans = sum_by (λ s. one_if (same_range (range_of s) r)) spans

abbrev pub AtMostOnce : List Span → Type 0
AtMostOnce spans = (r : Part) → times r spans ≤ 1

-- how many of these ranges begin here
abbrev starts : ℕ → List Part → ℕ
starts x ranges = sum_by (λ r. one_if (r.from == x)) ranges

starts_before : (low high x : ℕ) (spans : List Part) → Covers low high spans → x < low → starts x spans ≡ 0
starts_before low high x [] c lt = refl
starts_before low high x (s ∷ spans) c lt =
    let begins : s.from ≡ low = c.0 in
    let goes : s.from < s.to = c.1 in
    let rest : starts x spans ≡ 0 = starts_before s.to high x spans c.2 (omega arith) in
    let head : one_if (s.from == x) ≡ 0 = rw (ne_eqb s.from x (λ e. omega arith)) refl in
    sum_by-cons (λ y. one_if (y.from == x)) s spans ∙ omega (arith, head, rest)

starts_once : (low high x : ℕ) (spans : List Part) → Covers low high spans → starts x spans ≤ 1
starts_once low high x [] c = omega arith
starts_once low high x (s ∷ spans) c =
    let goes : s.from < s.to = c.1 in
    let split = sum_by-cons (λ y. one_if (y.from == x)) s spans in
    elim (cases_Bool (s.from == x)) [
      | inl same ↦
          let e : s.from ≡ x = eqb-true s.from x same in
          let head : one_if (s.from == x) ≡ 1 = rw same refl in
          let rest : starts x spans ≡ 0 = starts_before s.to high x spans c.2 (omega arith) in
          omega (arith, split, head, rest)
      | inr other ↦
          let head : one_if (s.from == x) ≡ 0 = rw other refl in
          let rest : starts x spans ≤ 1 = starts_once s.to high x spans c.2 in
          omega (arith, split, head, rest)
    ]

-- a span of this range begins there, in that partition
times_starts : (r : Part) (spans : List Span) → times r spans ≤ starts r.from (of_partition r.partition (map range_of spans))
times_starts r [] = omega arith
times_starts r (s ∷ spans) =
    let split = sum_by-cons (λ y. one_if (same_range (range_of y) r)) s spans in
    let rest = times_starts r spans in
    let here : List Part = of_partition r.partition (map range_of spans) in
    elim (cases_Bool (bytes_eq s.partition r.partition)) [
      | inl there ↦
          let kept : of_partition r.partition (map range_of (s ∷ spans)) ≡ range_of s ∷ here = rw there refl in
          let counted : starts r.from (of_partition r.partition (map range_of (s ∷ spans))) ≡ starts r.from here + one_if (s.from == r.from) =
          ap (starts r.from) kept ∙ (sum_by-cons (λ y. one_if (y.from == r.from)) (range_of s) here ∙ omega arith) in
          elim (cases_Bool (s.from == r.from)) [
            | inl begins ↦
                let one : one_if (s.from == r.from) ≡ 1 = rw begins refl in
                let head = one_if-le (same_range (range_of s) r) in
                omega (arith, split, counted, one, head, rest)
            | inr away ↦
                let head : one_if (same_range (range_of s) r) ≡ 0 = rw (there, away) refl in
                omega (arith, split, counted, head, rest)
          ]
      | inr other ↦
          let left : of_partition r.partition (map range_of (s ∷ spans)) ≡ here = rw other refl in
          let counted : starts r.from (of_partition r.partition (map range_of (s ∷ spans))) ≡ starts r.from here = ap (starts r.from) left in
          let head : one_if (same_range (range_of s) r) ≡ 0 = rw other refl in
          omega (arith, split, counted, head, rest)
    ]
  where
    one_if-le : (b : Bool) → one_if b ≤ 1
    one_if-le true = omega arith
    one_if-le false = omega arith

pub covering_apart : (l : Ledger) → ((p : Partition) → CoversInOrder (l.checkpoints p) (of_partition p (all_ranges l))) → AtMostOnce l.spans
covering_apart l covers r =
    let p : Partition = r.partition in
    let c = covers p in
    let once = starts_once 0 (l.checkpoints p) r.from c.in_order c.covers in
    let same = sum_by-IsPermutation (λ x. one_if (x.from == r.from)) c.in_order (of_partition p (all_ranges l)) c.same in
    let parts : starts r.from (of_partition p (all_ranges l)) ≡ starts r.from (of_partition p (map range_of l.spans)) + starts r.from (of_partition p l.retired) =
    ap (starts r.from) (filter-append (λ x. bytes_eq x.partition p) (map range_of l.spans) l.retired)
    ∙ sum_by-append (λ x. one_if (x.from == r.from)) (of_partition p (map range_of l.spans)) (of_partition p l.retired) in
    omega (arith, once, same, parts, times_starts r l.spans)

pub apart_permuted : (xs ys : List Span) → IsPermutation xs ys → AtMostOnce xs → AtMostOnce ys
apart_permuted xs ys p once r = rw (sum_by-IsPermutation (λ s. one_if (same_range (range_of s) r)) xs ys p) (once r)

-- a span whose range is among those of these spans is counted
among_counted : (xs : List Span) (s : Span) → is_among (map range_of xs) s ≡ true → 1 ≤ times (range_of s) xs
among_counted [] s h = cc
among_counted (x ∷ xs) s h =
    let split = sum_by-cons (λ y. one_if (same_range (range_of y) (range_of s))) x xs in
    elim (cases_Bool (same_range (range_of x) (range_of s))) [
      | inl same ↦
          let head : one_if (same_range (range_of x) (range_of s)) ≡ 1 = rw same refl in
          omega (arith, split, head)
      | inr other ↦
          let rest = among_counted xs s (rw other at h) in
          omega (arith, split, rest)
    ]

-- no other span has a range of theirs
apart_among : (xs ys : List Span) → ((r : Part) → times r xs + times r ys ≤ 1) → AllOf (λ s. is_among (map range_of xs) s ≡ false) ys
apart_among xs [] once = tt
apart_among xs (y ∷ ys) once = (
  false_from_ne_true (is_among (map range_of xs) y) (λ h.
      let counted = among_counted xs y h in
      let split = sum_by-cons (λ z. one_if (same_range (range_of z) (range_of y))) y ys in
      let head : one_if (same_range (range_of y) (range_of y)) ≡ 1 = rw (range_itself (range_of y)) refl in
      let all = once (range_of y) in
      omega (arith, counted, split, head, all)),
  apart_among xs ys (λ r.
      let split = sum_by-cons (λ z. one_if (same_range (range_of z) r)) y ys in
      let all = once r in
      omega (arith, split, all)),
)

among_themselves : (xs : List Span) → AllOf (λ s. is_among (map range_of xs) s ≡ true) xs
among_themselves [] = tt
among_themselves (x ∷ xs) = (
  rw (range_itself (range_of x)) refl,
  AllOf-weaker (λ s. is_among (map range_of xs) s ≡ true) (λ s. (same_range (range_of x) (range_of s) || is_among (map range_of xs) s) ≡ true) xs
      (λ s h. or_right (same_range (range_of x) (range_of s)) (is_among (map range_of xs) s) h) (among_themselves xs),
)

untouched : (ranges : List Part) (upto : ℕ) (xs : List Span) → AllOf (λ s. is_among ranges s ≡ false) xs → map (raised_among ranges upto) xs ≡ xs
untouched ranges upto [] h = refl
untouched ranges upto (x ∷ xs) h = rw h.0 (ap (λ rest. x ∷ rest) (untouched ranges upto xs h.1))

touched : (ranges : List Part) (upto : ℕ) (xs : List Span) → AllOf (λ s. is_among ranges s ≡ true) xs → map (raised_among ranges upto) xs ≡ map (raised upto) xs
touched ranges upto [] h = refl
touched ranges upto (x ∷ xs) h = rw h.0 (ap (λ rest. raised upto x ∷ rest) (touched ranges upto xs h.1))

pub map_append : {A B : Type 0} (f : A → B) (xs ys : List A) → map f (xs ++ ys) ≡ map f xs ++ map f ys
map_append f [] ys = refl
map_append f (x ∷ xs) ys = ap (λ rest. f x ∷ rest) (map_append f xs ys)

-- raising the ranges of some spans raises these, and leaves the others
pub IsPermutation-raised : (some others all : List Span) (upto : ℕ) → AtMostOnce all → IsPermutation (some ++ others) all → IsPermutation (map (raised upto) some ++ others) (map (raised_among (map range_of some) upto) all)
IsPermutation-raised some others all upto once p =
    let apart : AtMostOnce (some ++ others) = apart_permuted all (some ++ others) (IsPermutation-sym (some ++ others) all p) once in
    let g : Span → Span = raised_among (map range_of some) upto in
    let parts : map g (some ++ others) ≡ map (raised upto) some ++ others =
    map_append g some others
    ∙ ap₂ ◌++◌ (touched (map range_of some) upto some (among_themselves some))
    (untouched (map range_of some) upto others (apart_among some others (λ r.
    let split = sum_by-append (λ s. one_if (same_range (range_of s) r)) some others in
    let one = apart r in
    omega (arith, split, one)))) in
    rw parts at (IsPermutation-map g (some ++ others) all p)

dropped : (ranges : List Part) (xs : List Span) → AllOf (λ s. is_among ranges s ≡ true) xs → filter (λ s. not (is_among ranges s)) xs ≡ []
dropped ranges [] h = refl
dropped ranges (x ∷ xs) h = rw h.0 (dropped ranges xs h.1)

all_kept : (ranges : List Part) (xs : List Span) → AllOf (λ s. is_among ranges s ≡ false) xs → filter (λ s. not (is_among ranges s)) xs ≡ xs
all_kept ranges [] h = refl
all_kept ranges (x ∷ xs) h = rw h.0 (ap (λ rest. x ∷ rest) (all_kept ranges xs h.1))

-- without the ranges of some spans the others are left
pub IsPermutation-retired : (some others all : List Span) → AtMostOnce all → IsPermutation (some ++ others) all → IsPermutation others (filter (λ s. not (is_among (map range_of some) s)) all)
IsPermutation-retired some others all once p =
    let apart : AtMostOnce (some ++ others) = apart_permuted all (some ++ others) (IsPermutation-sym (some ++ others) all p) once in
    let test : Span → Bool = λ s. not (is_among (map range_of some) s) in
    let parts : filter test (some ++ others) ≡ others =
    filter-append test some others
    ∙ ap₂ ◌++◌ (dropped (map range_of some) some (among_themselves some))
    (all_kept (map range_of some) others (apart_among some others (λ r.
    let split = sum_by-append (λ s. one_if (same_range (range_of s) r)) some others in
    let one = apart r in
    omega (arith, split, one)))) in
    rw parts at (IsPermutation-filter test (some ++ others) all p)

kept_among : (ranges : List Part) (xs : List Span) → AllOf (λ s. is_among ranges s ≡ true) xs → filter (is_among ranges) xs ≡ xs
kept_among ranges [] h = refl
kept_among ranges (x ∷ xs) h = rw h.0 (ap (λ rest. x ∷ rest) (kept_among ranges xs h.1))

none_among : (ranges : List Part) (xs : List Span) → AllOf (λ s. is_among ranges s ≡ false) xs → filter (is_among ranges) xs ≡ []
none_among ranges [] h = refl
none_among ranges (x ∷ xs) h = rw h.0 (none_among ranges xs h.1)

-- the spans with the ranges of some of them are these
pub IsPermutation-taken : (some others all : List Span) → AtMostOnce all → IsPermutation (some ++ others) all → IsPermutation some (filter (is_among (map range_of some)) all)
IsPermutation-taken some others all once p =
    let apart : AtMostOnce (some ++ others) = apart_permuted all (some ++ others) (IsPermutation-sym (some ++ others) all p) once in
    let test : Span → Bool = is_among (map range_of some) in
    let parts : filter test (some ++ others) ≡ some =
    filter-append test some others
    ∙ (ap₂ ◌++◌ (kept_among (map range_of some) some (among_themselves some))
    (none_among (map range_of some) others (apart_among some others (λ r.
    let split = sum_by-append (λ s. one_if (same_range (range_of s) r)) some others in
    let one = apart r in
    omega (arith, split, one)))) ∙ append-nil some) in
    rw parts at (IsPermutation-filter test (some ++ others) all p)
