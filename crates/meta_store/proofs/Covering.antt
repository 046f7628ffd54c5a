-- Ranges that lead from one place to another.
use Rattle.std.proofs.Common.{◌≡◌, ℕ, ◌<◌, ◌≤◌, ◌&&◌, Bool, true, false, cond, List, [], ◌∷◌, ◌++◌, sum_by, nat_le, nat_lt, IsPermutation, refl, ap, sym, ◌∙◌, inl, inr, bytes_eq, arith, le-leb, lt-ltb, le-ltb}
use Rattle.std.proofs.lemmas.Bool.{cases_Bool, cases_lt, or_parts, lt-leb}
use Rattle.std.proofs.lemmas.List.Sums.{sum_by-cons}
use Rattle.std.proofs.lemmas.List.Elements.{filter-append}
use Rattle.std.proofs.lemmas.List.Sorted.{sum_by-IsPermutation, IsPermutation-trans, IsPermutation-append_left}
use Rattle.source_checkpoint.proofs.Ranges.{same_partition}
use Rattle.meta_store.proofs.RowLists.{AllOf}
use Rattle.meta_store.proofs.Lists.{IsPermutation-filter}
use Rattle.meta_store.specs.Laws.{Covers, CoversInOrder, of_partition, times_at}
use Rattle.source_checkpoint.specs.Deltas.{Partition, moved, Names, IsDelta}
use Rattle.source_checkpoint.specs.declared.delta.Part.{Part}

-- one for a test that holds, and else 0
abbrev pub one_if : Bool → ℕ
one_if b = cond b 1 0

Covers-append : (low mid high : ℕ) (xs ys : List Part) → Covers low mid xs → Covers mid high ys → Covers low high (xs ++ ys)
Covers-append low mid high [] ys h k = rw h k
Covers-append low mid high (x ∷ xs) ys h k = (h.0, h.1, Covers-append x.to mid high xs ys h.2 k)

not_named : (delta : List Part) (p : Partition) → Names delta p ≡ false → of_partition p delta ≡ []
not_named [] p h = refl
not_named (part ∷ parts) p h =
    let apart = or_parts (bytes_eq part.partition p) (Names parts p) h in
    rw apart.0 (not_named parts p apart.1)

covers_admitted : (delta : List Part) (checkpoints : Partition → ℕ) (p : Partition) → IsDelta delta → AllOf (λ part. part.from ≡ checkpoints part.partition) delta → Covers (checkpoints p) (moved delta checkpoints p) (of_partition p delta)
covers_admitted [] checkpoints p h at = refl
covers_admitted (part ∷ parts) checkpoints p h at =
    elim (cases_Bool (bytes_eq part.partition p)) [
      | inl same ↦
          let name : part.partition ≡ p = same_partition part.partition p same in
          let begins : part.from ≡ checkpoints p = rw name at at.0 in
          let nothing : of_partition p parts ≡ [] = not_named parts p (rw name at h.1) in
          rw same (begins, h.0, rw nothing refl)
      | inr other ↦ rw other (covers_admitted parts checkpoints p h.2 at.1)
    ]

-- in another order
pub covers_permuted : (p : Partition) (high : ℕ) (xs ys : List Part) → IsPermutation xs ys → CoversInOrder high (of_partition p xs) → CoversInOrder high (of_partition p ys)
covers_permuted p high xs ys same c = record {
  in_order = c.in_order;
  same = IsPermutation-trans _ _ _ c.same (IsPermutation-filter (λ r. bytes_eq r.partition p) xs ys same);
  covers = c.covers;
}

-- with a delta that begins at the checkpoints
pub covers_more : (delta : List Part) (checkpoints : Partition → ℕ) (p : Partition) (ranges : List Part) → IsDelta delta → AllOf (λ part. part.from ≡ checkpoints part.partition) delta → CoversInOrder (checkpoints p) (of_partition p ranges) → CoversInOrder (moved delta checkpoints p) (of_partition p (ranges ++ delta))
covers_more delta checkpoints p ranges h at c = record {
  in_order = c.in_order ++ of_partition p delta;
  same = rw (filter-append (λ r. bytes_eq r.partition p) ranges delta) (IsPermutation-append_left (of_partition p delta) c.in_order (of_partition p ranges) c.same);
  covers = Covers-append 0 (checkpoints p) (moved delta checkpoints p) c.in_order (of_partition p delta) c.covers (covers_admitted delta checkpoints p h at);
}

-- how many of these ranges have an offset
abbrev pub within : ℕ → Part → Bool
within offset r = nat_le r.from offset && nat_lt offset r.to

abbrev pub times_over : ℕ → List Part → ℕ
times_over offset ranges = sum_by (λ r. one_if (within offset r)) ranges

over_before : (offset low high : ℕ) (ranges : List Part) → Covers low high ranges → offset < low → times_over offset ranges ≡ 0
over_before offset low high [] c lt = refl
over_before offset low high (r ∷ ranges) c lt =
    let begins : r.from ≡ low = c.0 in
    let goes : r.from < r.to = c.1 in
    let rest = over_before offset r.to high ranges c.2 (omega arith) in
    let outside : nat_le r.from offset ≡ false = lt-leb r.from offset (omega arith) in
    let head : one_if (within offset r) ≡ 0 = rw outside refl in
    sum_by-cons (λ x. one_if (within offset x)) r ranges ∙ omega (arith, head, rest)

covers_le : (low high : ℕ) (ranges : List Part) → Covers low high ranges → low ≤ high
covers_le low high [] c = let e : low ≡ high = c in omega arith
covers_le low high (r ∷ ranges) c =
    let begins : r.from ≡ low = c.0 in
    let goes : r.from < r.to = c.1 in
    let rest = covers_le r.to high ranges c.2 in
    omega arith

over_between : (offset low high : ℕ) (ranges : List Part) → Covers low high ranges → low ≤ offset → times_over offset ranges ≡ one_if (nat_lt offset high)
over_between offset low high [] c le = rw (le-ltb offset high (let e : low ≡ high = c in omega arith)) refl
over_between offset low high (r ∷ ranges) c le =
    let begins : r.from ≡ low = c.0 in
    let starts : nat_le r.from offset ≡ true = le-leb r.from offset (omega arith) in
    let split = sum_by-cons (λ x. one_if (within offset x)) r ranges in
    elim (cases_lt offset r.to) [
      | inl before ↦
          let ends : nat_lt offset r.to ≡ true = lt-ltb offset r.to before in
          let rest = over_before offset r.to high ranges c.2 before in
          let below : nat_lt offset high ≡ true = lt-ltb offset high (let up = covers_le r.to high ranges c.2 in omega arith) in
          let head : one_if (within offset r) ≡ 1 = rw (starts, ends) refl in
          rw below (split ∙ omega (arith, head, rest))
      | inr behind ↦
          let ends : nat_lt offset r.to ≡ false = le-ltb offset r.to behind in
          let rest = over_between offset r.to high ranges c.2 behind in
          let head : one_if (within offset r) ≡ 0 = rw (starts, ends) refl in
          split ∙ (omega (arith, head) ∙ rest)
    ]

at_its_partition : (p : Partition) (offset : ℕ) (ranges : List Part) → times_at p offset ranges ≡ times_over offset (of_partition p ranges)
at_its_partition p offset [] = refl
at_its_partition p offset (r ∷ ranges) =
    let rest = at_its_partition p offset ranges in
    let split = sum_by-cons (λ x. one_if (bytes_eq x.partition p && within offset x)) r ranges in
    elim (cases_Bool (bytes_eq r.partition p)) [
      | inl there ↦
          let kept : of_partition p (r ∷ ranges) ≡ r ∷ of_partition p ranges = rw there refl in
          let head : one_if (bytes_eq r.partition p && within offset r) ≡ one_if (within offset r) = rw there refl in
          split ∙ (omega (arith, head, rest) ∙ (sym (sum_by-cons (λ x. one_if (within offset x)) r (of_partition p ranges)) ∙ ap (times_over offset) (sym kept)))
      | inr other ↦
          let left : of_partition p (r ∷ ranges) ≡ of_partition p ranges = rw other refl in
          let head : one_if (bytes_eq r.partition p && within offset r) ≡ 0 = rw other refl in
          split ∙ (omega (arith, head, rest) ∙ ap (times_over offset) (sym left))
    ]

-- each place below the checkpoint lies in one of the ranges, and each other place in none
pub once_at : (p : Partition) (offset high : ℕ) (ranges : List Part) → CoversInOrder high (of_partition p ranges) → times_at p offset ranges ≡ one_if (nat_lt offset high)
once_at p offset high ranges c =
    at_its_partition p offset ranges
    ∙ (sum_by-IsPermutation (λ r. one_if (within offset r)) c.in_order (of_partition p ranges) c.same
    ∙ over_between offset 0 high c.in_order c.covers (omega arith))
