-- Checkpoints in the order of the names: a search by halves finds a partition's, or the place for it.
use Rattle.std.proofs.Common.{◌≡◌, ℕ, zero, suc, ◌+◌, ◌≤◌, ◌<◌, Bool, true, false, cond, T, List, [], ◌∷◌, length, get_or, Result, Ok, Err, MatchResult, bytes_eq, refl, sym, ap, subst, ◌∙◌, arith, Ordering}
use Rattle.std.specs.Prelude.{slice_set, insert}
use Rattle.std.specs.declared.cmp.Ordering.TheVariants.{Less, Equal, Greater}
use Rattle.std.specs.Ordering.{nat_cmp, is_eq, is_lt, ordering_reverse}
use Rattle.std.specs.Cmp.{tied_itself}
use Rattle.std.specs.Cmp.Lexicographic.{slice_cmp, nat_list_cmp_total}
use Rattle.std.specs.FinMap.{slice_cmp-IsAntisymmetric, nat_cmp-IsAntisymmetric}
use Rattle.std.specs.FinMap.Entries.{by_order, put, below_all, is_sorted, is_sorted-put}
use Rattle.std.specs.List.Sorted.{IsSearchInRange, IsBinarySearchResult, IsSortedBy}
use Rattle.std.proofs.lemmas.Bool.{and_parts}
use Rattle.std.proofs.lemmas.List.Sorted.{searchable_from_sorted}
use Rattle.std.proofs.lemmas.Map.Text.{is_eq-slice_cmp}
use Rattle.source_checkpoint.proofs.Ranges.{partition_itself}
use Rattle.source_checkpoint.specs.Deltas.{Partition, Part}
use Rattle.source_checkpoint.specs.Checkpoints.{Checkpoint, checkpoint_at, entry, entries, end_of, move_to, IsInOrder, IsListedAt, IsPutAt}

abbrev order : Partition → Partition → Ordering
order a b = slice_cmp nat_cmp a b

turned_round : (a b : Partition) (r : Ordering) → order a b ≡ r → order b a ≡ ordering_reverse r
turned_round a b r e = nat_list_cmp_total.antisymm b a ∙ ap ordering_reverse e

same_from_tie : (a b : Partition) → order a b ≡ Equal → a ≡ b
same_from_tie a b e = slice_cmp-IsAntisymmetric nat_cmp-IsAntisymmetric a b e

not_named : (a b : Partition) (r : Ordering) → order a b ≡ r → is_eq r ≡ false → bytes_eq a b ≡ false
not_named a b r e apart = sym (is_eq-slice_cmp a b) ∙ ap is_eq e ∙ apart

less_is : (r : Ordering) → is_lt r ≡ true → r ≡ Less
less_is Less e = refl
less_is Equal e = absurd cc
less_is Greater e = absurd cc

-- ---- names that rise

rest_in_order : (c : Checkpoint) (cs : List Checkpoint) → IsInOrder (c ∷ cs) → IsInOrder cs
rest_in_order c cs h = (and_parts (below_all (slice_cmp nat_cmp) c.partition (entries cs)) (is_sorted (slice_cmp nat_cmp) (entries cs)) h).1

below_at : (p : Partition) (cs : List Checkpoint) (i : ℕ) (d : Checkpoint) → below_all (slice_cmp nat_cmp) p (entries cs) ≡ true → i < length cs → order p (get_or cs i d).partition ≡ Less
below_at p [] i d h lt = absurd (omega arith)
below_at p (c ∷ cs) zero d h lt = less_is (order p c.partition) (and_parts (is_lt (order p c.partition)) (below_all (slice_cmp nat_cmp) p (entries cs)) h).0
below_at p (c ∷ cs) (suc i) d h lt = below_at p cs i d (and_parts (is_lt (order p c.partition)) (below_all (slice_cmp nat_cmp) p (entries cs)) h).1 (omega arith)

first_below : (c : Checkpoint) (cs : List Checkpoint) (i : ℕ) (d : Checkpoint) → IsInOrder (c ∷ cs) → i < length cs → order c.partition (get_or cs i d).partition ≡ Less
first_below c cs i d h lt =
    below_at c.partition cs i d (and_parts (below_all (slice_cmp nat_cmp) c.partition (entries cs)) (is_sorted (slice_cmp nat_cmp) (entries cs)) h).0 lt

next_above : (cs : List Checkpoint) (k : ℕ) (d : Checkpoint) → IsInOrder cs → k + 1 < length cs → is_lt (order (get_or cs (k + 1) d).partition (get_or cs k d).partition) ≡ false
next_above [] k d h lt = absurd (omega arith)
next_above (c ∷ cs) zero d h lt = ap is_lt (turned_round c.partition (get_or cs 0 d).partition Less (first_below c cs 0 d h (omega arith)))
next_above (c ∷ cs) (suc k) d h lt =
    let same : suc (k + 1) ≡ suc k + 1 = omega arith in
    subst (λ (n : ℕ). is_lt (order (get_or (c ∷ cs) n d).partition (get_or cs k d).partition) ≡ false) same (next_above cs k d (rest_in_order c cs h) (omega arith))

rises : (cs : List Checkpoint) → IsInOrder cs → IsSortedBy (λ (a b : Checkpoint). is_lt (order a.partition b.partition)) cs
rises cs h = λ k d low high. next_above cs k d h high

-- ---- a partition that is listed

abbrev moved_where : Part → Checkpoint → List Checkpoint → Ordering → List Checkpoint
moved_where part c cs o = by_order o (c ∷ move_to part cs) (end_of part ∷ cs) (end_of part ∷ c ∷ cs)

listed_moves : (part : Part) (cs : List Checkpoint) (i : ℕ) (d : Checkpoint) → IsInOrder cs → i < length cs → (get_or cs i d).partition ≡ part.partition → move_to part cs ≡ slice_set cs i (end_of part)
listed_moves part [] i d h lt is = absurd (omega arith)
listed_moves part (c ∷ cs) zero d h lt is = ap (moved_where part c cs) (ap (λ (p : Partition). order p part.partition) is ∙ tied_itself nat_list_cmp_total part.partition)
listed_moves part (c ∷ cs) (suc i) d h lt is =
    ap (moved_where part c cs) (subst (λ (p : Partition). order c.partition p ≡ Less) is (first_below c cs i d h (omega arith)))
    ∙ ap (λ (l : List Checkpoint). c ∷ l) (listed_moves part cs i d (rest_in_order c cs h) (omega arith) is)

abbrev read_where : Checkpoint → List Checkpoint → Partition → Bool → ℕ
read_where c cs p here = cond here c.at (checkpoint_at cs p)

listed_reads : (p : Partition) (cs : List Checkpoint) (i : ℕ) (d : Checkpoint) → IsInOrder cs → i < length cs → (get_or cs i d).partition ≡ p → checkpoint_at cs p ≡ (get_or cs i d).at
listed_reads p [] i d h lt is = absurd (omega arith)
listed_reads p (c ∷ cs) zero d h lt is = ap (read_where c cs p) (partition_itself c.partition p is)
listed_reads p (c ∷ cs) (suc i) d h lt is =
    ap (read_where c cs p) (not_named c.partition p Less (subst (λ (q : Partition). order c.partition q ≡ Less) is (first_below c cs i d h (omega arith))) refl)
    ∙ listed_reads p cs i d (rest_in_order c cs h) (omega arith) is

-- ---- one that is not

record Parts (p : Partition) (cs : List Checkpoint) (at : ℕ) : Type 0 where
  less : (k : ℕ) (d : Checkpoint) → k < at → order (get_or cs k d).partition p ≡ Less
  greater : (k : ℕ) (d : Checkpoint) → at ≤ k → k < length cs → order (get_or cs k d).partition p ≡ Greater

behind_less : (p : Partition) (c : Checkpoint) (cs : List Checkpoint) (at : ℕ) → Parts p (c ∷ cs) (suc at) → Parts p cs at
behind_less p c cs at parts = record {
  less = λ k d lt. parts.less (suc k) d (omega (arith, lt));
  greater = λ k d le lt. parts.greater (suc k) d (omega (arith, le)) (omega (arith, lt));
}

behind_greater : (p : Partition) (c : Checkpoint) (cs : List Checkpoint) → Parts p (c ∷ cs) 0 → Parts p cs 0
behind_greater p c cs parts = record {
  less = λ k d lt. absurd (omega (arith, lt));
  greater = λ k d le lt. parts.greater (suc k) d (omega arith) (omega (arith, lt));
}

put_moves : (part : Part) (cs : List Checkpoint) (at : ℕ) → at ≤ length cs → Parts part.partition cs at → move_to part cs ≡ insert cs at (end_of part)
put_moves part [] zero le parts = refl
put_moves part [] (suc at) le parts = absurd (omega arith)
put_moves part (c ∷ cs) zero le parts = ap (moved_where part c cs) (parts.greater 0 c (omega arith) (omega arith))
put_moves part (c ∷ cs) (suc at) le parts =
    ap (moved_where part c cs) (parts.less 0 c (omega arith)) ∙ ap (λ (l : List Checkpoint). c ∷ l) (put_moves part cs at (omega arith) (behind_less part.partition c cs at parts))

put_reads : (p : Partition) (cs : List Checkpoint) (at : ℕ) → at ≤ length cs → Parts p cs at → checkpoint_at cs p ≡ 0
put_reads p [] at le parts = refl
put_reads p (c ∷ cs) zero le parts =
    ap (read_where c cs p) (not_named c.partition p Greater (parts.greater 0 c (omega arith) (omega arith)) refl) ∙ put_reads p cs 0 (omega arith) (behind_greater p c cs parts)
put_reads p (c ∷ cs) (suc at) le parts =
    ap (read_where c cs p) (not_named c.partition p Less (parts.less 0 c (omega arith)) refl) ∙ put_reads p cs at (omega arith) (behind_less p c cs at parts)

-- ---- what the search says

pub place_found : (p : Partition) (cs : List Checkpoint) (r : Result ℕ ℕ) → IsInOrder cs → IsSearchInRange r (length cs) → IsBinarySearchResult (λ (c : Checkpoint). order c.partition p) cs r
    → MatchResult r (IsListedAt cs p) (IsPutAt cs p)
place_found p cs (Ok i) h within equal = record {
  within = within;
  moves = λ part e. listed_moves part cs i (end_of part) h within (same_from_tie (get_or cs i (end_of part)).partition p (equal (end_of part)) ∙ sym e);
  reads = λ d. listed_reads p cs i d h within (same_from_tie (get_or cs i d).partition p (equal d));
}
place_found p cs (Err at) h within parted =
    let both = parted (searchable_from_sorted nat_list_cmp_total (λ (c : Checkpoint). c.partition) cs p (rises cs h)) in
    let parts : Parts p cs at = record { less = λ k d lt. both.0 k d (omega arith) lt; greater = λ k d le lt. both.1 k d le lt } in
    record {
      within = within;
      moves = λ part e. put_moves part cs at within (subst (λ (q : Partition). Parts q cs at) (sym e) parts);
      reads = put_reads p cs at within parts;
    }

-- ---- moving keeps the order

abbrev put_first : Part → List Checkpoint → Partition → List (Partition × ℕ)
put_first part cs p = (p, part.to) ∷ entries cs

abbrev put_where : Part → Checkpoint → List Checkpoint → Ordering → List (Partition × ℕ)
put_where part c cs o =
    by_order o ((part.partition, part.to) ∷ entry c ∷ entries cs) ((c.partition, part.to) ∷ entries cs) (entry c ∷ put (slice_cmp nat_cmp) part.partition part.to (entries cs))

entries_moved : (part : Part) (cs : List Checkpoint) → entries (move_to part cs) ≡ put (slice_cmp nat_cmp) part.partition part.to (entries cs)
entries_moved part [] = refl
entries_moved part (c ∷ cs) =
    elim (order c.partition part.partition) as (λ o. order c.partition part.partition ≡ o → entries (moved_where part c cs o) ≡ put_where part c cs (order part.partition c.partition)) [
      | Less ↦ λ e. ap (λ (l : List (Partition × ℕ)). entry c ∷ l) (entries_moved part cs) ∙ sym (ap (put_where part c cs) (turned_round c.partition part.partition Less e))
      | Equal ↦ λ e.
          ap (put_first part cs) (sym (same_from_tie c.partition part.partition e))
          ∙ sym (ap (put_where part c cs) (turned_round c.partition part.partition Equal e))
      | Greater ↦ λ e. sym (ap (put_where part c cs) (turned_round c.partition part.partition Greater e))
    ] refl

is_in : (b : Bool) → b ≡ true → T b
is_in b e = subst T (sym e) tt

is_true : (b : Bool) → T b → b ≡ true
is_true true h = refl
is_true false h = absurd h

order_kept : (part : Part) (cs : List Checkpoint) → IsInOrder cs → IsInOrder (move_to part cs)
order_kept part cs h =
    let sorted : is_sorted (slice_cmp nat_cmp) (put (slice_cmp nat_cmp) part.partition part.to (entries cs)) ≡ true =
    is_true _ (is_sorted-put (slice_cmp nat_cmp) nat_list_cmp_total part.partition part.to (entries cs) (is_in _ h)) in
    ap (is_sorted (slice_cmp nat_cmp)) (entries_moved part cs) ∙ sorted

abbrev pub ending : Partition → ℕ → Checkpoint
ending p end = record { partition = p; at = end }

-- the checkpoint is written over, or put in
pub order_set : (part : Part) (cs seen : List Checkpoint) (i : ℕ) (p : Partition) → seen ≡ cs → p ≡ part.partition → IsListedAt seen part.partition i → IsInOrder cs → IsInOrder (slice_set cs i (ending p part.to))
order_set part cs seen i p same name listed h =
    let moves : move_to part cs ≡ slice_set cs i (ending p part.to) =
    ap (move_to part) (sym same) ∙ listed.moves part refl ∙ ap (λ (l : List Checkpoint). slice_set l i (end_of part)) same
    ∙ ap (λ (q : Partition). slice_set cs i (ending q part.to)) (sym name) in
    subst IsInOrder moves (order_kept part cs h)

pub order_put : (part : Part) (cs seen new : List Checkpoint) (i : ℕ) (p : Partition) → seen ≡ cs → p ≡ part.partition → IsPutAt seen part.partition i → new ≡ insert cs i (ending p part.to) → IsInOrder cs → IsInOrder new
order_put part cs seen new i p same name put items h =
    let moves : move_to part cs ≡ new =
    ap (move_to part) (sym same) ∙ put.moves part refl ∙ ap (λ (l : List Checkpoint). insert l i (end_of part)) same
    ∙ ap (λ (q : Partition). insert cs i (ending q part.to)) (sym name) ∙ sym items in
    subst IsInOrder moves (order_kept part cs h)
