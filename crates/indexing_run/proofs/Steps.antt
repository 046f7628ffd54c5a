-- The partitions of an indexer differ.
use Rattle.std.proofs.Common.{◌≡◌, ℕ, suc, ◌<◌, List, [], ◌∷◌, refl, Bool, true, false, bytes_eq, length, AllPairs, slice_index_or, arith}
use Rattle.source_checkpoint.proofs.Ranges.{same_partition}
use Rattle.std.proofs.lemmas.Map.Keys.{sorted_head, sorted_tail}
use Rattle.std.specs.List.{AllByRecursion}
use Rattle.std.specs.List.Sorted.{IsStrictlySortedBy}
use Rattle.std.specs.Ordering.{nat_cmp}
use Rattle.std.specs.Cmp.Lexicographic.{slice_cmp}
use Rattle.std.specs.declared.cmp.Ordering.TheVariants.{Less}
use Rattle.std.specs.Prelude.{Option, Some, None}
use Rattle.source_log.proofs.Ordered.{eq-by_order}
use Rattle.source_log.specs.Log.{Log, names_of, IsLog}
use Rattle.indexing_run.specs.Steps.{partitions_for}
use Rattle.indexing_run.specs.Making.{AreApart, IsAssigned}

others : (name : List ℕ) (names : List (List ℕ)) → AllByRecursion (λ y. slice_cmp nat_cmp name y ≡ Less) names → AllByRecursion (λ other. bytes_eq name other ≡ false) names
others name [] h = tt
others name (n ∷ names) h = (eq-by_order name n Less h.0, others name names h.1)

sorted_apart : (names : List (List ℕ)) → IsStrictlySortedBy (slice_cmp nat_cmp) names → AreApart names
sorted_apart [] s = tt
sorted_apart (name ∷ names) s = (others name names (sorted_head (slice_cmp nat_cmp) name names s), sorted_apart names (sorted_tail (slice_cmp nat_cmp) name names s))

names_apart : (a b : List ℕ) → (a ≡ b → ⊥) → bytes_eq a b ≡ false
names_apart a b h = by (bytes_eq a b) refl
  where
    by : (t : Bool) → bytes_eq a b ≡ t → bytes_eq a b ≡ false
    by true e = absurd (h (same_partition a b e))
    by false e = e

-- names that differ pairwise are apart
pairs_apart : (names : List (List ℕ)) → AllPairs (λ a b. a ≡ b → ⊥) names → AreApart names
pairs_apart [] h = tt
pairs_apart (name ∷ names) h = (others_of names (λ i d low. h 0 (suc i) d (omega arith) (omega (arith, low))), pairs_apart names (λ i j d less low. h (suc i) (suc j) d (omega (arith, less)) (omega (arith, low))))
  where
    others_of : (rest : List (List ℕ)) → ((i : ℕ) (d : List ℕ) → i < length rest → name ≡ slice_index_or rest i d → ⊥) → AllByRecursion (λ other. bytes_eq name other ≡ false) rest
    others_of [] k = tt
    others_of (r ∷ rest) k = (names_apart name r (k 0 r (omega arith)), others_of rest (λ i d low. k (suc i) d (omega (arith, low))))

pub assigned_apart : (log : Log) (assignment : Option (List (List ℕ))) → IsLog log → IsAssigned assignment → AreApart (partitions_for assignment log)
assigned_apart log None l a = sorted_apart (names_of log) l.in_order
assigned_apart log (Some names) l a = pairs_apart names a.1
