-- Every so many of what is left.
use Rattle.std.proofs.Common.{◌≡◌, ◌-◌, ◌+◌, ◌<◌, ℕ, zero, suc, List, [], ◌∷◌, length, refl, sym, ap, ◌∙◌, subst, arith, map}
use Rattle.std.proofs.lemmas.List.Elements.{All-from_recursion, recursion_from_All}
use Rattle.std.proofs.lemmas.List.Kept.{AllPairs-cons}
use Rattle.std.specs.List.{AllByRecursion}
use Rattle.std.specs.List.Sorted.{IsStrictlySortedBy}
use Rattle.std.specs.Prelude.{All, AllPairs, slice_index_or}
use Rattle.std.specs.Cmp.Lexicographic.{slice_cmp, nat_list_cmp_total}
use Rattle.std.specs.Cmp.{tied_itself}
use Rattle.std.specs.Ordering.{nat_cmp}
use Rattle.std.specs.declared.cmp.Ordering.{Ordering}
use Rattle.std.specs.declared.cmp.Ordering.TheVariants.{Less, Equal}
use Rattle.std.proofs.lemmas.Map.Keys.{sorted_head, sorted_tail}
use Rattle.source_checkpoint.specs.Names.{IsPartition}
use Rattle.source_log.specs.Log.{IsGoodPart, IsLog, Log, names_of}
use Rattle.source_log.specs.declared.memory.PartitionLog.{PartitionLog}
use Rattle.run_plan.specs.Every.{every}

-- what holds of all holds of these
pub every_all : {A : Type 0} (P : A → Type 0) (count left : ℕ) (xs : List A) → AllByRecursion P xs → AllByRecursion P (every count left xs)
every_all P count left [] all = tt
every_all P count zero (x ∷ xs) all = (all.0, every_all P count (count - 1) xs all.1)
every_all P count (suc left) (x ∷ xs) all = every_all P count left xs all.1

pub every_here : {A : Type 0} (count left : ℕ) (x : A) (xs : List A) → left ≡ 0 → every count left (x ∷ xs) ≡ x ∷ every count (count - 1) xs
every_here count zero x xs e = refl
every_here count (suc left) x xs e = absurd (omega (arith, e))

pub every_later : {A : Type 0} (count left : ℕ) (x : A) (xs : List A) → 0 < left → every count left (x ∷ xs) ≡ every count (left - 1) xs
every_later count zero x xs some = absurd (omega (arith, some))
every_later count (suc left) x xs some = ap (λ n. every count n xs) (let e : left ≡ suc left - 1 = omega arith in e)

-- two of these are two of all
every_pairs : {A : Type 0} (R : A → A → Type 0) (count left : ℕ) (xs : List A) → AllPairs R xs → AllPairs R (every count left xs)
every_pairs R count left [] h = h
every_pairs R count zero (x ∷ xs) h =
    let head : All (R x) xs = λ k d less. h 0 (suc k) d (omega arith) (omega (arith, less)) in
    let tail : AllPairs R xs = λ i j d less within. h (suc i) (suc j) d (omega (arith, less)) (omega (arith, within)) in
    AllPairs-cons R x (every count (count - 1) xs) (All-from_recursion (R x) (every count (count - 1) xs) (every_all (R x) count (count - 1) xs (recursion_from_All (R x) xs head))) (every_pairs R count (count - 1) xs tail)
every_pairs R count (suc left) (x ∷ xs) h = every_pairs R count left xs (λ i j d less within. h (suc i) (suc j) d (omega (arith, less)) (omega (arith, within)))

-- ---- names that rise differ

less_differs : (a b : List ℕ) → slice_cmp nat_cmp a b ≡ Less → a ≡ b → ⊥
less_differs a b less same =
    let tied : slice_cmp nat_cmp a b ≡ Equal = ap (λ x. slice_cmp nat_cmp a x) (sym same) ∙ tied_itself nat_list_cmp_total a in
    let bad : Less ≡ Equal = sym less ∙ tied in cc bad

others_differ : (name : List ℕ) (names : List (List ℕ)) → AllByRecursion (λ other. slice_cmp nat_cmp name other ≡ Less) names → AllByRecursion (λ other. name ≡ other → ⊥) names
others_differ name [] all = tt
others_differ name (other ∷ names) all = (less_differs name other all.0, others_differ name names all.1)

rising_differ : (names : List (List ℕ)) → IsStrictlySortedBy (slice_cmp nat_cmp) names → AllPairs (λ a b. a ≡ b → ⊥) names
rising_differ [] s = λ i j d less within. absurd (omega (arith, within))
rising_differ (name ∷ names) s =
    AllPairs-cons (λ a b. a ≡ b → ⊥) name names (All-from_recursion (λ other. name ≡ other → ⊥) names (others_differ name names (sorted_head (slice_cmp nat_cmp) name names s)))
    (rising_differ names (sorted_tail (slice_cmp nat_cmp) name names s))

good_names : (log : Log) → AllByRecursion IsGoodPart log → AllByRecursion IsPartition (names_of log)
good_names [] all = tt
good_names (part ∷ parts) all = (all.0.0, good_names parts all.1)

-- every so many partitions of a log are names of partitions, and differ
pub every_assigned : (log : Log) (count left : ℕ) → IsLog log → All IsPartition (every count left (names_of log)) × AllPairs (λ a b. a ≡ b → ⊥) (every count left (names_of log))
every_assigned log count left l =
    let names = names_of log in
    (All-from_recursion IsPartition (every count left names) (every_all IsPartition count left names (good_names log l.good)), every_pairs (λ a b. a ≡ b → ⊥) count left names (rising_differ names l.in_order))
