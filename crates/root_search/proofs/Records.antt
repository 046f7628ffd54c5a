-- The accepted records of a log stand in the order of their places, and so does what is visible of them.
use Rattle.std.proofs.Common.{◌≡◌, ℕ, suc, ◌<◌, ◌≤◌, List, [], ◌∷◌, ◌++◌, refl, sym, subst, arith, Less, Option, Some, None, lt-ltb}
use Rattle.std.specs.List.{AllByRecursion}
use Rattle.std.specs.List.Sorted.{IsStrictlySortedBy}
use Rattle.std.specs.Ordering.{nat_cmp}
use Rattle.std.specs.Cmp.{IsTotalOrder}
use Rattle.std.specs.Cmp.Lexicographic.{slice_cmp}
use Rattle.std.proofs.lemmas.Cmp.{tied_itself, nat_list_cmp_total, nat_cmp_total, on_total, then_total}
use Rattle.std.proofs.lemmas.List.Kept.{IsStrictlySortedBy-filter}
use Rattle.std.proofs.lemmas.Map.Keys.{sorted_head, sorted_tail}
use Rattle.doc_value.specs.declared.doc.DocField.{DocField}
use Rattle.meta_store.proofs.RowLists.{AllOf-append}
use Rattle.source_log.specs.Log.{Log, IsLog, names_of}
use Rattle.delete_tasks.specs.Ledger.{Ledger}
use Rattle.index_config.specs.declared.config.IndexConfig.{IndexConfig}
use Rattle.index_world.specs.Accepted.{accepted}
use Rattle.index_world.specs.Seen.{onto, accepted_from, accepted_records, visible}
use Rattle.split_bundle.specs.declared.placed.Placed.{Placed}
use Rattle.index_world.proofs.StoreChanges.{All-each}
use Rattle.doc_tallies.specs.Orders.{place_cmp as place_order}

-- ---- one partition

-- a record of this partition from here on
abbrev IsFrom : List ℕ → ℕ → Placed → Type 0
IsFrom name offset placed = (placed.partition ≡ name) × (offset ≤ placed.offset)

onto_all : (P : Placed → Type 0) (name : List ℕ) (offset : ℕ) (o : Option (List DocField)) (more : List Placed) →
    ((doc : List DocField) → o ≡ Some doc → P (record { partition = name; offset = offset; doc = doc })) → AllByRecursion P more → AllByRecursion P (onto name offset o more)
onto_all P name offset None more h all = all
onto_all P name offset (Some doc) more h all = (h doc refl, all)

all_from : (config : IndexConfig) (name : List ℕ) (offset : ℕ) (records : List (List ℕ)) → AllByRecursion (IsFrom name offset) (accepted_from config name offset records)
all_from config name offset [] = tt
all_from config name offset (bytes ∷ more) =
    onto_all (IsFrom name offset) name offset (accepted config bytes) _ (λ doc e. (refl, omega arith))
    (All-each (IsFrom name (suc offset)) (IsFrom name offset) _ (λ x h. let le : suc offset ≤ x.offset = h.1 in (h.0, omega (arith, le))) (all_from config name (suc offset) more))

less : (m n : ℕ) → m < n → nat_cmp m n ≡ Less
less m n lt = rw (lt-ltb m n lt)

behind : (name : List ℕ) (offset : ℕ) (doc : List DocField) (x : Placed) → IsFrom name (suc offset) x → place_order (record { partition = name; offset = offset; doc = doc }) x ≡ Less
behind name offset doc x h =
    let le : suc offset ≤ x.offset = h.1 in
    rw h.0 (rw (tied_itself nat_list_cmp_total name) (less offset x.offset (omega (arith, le))))

Sorted-onto : (name : List ℕ) (offset : ℕ) (o : Option (List DocField)) (more : List Placed) → AllByRecursion (IsFrom name (suc offset)) more → IsStrictlySortedBy place_order more →
    IsStrictlySortedBy place_order (onto name offset o more)
unfolding IsStrictlySortedBy
Sorted-onto name offset None more all s = s
Sorted-onto name offset (Some doc) more all s = (All-each _ _ more (behind name offset doc) all, s)

sorted_nil : IsStrictlySortedBy place_order []
unfolding IsStrictlySortedBy
sorted_nil = tt

sorted_from : (config : IndexConfig) (name : List ℕ) (offset : ℕ) (records : List (List ℕ)) → IsStrictlySortedBy place_order (accepted_from config name offset records)
sorted_from config name offset [] = sorted_nil
sorted_from config name offset (bytes ∷ more) = Sorted-onto name offset (accepted config bytes) _ (all_from config name (suc offset) more) (sorted_from config name (suc offset) more)

-- ---- the log

Sorted-append : (xs ys : List Placed) → IsStrictlySortedBy place_order xs → IsStrictlySortedBy place_order ys → AllByRecursion (λ x. AllByRecursion (λ y. place_order x y ≡ Less) ys) xs →
    IsStrictlySortedBy place_order (xs ++ ys)
unfolding IsStrictlySortedBy
Sorted-append [] ys s t below = t
Sorted-append (x ∷ xs) ys s t below = (AllOf-append _ xs ys s.0 below.0, Sorted-append xs ys s.1 t below.1)

-- each record of a log is of one of its partitions
abbrev IsOf : (List ℕ → Type 0) → Placed → Type 0
IsOf P placed = P placed.partition

all_of_log : (config : IndexConfig) (P : List ℕ → Type 0) (log : Log) → AllByRecursion P (names_of log) → AllByRecursion (IsOf P) (accepted_records config log)
all_of_log config P [] h = tt
all_of_log config P (part ∷ parts) h =
    AllOf-append (IsOf P) _ _ (All-each (IsFrom part.partition 0) (IsOf P) _ (λ x f. subst P (sym f.0) h.0) (all_from config part.partition 0 part.records)) (all_of_log config P parts h.1)

pub log_in_order : (config : IndexConfig) (log : Log) → IsStrictlySortedBy (slice_cmp nat_cmp) (names_of log) → IsStrictlySortedBy place_order (accepted_records config log)
log_in_order config [] s = sorted_nil
log_in_order config (part ∷ parts) s =
    let later = all_of_log config (λ name. slice_cmp nat_cmp part.partition name ≡ Less) parts (sorted_head (slice_cmp nat_cmp) part.partition (names_of parts) s) in
    Sorted-append _ _ (sorted_from config part.partition 0 part.records) (log_in_order config parts (sorted_tail (slice_cmp nat_cmp) part.partition (names_of parts) s))
    (All-each (IsFrom part.partition 0) _ _ (λ x f. All-each _ (λ y. place_order x y ≡ Less) _ (λ y lt. rw f.0 (rw lt refl)) later) (all_from config part.partition 0 part.records))

-- the order of places is a total one
pub place_order_total : IsTotalOrder place_order
place_order_total = then_total (on_total (λ (p : Placed). p.partition) nat_list_cmp_total) (on_total (λ (p : Placed). p.offset) nat_cmp_total)

-- what is visible stands in order too
pub visible_in_order : (config : IndexConfig) (l : Ledger) (log : Log) → IsLog log → IsStrictlySortedBy place_order (visible config l log)
visible_in_order config l log g = IsStrictlySortedBy-filter place_order _ (accepted_records config log) (log_in_order config log g.in_order)
