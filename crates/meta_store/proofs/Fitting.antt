-- How often rows were merged and the bound of their numbers, after each change of rows.
use Rattle.std.proofs.Common.{◌≡◌, ℕ, ◌+◌, ◌<◌, ◌≤◌, ◌==◌, true, false, cond, List, [], ◌∷◌, ◌++◌, max, fold, Some, refl, arith}
use Rattle.std.proofs.lemmas.List.Elements.{All-from_recursion, recursion_from_All}
use Rattle.source_checkpoint.specs.declared.span.Span.{Span}
use Rattle.split_states.specs.declared.rows.Row.{Row}
use Rattle.split_states.specs.Rows.{row_at, change, change_each, without_each, marked, replacing, ops_of, merged_ops, IsAbove}
use Rattle.meta_store.specs.Room.{MergedUpTo}
use Rattle.meta_store.proofs.RowLists.{AllOf, AllOf-append}
use Rattle.meta_store.proofs.Current.{AllOf-change, AllOf-change_each, AllOf-without_each}

abbrev IsLow : ℕ → Row → Type 0
IsLow bound row = row.merge_ops ≤ bound

by_recursion : (bound : ℕ) (rows : List Row) → MergedUpTo bound rows → AllOf (IsLow bound) rows
by_recursion bound rows h = recursion_from_All (IsLow bound) rows h

from_recursion : (bound : ℕ) (rows : List Row) → AllOf (IsLow bound) rows → MergedUpTo bound rows
from_recursion bound rows h = All-from_recursion (IsLow bound) rows h

pub merged_more : (bound : ℕ) (rows : List Row) → MergedUpTo bound rows → MergedUpTo (bound + 1) rows
merged_more bound rows h = λ k d lt. let low = h k d lt in omega arith

pub merged_push : (bound : ℕ) (rows : List Row) (row : Row) → row.merge_ops ≡ 0 → MergedUpTo bound rows → MergedUpTo (bound + 1) (rows ++ row ∷ [])
merged_push bound rows row none h =
    from_recursion (bound + 1) (rows ++ row ∷ [])
    (AllOf-append (IsLow (bound + 1)) rows (row ∷ []) (by_recursion (bound + 1) rows (merged_more bound rows h)) (omega (arith, none), tt))

pub merged_change : (bound n : ℕ) (f : Row → Row) (rows : List Row) → ((row : Row) → (f row).merge_ops ≡ row.merge_ops) → MergedUpTo bound rows → MergedUpTo (bound + 1) (change n f rows)
merged_change bound n f rows keeps h =
    from_recursion (bound + 1) (change n f rows)
    (AllOf-change (IsLow (bound + 1)) rows n f (λ row low. let same = keeps row in omega arith) (by_recursion (bound + 1) rows (merged_more bound rows h)))

pub merged_each : (bound : ℕ) (numbers : List ℕ) (f : Row → Row) (rows : List Row) → ((row : Row) → (f row).merge_ops ≡ row.merge_ops) → MergedUpTo bound rows → MergedUpTo (bound + 1) (change_each numbers f rows)
merged_each bound numbers f rows keeps h =
    from_recursion (bound + 1) (change_each numbers f rows)
    (AllOf-change_each (IsLow (bound + 1)) numbers rows f (λ row low. let same = keeps row in omega arith) (by_recursion (bound + 1) rows (merged_more bound rows h)))

pub merged_without : (bound : ℕ) (numbers : List ℕ) (rows : List Row) → MergedUpTo bound rows → MergedUpTo (bound + 1) (without_each numbers rows)
merged_without bound numbers rows h =
    from_recursion (bound + 1) (without_each numbers rows)
    (AllOf-without_each (IsLow (bound + 1)) numbers rows (by_recursion (bound + 1) rows (merged_more bound rows h)))

ops_found : (bound n : ℕ) (rows : List Row) → AllOf (IsLow bound) rows → ops_of (row_at rows n) ≤ bound
ops_found bound n [] h = omega arith
ops_found bound n (r ∷ rows) h =
    let rest = ops_found bound n rows h.1 in
    elim (r.number == n) as (λ b. ops_of (cond b (Some r) (row_at rows n)) ≤ bound) [ true ↦ h.0 | false ↦ rest ]

ops_folded : (bound so_far : ℕ) (numbers : List ℕ) (rows : List Row) → AllOf (IsLow bound) rows → so_far ≤ bound → fold (λ most k. max most (ops_of (row_at rows k))) so_far numbers ≤ bound
ops_folded bound so_far [] rows h le = le
ops_folded bound so_far (n ∷ numbers) rows h le =
    ops_folded bound (max so_far (ops_of (row_at rows n))) numbers rows h (let low = ops_found bound n rows h in omega (arith, low))

ops_low : (bound : ℕ) (numbers : List ℕ) (rows : List Row) → AllOf (IsLow bound) rows → merged_ops rows numbers ≤ bound + 1
ops_low bound [] rows h = omega arith
ops_low bound (n ∷ []) rows h = let low = ops_found bound n rows h in omega (arith, low)
ops_low bound (n ∷ m ∷ numbers) rows h = let low = ops_folded bound 0 (n ∷ m ∷ numbers) rows h (omega arith) in omega (arith, low)

-- a merge is one more at most
pub merged_low : (bound : ℕ) (numbers : List ℕ) (rows : List Row) → MergedUpTo bound rows → merged_ops rows numbers ≤ bound + 1
merged_low bound numbers rows h = ops_low bound numbers rows (by_recursion bound rows h)

pub merged_replace : (bound m new : ℕ) (old : List ℕ) (spans : List Span) (ops : ℕ) (rows : List Row) → ops ≤ bound + 1 → MergedUpTo bound rows → MergedUpTo (bound + 1) (change new (replacing spans ops) (change_each old (marked m) rows))
merged_replace bound m new old spans ops rows le h =
    from_recursion (bound + 1) (change new (replacing spans ops) (change_each old (marked m) rows))
    (AllOf-change (IsLow (bound + 1)) (change_each old (marked m) rows) new (replacing spans ops) (λ row low. le)
    (by_recursion (bound + 1) (change_each old (marked m) rows) (merged_each bound old (marked m) rows (λ row. refl) h)))

-- ---- all numbers lie below a bound

abbrev IsUnder : ℕ → Row → Type 0
IsUnder bound row = row.number < bound

under : (bound : ℕ) (rows : List Row) → IsAbove rows bound → AllOf (IsUnder bound) rows
under bound rows h = recursion_from_All (IsUnder bound) rows h

above : (bound : ℕ) (rows : List Row) → AllOf (IsUnder bound) rows → IsAbove rows bound
above bound rows h = All-from_recursion (IsUnder bound) rows h

pub above_push : (low bound : ℕ) (rows : List Row) (row : Row) → low ≤ bound → row.number < bound → IsAbove rows low → IsAbove (rows ++ row ∷ []) bound
above_push low bound rows row le new h =
    above bound (rows ++ row ∷ [])
    (AllOf-append (IsUnder bound) rows (row ∷ []) (under bound rows (λ k d lt. let was = h k d lt in omega arith)) (new, tt))

pub above_change : (bound n : ℕ) (f : Row → Row) (rows : List Row) → ((row : Row) → (f row).number ≡ row.number) → IsAbove rows bound → IsAbove (change n f rows) bound
above_change bound n f rows keeps h =
    above bound (change n f rows) (AllOf-change (IsUnder bound) rows n f (λ row low. let same = keeps row in omega arith) (under bound rows h))

pub above_each : (bound : ℕ) (numbers : List ℕ) (f : Row → Row) (rows : List Row) → ((row : Row) → (f row).number ≡ row.number) → IsAbove rows bound → IsAbove (change_each numbers f rows) bound
above_each bound numbers f rows keeps h =
    above bound (change_each numbers f rows) (AllOf-change_each (IsUnder bound) numbers rows f (λ row low. let same = keeps row in omega arith) (under bound rows h))

pub above_without : (bound : ℕ) (numbers : List ℕ) (rows : List Row) → IsAbove rows bound → IsAbove (without_each numbers rows) bound
above_without bound numbers rows h = above bound (without_each numbers rows) (AllOf-without_each (IsUnder bound) numbers rows (under bound rows h))
