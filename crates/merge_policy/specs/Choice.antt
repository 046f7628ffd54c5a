-- Which rows are merged next.
use Rattle.std.specs.Prelude.{◌≡◌, ℕ, zero, suc, ◌+◌, ◌*◌, ◌^◌, ◌≤◌, ◌==◌, ◌&&◌, Bool, true, false, List, map, filter, length, take, sum_by, Option, Some, None, nat_lt, nat_le, IsPermutation}
use Rattle.std.specs.List.Sorted.{IsStrictlySortedBy}
use Rattle.std.specs.Ordering.{nat_cmp, int_cmp, ordering_then}
use Rattle.std.specs.declared.cmp.Ordering.{Ordering}
use Rattle.std.specs.declared.cmp.Ordering.TheVariants.{Less, Equal, Greater}
use Rattle.index_config.specs.declared.config.Policy.{Policy}
use Rattle.index_config.specs.declared.config.Policy.TheVariants.{StableLog, LimitMerge, NoMerge}
use Rattle.split_states.specs.declared.facts.Times.{Times}
use Rattle.split_states.specs.declared.rows.Row.{Row}
use Rattle.split_states.specs.Rows.{is_published}

-- the limits of one split file
abbrev pub max_docs : ℕ
max_docs = 16777216

abbrev pub max_weight : ℕ
max_weight = 268435456

-- the numbers of a policy; `no_merge` counts no row, so that its numbers decide nothing
abbrev pub merge_factor : Policy → ℕ
merge_factor (StableLog least factor greatest period) = factor
merge_factor (LimitMerge factor greatest ops period) = factor
merge_factor NoMerge = 0

abbrev pub max_merge_factor : Policy → ℕ
max_merge_factor (StableLog least factor greatest period) = greatest
max_merge_factor (LimitMerge factor greatest ops period) = greatest
max_merge_factor NoMerge = 0

abbrev pub maturation_period : Policy → ℕ
maturation_period (StableLog least factor greatest period) = period
maturation_period (LimitMerge factor greatest ops period) = period
maturation_period NoMerge = 0

-- Published, of fewer documents than the target, and its period isn't over
abbrev pub is_immature : Policy → (target now : ℕ) → Row → Bool
is_immature policy target now row =
    is_published row.state && nat_lt row.facts.docs target && nat_lt now (row.staged_at + maturation_period policy)

-- whether the policy counts a row
abbrev pub is_counted : Policy → Row → Bool
is_counted (StableLog least factor greatest period) row = true
is_counted (LimitMerge factor greatest ops period) row = nat_lt row.merge_ops ops
is_counted NoMerge row = false

-- level 0 is below the least number of documents; level k goes from least * factor ^ (k - 1) to below least * factor ^ k
abbrev pub is_log_level : (least factor docs : ℕ) → ℕ → Bool
is_log_level least factor docs zero = nat_lt docs least
is_log_level least factor docs (suc k) = nat_le (least * factor ^ k) docs && nat_lt docs (least * factor ^ suc k)

abbrev pub is_of_level : Policy → ℕ → Row → Bool
is_of_level (StableLog least factor greatest period) k row = is_log_level least factor row.facts.docs k
is_of_level (LimitMerge factor greatest ops period) k row = row.merge_ops == k
is_of_level NoMerge k row = false

-- the rows that the policy looks at, and those of them on a level, in the order of the rows
abbrev pub is_candidate : Policy → (target now : ℕ) → Row → Bool
is_candidate policy target now row = is_immature policy target now row && is_counted policy row

abbrev pub level_rows : Policy → (target now : ℕ) → List Row → ℕ → List Row
level_rows policy target now rows k = filter (is_of_level policy k) (filter (is_candidate policy target now) rows)

-- by greatest time downwards, without times last
abbrev pub times_order : Option Times → Option Times → Ordering
times_order (Some one) (Some other) = int_cmp other.greatest one.greatest
times_order (Some one) None = Less
times_order None (Some other) = Greater
times_order None None = Equal

-- and then by number
abbrev pub row_order : Row → Row → Ordering
row_order one other = ordering_then (times_order one.facts.times other.facts.times) (nat_cmp one.number other.number)

-- one split file can hold the documents of these rows
pub record FitsSplit (rows : List Row) : Type 0 where
  pub docs : sum_by (λ row. row.facts.docs) rows ≤ max_docs
  pub weight : sum_by (λ row. row.facts.weight) rows ≤ max_weight

-- of a level with enough rows, in their order, the longest prefix that is bounded and fits; it has several rows
pub record IsMerge (factor greatest : ℕ) (level merged : List Row) : Type 0 where
  pub enough : factor ≤ length level
  pub first : merged ≡ take (length merged) level
  pub bounded : length merged ≤ greatest
  pub fits : FitsSplit merged
  pub longest : (n : ℕ) → n ≤ length level → n ≤ greatest → FitsSplit (take n level) → n ≤ length merged
  pub several : 2 ≤ length merged

-- the level gives these rows
pub record Gives (policy : Policy) (target now : ℕ) (rows : List Row) (k : ℕ) (merged : List Row) : Type 0 where
  pub level : List Row
  pub same : IsPermutation (level_rows policy target now rows k) level
  pub in_order : IsStrictlySortedBy row_order level
  pub is_merge : IsMerge (merge_factor policy) (max_merge_factor policy) level merged

-- the least level that gives rows gives these
pub record IsLeast (policy : Policy) (target now : ℕ) (rows : List Row) (numbers : List ℕ) : Type 0 where
  pub level : ℕ
  pub merged : List Row
  pub gives : Gives policy target now rows level merged
  pub least : (k : ℕ) (other : List Row) → Gives policy target now rows k other → level ≤ k
  pub numbers_are : numbers ≡ map (λ row. row.number) merged

-- the choice: the numbers of the rows that the least level gives, and nothing where no level gives any
abbrev pub IsChosen : Policy → (target now : ℕ) → List Row → Option (List ℕ) → Type 0
IsChosen policy target now rows None = (k : ℕ) (merged : List Row) → Gives policy target now rows k merged → ⊥
IsChosen policy target now rows (Some numbers) = IsLeast policy target now rows numbers
