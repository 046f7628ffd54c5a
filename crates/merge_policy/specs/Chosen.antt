-- The choice as a function of the rows.
use Rattle.std.specs.Prelude.{ℕ, zero, suc, ◌+◌, ◌&&◌, Bool, List, [], ◌∷◌, length, take, min, sum_by, if◌then◌else◌, Option, Some, None, option_map, nat_le}
use Rattle.std.specs.Option.{option_or}
use Rattle.std.specs.Ordering.{is_lt}
use Rattle.index_config.specs.declared.config.Policy.{Policy}
use Rattle.split_states.specs.declared.rows.Row.{Row}
use Rattle.split_states.specs.Rows.{row_numbers}
use Rattle.merge_policy.specs.Choice.{max_docs, max_weight, merge_factor, max_merge_factor, level_rows, row_order}

-- a row among rows that are in their order
abbrev pub with_row : Row → List Row → List Row
with_row row [] = row ∷ []
with_row row (other ∷ rows) = if is_lt (row_order row other) then row ∷ other ∷ rows else other ∷ with_row row rows

abbrev pub in_order : List Row → List Row
in_order [] = []
in_order (row ∷ rows) = with_row row (in_order rows)

abbrev pub fits_split : List Row → Bool
fits_split rows = nat_le (sum_by (λ row. row.facts.docs) rows) max_docs && nat_le (sum_by (λ row. row.facts.weight) rows) max_weight

-- of the first rows, as many as these at most, the longest prefix that fits
abbrev pub fitting : (most : ℕ) → List Row → List Row
fitting zero rows = []
fitting (suc n) rows = if fits_split (take (suc n) rows) then take (suc n) rows else fitting n rows

-- what the rows of a level give, in their order, where they are enough and several of them fit
abbrev pub merge_of : (factor greatest : ℕ) → (level : List Row) → Option (List Row)
merge_of factor greatest level =
    if nat_le factor (length level) && nat_le 2 (length (fitting (min greatest (length level)) level)) then Some (fitting (min greatest (length level)) level) else None

abbrev pub given : Policy → (target now : ℕ) → List Row → (k : ℕ) → Option (List Row)
given policy target now rows k = merge_of (merge_factor policy) (max_merge_factor policy) (in_order (level_rows policy target now rows k))

-- what the least of `count` levels from k on gives that gives any
abbrev pub least_given : Policy → (target now : ℕ) → List Row → (k count : ℕ) → Option (List Row)
least_given policy target now rows k zero = None
least_given policy target now rows k (suc count) = option_or (given policy target now rows k) (least_given policy target now rows (suc k) count)

-- each row's level is below its documents, its merges and two, so all levels are below the sum
abbrev pub level_count : List Row → ℕ
level_count rows = sum_by (λ row. row.facts.docs + (row.merge_ops + 2)) rows

-- THE CHOICE: the numbers of the rows that the least level gives, and none where no level gives any
abbrev pub chosen : Policy → (target now : ℕ) → List Row → Option (List ℕ)
chosen policy target now rows = option_map row_numbers (least_given policy target now rows 0 (level_count rows))
