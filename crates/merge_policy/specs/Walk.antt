-- What the steps of a choice do with the candidates.
use Rattle.std.specs.Prelude.{◌≡◌, ℕ, ◌≤◌, ◌==◌, List, [], ◌∷◌, map, filter, Option, Some, None}
use Rattle.std.specs.List.{AllByRecursion}
use Rattle.std.specs.Ordering.{nat_cmp, ordering_then}
use Rattle.std.specs.declared.cmp.Ordering.{Ordering}
use Rattle.index_config.specs.declared.config.Policy.{Policy}
use Rattle.split_states.specs.declared.rows.Row.{Row}
use Rattle.merge_policy.specs.declared.candidate.Candidate.{Candidate}
use Rattle.merge_policy.specs.Choice.{is_of_level, row_order, IsMerge}

abbrev pub rows_of : List Candidate → List Row
rows_of candidates = map (λ c. c.row.now) candidates

-- the level is the row's only one
abbrev pub HasLevel : Policy → Row → ℕ → Type 0
HasLevel policy row level = (k : ℕ) → is_of_level policy k row ≡ (level == k)

abbrev pub IsRanked : Policy → Candidate → Type 0
IsRanked policy c = HasLevel policy c.row.now c.level

-- by level, and then in the order of the rows
abbrev pub candidate_order : Candidate → Candidate → Ordering
candidate_order one other = ordering_then (nat_cmp one.level other.level) (row_order one.row.now other.row.now)

abbrev pub of_level : ℕ → List Candidate → List Candidate
of_level k candidates = filter (λ c. c.level == k) candidates

-- the levels don't fall
abbrev pub LevelsRise : List Candidate → Type 0
LevelsRise [] = Unit {0}
LevelsRise (c ∷ candidates) = AllByRecursion (λ d. c.level ≤ d.level) candidates × LevelsRise candidates

abbrev pub IsMergeAt : (factor greatest : ℕ) → List Candidate → ℕ → List Row → Type 0
IsMergeAt factor greatest candidates k merged = IsMerge factor greatest (rows_of (of_level k candidates)) merged

pub record IsFirst (factor greatest : ℕ) (candidates : List Candidate) (merged : List Row) : Type 0 where
  pub level : ℕ
  pub is_merge : IsMergeAt factor greatest candidates level merged
  pub least : (k : ℕ) (other : List Row) → IsMergeAt factor greatest candidates k other → level ≤ k

-- the merged rows of the least level of the candidates that has any
abbrev pub IsWalked : (factor greatest : ℕ) → List Candidate → Option (List Row) → Type 0
IsWalked factor greatest candidates None = (k : ℕ) (merged : List Row) → IsMergeAt factor greatest candidates k merged → ⊥
IsWalked factor greatest candidates (Some merged) = IsFirst factor greatest candidates merged
