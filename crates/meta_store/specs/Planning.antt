-- Which rows a plan has, and what it says of each.
use Rattle.std.specs.Prelude.{ℕ, Bool, true, ◌&&◌, List, [], ◌∷◌, filter, find, filter_map, if◌then◌else◌, nat_lt, nat_le, Option, Some, None, option_to_list}
use Rattle.std.specs.List.{list_any}
use Rattle.doc_value.specs.declared.facts.TimeRange.{TimeRange}
use Rattle.doc_value.specs.declared.schema.Schema.{Schema}
use Rattle.index_config.specs.declared.config.IndexConfig.{IndexConfig}
use Rattle.index_config.specs.declared.config.Policy.{Policy}
use Rattle.index_config.specs.declared.config.Policy.TheVariants as policies
use Rattle.merge_policy.specs.Chosen.{chosen}
use Rattle.query_ast.specs.Meaning.{from_start, before_end}
use Rattle.query_ast.specs.Pruning.{can_match}
use Rattle.query_ast.specs.Sought.{Sought, view}
use Rattle.split_states.specs.Rows.{is_published, row_at}
use Rattle.split_states.specs.declared.facts.Times.{Times}
use Rattle.split_states.specs.declared.rows.Row.{Row}
use Rattle.meta_store.specs.declared.config.Config.{Config}
use Rattle.meta_store.specs.declared.planning.Choice.{Choice}
use Rattle.meta_store.specs.declared.planning.Choice.TheVariants as choices
use Rattle.meta_store.specs.declared.planning.PlanRow.{PlanRow}

-- A row's times meet the times that are asked for unless the greatest is before the start or the least not before the end.
abbrev pub meets : TimeRange → Option Times → Bool
meets times None = true
meets times (Some row) = from_start times.start row.greatest && before_end times.end row.least

-- a published row with a document that neither times nor tags rule out
abbrev pub is_searched : Schema → Sought → TimeRange → Row → Bool
is_searched s query times row =
    is_published row.state && (nat_lt 0 row.facts.docs && (meets times row.facts.times && can_match s row.facts.tags query))

abbrev pub searched : Schema → Sought → TimeRange → List Row → List Row
searched s query times rows = filter (is_searched s query times) rows

-- ---- a merge

abbrev pub is_within : (least most n : ℕ) → Bool
is_within least most n = nat_le least n && nat_le n most

-- the numbers of a policy and a target lie in their ranges, as those of each accepted configuration do
abbrev pub policy_fits : Policy → Bool
policy_fits (policies.StableLog least factor greatest period) = is_within 1 16777216 least && (is_within 2 100 factor && (is_within factor 100 greatest && nat_le period 2147483647))
policy_fits (policies.LimitMerge factor greatest ops period) = is_within 2 100 factor && (is_within factor 100 greatest && (is_within 1 100 ops && nat_le period 2147483647))
policy_fits policies.NoMerge = true

abbrev pub config_fits : IndexConfig → Bool
config_fits config = policy_fits config.policy && is_within 1 16777216 config.docs_target

-- the rows of a choice, in its order
abbrev pub rows_of : List Row → Option (List ℕ) → List Row
rows_of rows None = []
rows_of rows (Some numbers) = filter_map (row_at rows) numbers

abbrev pub to_merge : IndexConfig → (now : ℕ) → List Row → List Row
to_merge config now rows = if config_fits config then rows_of rows (chosen config.policy config.docs_target now rows) else []

-- ---- deletes

-- a published row that is not applied up to the last task
abbrev pub is_behind : (last : ℕ) → Row → Bool
is_behind last row = is_published row.state && list_any (λ s. nat_lt s.applied last) row.spans

-- ---- plans

abbrev pub every : List Row → List Row
every rows = filter (λ row. is_published row.state) rows

-- the rows of a plan at a moment, behind the last task; before its Create an index has none
abbrev pub rows_for : Option Config → Choice → (now last : ℕ) → List Row → List Row
rows_for None choice now last rows = []
rows_for (Some config) (choices.Search query times) now last rows = searched config.settings.index.schema (view query) times rows
rows_for (Some config) choices.Merge now last rows = to_merge config.settings.index now rows
rows_for (Some config) choices.Deletes now last rows = option_to_list (find (is_behind last) rows)
rows_for (Some config) choices.Every now last rows = every rows
rows_for (Some config) choices.Look now last rows = []

abbrev pub planned_row : Row → PlanRow
planned_row row = record { number = row.number; size = row.facts.size; work = None }

-- with what a replacement of the row is made of
abbrev pub worked_row : Row → PlanRow
worked_row row = record { number = row.number; size = row.facts.size; work = Some (record { docs = row.facts.docs; rejected = row.facts.rejected; weight = row.facts.weight; spans = row.spans }) }

abbrev pub planned_as : Choice → Row → PlanRow
planned_as (choices.Search query times) = planned_row
planned_as choices.Merge = worked_row
planned_as choices.Deletes = worked_row
planned_as choices.Every = planned_row
planned_as choices.Look = planned_row
