use Rattle.std.proofs.Common.{◌≡◌, ◌++◌, ◌+◌, ◌*◌, drop}
use Rattle.std.specs.Prelude.{codes}
use Rattle.toml.specs.View.{view, items_view}
use Rattle.toml.specs.Data.{get}
use Rattle.index_config.specs.Rules.{under}
use Rattle.index_config.specs.Tables.{each_fault, member_at, fields_faults, items_in}
use Rattle.index_config.proofs.tables.+fields.Given as goal

abbrev pub decreases-check_fields : goal.decreases-check_fields
decreases-check_fields l = 3 * l.levels + 2

abbrev pub decreases-check_member : goal.decreases-check_member
decreases-check_member l = 3 * l.levels + 1

abbrev pub decreases-check_levels : goal.decreases-check_levels
decreases-check_levels l = 3 * l.levels

abbrev pub invariant-check_fields-loop-number : goal.invariant-check_fields-loop-number
invariant-check_fields-loop-number l =
    let list_path = under l.here.path (codes "field_mappings") in
    l.faults ++ each_fault (member_at l.levels list_path) l.number (items_view (drop l.number l.items))
    ≡ l.initial.faults ++ fields_faults l.levels list_path (items_in (get (codes "field_mappings") (view l.here.table.now)))
