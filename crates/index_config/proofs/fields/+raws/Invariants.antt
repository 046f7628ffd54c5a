use Rattle.std.proofs.Common.{◌≡◌, ◌++◌, ◌+◌, ◌*◌, drop}
use Rattle.toml.specs.View.{items_view}
use Rattle.index_config.specs.Rules.{member_path}
use Rattle.index_config.specs.Fields.{each_raw, raw_member}
use Rattle.index_config.proofs.fields.+raws.Given as goal

abbrev pub decreases-push_fields : goal.decreases-push_fields
decreases-push_fields l = 2 * l.levels + 1

abbrev pub decreases-push_member : goal.decreases-push_member
decreases-push_member l = 2 * l.levels

abbrev pub invariant-push_fields-loop-number : goal.invariant-push_fields-loop-number
invariant-push_fields-loop-number l =
    l.raws ++ each_raw (λ n e. raw_member l.levels (member_path l.list_place n) l.path e) l.number (items_view (drop l.number l.items))
    ≡ l.initial.raws ++ each_raw (λ n e. raw_member l.levels (member_path l.list_place n) l.path e) 0 (items_view l.items)
