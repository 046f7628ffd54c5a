use Rattle.std.proofs.Common.{◌≡◌, ◌++◌, drop}
use Rattle.toml.specs.View.{items_view}
use Rattle.index_config.specs.Rules.{items_faults}
use Rattle.index_config.proofs.checks.check_items.Given as goal

abbrev pub invariant-loop-number : goal.invariant-loop-number
invariant-loop-number l =
    l.faults ++ items_faults l.rule l.path l.number (items_view (drop l.number l.items))
    ≡ l.initial.faults ++ items_faults l.rule l.path 0 (items_view l.items)
