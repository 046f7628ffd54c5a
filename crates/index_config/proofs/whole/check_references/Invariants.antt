use Rattle.std.proofs.Common.{◌≡◌, ◌++◌, drop}
use Rattle.toml.specs.View.{items_view}
use Rattle.index_config.specs.Fields.{reference_faults}
use Rattle.index_config.proofs.whole.check_references.Given as goal

abbrev pub invariant-loop-number : goal.invariant-loop-number
invariant-loop-number l =
    l.faults ++ reference_faults l.fn.purpose l.raws l.place l.number (items_view (drop l.number l.items))
    ≡ l.initial.faults ++ reference_faults l.fn.purpose l.raws l.place 0 (items_view l.items)
