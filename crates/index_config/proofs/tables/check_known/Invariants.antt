use Rattle.std.proofs.Common.{◌≡◌, ◌++◌}
use Rattle.toml.specs.View.{view, members_view}
use Rattle.index_config.specs.Tables.{unknown_faults, members_in}
use Rattle.index_config.proofs.tables.check_known.Given as goal

abbrev pub invariant-loop-key : goal.invariant-loop-key
invariant-loop-key l =
    l.faults ++ unknown_faults l.place l.here.path (members_view l.key-iterator)
    ≡ l.initial.faults ++ unknown_faults l.place l.here.path (members_in (view l.here.table.now))
