use Rattle.std.proofs.Common.{◌≡◌, ◌++◌, drop}
use Rattle.std.specs.Prelude.{flat_map}
use Rattle.toml.specs.View.{view}
use Rattle.index_config.specs.Tables.{asked}
use Rattle.index_config.proofs.tables.check_keys.Given as goal

abbrev pub invariant-loop-key : goal.invariant-loop-key
invariant-loop-key l =
    l.faults ++ flat_map (λ key. asked key.0 l.here.path key.1.now (view l.here.table.now)) (drop l.key-index l.keys)
    ≡ l.initial.faults ++ flat_map (λ key. asked key.0 l.here.path key.1.now (view l.here.table.now)) l.keys
