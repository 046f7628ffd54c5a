use Rattle.std.proofs.Common.{◌≡◌, ◌≤◌, ◌+◌, drop}
use Rattle.index_config.specs.Fields.{field_count}
use Rattle.index_config.proofs.whole.field_count.Given as goal

abbrev pub invariant-loop-raw : goal.invariant-loop-raw
invariant-loop-raw l = (l.count + field_count (drop l.raw-index l.raws) ≡ field_count l.raws) × (l.count ≤ l.raw-index)
