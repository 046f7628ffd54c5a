use Rattle.std.proofs.Common.{◌≡◌, drop}
use Rattle.index_config.specs.Fields.{has_such}
use Rattle.index_config.proofs.whole.has_such.Given as goal

abbrev pub invariant-loop-raw : goal.invariant-loop-raw
invariant-loop-raw l = has_such l.purpose l.path l.raws ≡ has_such l.purpose l.path (drop l.raw-index l.raws)
