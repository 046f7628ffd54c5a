use Rattle.std.proofs.Common.{take}
use Rattle.index_config.specs.References.{AreServing}
use Rattle.index_config.proofs.whole.serving.Given as goal

abbrev pub invariant-loop-raw : goal.invariant-loop-raw
invariant-loop-raw l = AreServing l.purpose (take l.raw-index l.raws) l.paths
