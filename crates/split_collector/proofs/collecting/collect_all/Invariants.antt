use Rattle.std.proofs.Common.{◌≡◌}
use Rattle.std.specs.Prelude.{⊤}
use Rattle.source_log.specs.Log.{Log}
use Rattle.index_world.specs.Core.{Core}
use Rattle.index_world.proofs.Ran.{Going, SoFar}
use Rattle.split_collector.specs.Ending.{CallsTo}
use Rattle.split_collector.specs.Turns.{ended, to_mark}
use Rattle.split_collector.specs.CollectAll.{CollectorStep, end_of}
use Rattle.split_collector.proofs.collecting.collect_all.Given as goal

abbrev pub invariant-loop : goal.invariant-loop
invariant-loop g l =
    g.G.Gate.since l.fn.gate l.gate × (g.G.Gate.bytes_fetched l.gate ≡ g.G.Gate.bytes_fetched l.fn.gate)
    × Going (λ old told new. CallsTo g.G.Gate.told g.G.Gate.Answers to_mark (ended told) old new) end_of l.counter l.fn.gate l.gate
    × ((core : Core) (log : Log) → g.G.Gate.Stands l.fn.gate core log → SoFar g.G.Gate.Stands g.G.Gate.Adds (CollectorStep g.G.Gate.Between) (λ c. c) end_of (λ c. ⊤) l.counter core log l.fn.gate l.gate)
