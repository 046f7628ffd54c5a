use Rattle.std.proofs.Common.{◌≡◌, None}
use Rattle.std.specs.Prelude.{IfSome}
use Rattle.object_store.specs.Key.{IsKey}
use Rattle.source_log.specs.Log.{Log}
use Rattle.index_world.specs.Core.{Core}
use Rattle.split_collector.specs.Ending.{CallsTo}
use Rattle.split_collector.specs.Standing.{CollectsAs}
use Rattle.split_collector.specs.Turns.{to_list}
use Rattle.split_collector.proofs.Ranks.{keys_behind}
use Rattle.split_collector.proofs.tries.sweep.Given as goal

abbrev pub invariant-loop-outcome : goal.invariant-loop-outcome
invariant-loop-outcome g l = record {
  later : g.G.Gate.since l.fn.gate l.gate;
  same : g.G.Gate.bytes_fetched l.gate ≡ g.G.Gate.bytes_fetched l.fn.gate;
  key : IfSome l.behind IsKey;
  ends : CallsTo g.G.Gate.told g.G.Gate.Answers (to_list None) (to_list l.behind) l.fn.gate l.gate;
  step : (core : Core) (log : Log) → g.G.Gate.Stands l.fn.gate core log → CollectsAs g.G.Gate.Stands g.G.Gate.Between g.G.Gate.Adds (to_list None) (to_list l.behind) core log l.fn.gate l.gate;
}

abbrev pub decreases-loop-outcome : goal.decreases-loop-outcome
decreases-loop-outcome g l = keys_behind l.behind
