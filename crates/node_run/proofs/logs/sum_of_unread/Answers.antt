use Rattle.std.proofs.Common.{◌∙◌, ap}
use Rattle.std.specs.Prelude.{◌+◌, min}
use Rattle.index_world.specs.Core.{last_count}
use Rattle.node_run.proofs.Counted.{counts_on}
use Rattle.node_run.proofs.logs.sum_of_unread.Goals as goal

pub loop-log-preserved : goal.loop-log-preserved
loop-log-preserved g c =
    counts_on c.args.logs.now g.L.SourceLog.fault_count c.loop-log.log-index c.loop-log.sum c.saturating_add-sum.result c.log-item.result
    c.loop-log-test.true c.log-item.is c.loop-log.invariant (c.saturating_add-sum.ensures ∙ ap (λ n. min (c.loop-log.sum + n) last_count) c.faults.ensures.count)
