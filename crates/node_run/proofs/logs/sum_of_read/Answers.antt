use Rattle.std.proofs.Common.{◌∙◌, ap}
use Rattle.std.specs.Prelude.{◌+◌, min}
use Rattle.index_world.specs.Core.{last_count}
use Rattle.node_run.proofs.Counted.{counts_on}
use Rattle.node_run.proofs.logs.sum_of_read.Goals as goal

pub loop-indexer-preserved : goal.loop-indexer-preserved
loop-indexer-preserved g c =
    counts_on c.args.indexers.now (λ reader. g.L.SourceLog.fault_count reader.log) c.loop-indexer.indexer-index c.loop-indexer.sum c.saturating_add-sum.result c.indexer-item.result
    c.loop-indexer-test.true c.indexer-item.is c.loop-indexer.invariant (c.saturating_add-sum.ensures ∙ ap (λ n. min (c.loop-indexer.sum + n) last_count) c.log_faults.ensures)
