use Rattle.index_report.proofs.Lines.{one_more}
use Rattle.index_report.specs.Reports.{checkpoint_line}
use Rattle.index_report.proofs.describe.put_checkpoints.Goals as goal

pub loop-checkpoint-preserved : goal.loop-checkpoint-preserved
loop-checkpoint-preserved c =
    one_more checkpoint_line c.args.checkpoints.now c.loop-checkpoint.checkpoint-index c.checkpoint-item.result _ _ _ c.loop-checkpoint-test.true c.checkpoint-item.is c.loop-checkpoint.invariant c.in_ok-put_checkpoint.ensures
