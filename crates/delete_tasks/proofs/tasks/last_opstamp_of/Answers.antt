use Rattle.std.proofs.Common.{arith, ◌∙◌, ap, sym, ◌-◌, length}
use Rattle.delete_tasks.specs.Removes.{DeleteTask}
use Rattle.delete_tasks.proofs.Last.{last_read}
use Rattle.delete_tasks.proofs.tasks.last_opstamp_of.Goals as goal

pub returns : goal.returns
returns c = ap (λ (t : DeleteTask). t.opstamp) c.last.view_is
    ∙ sym (last_read c.args.tasks.now (length c.args.tasks.now - 1) c.index-tasks-count.result (omega arith) c.index-tasks-count.is)
