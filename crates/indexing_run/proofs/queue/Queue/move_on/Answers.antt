use Rattle.std.proofs.Common.{sym, ap, ◌∙◌}
use Rattle.indexing_run.specs.Steps.{queue_after}
use Rattle.indexing_run.proofs.Queues.{next_left}
use Rattle.indexing_run.proofs.queue.Queue.move_on.Goals as goal

pub returns-then-end : goal.returns-then-end
returns-then-end c = λ mark rest e low. next_left c.args.self.now.marks.items c.args.self.now.current mark rest e ∙ ap (λ b. queue_after b mark c.args.taken rest) (sym c.if-end.true)
