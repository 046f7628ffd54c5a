use Rattle.std.proofs.Common.{ap, ◌∙◌, leb}
use Rattle.indexing_run.proofs.Queues.{empty_left}
use Rattle.indexing_run.proofs.queue.Queue.is_empty.Goals as goal

pub returns : goal.returns
returns c = let marks = c.args.self.now.marks in ap (λ n. leb n c.args.self.now.current) (c.len.ensures ∙ marks.ok.0) ∙ empty_left marks.items c.args.self.now.current
