use Rattle.source_checkpoint.proofs.Answering.{delta_answer}
use Rattle.source_checkpoint.proofs.delta.Delta.check.Goals as goal

pub returns-clause-ok : goal.returns-clause-ok
returns-clause-ok c = rw (c.check_parts.ensures, c.as_slice.ensures) (delta_answer c.args.self.now)
