use Rattle.meta_journal.proofs.journal.Journal.settle.Goals as goal
use Rattle.meta_journal.proofs.journal.Journal.settle.Goals.{in-Ok, in-Err}

pub returns-clause-answer : goal.returns-clause-answer
returns-clause-answer g c = elim c.match-answer.branch [
  | in-Ok w ↦ rw (w.result-is, ← c.self.view_is) (rw w.in-Ok.is at c.settle_at-answer.ensures.answer)
  | in-Err w ↦ rw (w.result-is, ← c.self.view_is) (rw w.in-Err.is at c.settle_at-answer.ensures.answer)
]
