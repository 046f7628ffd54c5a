use Rattle.meta_journal.proofs.journal.Journal.load.Goals as goal

pub returns-clause-answer : goal.returns-clause-answer
returns-clause-answer g c = c.in_ok-entries.ensures.answer
