use Rattle.indexing_run.proofs.batch.take_part.Goals as goal

pub returns-clause-taken : goal.returns-clause-taken
returns-clause-taken c = c.in_ok-taken.ensures.taken

pub returns-clause-parts : goal.returns-clause-parts
returns-clause-parts c = c.in_ok-extend_taken.ensures
