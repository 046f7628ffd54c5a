use Rattle.term_postings.proofs.cursor.Cursor.seek.Goals as goal

pub returns-in_default-clause-only : goal.returns-in_default-clause-only
returns-in_default-clause-only c told after left past s = c.seek_on.ensures.only told after left s
