use Rattle.split_build.proofs.WordWalks.{no_letter}
use Rattle.split_build.proofs.occurrences.Walker.take_byte.Goals as goal

pub returns-in-None-clause-key : goal.returns-in-None-clause-key
returns-in-None-clause-key c = λ number word is. rw (no_letter c.args.byte c.in-None.ensures) (c.end_word.ensures.key number word is)

pub returns-in-None-clause-position : goal.returns-in-None-clause-position
returns-in-None-clause-position c = λ number word is. rw (no_letter c.args.byte c.in-None.ensures) (c.end_word.ensures.position number word is)

pub returns-in-None-clause-added : goal.returns-in-None-clause-added
returns-in-None-clause-added c = λ s number word kept is. rw (no_letter c.args.byte c.in-None.ensures) (c.end_word.ensures.added s number word kept is)
