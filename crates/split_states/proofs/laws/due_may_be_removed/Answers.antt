use Rattle.split_states.proofs.Dues.{due_removed, due_least}
use Rattle.split_states.proofs.laws.due_may_be_removed.Goals as goal

pub returns-clause-due : goal.returns-clause-due
returns-clause-due c rows from now grace row h e = due_removed rows from now grace row h e

pub returns-clause-least : goal.returns-clause-least
returns-clause-least c rows from now grace n h may le = due_least rows from now grace n h may le
