use Rattle.root_search.proofs.DeleteLaws.{ends_in_task, too_many}
use Rattle.root_search.proofs.delete_laws.task_laws.Goals as goal

pub returns-clause-added : goal.returns-clause-added
returns-clause-added c = ends_in_task

pub returns-clause-many : goal.returns-clause-many
returns-clause-many c = too_many
