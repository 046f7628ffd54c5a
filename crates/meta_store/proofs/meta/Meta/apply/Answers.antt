use Rattle.std.proofs.Common.{ap, sym, ◌∙◌}
use Rattle.meta_journal.specs.declared.entry.Act.{Act}
use Rattle.meta_store.specs.History.{at}
use Rattle.meta_store.specs.State.{after}
use Rattle.meta_store.proofs.meta.Meta.apply.Goals as goal

pub returns-in-Task : goal.returns-in-Task
returns-in-Task c = c.take_task.ensures ∙ ap (λ (act : Act). after c.args.reading (at c.args.entry.moment act) c.args.self.now.state) (sym c.in-Task.is)

pub returns-in_default : goal.returns-in_default
returns-in_default c = c.take_unread.ensures c.args.reading
