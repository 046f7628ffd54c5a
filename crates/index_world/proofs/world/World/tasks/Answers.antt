use Rattle.std.proofs.Common.{◌≡◌, List, sym, ap, ◌∙◌, subst}
use Rattle.std.specs.Prelude.{IfOk}
use Rattle.delete_tasks.specs.Removes.{DeleteTask}
use Rattle.meta_store.proofs.Current.{tasks_agree}
use Rattle.meta_store.specs.History.{history}
use Rattle.meta_store.specs.State as meta
use Rattle.index_world.specs.Config.{reads}
use Rattle.index_world.specs.PlanTasks.{tasks_upto}
use Rattle.index_world.specs.World.{Keeping}
use Rattle.index_world.proofs.world.World.tasks.Goals as goal

pub returns-clause-step : goal.returns-clause-step
returns-clause-step g c core log s =
    subst (λ (all : List DeleteTask). IfOk c.copied_upto.result (λ copies. copies ≡ tasks_upto c.args.upto all))
    (c.as_slice.ensures ∙ c.tasks.ensures ∙ ap (λ (k : Keeping). k.meta.tasks) c.self.view_is ∙ ap (λ (m : meta.State). m.tasks) s.meta ∙ sym (tasks_agree reads (history core.history))) c.copied_upto.ensures
