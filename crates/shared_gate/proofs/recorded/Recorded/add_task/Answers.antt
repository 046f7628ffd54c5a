use Rattle.std.proofs.Common.{refl, sym, ap, inl, inr}
use Rattle.std.specs.Prelude.{None}
use Rattle.index_world.specs.CallsMade.{of_task}
use Rattle.shared_gate.specs.Acts.{task_act}
use Rattle.shared_gate.proofs.Recording.{entered, unheard}
use Rattle.shared_gate.proofs.recorded.Recorded.add_task.Goals as goal

pub returns-in-Err : goal.returns-in-Err
returns-in-Err g c = inl (unheard c.in-Err.error c.args.home.now c.args.self.now c.begin.new.self c.in-Err.ensures.within c.in-Err.ensures.undone.0 c.in-Err.ensures.undone.1 c.in-Err.ensures.same)

pub returns-in-Ok : goal.returns-in-Ok
returns-in-Ok g c = inr (entered (of_task c.args.ask.now) None None None (task_act c.args.ask.now c.add_task-receipt.result) _ c.args.home.now c.note.new.home c.args.self.now c.begin.new.self _ _ c.note.ensures c.in-Ok.ensures.clock c.in-Ok.ensures.same (refl, refl, refl, refl)
    ((λ core log s given. c.add_task-receipt.ensures.step core log s), c.add_task-receipt.ensures.answers) (record { is = ap of_task (sym c.of.ensures); staged_is = refl; uploaded_is = refl; listed_is = refl }))
