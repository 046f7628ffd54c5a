use Rattle.std.proofs.Common.{refl, sym, inl, inr}
use Rattle.std.specs.Prelude.{None}
use Rattle.index_world.specs.CallsMade.{of_stage}
use Rattle.shared_gate.specs.Acts.{stage_act, number_given}
use Rattle.shared_gate.proofs.Recording.{entered, unheard}
use Rattle.shared_gate.proofs.recorded.Recorded.stage.Goals as goal

pub returns-in-Err : goal.returns-in-Err
returns-in-Err g c = inl (unheard c.in-Err.error c.args.home.now c.args.self.now c.begin.new.self c.in-Err.ensures.within c.in-Err.ensures.undone.0 c.in-Err.ensures.undone.1 c.in-Err.ensures.same)

pub returns-in-Ok : goal.returns-in-Ok
returns-in-Ok g c = inr (entered (of_stage c.args.delta.now c.args.facts.now) (number_given c.stage-staged.result) None None (stage_act c.args.delta.now c.args.facts.now c.stage-staged.result) _ c.args.home.now c.note.new.home c.args.self.now c.begin.new.self _ _ c.note.ensures c.in-Ok.ensures.clock c.in-Ok.ensures.same (refl, refl, refl, refl)
    ((λ core log s given. c.stage-staged.ensures.step core log s), c.stage-staged.ensures.answers) (record { is = λ i. of_stage (sym c.of.ensures i) (sym c.of-in-Ok.ensures i); staged_is = c.number_given-number.ensures; uploaded_is = refl; listed_is = refl }))
