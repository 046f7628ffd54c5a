use Rattle.std.proofs.Common.{refl, inl, inr}
use Rattle.std.specs.Prelude.{None}
use Rattle.index_world.specs.CallsMade.{of_publish}
use Rattle.shared_gate.specs.Acts.{publish_act}
use Rattle.shared_gate.proofs.Recording.{entered, unheard}
use Rattle.shared_gate.proofs.recorded.Recorded.publish.Goals as goal

pub returns-in-Err : goal.returns-in-Err
returns-in-Err g c = inl (unheard c.in-Err.error c.args.home.now c.args.self.now c.begin.new.self c.in-Err.ensures.within c.in-Err.ensures.undone.0 c.in-Err.ensures.undone.1 c.in-Err.ensures.same)

pub returns-in-Ok : goal.returns-in-Ok
returns-in-Ok g c = inr (entered (of_publish c.args.uploaded.number) None None None (publish_act c.args.uploaded.number c.publish-revision.result) _ c.args.home.now c.note.new.home c.args.self.now c.begin.new.self _ _ c.note.ensures c.in-Ok.ensures.clock c.in-Ok.ensures.same (refl, refl, refl, refl)
    ((λ core log s given. c.publish-revision.ensures.step core log s given), c.publish-revision.ensures.answers) (record { is = refl; staged_is = refl; uploaded_is = refl; listed_is = refl }))
