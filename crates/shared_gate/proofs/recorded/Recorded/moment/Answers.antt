use Rattle.std.proofs.Common.{refl, inl, inr}
use Rattle.std.specs.Prelude.{None}
use Rattle.index_world.specs.CallsMade.{of_moment}
use Rattle.shared_gate.specs.Acts.{moment_act}
use Rattle.shared_gate.proofs.Recording.{entered, unheard}
use Rattle.shared_gate.proofs.recorded.Recorded.moment.Goals as goal

pub returns-in-Err-clause-records : goal.returns-in-Err-clause-records
returns-in-Err-clause-records g c = inl (unheard c.in-Err.error c.args.home.now c.args.self.now c.begin.new.self c.in-Err.ensures.within c.in-Err.ensures.undone.0 c.in-Err.ensures.undone.1 c.in-Err.ensures.same)

pub returns-in-Ok-clause-records : goal.returns-in-Ok-clause-records
returns-in-Ok-clause-records g c = inr (entered of_moment None None None (moment_act c.moment-moment.result) _ c.args.home.now c.note.new.home c.args.self.now c.begin.new.self _ _ c.note.ensures c.in-Ok.ensures.clock c.in-Ok.ensures.same (refl, refl, refl, refl)
    ((λ core log s given. c.moment-moment.ensures.step core log s), c.moment-moment.ensures.answers) (record { is = refl; staged_is = refl; uploaded_is = refl; listed_is = refl }))
