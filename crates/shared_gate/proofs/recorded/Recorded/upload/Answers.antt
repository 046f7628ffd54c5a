use Rattle.std.proofs.Common.{refl, inl, inr}
use Rattle.std.specs.Prelude.{Some, None}
use Rattle.index_world.specs.CallsMade.{of_upload}
use Rattle.shared_gate.specs.Acts.{upload_act}
use Rattle.shared_gate.proofs.Recording.{entered, unheard}
use Rattle.shared_gate.proofs.recorded.Recorded.upload.Goals as goal

pub returns-in-Err : goal.returns-in-Err
returns-in-Err g c = inl (unheard c.in-Err.error c.args.home.now c.args.self.now c.begin.new.self c.in-Err.ensures.within c.in-Err.ensures.undone.0 c.in-Err.ensures.undone.1 c.in-Err.ensures.same)

pub returns-in-Ok : goal.returns-in-Ok
returns-in-Ok g c = inr (entered (of_upload c.args.staged.number c.args.content.now) None (Some c.args.staged.number) None (upload_act c.args.staged.number c.args.content.now c.upload-uploaded.result) _ c.args.home.now c.note.new.home c.args.self.now c.begin.new.self _ _ c.note.ensures c.in-Ok.ensures.clock c.in-Ok.ensures.same (refl, refl, refl, refl)
    ((λ core log s given. c.upload-uploaded.ensures.step core log s given), (c.upload-uploaded.ensures.kinds, (c.upload-uploaded.ensures.faults, c.upload-uploaded.ensures.answers))) (record { is = (c.args.content.now, refl); staged_is = refl; uploaded_is = refl; listed_is = refl }))
