use Rattle.std.proofs.Common.{◌≡◌, refl, sym, ap, ◌∙◌, inl, inr}
use Rattle.std.specs.Prelude.{Some, None}
use Rattle.meta_store.specs.declared.planning.PlanRow.{PlanRow}
use Rattle.index_world.specs.CallsMade.{of_raise}
use Rattle.shared_gate.specs.Acts.{raise_act}
use Rattle.shared_gate.proofs.Recording.{entered, unheard}
use Rattle.shared_gate.proofs.recorded.Recorded.raise.Goals as goal

pub returns-in-Err : goal.returns-in-Err
returns-in-Err g c row found = inl (unheard c.in-Err.error c.args.home.now c.args.self.now c.begin.new.self c.in-Err.ensures.within c.in-Err.ensures.undone.0 c.in-Err.ensures.undone.1 c.in-Err.ensures.same)

pub returns-in-Ok : goal.returns-in-Ok
returns-in-Ok g c row found = inr (entered (of_raise row.number c.args.upto) None None None (raise_act row.number c.args.upto c.raise-revision.result) _ c.args.home.now c.note.new.home c.args.self.now c.begin.new.self _ _ c.note.ensures c.in-Ok.ensures.clock c.in-Ok.ensures.same (refl, refl, refl, refl)
    ((λ core log s given. c.raise-revision.ensures.step core log row s found given), (c.raise-revision.ensures.answers row found)) (record { is = ap (λ (r : PlanRow). of_raise r.number c.args.upto) (let same : Some c.at.result.now ≡ Some row = sym c.at.ensures ∙ found in let is : c.at.result.now ≡ row = cc same in sym is); staged_is = refl; uploaded_is = refl; listed_is = refl }))
