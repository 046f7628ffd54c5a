use Rattle.std.proofs.Common.{◌≡◌, refl, sym, ap, ◌∙◌, inl, inr}
use Rattle.std.specs.Prelude.{Some, None}
use Rattle.meta_store.specs.declared.planning.PlanRow.{PlanRow}
use Rattle.index_world.specs.CallsMade.{of_fetch}
use Rattle.shared_gate.specs.Acts.{fetch_act}
use Rattle.shared_gate.proofs.Recording.{entered, unheard}
use Rattle.shared_gate.proofs.recorded.Recorded.fetch.Goals as goal

pub returns-in-Err : goal.returns-in-Err
returns-in-Err g c row found = inl (unheard c.in-Err.error c.args.home.now c.args.self.now c.begin.new.self c.in-Err.ensures.within c.in-Err.ensures.undone.0 c.in-Err.ensures.undone.1 c.in-Err.ensures.same)

pub returns-in-Ok : goal.returns-in-Ok
returns-in-Ok g c row found = inr (entered (of_fetch row.number c.args.from c.args.len) None None None (fetch_act c.args.plan.now row.number c.args.from c.args.len c.fetch-piece.result) _ c.args.home.now c.note.new.home c.args.self.now c.begin.new.self _ _ c.note.ensures c.in-Ok.ensures.clock c.in-Ok.ensures.same (refl, refl, refl, refl)
    ((record { config = c.config-config.result.now; configured = c.config-config.ensures.step; acts = λ core log s given. c.fetch-piece.ensures.step core log c.config-config.result.now row s (c.config-config.ensures.step core log s) found }), (c.fetch-piece.ensures.kinds row found, c.fetch-piece.ensures.time, (c.fetch-piece.ensures.faults, c.fetch-piece.ensures.answers row found))) (record { is = ap (λ (r : PlanRow). of_fetch r.number c.args.from c.args.len) (let same : Some c.at.result.now ≡ Some row = sym c.at.ensures ∙ found in let is : c.at.result.now ≡ row = cc same in sym is); staged_is = refl; uploaded_is = refl; listed_is = refl }))
