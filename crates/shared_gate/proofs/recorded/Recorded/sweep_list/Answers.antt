use Rattle.std.proofs.Common.{refl, sym, ap, inl, inr}
use Rattle.std.specs.Prelude.{None}
use Rattle.std.specs.Option.{option_copied}
use Rattle.index_world.specs.CallsMade.{of_sweep_list}
use Rattle.index_world.specs.World.{Keeping}
use Rattle.shared_gate.specs.Acts.{list_act, page_given}
use Rattle.shared_gate.proofs.Recording.{entered, unheard}
use Rattle.shared_gate.proofs.recorded.Recorded.sweep_list.Goals as goal

pub returns-in-Err : goal.returns-in-Err
returns-in-Err g c = inl (unheard c.in-Err.error c.args.home.now c.args.self.now c.begin.new.self c.in-Err.ensures.within c.in-Err.ensures.undone.0 c.in-Err.ensures.undone.1 c.in-Err.ensures.same)

pub returns-in-Ok : goal.returns-in-Ok
returns-in-Ok g c = inr (entered (of_sweep_list (option_copied c.args.behind)) None None (page_given c.sweep_list-page.result) (list_act (option_copied c.args.behind) c.sweep_list-page.result) _ c.args.home.now c.note.new.home c.args.self.now c.begin.new.self _ _ c.note.ensures c.in-Ok.ensures.clock c.in-Ok.ensures.same (refl, refl, refl, refl)
    ((λ core log s given. c.sweep_list-page.ensures.step core log s), (ap (λ (k : Keeping). k.meta) c.sweep_list-page.ensures.same, (c.sweep_list-page.ensures.faults, c.sweep_list-page.ensures.answers))) (record { is = ap of_sweep_list (sym c.told_key-told.ensures); staged_is = refl; uploaded_is = refl; listed_is = c.told_page-given.ensures }))
