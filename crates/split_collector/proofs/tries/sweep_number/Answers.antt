use Rattle.std.proofs.Common.{◌∙◌, refl, sym, ap, Bool, Result, Ok}
use Rattle.index_world.specs.Answering.{sweep_answered}
use Rattle.index_world.specs.declared.world_error.WorldError.{WorldError}
use Rattle.split_collector.specs.Ending.{told}
use Rattle.split_collector.specs.Turns.{behind_delete, ended, paging, to_sweep}
use Rattle.split_collector.proofs.Calling.{retold, sweeps}
use Rattle.split_collector.proofs.Running.{one_called}
use Rattle.split_collector.proofs.tries.sweep_number.Goals as goal

pub returns-in-Ok-true-clause-ends : goal.returns-in-Ok-true-clause-ends
returns-in-Ok-true-clause-ends g c = λ next.
    one_called g.G.Gate.told g.G.Gate.Answers (to_sweep c.args.number next) (ended (told.swept c.args.number)) (sweep_answered c.args.number c.sweep_delete.result) c.args.gate.now c.sweep_delete.new.self c.sweep_delete.ensures.answered c.sweep_delete.ensures.answers (refl, sym (ap (λ (r : Result Bool WorldError). behind_delete told c.args.number next r) (c.in-Ok-true.is ∙ ap (λ (b : Bool). Ok b) c.in-Ok-true.field-0-test)))

pub returns-in-Ok-true-clause-step : goal.returns-in-Ok-true-clause-step
returns-in-Ok-true-clause-step g c = λ core log next stands swept.
    retold g.G.Gate.Stands g.G.Gate.Between g.G.Gate.Owns g.G.Gate.Adds g.met.G.Gate.between_goes core log c.args.gate.now c.sweep_delete.new.self (to_sweep c.args.number next) (behind_delete told c.args.number next c.sweep_delete.result) (ended (told.swept c.args.number)) (ap (λ (r : Result Bool WorldError). behind_delete told c.args.number next r) (c.in-Ok-true.is ∙ ap (λ (b : Bool). Ok b) c.in-Ok-true.field-0-test))
    (sweeps g.G.Gate.Stands g.G.Gate.Between g.G.Gate.Owns g.G.Gate.Adds g.met.G.Gate.between_goes core log c.args.gate.now c.sweep_delete.new.self g.met.G.Gate.is_sound c.args.number next c.sweep_delete.result swept (c.sweep_delete.ensures.step core log stands))

pub returns-in-Ok-false-clause-ends : goal.returns-in-Ok-false-clause-ends
returns-in-Ok-false-clause-ends g c = λ next.
    one_called g.G.Gate.told g.G.Gate.Answers (to_sweep c.args.number next) (paging told next) (sweep_answered c.args.number c.sweep_delete.result) c.args.gate.now c.sweep_delete.new.self c.sweep_delete.ensures.answered c.sweep_delete.ensures.answers (refl, sym (ap (λ (r : Result Bool WorldError). behind_delete told c.args.number next r) (c.in-Ok-false.is ∙ ap (λ (b : Bool). Ok b) c.in-Ok-false.field-0-test)))

pub returns-in-Ok-false-clause-step : goal.returns-in-Ok-false-clause-step
returns-in-Ok-false-clause-step g c = λ core log next stands swept.
    retold g.G.Gate.Stands g.G.Gate.Between g.G.Gate.Owns g.G.Gate.Adds g.met.G.Gate.between_goes core log c.args.gate.now c.sweep_delete.new.self (to_sweep c.args.number next) (behind_delete told c.args.number next c.sweep_delete.result) (paging told next) (ap (λ (r : Result Bool WorldError). behind_delete told c.args.number next r) (c.in-Ok-false.is ∙ ap (λ (b : Bool). Ok b) c.in-Ok-false.field-0-test))
    (sweeps g.G.Gate.Stands g.G.Gate.Between g.G.Gate.Owns g.G.Gate.Adds g.met.G.Gate.between_goes core log c.args.gate.now c.sweep_delete.new.self g.met.G.Gate.is_sound c.args.number next c.sweep_delete.result swept (c.sweep_delete.ensures.step core log stands))

pub returns-in-Err-clause-ends : goal.returns-in-Err-clause-ends
returns-in-Err-clause-ends g c = λ next.
    one_called g.G.Gate.told g.G.Gate.Answers (to_sweep c.args.number next) _ (sweep_answered c.args.number c.sweep_delete.result) c.args.gate.now c.sweep_delete.new.self c.sweep_delete.ensures.answered c.sweep_delete.ensures.answers (refl, sym (ap (behind_delete told c.args.number next) c.in-Err.is ∙ sym (c.failed.ensures (paging told next))))

pub returns-in-Err-clause-step : goal.returns-in-Err-clause-step
returns-in-Err-clause-step g c = λ core log next stands swept.
    retold g.G.Gate.Stands g.G.Gate.Between g.G.Gate.Owns g.G.Gate.Adds g.met.G.Gate.between_goes core log c.args.gate.now c.sweep_delete.new.self (to_sweep c.args.number next) (behind_delete told c.args.number next c.sweep_delete.result) _ (ap (behind_delete told c.args.number next) c.in-Err.is ∙ sym (c.failed.ensures (paging told next)))
    (sweeps g.G.Gate.Stands g.G.Gate.Between g.G.Gate.Owns g.G.Gate.Adds g.met.G.Gate.between_goes core log c.args.gate.now c.sweep_delete.new.self g.met.G.Gate.is_sound c.args.number next c.sweep_delete.result swept (c.sweep_delete.ensures.step core log stands))
