use Rattle.std.proofs.Common.{◌∙◌, sym, ap, ℕ, Option, Result, Ok}
use Rattle.index_world.specs.Answering.{doom_answered}
use Rattle.index_world.specs.declared.world_error.WorldError.{WorldError}
use Rattle.split_collector.specs.Ending.{told}
use Rattle.split_collector.specs.Turns.{behind_doom, ended, to_doom, to_remove}
use Rattle.split_collector.proofs.Calling.{dooms, retold}
use Rattle.split_collector.proofs.Running.{one_called}
use Rattle.split_collector.proofs.tries.doom.Goals as goal

pub returns-in-Ok-None-clause-ends : goal.returns-in-Ok-None-clause-ends
returns-in-Ok-None-clause-ends g c = one_called g.G.Gate.told g.G.Gate.Answers to_doom to_remove (doom_answered c.doom.result) c.args.gate.now c.doom.new.self c.doom.ensures.answered tt (sym (ap (λ (r : Result (Option ℕ) WorldError). behind_doom told r) (c.in-Ok-None.is ∙ ap (λ (o : Option ℕ). Ok o) c.in-Ok-None.field-0-is)))

pub returns-in-Ok-None-clause-step : goal.returns-in-Ok-None-clause-step
returns-in-Ok-None-clause-step g c = λ core log stands.
    retold g.G.Gate.Stands g.G.Gate.Between g.G.Gate.Owns g.G.Gate.Adds g.met.G.Gate.between_goes core log c.args.gate.now c.doom.new.self to_doom (behind_doom told c.doom.result) to_remove (ap (λ (r : Result (Option ℕ) WorldError). behind_doom told r) (c.in-Ok-None.is ∙ ap (λ (o : Option ℕ). Ok o) c.in-Ok-None.field-0-is))
    (dooms g.G.Gate.Stands g.G.Gate.Between g.G.Gate.Owns g.G.Gate.Adds g.met.G.Gate.between_goes core log c.args.gate.now c.doom.new.self c.doom.result (c.doom.ensures.step core log stands))

pub returns-in-Ok-Some-clause-ends : goal.returns-in-Ok-Some-clause-ends
returns-in-Ok-Some-clause-ends g c = one_called g.G.Gate.told g.G.Gate.Answers to_doom (ended (told.doomed c.in-Ok-Some.number)) (doom_answered c.doom.result) c.args.gate.now c.doom.new.self c.doom.ensures.answered tt (sym (ap (λ (r : Result (Option ℕ) WorldError). behind_doom told r) (c.in-Ok-Some.is ∙ ap (λ (o : Option ℕ). Ok o) c.in-Ok-Some.field-0-is)))

pub returns-in-Ok-Some-clause-step : goal.returns-in-Ok-Some-clause-step
returns-in-Ok-Some-clause-step g c = λ core log stands.
    retold g.G.Gate.Stands g.G.Gate.Between g.G.Gate.Owns g.G.Gate.Adds g.met.G.Gate.between_goes core log c.args.gate.now c.doom.new.self to_doom (behind_doom told c.doom.result) (ended (told.doomed c.in-Ok-Some.number)) (ap (λ (r : Result (Option ℕ) WorldError). behind_doom told r) (c.in-Ok-Some.is ∙ ap (λ (o : Option ℕ). Ok o) c.in-Ok-Some.field-0-is))
    (dooms g.G.Gate.Stands g.G.Gate.Between g.G.Gate.Owns g.G.Gate.Adds g.met.G.Gate.between_goes core log c.args.gate.now c.doom.new.self c.doom.result (c.doom.ensures.step core log stands))

pub returns-in-Err-clause-ends : goal.returns-in-Err-clause-ends
returns-in-Err-clause-ends g c = one_called g.G.Gate.told g.G.Gate.Answers to_doom _ (doom_answered c.doom.result) c.args.gate.now c.doom.new.self c.doom.ensures.answered tt (sym (ap (behind_doom told) c.in-Err.is ∙ sym (c.failed.ensures to_remove)))

pub returns-in-Err-clause-step : goal.returns-in-Err-clause-step
returns-in-Err-clause-step g c = λ core log stands.
    retold g.G.Gate.Stands g.G.Gate.Between g.G.Gate.Owns g.G.Gate.Adds g.met.G.Gate.between_goes core log c.args.gate.now c.doom.new.self to_doom (behind_doom told c.doom.result) _ (ap (behind_doom told) c.in-Err.is ∙ sym (c.failed.ensures to_remove))
    (dooms g.G.Gate.Stands g.G.Gate.Between g.G.Gate.Owns g.G.Gate.Adds g.met.G.Gate.between_goes core log c.args.gate.now c.doom.new.self c.doom.result (c.doom.ensures.step core log stands))
