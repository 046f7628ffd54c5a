use Rattle.std.proofs.Common.{◌∙◌, sym, None}
use Rattle.index_world.specs.Answering.{remove_answered}
use Rattle.split_collector.specs.Ending.{told}
use Rattle.split_collector.specs.Turns.{behind_remove, ended, to_list, to_remove}
use Rattle.split_collector.proofs.Calling.{counted_failed, counted_none, counted_some, removes, retold}
use Rattle.split_collector.proofs.Running.{one_called}
use Rattle.split_collector.proofs.tries.remove.Goals as goal

pub returns-in-Ok-eq0-clause-ends : goal.returns-in-Ok-eq0-clause-ends
returns-in-Ok-eq0-clause-ends g c = one_called g.G.Gate.told g.G.Gate.Answers to_remove (to_list None) (remove_answered c.remove.result) c.args.gate.now c.remove.new.self c.remove.ensures.answered tt (sym (counted_none told.removed (to_list None) c.remove.result c.in-Ok-eq0.field-0 c.in-Ok-eq0.is c.in-Ok-eq0.field-0-test))

pub returns-in-Ok-eq0-clause-step : goal.returns-in-Ok-eq0-clause-step
returns-in-Ok-eq0-clause-step g c = λ core log stands.
    retold g.G.Gate.Stands g.G.Gate.Between g.G.Gate.Owns g.G.Gate.Adds g.met.G.Gate.between_goes core log c.args.gate.now c.remove.new.self to_remove (behind_remove told c.remove.result) (to_list None) (counted_none told.removed (to_list None) c.remove.result c.in-Ok-eq0.field-0 c.in-Ok-eq0.is c.in-Ok-eq0.field-0-test)
    (removes g.G.Gate.Stands g.G.Gate.Between g.G.Gate.Owns g.G.Gate.Adds g.met.G.Gate.between_goes core log c.args.gate.now c.remove.new.self c.remove.result (c.remove.ensures.step core log stands))

pub returns-in-Ok-clause-ends : goal.returns-in-Ok-clause-ends
returns-in-Ok-clause-ends g c = one_called g.G.Gate.told g.G.Gate.Answers to_remove (ended (told.removed c.in-Ok.count)) (remove_answered c.remove.result) c.args.gate.now c.remove.new.self c.remove.ensures.answered tt (sym (counted_some told.removed (to_list None) c.remove.result c.in-Ok.count c.in-Ok.is c.in-Ok.count-test.1))

pub returns-in-Ok-clause-step : goal.returns-in-Ok-clause-step
returns-in-Ok-clause-step g c = λ core log stands.
    retold g.G.Gate.Stands g.G.Gate.Between g.G.Gate.Owns g.G.Gate.Adds g.met.G.Gate.between_goes core log c.args.gate.now c.remove.new.self to_remove (behind_remove told c.remove.result) (ended (told.removed c.in-Ok.count)) (counted_some told.removed (to_list None) c.remove.result c.in-Ok.count c.in-Ok.is c.in-Ok.count-test.1)
    (removes g.G.Gate.Stands g.G.Gate.Between g.G.Gate.Owns g.G.Gate.Adds g.met.G.Gate.between_goes core log c.args.gate.now c.remove.new.self c.remove.result (c.remove.ensures.step core log stands))

pub returns-in-Err-clause-ends : goal.returns-in-Err-clause-ends
returns-in-Err-clause-ends g c = one_called g.G.Gate.told g.G.Gate.Answers to_remove _ (remove_answered c.remove.result) c.args.gate.now c.remove.new.self c.remove.ensures.answered tt (sym (counted_failed told.removed (to_list None) c.remove.result c.in-Err.error c.in-Err.is ∙ sym (c.failed.ensures (to_list None))))

pub returns-in-Err-clause-step : goal.returns-in-Err-clause-step
returns-in-Err-clause-step g c = λ core log stands.
    retold g.G.Gate.Stands g.G.Gate.Between g.G.Gate.Owns g.G.Gate.Adds g.met.G.Gate.between_goes core log c.args.gate.now c.remove.new.self to_remove (behind_remove told c.remove.result) _ (counted_failed told.removed (to_list None) c.remove.result c.in-Err.error c.in-Err.is ∙ sym (c.failed.ensures (to_list None)))
    (removes g.G.Gate.Stands g.G.Gate.Between g.G.Gate.Owns g.G.Gate.Adds g.met.G.Gate.between_goes core log c.args.gate.now c.remove.new.self c.remove.result (c.remove.ensures.step core log stands))
