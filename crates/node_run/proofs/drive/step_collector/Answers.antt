use Rattle.std.proofs.Common.{◌∙◌, ap}
use Rattle.split_collector.specs.Steps.{luck_of, stand}
use Rattle.split_collector.proofs.Alone.{steps_alone_is}
use Rattle.node_run.proofs.drive.step_collector.Goals as goal

pub returns-clause-step : goal.returns-clause-step
returns-clause-step g c core log stands =
    let s = c.step.ensures.step core log stands in
    record {
      luck = luck_of s.passages;
      outcome = s.alike.0;
      after = s.after;
      did = steps_alone_is s.passages core s.after s.alike.0 s.passed (s.did ∙ ap (λ turn. stand turn s.after) s.alike.1);
      says = s.alike.2;
      world_stands = s.stands;
      goes_on = s.alone (λ before behind same. same);
    }

pub returns-clause-tells : goal.returns-clause-tells
returns-clause-tells g c = c.step.ensures.ends
