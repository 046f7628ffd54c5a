use Rattle.std.proofs.Common.{◌≡◌, subst}
use Rattle.index_world.specs.Core.{Core}
use Rattle.index_world.specs.World.{GoesOn}
use Rattle.upkeep_run.specs.Places.{number_held}
use Rattle.upkeep_run.specs.Steps.{step_worker}
use Rattle.upkeep_run.specs.declared.work.Aim.TheVariants.{Deleting}
use Rattle.node_run.proofs.drive.step_deleter.Goals as goal

pub returns-clause-step : goal.returns-clause-step
returns-clause-step g c worker core log is deleting stands =
    let s = c.step.ensures.step worker core log is deleting stands in
    record {
      luck = s.luck;
      outcome = s.outcome;
      after = s.after;
      behind = s.behind;
      did = subst (λ (from : Core). step_worker Deleting s.luck log worker from ≡ record { outcome = s.outcome; place = s.after; core = s.behind }) s.passed s.did;
      answer = s.answer;
      stands = s.stands;
      world_stands = s.gate;
      goes_on = subst (λ (from : Core). GoesOn (number_held worker) from s.behind) s.passed s.goes_on;
      apart = s.apart;
    }

pub returns-clause-ends : goal.returns-clause-ends
returns-clause-ends g c = c.step.ensures.ends
