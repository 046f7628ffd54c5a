use Rattle.std.proofs.Common.{◌≡◌, subst}
use Rattle.index_world.specs.Core.{Core}
use Rattle.index_world.specs.World.{GoesOn}
use Rattle.indexing_run.specs.Places.{number_held}
use Rattle.indexing_run.specs.Steps.{step_indexer}
use Rattle.node_run.proofs.drive.step_indexer.Goals as goal

pub returns-clause-step : goal.returns-clause-step
returns-clause-step g c actor core log indexer stands =
    let s = c.step.ensures.step actor core log indexer stands in
    record {
      luck = s.luck;
      outcome = s.outcome;
      after = s.after;
      behind = s.behind;
      did = subst (λ (from : Core). step_indexer s.luck log actor from ≡ record { outcome = s.outcome; indexer = s.after; core = s.behind }) s.passed s.did;
      answer = s.answer;
      stands = s.stands;
      world_stands = s.gate;
      goes_on = subst (λ (from : Core). GoesOn (number_held actor.place) from s.behind) s.passed s.goes_on;
      apart = s.apart;
    }

pub returns-clause-ends : goal.returns-clause-ends
returns-clause-ends g c = record { assignment = c.step.ensures.ends.assignment; ends = c.step.ensures.ends.ends }
