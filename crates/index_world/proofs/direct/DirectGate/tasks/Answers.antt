use Rattle.std.proofs.Common.{refl}
use Rattle.index_world.proofs.direct.DirectGate.tasks.Goals as goal

pub returns-clause-step : goal.returns-clause-step
returns-clause-step g c core log s =
    record {
      mid = core;
      passed = refl;
      owned = λ number own u. u;
      stands = s;
      own = tt;
      tasks = c.tasks.ensures.step core log s;
    }

pub returns-clause-answered : goal.returns-clause-answered
returns-clause-answered g c = (refl, c.tasks.ensures.value)
