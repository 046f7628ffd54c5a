use Rattle.upkeep_run.proofs.Losing.{raise_lost, replace_lost}
use Rattle.upkeep_run.proofs.step_laws.lost_is_exact.Goals as goal

pub returns-clause-replaces : goal.returns-clause-replaces
returns-clause-replaces c = λ aim luck log core held. replace_lost log held aim luck core

pub returns-clause-raises : goal.returns-clause-raises
returns-clause-raises c = λ luck log core work. raise_lost log work luck core
