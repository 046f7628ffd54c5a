use Rattle.split_states.proofs.Dues.{stale_marked, stale_all, stale_rise}
use Rattle.split_states.proofs.laws.stale_may_be_marked.Goals as goal

pub returns-clause-each : goal.returns-clause-each
returns-clause-each c rows now grace h = stale_marked rows now grace h

pub returns-clause-all : goal.returns-clause-all
returns-clause-all c rows now grace n may = stale_all rows now grace n may

pub returns-clause-rise : goal.returns-clause-rise
returns-clause-rise c rows now grace h = stale_rise rows now grace h
