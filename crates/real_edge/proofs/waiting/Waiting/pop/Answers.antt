use Rattle.std.proofs.Common.{sym, ◌∙◌}
use Rattle.real_edge.proofs.Meetings.{popped_order, popped_first, popped_rest}
use Rattle.real_edge.proofs.waiting.Waiting.pop.Goals as goal

pub invariant_of-self : goal.invariant_of-self
invariant_of-self c = popped_order c.self.inside.held.items c.pop.new.self.items c.pop.result c.pop.ensures.items c.self.invariant

pub returns-clause-first : goal.returns-clause-first
returns-clause-first c = popped_first c.self.inside.held.items c.pop.new.self.items c.pop.result c.pop.ensures.items c.self.invariant

pub returns-clause-rest : goal.returns-clause-rest
returns-clause-rest c = popped_rest c.args.self.now c.pop.new.self.items c.pop.result (sym c.self.view_is ∙ c.pop.ensures.items)
