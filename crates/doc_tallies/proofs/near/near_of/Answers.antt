use Rattle.std.proofs.Common.{◌∙◌}
use Rattle.doc_tallies.proofs.Nears.{shown_none}
use Rattle.doc_tallies.proofs.near.near_of.Goals as goal

pub returns-then-wanted-eq0-clause-only : goal.returns-then-wanted-eq0-clause-only
returns-then-wanted-eq0-clause-only c = λ documents p part sortable. c.new.ensures.items ∙ shown_none c.args.order c.args.wanted documents c.args.numbers.now c.if-wanted-eq0.true
