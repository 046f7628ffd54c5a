use Rattle.std.proofs.Common.{ap, ◌∙◌}
use Rattle.root_search.specs.Intervals.{have_steps}
use Rattle.root_search.proofs.asking.read_search.Goals as goal

pub invariant_of-result : goal.invariant_of-result
invariant_of-result c = record { intervals = ap have_steps c.leaf_ask-ask.ensures.asks.aggs ∙ c.requires.steps }
