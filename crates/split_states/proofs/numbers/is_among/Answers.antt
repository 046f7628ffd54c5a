use Rattle.std.proofs.Common.{◌∙◌}
use Rattle.split_states.proofs.Rising.{found_by_halves}
use Rattle.split_states.proofs.numbers.is_among.Goals as goal

pub returns-then-in_order : goal.returns-then-in_order
returns-then-in_order c =
    c.is_ok.ensures.value
    ∙ found_by_halves c.args.numbers.now c.args.number c.binary_search.result (c.requires c.if-in_order.true) c.binary_search.ensures.bound c.binary_search.ensures.position

pub returns-else-in_order : goal.returns-else-in_order
returns-else-in_order c = c.contains.ensures.value
