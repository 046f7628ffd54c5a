use Rattle.std.proofs.Common.{sym}
use Rattle.split_states.proofs.Rising.{none_before}
use Rattle.split_states.proofs.numbers.is_repeated.Goals as goal

pub returns-then-in_order : goal.returns-then-in_order
returns-then-in_order c = sym (none_before 0 c.args.numbers.now c.args.place 0 (c.requires.order c.if-in_order.true) c.requires.within)
