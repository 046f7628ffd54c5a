use Rattle.source_checkpoint.proofs.Rising.{order_set, order_put}
use Rattle.source_checkpoint.proofs.ledger.move_one.Goals as goal

pub returns-in-Ok-clause-order : goal.returns-in-Ok-clause-order
returns-in-Ok-clause-order c =
    order_set c.args.part.now c.args.list.now.items c.as_slice.result.now c.in-Ok.i c.copy.result c.as_slice.ensures.value c.copy.ensures c.in-Ok.ensures c.requires.order

pub returns-in-Err-clause-order : goal.returns-in-Err-clause-order
returns-in-Err-clause-order c =
    order_put c.args.part.now c.args.list.now.items c.as_slice.result.now c.insert_within.new.list.items c.in-Err.i c.copy.result c.as_slice.ensures.value c.copy.ensures c.in-Err.ensures c.insert_within.ensures.items
    c.requires.order
