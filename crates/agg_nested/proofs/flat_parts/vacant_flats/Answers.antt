use Rattle.std.proofs.Common.{arith}
use Rattle.agg_nested.proofs.FlatLists.{stand_push}
use Rattle.agg_nested.proofs.flat_parts.vacant_flats.Goals as goal

pub loop-named-preserved : goal.loop-named-preserved
loop-named-preserved c =
    rw c.in_ok-push.ensures.items (stand_push c.args.nested.now c.loop-named.parts.items c.loop-named.named-index c.named-item.result _ (omega arith) c.named-item.is c.loop-named.invariant c.in_ok-vacant_flat.ensures)
