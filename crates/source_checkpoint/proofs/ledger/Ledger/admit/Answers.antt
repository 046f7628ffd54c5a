use Rattle.std.proofs.Common.{◌≡◌, ap}
use Rattle.source_checkpoint.proofs.Covering.{checkpoints_moved}
use Rattle.source_checkpoint.specs.Checkpoints.{Checkpoints, move_all}
use Rattle.source_checkpoint.proofs.ledger.Ledger.admit.Goals as goal

pub returns-clause-moved : goal.returns-clause-moved
returns-clause-moved c h p =
    let was : c.self.inside.list.items ≡ c.args.self.now.list = ap (λ (k : Checkpoints). k.list) c.self.view_is in
    let e : c.move_parts.new.list.items ≡ move_all c.args.delta.now c.args.self.now.list = cc (was, c.move_parts.ensures.items, c.as_slice.ensures) in
    rw e (checkpoints_moved c.args.delta.now c.args.self.now.list h p)
