use Rattle.std.proofs.Common.{◌≡◌, Some, slice_get, refl, arith}
use Rattle.index_config.proofs.Doubles.{stands_at, seen_step, faults_step}
use Rattle.index_config.proofs.whole.check_duplicates.Goals as goal

pub loop-raw-preserved : goal.loop-raw-preserved
loop-raw-preserved c =
    let at : slice_get c.args.raws.now c.loop-raw.raw-index ≡ Some c.raw-item.result =
    stands_at c.args.raws.now c.loop-raw.raw-index c.raw-item.result (omega arith) c.raw-item.is in (
      faults_step c.args.raws.now c.loop-raw.raw-index _ c.raw-item.result c.as_str-path.result.now _ c.loop-raw.faults c.doubled.new.faults c.in_ok-added.added _ refl at
          c.as_str-path.ensures (c.loop-raw.invariant.1 c.as_str-path.result) c.in_ok-added.ensures.added c.in_ok-doubled.ensures c.loop-raw.invariant.0,
      λ q. seen_step c.args.raws.now c.loop-raw.raw-index _ c.raw-item.result c.as_str-path.result.now q.now _ _ refl at c.as_str-path.ensures
          (c.loop-raw.invariant.1 q) (c.in_ok-added.ensures.updates.0 q),
    )
