use Rattle.std.proofs.Common.{◌<◌, length, arith}
use Rattle.fast_fields.proofs.Places.{least_next}
use Rattle.fast_fields.proofs.encode.least.Goals as goal

pub loop-entry-preserved : goal.loop-entry-preserved
loop-entry-preserved c =
    let within : c.loop-entry.entry-index < length c.in-Some.behind.now = omega arith in
    least_next c.in-Some.behind.now c.loop-entry.entry-index c.loop-entry.least _ c.min-least.result _ within c.loop-entry.invariant c.min-least.ensures
