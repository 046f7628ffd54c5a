use Rattle.std.proofs.Common.{◌+◌, ◌<◌, get_or, length, arith, ap}
use Rattle.std.proofs.lemmas.List.{get_or_default}
use Rattle.agg_nested.proofs.Zipped.{zipped_more}
use Rattle.agg_nested.proofs.Flats.{any_range, bool_number}
use Rattle.agg_nested.proofs.flat_part.collect_ranges.Goals as goal

pub loop-i-preserved : goal.loop-i-preserved
loop-i-preserved c =
    let long = c.loop-i.invariant.long in
    let same = c.requires.long in
    let inside : c.loop-i.i < length c.loop-i.counts = omega arith in
    let range = get_or c.args.ranges.now c.loop-i.i any_range in
    rw c.set.ensures (zipped_more _ c.args.ranges.now c.args.ranges.now c.args.counts.now c.loop-i.counts c.loop-i.i range (c.number_at.result + c.from-more.result)
    (omega arith) inside (get_or_default c.args.ranges.now c.loop-i.i any_range range (omega arith)) c.loop-i.invariant
    (λ s b. rw (c.number_at.ensures, get_or_default c.loop-i.counts c.loop-i.i b 0 inside, c.from-more.ensures, c.holds.ensures) (ap (λ n. get_or c.loop-i.counts c.loop-i.i 0 + n) (bool_number _))))
