use Rattle.std.proofs.Common.{◌≡◌, ◌+◌, ◌<◌, ℕ, get_or, length, arith}
use Rattle.std.proofs.lemmas.List.{get_or_default}
use Rattle.std.proofs.lemmas.Grind.{common_steps}
use Rattle.agg_nested.proofs.Zipped.{zipped_more}
use Rattle.agg_nested.proofs.flat_part.merge_ranges.Goals as goal

pub loop-i-preserved : goal.loop-i-preserved
loop-i-preserved c =
    let long = c.loop-i.invariant.long in
    let same = c.requires.long in
    let inside : c.loop-i.i < length c.loop-i.counts = omega arith in
    let other = get_or c.args.others.now c.loop-i.i 0 in
    rw c.set.ensures (zipped_more (λ (other same old new : ℕ). new ≡ old + other) c.args.others.now c.args.others.now c.args.counts.now c.loop-i.counts c.loop-i.i other (c.number_at.result + other)
    c.loop-i-test.true inside (get_or_default c.args.others.now c.loop-i.i 0 other c.loop-i-test.true) c.loop-i.invariant (λ s b. rw (c.number_at.ensures, get_or_default c.loop-i.counts c.loop-i.i b 0 inside) (search (arith, common_steps))))

pub returns : goal.returns
returns c = let end : c.loop-i.i ≡ length c.args.others.now = omega arith in rw end at c.loop-i.invariant
