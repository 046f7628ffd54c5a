use Rattle.std.proofs.Common.{◌≡◌, ◌<◌, ◌&&◌, get_or, take, length, arith}
use Rattle.std.proofs.lemmas.Int.{to_z-of_z}
use Rattle.std.proofs.lemmas.List.{get_or_default}
use Rattle.agg_nested.specs.Buckets.{group_at}
use Rattle.agg_nested.specs.Spots.{Spot, range, same_spot}
use Rattle.agg_nested.proofs.Flats.{any_range}
use Rattle.agg_nested.proofs.Raised.{raised_both, can_again}
use Rattle.agg_nested.proofs.Spotted.{any_place, taken_all}
use Rattle.agg_nested.proofs.spotting.raise_ranges.Goals as goal
use mir.Syntax.{w128}

pub raise_if-requires-clause-known : goal.raise_if-requires-clause-known
raise_if-requires-clause-known c =
    can_again _ c.args.nested.now c.args.doc.now c.args.number
    (group_at c.args.groups.now) (group_at c.loop-i.groups) (range c.loop-i.i) c.loop-i.invariant (c.requires.known (range c.loop-i.i))

pub loop-i-preserved : goal.loop-i-preserved
loop-i-preserved c =
    let inside : c.loop-i.i < length c.args.ranges.now = omega arith in
    let asked = get_or c.args.ranges.now c.loop-i.i any_range in
    raised_both _ (λ (spot : Spot). c.holds-held.result && same_spot (range c.loop-i.i) spot) _
    c.args.nested.now c.args.doc.now c.args.number (group_at c.args.groups.now) (group_at c.loop-i.groups) (group_at c.raise_if.new.groups)
    (λ spot. any_place c.loop-i.i c.args.ranges.now asked _ c.holds-held.result spot inside (get_or_default c.args.ranges.now c.loop-i.i any_range asked inside) c.holds-held.ensures)
    c.loop-i.invariant c.in_ok-raise_if.ensures

pub returns : goal.returns
returns c =
    let all : take c.loop-i.i c.args.ranges.now ≡ c.args.ranges.now = taken_all c.loop-i.i c.args.ranges.now (omega arith) in
    rw (all, to_z-of_z w128 c.args.whole c.ranges.whole) at c.loop-i.invariant
