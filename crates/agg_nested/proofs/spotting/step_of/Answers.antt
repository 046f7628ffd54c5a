use Rattle.std.proofs.Common.{◌≡◌, ◌≤◌, ◌^◌, rules, arith}
use Rattle.std.specs.Int.RustNames.{unsigned_abs}
use Rattle.agg_model.specs.Counting.{step_of}
use Rattle.agg_model.proofs.Steps.{apart_fits, near_step}
use Rattle.agg_nested.proofs.spotting.step_of.Goals as goal
use mir.Syntax.{w128}
use mir.Val.{to_z, of_z}

pub overflow_sub-apart : goal.overflow_sub-apart
overflow_sub-apart c =
    let small : unsigned_abs c.args.whole ≤ 2 ^ 64 = (let less = c.requires.small in omega arith) in
    apart_fits c.args.whole c.whole.result c.ranges.whole small c.whole.ensures.near

-- the quotient of a small number
pub returns-clause-near : goal.returns-clause-near
returns-clause-near c =
    let same : to_z w128 (of_z w128 c.div_euclid.result) ≡ step_of c.args.interval c.args.offset c.args.whole = search rules in
    let fine = rw c.whole-2.ensures.value at c.whole-2.ensures.near in
    let close = rw c.whole.ensures.value at c.whole.ensures.near in
    let small : unsigned_abs c.args.whole ≤ 2 ^ 64 = (let less = c.requires.small in omega arith) in
    rw same (near_step c.args.interval c.args.offset c.args.whole c.requires.some fine close small).near
