use Rattle.std.proofs.Common.{rules, arith}
use Rattle.std.proofs.lemmas.Grind.{common_steps}
use Rattle.std.proofs.lemmas.Int.{to_z-of_z}
use Rattle.std.specs.Int.RustNames.{FitsSigned}
use Rattle.agg_model.specs.Partials.{IsNear}
use Rattle.agg_model.proofs.Steps.{step_gap}
use Rattle.agg_model.proofs.Spreads.{spread_is}
use Rattle.agg_model.proofs.finishing.spread_of.Goals as goal
use mir.Syntax.{w128}

pub returns-in-Some-Some-clause-few : goal.returns-in-Some-Some-clause-few
returns-in-Some-Some-clause-few c =
    let ff : FitsSigned w128 c.in-Some-Some.first.now = search rules in
    let fl : FitsSigned w128 c.in-Some-Some.last.now = search rules in
    let gap = rw (to_z-of_z w128 c.in-Some-Some.first.now ff, to_z-of_z w128 c.in-Some-Some.last.now fl) at c.abs_diff.ensures in
    let low : IsNear c.requires.0 c.requires.1 c.in-Some-Some.first.now = grind (arith, common_steps, c.requires.3 c.in-Some-Some.first.now) in
    let high : IsNear c.requires.0 c.requires.1 c.in-Some-Some.last.now = grind (arith, common_steps, c.requires.3 c.in-Some-Some.last.now) in
    let most = step_gap c.requires.0 c.requires.1 c.in-Some-Some.first.now c.in-Some-Some.last.now c.requires.2 low high in
    omega (arith, gap, most)

pub returns-in-Some-Some-clause-many : goal.returns-in-Some-Some-clause-many
returns-in-Some-Some-clause-many c =
    let ff : FitsSigned w128 c.in-Some-Some.first.now = search rules in
    let fl : FitsSigned w128 c.in-Some-Some.last.now = search rules in
    let gap = rw (to_z-of_z w128 c.in-Some-Some.first.now ff, to_z-of_z w128 c.in-Some-Some.last.now fl) at c.abs_diff.ensures in
    rw gap (spread_is c.args.steps.now.entries c.in-Some-Some.first.now c.in-Some-Some.last.now _ _ c.in-Some-Some.ensures.first c.in-Some-Some.ensures'.last)
