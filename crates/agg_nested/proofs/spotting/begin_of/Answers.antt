use Rattle.std.proofs.Common.{◌∙◌, rules, arith}
use Rattle.std.proofs.lemmas.Int.{fits_signed_from_abs, to_z-of_z}
use Rattle.std.specs.Int.RustNames.{FitsSigned}
use Rattle.agg_model.proofs.Steps.{place_fits, begin_fits}
use Rattle.agg_nested.proofs.spotting.begin_of.Goals as goal
use mir.Syntax.{w128}
use mir.Val.{to_z, of_z}

pub overflow_mul-result : goal.overflow_mul-result
overflow_mul-result c =
    let step : FitsSigned w128 c.step_of-step.result = search rules in
    let interval : FitsSigned w128 c.whole.result = fits_signed_from_abs w128 c.whole.result (omega (arith, c.whole.ensures.near)) in
    place_fits c.step_of-step.result c.args.interval (to_z w128 (of_z w128 c.step_of-step.result)) (to_z w128 (of_z w128 c.whole.result)) (to_z-of_z w128 c.step_of-step.result step)
    (to_z-of_z w128 c.whole.result interval ∙ c.whole.ensures.value) c.step_of-step.ensures.near

pub overflow_add-result : goal.overflow_add-result
overflow_add-result c =
    let step : FitsSigned w128 c.step_of-step.result = search rules in
    let interval : FitsSigned w128 c.whole.result = fits_signed_from_abs w128 c.whole.result (omega (arith, c.whole.ensures.near)) in
    begin_fits c.step_of-step.result c.args.interval (to_z w128 (of_z w128 c.step_of-step.result)) (to_z w128 (of_z w128 c.whole.result)) c.whole-2.result (to_z-of_z w128 c.step_of-step.result step)
    (to_z-of_z w128 c.whole.result interval ∙ c.whole.ensures.value) c.step_of-step.ensures.near c.whole-2.ensures.near
