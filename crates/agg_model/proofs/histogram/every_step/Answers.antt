use Rattle.std.proofs.Common.{◌≡◌, ◌∙◌, ap, unwrap_or, ℕ, ℤ, rules}
use Rattle.std.proofs.lemmas.Int.{to_z-of_z}
use Rattle.std.specs.Int.RustNames.{FitsSigned}
use mir.Syntax.{w128}
use Rattle.std.specs.BTreeMap.{get}
use Rattle.std.specs.Ordering.{int_cmp}
use Rattle.agg_model.specs.Answers.{step_bucket}
use Rattle.agg_model.proofs.Shown.{span_push}
use Rattle.agg_model.proofs.histogram.every_step.Goals as goal
use Rattle.agg_model.specs.declared.answer.Bucket.{Bucket}

pub loop-i-preserved : goal.loop-i-preserved
loop-i-preserved c =
    let fits : FitsSigned w128 c.later_step-step.result = search rules in
    let same = to_z-of_z w128 c.later_step-step.result fits in
    let count : c.unwrap_or-count.result ≡ unwrap_or (get int_cmp c.args.steps.now c.later_step-step.result) 0 = c.unwrap_or-count.ensures ∙ ap (λ o. unwrap_or o 0) (c.copied.ensures ∙ (rw same at c.get.ensures.value)) in
    let own : c.step_bucket.result ≡ step_bucket c.args.scale.now.interval c.args.scale.now.offset (λ _. c.unwrap_or-count.result) c.later_step-step.result = rw same at c.step_bucket.ensures in
    let f : ℤ → Bucket = step_bucket c.args.scale.now.interval c.args.scale.now.offset (λ s. unwrap_or (get int_cmp c.args.steps.now s) 0) in
    let at : c.step_bucket.result ≡ f c.later_step-step.result = own ∙ ap (λ (n : ℕ). step_bucket c.args.scale.now.interval c.args.scale.now.offset (λ _. n) c.later_step-step.result) count in
    span_push f c.args.first.now c.loop-i.i
    c.loop-i.buckets c.push.new.self c.step_bucket.result c.in_ok-push.ensures.ok c.loop-i.invariant (at ∙ ap f c.later_step-step.ensures)
