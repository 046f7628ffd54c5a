use Rattle.std.proofs.Common.{◌≡◌, map, unwrap_or}
use Rattle.std.specs.BTreeMap.{get}
use Rattle.std.specs.Ordering.{int_cmp}
use Rattle.agg_model.specs.Answers.{step_bucket}
use Rattle.agg_model.specs.Spans.{span}
use Rattle.agg_model.proofs.histogram.every_step.Given as goal

abbrev pub invariant-loop-i : goal.invariant-loop-i
invariant-loop-i l = l.buckets ≡ map (step_bucket l.scale.interval l.scale.offset (λ s. unwrap_or (get int_cmp l.steps s) 0)) (span l.first l.i)
