use Rattle.std.proofs.Common.{◌≡◌, ◌++◌, map, filter, nat_le}
use Rattle.agg_model.specs.Answers.{step_bucket}
use Rattle.agg_model.proofs.histogram.frequent_steps.Given as goal

abbrev pub invariant-loop-step : goal.invariant-loop-step
invariant-loop-step l =
    l.buckets ++ map (λ e. step_bucket l.scale.interval l.scale.offset (λ _. e.1) e.0) (filter (λ e. nat_le l.least e.1) l.step-iterator)
    ≡ map (λ e. step_bucket l.scale.interval l.scale.offset (λ _. e.1) e.0) (filter (λ e. nat_le l.least e.1) l.steps.entries)
