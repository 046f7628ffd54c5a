use Rattle.std.proofs.Common.{◌≡◌, ◌+◌, ◌^◌, ◌<◌, length}
use Rattle.agg_model.specs.Spans.{steps_with}
use Rattle.agg_model.proofs.finishing.frequent_of.Given as goal

abbrev pub invariant-loop-step : goal.invariant-loop-step
invariant-loop-step l =
    (l.many + length (steps_with l.least l.step-iterator) ≡ length (steps_with l.least l.steps.entries)) × (l.many + length l.step-iterator < 2 ^ 63)
