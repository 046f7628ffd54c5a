use Rattle.std.proofs.Common.{◌≡◌, ℤ}
use Rattle.std.specs.BTreeMap.{get}
use Rattle.std.specs.List.{IsDistinct}
use Rattle.std.specs.Map.{lookup, keys_of}
use Rattle.std.specs.Ordering.{int_eq, int_cmp}
use Rattle.agg_model.specs.Tallies.{step_sum}
use Rattle.agg_model.proofs.tallies.merge_steps.Given as goal

-- what was added and what is left are what is to be added
abbrev pub invariant-loop-step : goal.invariant-loop-step
invariant-loop-step l =
    ((q : ℤ) → step_sum (get int_cmp l.steps q) (lookup (int_eq q) l.step-iterator) ≡ step_sum (get int_cmp l.initial.steps q) (get int_cmp l.other q))
    × IsDistinct int_eq (keys_of l.step-iterator)
