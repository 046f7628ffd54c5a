use Rattle.std.proofs.Common.{◌≡◌, ℤ}
use Rattle.std.specs.HashMap.{get}
use Rattle.std.specs.List.{IsDistinct}
use Rattle.std.specs.Map.{lookup, keys_of}
use Rattle.std.specs.Ordering.{int_eq}
use Rattle.agg_model.specs.Tallies.{merged}
use Rattle.agg_model.proofs.tallies.merge_wholes.Given as goal

-- what was added and what is left are what is to be added
abbrev pub invariant-loop-whole : goal.invariant-loop-whole
invariant-loop-whole l =
    ((q : ℤ) → merged (get int_eq l.tallies q) (lookup (int_eq q) l.whole-iterator) ≡ merged (get int_eq l.initial.tallies q) (get int_eq l.other q))
    × IsDistinct int_eq (keys_of l.whole-iterator)
