use Rattle.std.proofs.Common.{ℤ}
use Rattle.std.specs.HashMap.{get}
use Rattle.std.specs.List.{IsDistinct}
use Rattle.std.specs.Map.{lookup, keys_of}
use Rattle.std.specs.Ordering.{int_eq}
use Rattle.agg_nested.proofs.Joining.{IsLeft}
use Rattle.agg_nested.proofs.group_maps.merge_wholes.Given as goal

abbrev pub invariant-loop-whole : goal.invariant-loop-whole
invariant-loop-whole l =
    IsLeft l.nested (get int_eq l.initial.groups) (get int_eq l.others) (get int_eq l.groups) (λ (q : ℤ). lookup (int_eq q) l.whole-iterator)
    × IsDistinct int_eq (keys_of l.whole-iterator)
