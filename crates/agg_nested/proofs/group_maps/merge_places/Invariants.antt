use Rattle.std.proofs.Common.{ℕ, nat_eq}
use Rattle.std.specs.HashMap.{get}
use Rattle.std.specs.List.{IsDistinct}
use Rattle.std.specs.Map.{lookup, keys_of}
use Rattle.agg_nested.proofs.Joining.{IsLeft}
use Rattle.agg_nested.proofs.group_maps.merge_places.Given as goal

abbrev pub invariant-loop-place : goal.invariant-loop-place
invariant-loop-place l =
    IsLeft l.nested (get nat_eq l.initial.groups) (get nat_eq l.others) (get nat_eq l.groups) (λ (q : ℕ). lookup (nat_eq q) l.place-iterator)
    × IsDistinct nat_eq (keys_of l.place-iterator)
