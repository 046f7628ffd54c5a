use Rattle.std.proofs.Common.{◌≡◌, ◌++◌, length}
use Rattle.std.specs.List.{AllByRecursion, flat_map}
use Rattle.split_bundle.specs.Documents.{value_bytes}
use Rattle.split_bundle.specs.Held.{IsHeldValue}
use Rattle.split_build.proofs.bodies.put_values.Given as goal

abbrev pub invariant-loop-value : goal.invariant-loop-value
invariant-loop-value l = record {
  bytes : l.out.items ++ flat_map value_bytes l.rest ≡ l.initial.out.items ++ flat_map value_bytes l.values;
  held : AllByRecursion IsHeldValue l.rest → AllByRecursion IsHeldValue l.values;
}

abbrev pub decreases-loop-value : goal.decreases-loop-value
decreases-loop-value l = length l.rest
