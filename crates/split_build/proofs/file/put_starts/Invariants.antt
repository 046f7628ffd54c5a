use Rattle.std.proofs.Common.{◌≡◌, ◌<◌, ◌^◌, ◌++◌, length}
use Rattle.std.specs.List.{AllByRecursion, flat_map}
use Rattle.split_bundle.specs.Files.{start_bytes}
use Rattle.split_build.proofs.file.put_starts.Given as goal

abbrev pub invariant-loop-column : goal.invariant-loop-column
invariant-loop-column l = record {
  bytes : l.out.items ++ flat_map start_bytes l.rest ≡ l.initial.out.items ++ flat_map start_bytes l.starts;
  numbers : AllByRecursion (λ c. (c.number < 2 ^ 64) × (c.start < 2 ^ 64)) l.rest → AllByRecursion (λ c. (c.number < 2 ^ 64) × (c.start < 2 ^ 64)) l.starts;
}

abbrev pub decreases-loop-column : goal.decreases-loop-column
decreases-loop-column l = length l.rest
