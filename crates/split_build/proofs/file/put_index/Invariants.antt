use Rattle.std.proofs.Common.{◌≡◌, ◌<◌, ◌^◌, ◌++◌, drop}
use Rattle.std.specs.List.{AllByRecursion, flat_map}
use Rattle.split_bundle.specs.Files.{block_bytes}
use Rattle.split_build.proofs.file.put_index.Given as goal

abbrev pub invariant-loop-number : goal.invariant-loop-number
invariant-loop-number l = record {
  bytes : l.out.items ++ flat_map block_bytes (drop l.number l.index) ≡ l.initial.out.items ++ flat_map block_bytes l.index;
  starts : AllByRecursion (λ b. b.start < 2 ^ 64) (drop l.number l.index) → AllByRecursion (λ b. b.start < 2 ^ 64) l.index;
}
