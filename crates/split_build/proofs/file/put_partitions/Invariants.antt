use Rattle.std.proofs.Common.{◌≡◌, ◌++◌, length}
use Rattle.std.specs.List.{AllByRecursion, flat_map}
use Rattle.byte_fields.specs.Spelling.{byte_string}
use Rattle.source_checkpoint.specs.Names.{IsPartition}
use Rattle.split_build.proofs.file.put_partitions.Given as goal

abbrev pub invariant-loop-name : goal.invariant-loop-name
invariant-loop-name l = record {
  bytes : l.out.items ++ flat_map byte_string l.rest ≡ l.initial.out.items ++ flat_map byte_string l.names;
  names : AllByRecursion IsPartition l.rest → AllByRecursion IsPartition l.names;
}

abbrev pub decreases-loop-name : goal.decreases-loop-name
decreases-loop-name l = length l.rest
