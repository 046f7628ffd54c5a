use Rattle.std.proofs.Common.{◌≡◌, [], length}
use Rattle.std.specs.List.{AllByRecursion}
use Rattle.source_checkpoint.specs.Names.{IsPartition}
use Rattle.split_build.specs.HeldDocuments.{with_names}
use Rattle.split_build.proofs.documents.rising_names.Given as goal

abbrev pub invariant-loop-name : goal.invariant-loop-name
invariant-loop-name l = record {
  order : with_names l.sorted.items l.rest ≡ with_names [] l.names;
  good : AllByRecursion IsPartition l.sorted.items;
}

abbrev pub decreases-loop-name : goal.decreases-loop-name
decreases-loop-name l = length l.rest
