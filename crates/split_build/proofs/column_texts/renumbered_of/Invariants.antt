use Rattle.std.proofs.Common.{◌≡◌, ◌<◌, ◌^◌, ◌++◌, map, length}
use Rattle.std.specs.List.{AllByRecursion}
use Rattle.split_build.specs.HeldColumns.{renumbered}
use Rattle.split_build.proofs.column_texts.renumbered_of.Given as goal

abbrev pub invariant-loop-entry : goal.invariant-loop-entry
invariant-loop-entry l = record {
  again : l.again.items ++ map (renumbered l.ordinals) l.rest ≡ map (renumbered l.ordinals) l.entries;
  small : AllByRecursion (λ e. e.number < 2 ^ 64) l.again.items;
  within : AllByRecursion (λ e. e.number < length l.ordinals) l.rest;
}

abbrev pub decreases-loop-entry : goal.decreases-loop-entry
decreases-loop-entry l = length l.rest
