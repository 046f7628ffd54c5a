use Rattle.std.proofs.Common.{List, length}
use Rattle.std.specs.List.{AllByRecursion}
use Rattle.doc_value.specs.Documents.{IsOfSchema}
use Rattle.split_bundle.specs.declared.placed.Placed.{Placed}
use Rattle.split_build.specs.Builders.{HasTaken}
use Rattle.split_rows.proofs.builds.answers.one_by_one.Given as goal

abbrev pub invariant-loop-placed : goal.invariant-loop-placed
invariant-loop-placed l = record {
  taken : (done : List Placed) × HasTaken l.builder l.config.schema done;
  left : AllByRecursion (λ d. IsOfSchema l.config.schema d.doc) l.rest;
}

abbrev pub decreases-loop-placed : goal.decreases-loop-placed
decreases-loop-placed l = length l.rest
