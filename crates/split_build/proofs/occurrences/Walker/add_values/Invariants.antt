use Rattle.std.proofs.Common.{◌+◌, ◌<◌, ◌^◌, length}
use Rattle.std.specs.List.{AllByRecursion}
use Rattle.doc_value.specs.declared.schema.Schema.{Schema}
use Rattle.split_bundle.specs.Keys.{of_values}
use Rattle.split_build.specs.Said.{in_document}
use Rattle.split_build.specs.Walks.{IsKept, IsShort}
use Rattle.split_build.proofs.WalkLemmas.{Walked}
use Rattle.split_build.proofs.occurrences.Walker.add_values.Given as goal

abbrev pub invariant-loop-value : goal.invariant-loop-value
invariant-loop-value l = record {
  few : l.place + length l.rest < 2 ^ 32;
  short : AllByRecursion IsShort l.rest;
  walked : (s : Schema) → IsKept s l.number l.field.positions → Walked l.initial.terms l.terms s (in_document l.document (of_values l.field l.number l.place l.rest)) (in_document l.document (of_values l.field l.number 0 l.values));
}

abbrev pub decreases-loop-value : goal.decreases-loop-value
decreases-loop-value l = length l.rest
