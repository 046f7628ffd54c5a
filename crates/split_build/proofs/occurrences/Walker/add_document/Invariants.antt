use Rattle.std.proofs.Common.{◌≡◌, ◌+◌, drop, length}
use Rattle.split_bundle.specs.Keys.{of_fields}
use Rattle.split_build.specs.Said.{in_document}
use Rattle.split_build.proofs.WalkLemmas.{Walked}
use Rattle.split_build.proofs.occurrences.Walker.add_document.Given as goal

abbrev pub invariant-loop-field : goal.invariant-loop-field
invariant-loop-field l = record {
  left : drop l.number l.schema.fields ≡ l.rest;
  count : l.number + length l.rest ≡ length l.schema.fields;
  walked : Walked l.initial.terms l.terms l.schema (in_document l.document (of_fields l.rest l.number l.doc)) (in_document l.document (of_fields l.schema.fields 0 l.doc));
}

abbrev pub decreases-loop-field : goal.decreases-loop-field
decreases-loop-field l = length l.rest
