use Rattle.std.proofs.Common.{◌<◌, ◌^◌, length}
use Rattle.std.specs.List.{AllByRecursion}
use Rattle.doc_value.specs.declared.schema.Schema.{Schema}
use Rattle.split_bundle.specs.Keys.{of_tokens}
use Rattle.split_build.specs.Said.{in_document}
use Rattle.split_build.specs.Walks.{IsKept}
use Rattle.split_build.proofs.WalkLemmas.{Walked}
use Rattle.split_build.proofs.occurrences.Walker.add_tokens.Given as goal

abbrev pub invariant-loop-token : goal.invariant-loop-token
invariant-loop-token l = record {
  positions : AllByRecursion (λ t. t.position < 2 ^ 32) l.rest;
  walked : (s : Schema) → IsKept s l.number l.kept → Walked l.initial.terms l.terms s (in_document l.document (of_tokens l.number l.value l.rest)) (in_document l.document (of_tokens l.number l.value l.tokens));
}

abbrev pub decreases-loop-token : goal.decreases-loop-token
decreases-loop-token l = length l.rest
