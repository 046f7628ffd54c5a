use Rattle.std.proofs.Common.{◌≤◌, ◌++◌, ◌∷◌, [], List, length}
use Rattle.doc_value.specs.declared.schema.Schema.{Schema}
use Rattle.split_bundle.specs.declared.placed.Placed.{Placed}
use Rattle.split_merge.specs.Facts.{HasFacts}
use Rattle.split_merge.specs.Scanning.{holding}
use Rattle.split_merge.proofs.ScanLemmas.{FieldsSoFar}
use Rattle.split_merge.proofs.facts.FieldFacts.take_fields.Given as goal

abbrev pub invariant-loop-taken : goal.invariant-loop-taken
invariant-loop-taken l = record {
  within : l.at ≤ length l.bytes;
  exact : (s : Schema) (documents : List Placed) → HasFacts l.fn.self s (documents ++ holding [] ∷ []) → FieldsSoFar s documents l.fields l.count l.bytes l.from l.self l._taken l.least l.at;
}
