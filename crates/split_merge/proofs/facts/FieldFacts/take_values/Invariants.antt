use Rattle.std.proofs.Common.{◌≤◌, ◌<◌, ◌++◌, ◌∷◌, [], List, length}
use Rattle.std.specs.List.{AllByRecursion}
use Rattle.doc_value.specs.declared.doc.DocField.{DocField}
use Rattle.doc_value.specs.declared.schema.Schema.{Schema}
use Rattle.split_bundle.specs.declared.placed.Placed.{Placed}
use Rattle.split_merge.specs.Facts.{HasFacts}
use Rattle.split_merge.specs.Scanning.{holding}
use Rattle.split_merge.proofs.ScanLemmas.{ValuesSoFar}
use Rattle.split_merge.proofs.facts.FieldFacts.take_values.Given as goal

abbrev pub invariant-loop-taken : goal.invariant-loop-taken
invariant-loop-taken l = record {
  within : l.at ≤ length l.bytes;
  exact : (s : Schema) (documents : List Placed) (fs : List DocField) → AllByRecursion (λ f. f.number < l.head.number) fs
      → HasFacts l.fn.self s (documents ++ holding (fs ++ record { number = l.head.number; values = [] } ∷ []) ∷ []) → ValuesSoFar s documents fs l.head l.bytes l.self l._taken l.at;
}
