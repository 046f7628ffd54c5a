use Rattle.std.proofs.Common.{◌≡◌, ℕ, List, length, take}
use Rattle.doc_value.specs.declared.doc.DocField.{DocField}
use Rattle.doc_value.specs.declared.schema.Schema.{Schema}
use Rattle.agg_nested.specs.Partials.{MetricStands}
use Rattle.split_bundle.specs.Splits.{AreDocumentsOf}
use Rattle.split_bundle.specs.declared.placed.Placed.{Placed}
use Rattle.doc_tallies.specs.Cells.{IsColumnFor}
use Rattle.doc_tallies.specs.Marks.{IsSingle}
use Rattle.doc_tallies.specs.Picked.{AllBelow, docs_of, picked}
use Rattle.doc_tallies.proofs.metric.metric_of.Given as goal

abbrev pub invariant-loop-number : goal.invariant-loop-number
invariant-loop-number l = record {
  column : l.values.column ≡ l.field.column;
  only : (s : Schema) (documents : List Placed) (number : ℕ) → IsSingle l.field.kind → AreDocumentsOf s documents → IsColumnFor s documents number l.field → AllBelow (length documents) l.numbers
      → MetricStands number l.part (docs_of (picked (take l.number-index l.numbers) documents));
  known : (number : ℕ) → (shown : List (List DocField)) × MetricStands number l.part shown × (length shown ≡ l.number-index);
}
