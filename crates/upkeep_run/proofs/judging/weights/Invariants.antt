use Rattle.std.proofs.Common.{◌≡◌, ◌+◌, ◌-◌, ◌*◌, ◌^◌, ◌≤◌, List, drop}
use Rattle.doc_value.specs.declared.schema.Schema.{Schema}
use Rattle.split_bundle.specs.Documents.{total_weight}
use Rattle.split_bundle.specs.Files.{Parts}
use Rattle.split_bundle.specs.SplitViews.{IsViewOf}
use Rattle.split_bundle.specs.declared.placed.Placed.{Placed}
use Rattle.upkeep_run.specs.Judging.{weights_of}
use Rattle.upkeep_run.proofs.Weights.{plus}
use Rattle.upkeep_run.proofs.judging.weights.Given as goal

abbrev pub invariant-loop-doc : goal.invariant-loop-doc
invariant-loop-doc l = record {
  bound : l.weights ≤ l.doc * (2 ^ 64 - 1);
  exact : weights_of l.view 0 l.view.layout.docs ≡ plus l.weights (weights_of l.view l.doc (l.view.layout.docs - l.doc));
  only : (s : Schema) (documents : List Placed) (p : Parts) → IsViewOf l.view s documents p → total_weight documents ≡ l.weights + total_weight (drop l.doc documents);
}
