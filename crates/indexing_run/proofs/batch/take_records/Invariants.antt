use Rattle.std.proofs.Common.{◌≡◌, ◌+◌, List, drop}
use Rattle.split_bundle.specs.declared.placed.Placed.{Placed}
use Rattle.indexing_run.specs.Gathering.{HasDocuments}
use Rattle.indexing_run.specs.Steps.{taken_from, taken_so_far}
use Rattle.indexing_run.proofs.batch.take_records.Given as goal

abbrev pub invariant-loop-i : goal.invariant-loop-i
invariant-loop-i l = record {
  mapping : l.documents.mapping ≡ l.initial.documents.mapping;
  taken : (list : List Placed) → HasDocuments l.initial.documents list → (now : List Placed) × HasDocuments l.documents now
      × (taken_from l.initial.documents.mapping l.partition l.from l.records (taken_so_far 0 list)
      ≡ taken_from l.initial.documents.mapping l.partition (l.from + l.i) (drop l.i l.records) (taken_so_far l.i now));
}
