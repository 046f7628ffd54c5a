use Rattle.std.proofs.Common.{◌≡◌, List, take}
use Rattle.split_bundle.specs.Files.{Parts, file_bytes}
use Rattle.split_bundle.specs.Lending.{IsPartOf}
use Rattle.split_bundle.specs.Wholes.{HaveAll}
use Rattle.split_bundle.specs.declared.placed.Placed.{Placed}
use Rattle.upkeep_run.specs.Dropping.{AreAsked, HasDropped}
use Rattle.upkeep_run.proofs.dropping.dropped_in.Given as goal

abbrev pub invariant-loop-task : goal.invariant-loop-task
invariant-loop-task l = record {
  size : l.bits.size ≡ l.view.footer.layout.docs;
  there : (documents : List Placed) (p : Parts) → IsPartOf l.view l.schema documents p → HaveAll (file_bytes p) l.view.pieces → AreAsked l.schema l.tasks →
      HasDropped l.schema l.spans (take l.task-index l.tasks) l.upto documents l.bits;
}
