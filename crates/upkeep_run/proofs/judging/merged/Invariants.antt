use Rattle.std.proofs.Common.{List, take}
use Rattle.split_bundle.specs.declared.placed.Placed.{Placed}
use Rattle.split_merge.specs.Keeping.{AreViewsOf}
use Rattle.std.specs.List.{AllZip}
use Rattle.upkeep_run.specs.Judging.{AreRead, AreSplits}
use Rattle.upkeep_run.proofs.Corrupted.{Viewed}
use Rattle.upkeep_run.proofs.judging.merged.Given as goal

abbrev pub invariant-loop-number : goal.invariant-loop-number
invariant-loop-number l = record {
  read : AreRead (take l.number l.files) l.views.items;
  each : AllZip (Viewed l.schema) (take l.number l.files) l.views.items;
  only : (lists : List (List Placed)) → AreSplits l.schema l.files lists → AreViewsOf l.schema l.views.items (take l.number lists);
}
