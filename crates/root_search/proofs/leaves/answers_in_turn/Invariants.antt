use Rattle.std.proofs.Common.{take}
use Rattle.std.specs.List.{AllZip}
use Rattle.root_search.specs.Leaves.{IsLeafAnswer}
use Rattle.root_search.proofs.leaves.answers_in_turn.Given as goal

abbrev pub invariant-loop-view : goal.invariant-loop-view
invariant-loop-view l = AllZip (IsLeafAnswer l.schema l.request) (take l.view-index l.views) l.answers.items
