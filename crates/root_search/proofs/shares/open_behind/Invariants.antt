use Rattle.std.proofs.Common.{IfNone, take}
use Rattle.std.specs.List.{AllByRecursion}
use Rattle.root_search.specs.Shares.{IsUsedUp}
use Rattle.root_search.proofs.shares.open_behind.Given as goal

abbrev pub invariant-loop-place : goal.invariant-loop-place
invariant-loop-place l = IfNone l.chosen (AllByRecursion (IsUsedUp l.order l.wanted l.bar) (take l.place l.shares))
