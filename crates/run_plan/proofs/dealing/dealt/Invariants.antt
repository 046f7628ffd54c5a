use Rattle.std.proofs.Common.{◌≡◌, ◌++◌, List, drop, map}
use Rattle.run_plan.specs.Dealing.{HoldBack, dealt}
use Rattle.run_plan.proofs.dealing.dealt.Given as goal

abbrev pub invariant-loop-owner : goal.invariant-loop-owner
invariant-loop-owner g l = (rests : List (List _)) × HoldBack l.lists.items rests × (l.all.items ++ dealt (drop l.owner-index l.by) rests ≡ dealt l.by (map (λ list. list.items) l.fn.lists.items))
