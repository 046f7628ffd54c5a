use Rattle.std.proofs.Common.{◌≡◌, false, take}
use Rattle.std.specs.List.{AllByRecursion}
use Rattle.thread_run.specs.Closing.{is_short_end}
use Rattle.thread_run.proofs.closing.lack_memory.Given as goal

abbrev pub invariant-loop-end : goal.invariant-loop-end
invariant-loop-end l = AllByRecursion (λ end. is_short_end end ≡ false) (take l.end-index l.ends)
