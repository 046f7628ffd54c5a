use Rattle.std.proofs.Common.{◌≡◌, ◌++◌, ◌≤◌, length, vec_capacity, vec_len}
use Rattle.std.specs.Vec.Iter.{into_iter_items}
use Rattle.thread_run.specs.Beginning.{AreBegun}
use Rattle.thread_run.proofs.beginning.indexers_of.Given as goal

abbrev pub invariant-loop-log : goal.invariant-loop-log
invariant-loop-log g l =
    (goal.iterator-loop-log g).can_next l.log-iterator
    × (goal.iterator-loop-log g).is_finite l.log-iterator
    × (l.yielded ++ into_iter_items l.log-iterator ≡ l.fn.logs.items)
    × (l.skipped ≡ length l.yielded)
    × (l.count ≡ length l.fn.logs.items)
    × ((vec_len l.all ≡ length l.yielded) × (l.count ≤ vec_capacity l.all))
    × AreBegun g.L.SourceLog.told g.L.SourceLog.fault_count g.L.SourceLog.since l.count 0 l.yielded l.all.items
