use Rattle.std.proofs.Common.{◌++◌, ◌≡◌, ◌≤◌, vec_len, vec_capacity, length}
use Rattle.std.specs.Vec.Iter.{into_iter_items}
use Rattle.std.specs.List.{AllZip}
use Rattle.node_run.specs.Standing.{IsFresh}
use Rattle.node_run.proofs.drive.readers_of.Given as goal

abbrev pub invariant-loop-log : goal.invariant-loop-log
invariant-loop-log g l =
    (goal.iterator-loop-log g).can_next l.log-iterator
    × (goal.iterator-loop-log g).is_finite l.log-iterator
    × AllZip (IsFresh g.L.SourceLog.told g.L.SourceLog.fault_count) l.yielded l.readers.items
    × (l.yielded ++ into_iter_items l.log-iterator ≡ l.fn.logs.items)
    × (vec_len l.readers ≡ length l.yielded)
    × (vec_len l.fn.logs ≤ vec_capacity l.readers)
