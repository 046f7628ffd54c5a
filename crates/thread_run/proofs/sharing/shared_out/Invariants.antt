use Rattle.std.proofs.Common.{◌≡◌, ◌<◌, length}
use Rattle.std.specs.Vec.Iter.{into_iter_items}
use Rattle.thread_run.proofs.Shares.{AllOwe}
use Rattle.thread_run.proofs.sharing.shared_out.Given as goal

abbrev pub invariant-loop-one : goal.invariant-loop-one
invariant-loop-one g l =
    (goal.iterator-loop-one g).can_next l.one-iterator
    × (goal.iterator-loop-one g).is_finite l.one-iterator
    × (l.next < l.count)
    × (length l.lists.items ≡ l.count)
    × AllOwe l.count l.next 0 l.fn.all.items (into_iter_items l.one-iterator) l.lists.items
