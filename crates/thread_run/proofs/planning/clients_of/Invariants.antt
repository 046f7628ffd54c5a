use Rattle.std.proofs.Common.{◌≡◌, ◌++◌}
use Rattle.std.specs.Vec.Iter.{into_iter_items}
use Rattle.run_plan.specs.Asked.{AreAsked, HasPlaces, names_of}
use Rattle.thread_run.proofs.planning.clients_of.Given as goal

abbrev pub invariant-loop-request : goal.invariant-loop-request
invariant-loop-request l =
    goal.iterator-loop-request.can_next l.request-iterator
    × goal.iterator-loop-request.is_finite l.request-iterator
    × (l.yielded ++ into_iter_items l.request-iterator ≡ l.fn.requests.items)
    × HasPlaces l.clients.places.entries (names_of l.clients.askings.items)
    × AreAsked l.yielded l.clients.askings.items l.clients.by.items
