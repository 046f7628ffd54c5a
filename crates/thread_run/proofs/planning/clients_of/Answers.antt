use Rattle.std.proofs.Common.{List, arith, subst}
use Rattle.std.specs.Vec.Iter.{into_iter_items}
use Rattle.run_plan.specs.Asked.{AreAsked}
use Rattle.run_plan.specs.declared.clients.Request.{Request}
use Rattle.thread_run.proofs.Loops.{all_given, one_given}
use Rattle.thread_run.proofs.planning.clients_of.Goals as goal

pub loop-request-init : goal.loop-request-init
loop-request-init c = (tt, tt, c.into_iter-request-iterator.ensures.into_iter_gives.0, c.none-clients.ensures.0, c.none-clients.ensures.1)

pub loop-request-preserved : goal.loop-request-preserved
loop-request-preserved c =
    let inv = c.loop-request.invariant in
    let added = c.in_ok-add.ensures c.loop-request.yielded inv.3 inv.4 in
    (tt, tt, one_given c.loop-request.yielded (into_iter_items c.next.new.self) _ _ c.in-Some.request c.in-Some.ensures.steps.0 inv.2, added.0, added.1)

pub returns : goal.returns
returns c =
    let inv = c.loop-request.invariant in
    let none = c.in-None.ensures.steps.0 in
    let whole = all_given c.loop-request.yielded (into_iter_items c.loop-request.request-iterator) _ (let ok = c.loop-request.request-iterator.rest.ok in omega (arith, none, ok)) inv.2 in
    subst (λ (l : List Request). AreAsked l c.loop-request.clients.askings.items c.loop-request.clients.by.items) whole inv.4
