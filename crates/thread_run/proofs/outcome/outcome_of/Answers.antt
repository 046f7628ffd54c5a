use Rattle.std.proofs.Common.{◌≡◌, ◌+◌, ◌∷◌, ap, arith, length, subst}
use Rattle.std.specs.Vec.Iter.{into_iter_items}
use Rattle.thread_run.specs.Outcome.{HasRoom, end_of, indexed_of, served_of}
use Rattle.thread_run.proofs.Loops.{gathered_more, one_given}
use Rattle.thread_run.proofs.outcome.outcome_of.Goals as goal

pub loop-done-preserved : goal.loop-done-preserved
loop-done-preserved g c =
    let inv = c.loop-done.invariant in
    let given = c.loop-done.yielded in
    let one = c.in-Some.done in
    let rest = into_iter_items c.next.new.self in
    let here : length (into_iter_items c.loop-done.done-iterator) ≡ 1 + length rest = (let e = ap length c.in-Some.ensures.steps.0 in omega (arith, e)) in
    let old = c.loop-done.outcome in
    let new = c.sort.new.outcome in
    let adds = c.sort.ensures.adds in (
      tt,
      tt,
      one_given given rest _ _ one c.in-Some.ensures.steps.0 inv.2,
      c.sort.ensures.room (length rest) (subst (λ n. HasRoom n old) here inv.3),
      (
        gathered_more indexed_of given old.indexed.items new.indexed.items one adds.0 inv.4.0,
        gathered_more served_of given old.served.items new.served.items one adds.1 inv.4.1,
        gathered_more end_of given old.ends.items new.ends.items one adds.2 inv.4.2,
      ),
    )
