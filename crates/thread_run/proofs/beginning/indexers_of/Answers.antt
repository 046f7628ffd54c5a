use Rattle.std.proofs.Common.{◌≡◌, ◌∙◌, ◌++◌, ◌∷◌, [], ap, append_assoc, arith, length, length-append, subst, sym}
use Rattle.std.specs.Vec.Iter.{into_iter_items}
use Rattle.thread_run.specs.Beginning.{AreBegun}
use Rattle.thread_run.proofs.Beginnings.{begun_more}
use Rattle.thread_run.proofs.beginning.indexers_of.Goals as goal

pub loop-log-preserved : goal.loop-log-preserved
loop-log-preserved g c =
    let t = g.L.SourceLog in
    let inv = c.loop-log.invariant in
    let count = c.len-count.result in
    let yielded = c.loop-log.yielded in
    let log = c.in-Some.log in
    let taken : (yielded ++ log ∷ []) ++ into_iter_items c.next.new.self ≡ c.args.logs.items =
    append_assoc yielded (log ∷ []) (into_iter_items c.next.new.self) ∙ (ap (λ l. yielded ++ l) (sym c.in-Some.ensures.steps.0) ∙ inv.2) in
    let long = length-append yielded (log ∷ []) in
    let at = inv.3 in
    let items = c.push_within.ensures.items in
    let pushed = ap length items ∙ length-append c.loop-log.all.items (c.begin.result ∷ []) in (
      tt,
      tt,
      taken,
      omega (arith, long, at),
      inv.4,
      (
        (let v = inv.5.0 in let a = c.loop-log.all.ok.0 in let b = c.push_within.new.all.ok.0 in omega (arith, pushed, v, a, b, long)),
        (let room = c.push_within.ensures.room in let enough = inv.5.1 in omega (arith, room, enough)),
      ),
      subst (λ all. AreBegun t.told t.fault_count t.since count 0 (yielded ++ log ∷ []) all) (sym items)
          (begun_more t.told t.fault_count t.since count 0 c.loop-log.skipped yielded c.loop-log.all.items log c.begin.result (omega (arith, at)) inv.6 c.begin.ensures),
    )
