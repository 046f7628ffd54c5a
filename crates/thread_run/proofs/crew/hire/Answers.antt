use Rattle.std.proofs.Common.{◌≡◌, ◌∙◌, ◌++◌, ◌+◌, ◌∷◌, ◌<◌, [], ap, append-nil, append_assoc, arith, length, length-append, refl, rules, subst, sym}
use Rattle.std.specs.List.{AllZip}
use Rattle.std.specs.Vec.Iter.{into_iter_items}
use Rattle.turn_lock.specs.Passes.{IsIdle, IsOf, left, parts, places, seen}
use Rattle.shared_gate.specs.Sharing.{seat_of}
use Rattle.thread_run.specs.declared.job.Job.{Job}
use Rattle.thread_run.specs.Working.{fresh_seat}
use Rattle.thread_run.specs.declared.actor.Work.TheVariants as works
use Rattle.std.proofs.lemmas.List.{nil_from_length}
use Rattle.thread_run.proofs.LockClosing.{moved_zip}
use Rattle.thread_run.proofs.Ready.{fresh_is}
use Rattle.thread_run.proofs.Together.{long_push, zip_none, zip_pushed}
use Rattle.thread_run.proofs.crew.hire.Goals as goal

pub loop-job-init : goal.loop-job-init
loop-job-init g c = (
  tt,
  tt,
  c.into_iter-job-iterator.ensures.into_iter_gives.0,
  c.requires.lock,
  (refl, refl),
  (omega arith, omega arith),
  ((let none = ap length c.requires.room.0 in let long = c.args.actors.ok.0 in omega (arith, none, long)), c.requires.room.1),
  zip_none (Job g.row.L.Denot) c.args.actors.items (λ job actor. (actor.work ≡ works.ToDo job) × (seat_of actor.gate.lock.now actor.gate.pass actor.gate.config.now actor.gate.home ≡ fresh_seat c.args.lock.now c.args.config.now)) c.requires.room.0,
)

pub loop-job-preserved : goal.loop-job-preserved
loop-job-preserved g c =
    let inv = c.loop-job.invariant in
    let taken : (c.loop-job.yielded ++ c.in-Some.job ∷ []) ++ into_iter_items c.next.new.self ≡ c.args.jobs.items =
    append_assoc c.loop-job.yielded (c.in-Some.job ∷ []) (into_iter_items c.next.new.self) ∙ (ap (λ l. c.loop-job.yielded ++ l) (sym c.in-Some.ensures.steps.0) ∙ inv.2) in
    let long = length-append c.loop-job.yielded (c.in-Some.job ∷ []) in
    let new = c.split.ensures.new in
    let over = c.over-gate.ensures in (
      tt,
      tt,
      taken,
      (c.split.ensures.lock, c.split.ensures.idle),
      (c.split.ensures.same.0 ∙ inv.4.0, c.split.ensures.same.1 ∙ inv.4.1),
      ((let k = c.split.ensures.counts.0 in let m = inv.5.0 in omega (arith, k, m, long)), (let k = c.split.ensures.counts.1 in let m = inv.5.1 in omega (arith, k, m, long))),
      (
        (let k = long_push c.loop-job.actors.items c.push_within.new.all.items _ c.push_within.ensures.items in let v = inv.6.0 in let a = c.loop-job.actors.ok.0 in let b = c.push_within.new.all.ok.0 in omega (arith, k, v, a, b, long)),
        (let k = c.push_within.ensures.room in let m = inv.6.1 in omega (arith, k, m)),
      ),
      zip_pushed c.loop-job.yielded c.loop-job.actors.items c.push_within.new.all.items c.in-Some.job _ (λ job actor. (actor.work ≡ works.ToDo job) × (seat_of actor.gate.lock.now actor.gate.pass actor.gate.config.now actor.gate.home ≡ fresh_seat c.args.lock.now c.args.config.now)) c.push_within.ensures.items inv.7
          (refl, fresh_is c.args.lock.now c.over-gate.result.lock.now c.args.config.now c.over-gate.result.config.now c.split.result c.over-gate.result.pass c.over-gate.result.home over.0 over.1 over.2 (new.2 ∙ inv.4.0 ∙ c.requires.seen) new.3 new.4 new.5 over.3),
    )

pub split-requires-clause-some : goal.split-requires-clause-some
split-requires-clause-some g c =
    let taken = ap length c.loop-job.invariant.2 in
    let here = ap length c.in-Some.ensures.steps.0 in
    let both = length-append c.loop-job.yielded (into_iter_items c.loop-job.job-iterator) in
    let room = c.requires.enough in
    let left_is = c.loop-job.invariant.5.1 in
    omega (arith, taken, here, both, room, left_is)

pub returns-clause-hired : goal.returns-clause-hired
returns-clause-hired g c =
    let none : into_iter_items c.loop-job.job-iterator ≡ [] = nil_from_length c.loop-job.job-iterator.rest.items (omega (arith, c.in-None.ensures.steps.0, c.loop-job.job-iterator.rest.ok)) in
    let whole : c.loop-job.yielded ≡ c.args.jobs.items = sym (append-nil c.loop-job.yielded) ∙ (ap (λ l. c.loop-job.yielded ++ l) (sym none) ∙ c.loop-job.invariant.2) in
    moved_zip c.args.jobs.items c.loop-job.yielded c.loop-job.actors.items _ whole c.loop-job.invariant.7
