use Rattle.std.proofs.Common.{◌≡◌, ◌∙◌, ◌∷◌, [], ap, arith, length, length-append, map}
use Rattle.std.specs.Vec.Iter.{into_iter_items}
use Rattle.thread_run.specs.Closing.{readers_of}
use Rattle.thread_run.specs.declared.outcome.Indexed.{Indexed}
use Rattle.thread_run.proofs.Loops.{all_given, gathered_more, one_given, some_left}
use Rattle.thread_run.proofs.closing.given_back.Goals as goal

pub loop-job-init : goal.loop-job-init
loop-job-init g c = (
  tt,
  tt,
  c.into_iter-job-iterator.ensures.into_iter_gives.0,
  ap (map (λ (one : Indexed g.row.L.Denot). one.indexer)) c.requires.none,
  ((let none = ap length c.requires.none in let long = c.args.indexed.ok.0 in omega (arith, none, long)), omega arith),
)

pub take_back-requires : goal.take_back-requires
take_back-requires g c =
    let inv = c.loop-job.invariant in
    let less = some_left c.loop-job.yielded (into_iter_items c.next.new.self) _ _ c.in-Some.job c.in-Some.ensures.steps.0 inv.2 in
    let few = inv.4.0 in let room = inv.4.1 in let enough = c.requires.room in let long = c.args.jobs.ok.0 in
    omega (arith, less, few, room, enough, long)

pub loop-job-preserved : goal.loop-job-preserved
loop-job-preserved g c =
    let inv = c.loop-job.invariant in
    let given = c.loop-job.yielded in
    let job = c.in-Some.job in
    let long = length-append given (job ∷ []) in (
      tt,
      tt,
      one_given given (into_iter_items c.next.new.self) _ _ job c.in-Some.ensures.steps.0 inv.2,
      gathered_more readers_of given _ _ job c.take_back.ensures.indexers inv.3,
      (
        (let k = c.take_back.ensures.room.0 in let m = inv.4.0 in omega (arith, k, m, long)),
        (let k = c.take_back.ensures.room.1 in let m = inv.4.1 in omega (arith, k, m)),
      ),
    )
