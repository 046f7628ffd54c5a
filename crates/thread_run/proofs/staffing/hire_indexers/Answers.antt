use Rattle.std.proofs.Common.{◌≡◌, ◌≤◌, ◌∷◌, ◌++◌, [], ap, arith, length, length-append, vec_capacity, vec_len}
use Rattle.std.specs.Vec.Iter.{into_iter_items}
use Rattle.thread_run.specs.Staffing.{job_of, post_of}
use Rattle.thread_run.proofs.Loops.{gathered_more, mapped_push, one_given, pushed_long}
use Rattle.thread_run.proofs.Staffs.{one_job}
use Rattle.thread_run.proofs.staffing.hire_indexers.Goals as goal

pub loop-one-preserved : goal.loop-one-preserved
loop-one-preserved g c =
    let inv = c.loop-one.invariant in
    let given = c.loop-one.yielded in
    let one = c.in-Some.one in
    let long = length-append given (one ∷ []) in
    let jobs = c.hire.ensures.jobs in
    let posts = c.push_within.ensures.items in (
      tt,
      tt,
      one_given given (into_iter_items c.next.new.self) _ _ one c.in-Some.ensures.steps.0 inv.2,
      gathered_more job_of given c.loop-one.jobs.items c.hire.new.jobs.items one jobs inv.3,
      (
        (let k = ap length jobs in let m = length-append c.loop-one.jobs.items (job_of one) in let few = one_job one in let v = inv.4.0 in let a = c.loop-one.jobs.ok.0 in let b = c.hire.new.jobs.ok.0 in omega (arith, k, m, few, v, a, b, long)),
        (let k = c.hire.ensures.room in let m = inv.4.1 in omega (arith, k, m)),
      ),
      mapped_push post_of given c.loop-one.posts.items c.push_within.new.all.items one _ posts inv.5 c.hire.ensures.post,
      (
        (let k = pushed_long c.loop-one.posts.items c.push_within.new.all.items _ posts in let v = inv.6.0 in let a = c.loop-one.posts.ok.0 in let b = c.push_within.new.all.ok.0 in omega (arith, k, v, a, b, long)),
        (let k = c.push_within.ensures.room in let m = inv.6.1 in omega (arith, k, m)),
      ),
    )
