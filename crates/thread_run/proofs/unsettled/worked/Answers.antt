use Rattle.std.proofs.Common.{◌≡◌, ◌∙◌, ◌+◌, ◌++◌, ◌<◌, ◌≤◌, ◌⊎◌, inr, List, ap, arith, false, length, map, refl, subst, sym}
use Rattle.std.specs.List.{AllByRecursion, AllZip}
use Rattle.std.proofs.lemmas.List.{length-map}
use Rattle.std.specs.Prelude.{Some}
use Rattle.std.specs.declared.alloc.Global.{Global}
use Rattle.std.specs.declared.vec.Vec.{Vec}
use Rattle.source_log.specs.Log.{IsLog, Log}
use Rattle.thread_run.specs.Jobs.{IsLater, Tells}
use Rattle.thread_run.specs.declared.serving.Answered.{Answered}
use Rattle.thread_run.specs.declared.job.Done.{Done}
use Rattle.thread_run.specs.declared.job.Job.{Job}
use Rattle.thread_run.specs.Run.{IsRun}
use Rattle.thread_run.specs.Closing.{IsWhole}
use Rattle.thread_run.specs.Ending.{ends_from, logs_behind}
use Rattle.thread_run.specs.Outcome.{HasRoom}
use Rattle.thread_run.specs.Replying.{by_client, replies_by}
use Rattle.thread_run.specs.Staffing.{jobs_of, post_of}
use Rattle.thread_run.specs.declared.beginning.Begun.{Begun}
use Rattle.thread_run.specs.declared.staffing.Post.{Post}
use Rattle.thread_run.proofs.Jobs.{back_later, back_logs, came_later, ends_few, few_jobs, jobs_few, room_less, work_is, zip_as_long}
use Rattle.thread_run.proofs.Ran.{ran_later}
use Rattle.thread_run.proofs.unsettled.worked.Goals as goal

pub run_together-requires-clause-few : goal.run_together-requires-clause-few
run_together-requires-clause-few g c κs within =
    let jobs = ap length c.jobs_of-jobs.ensures.jobs in
    let few = jobs_few c.args.begun.items c.args.plan.shares.items in
    few_jobs (length c.jobs_of-jobs.result.0.items) (length c.args.begun.items) (length c.args.plan.shares.items) c.args.options.searchers (omega (arith, jobs, few)) c.requires.few.0 c.requires.shares c.requires.few.1

pub run_together-requires-clause-told : goal.run_together-requires-clause-told
run_together-requires-clause-told g c κs within log tells =
    let t = c.requires.told log tells in
    (t.0, subst (λ (js : List (Job g.row.L.Denot)). AllByRecursion (Tells g.L.SourceLog.told log) js) (sym c.jobs_of-jobs.ensures.jobs) t.1)

pub outcome_of-outcome-requires-clause-room : goal.outcome_of-outcome-requires-clause-room
outcome_of-outcome-requires-clause-room g c =
    let later = ran_later g.M.SourceLog.told g.L.SourceLog.told g.L.SourceLog.fault_count g.L.SourceLog.since c.args.options.turns c.args.shelf c.in-Ok.shelf c.jobs_of-jobs.result.0.items c.in-Ok.done.items c.in-Ok.ensures.ran in
    let many = zip_as_long (IsLater g.L.SourceLog.since) c.jobs_of-jobs.result.0.items c.in-Ok.done.items later in
    let jobs = ap length c.jobs_of-jobs.ensures.jobs in
    let few = jobs_few c.args.begun.items c.args.plan.shares.items in
    let shares = c.requires.shares in
    let ok = c.in-Ok.done.ok.0 in
    room_less c.args.room.outcome _ (length c.args.begun.items + c.args.options.searchers + 3) (omega (arith, many, jobs, few, shares, ok)) c.requires.room.outcome

pub closed-requires-clause-as_many : goal.closed-requires-clause-as_many
closed-requires-clause-as_many g c =
    let since = g.L.SourceLog.since in
    let later = ran_later g.M.SourceLog.told g.L.SourceLog.told g.L.SourceLog.fault_count since c.args.options.turns c.args.shelf c.in-Ok.shelf c.jobs_of-jobs.result.0.items c.in-Ok.done.items c.in-Ok.ensures.ran in
    let zip = came_later since c.args.begun.items c.args.plan.shares.items c.jobs_of-jobs.result.0.items c.in-Ok.done.items c.outcome_of-outcome.result.indexed.items c.jobs_of-jobs.ensures.jobs later c.outcome_of-outcome.ensures.0 in
    let works = work_is since c.args.begun.items c.jobs_of-jobs.result.1.items c.outcome_of-outcome.result.indexed.items c.jobs_of-jobs.ensures.posts zip in
    omega (arith, works)

pub closed-requires-clause-ends : goal.closed-requires-clause-ends
closed-requires-clause-ends g c =
    let later = ran_later g.M.SourceLog.told g.L.SourceLog.told g.L.SourceLog.fault_count g.L.SourceLog.since c.args.options.turns c.args.shelf c.in-Ok.shelf c.jobs_of-jobs.result.0.items c.in-Ok.done.items c.in-Ok.ensures.ran in
    let many = zip_as_long (IsLater g.L.SourceLog.since) c.jobs_of-jobs.result.0.items c.in-Ok.done.items later in
    let jobs = ap length c.jobs_of-jobs.ensures.jobs in
    let few = jobs_few c.args.begun.items c.args.plan.shares.items in
    let shares = c.requires.shares in
    let ends = ends_few c.in-Ok.done.items in
    let are = ap length c.outcome_of-outcome.ensures.2 in
    let posts = ap length c.jobs_of-jobs.ensures.posts in
    let same = length-map c.args.begun.items (let f : Begun g.row.L.Denot → Post g.row.L.Denot = λ one. post_of one in f) in
    let room = c.requires.room.ends in
    let a = c.jobs_of-jobs.result.1.ok.0 in
    let b = c.outcome_of-outcome.result.ends.ok.0 in
    omega (arith, many, jobs, few, shares, ends, are, posts, same, room, a, b)

pub returns-in-Ok-clause-logs : goal.returns-in-Ok-clause-logs
returns-in-Ok-clause-logs g c =
    let since = g.L.SourceLog.since in
    let later = ran_later g.M.SourceLog.told g.L.SourceLog.told g.L.SourceLog.fault_count since c.args.options.turns c.args.shelf c.in-Ok.shelf c.jobs_of-jobs.result.0.items c.in-Ok.done.items c.in-Ok.ensures.ran in
    let zip = came_later since c.args.begun.items c.args.plan.shares.items c.jobs_of-jobs.result.0.items c.in-Ok.done.items c.outcome_of-outcome.result.indexed.items c.jobs_of-jobs.ensures.jobs later c.outcome_of-outcome.ensures.0 in
    back_logs since (g.met.L.SourceLog g.world.𝓛 g.world.𝓜 g.world.𝓡 ((λ s x. x), (λ x. x), (λ x. x), λ x. x)).since_itself c.args.begun.items c.jobs_of-jobs.result.1.items c.outcome_of-outcome.result.indexed.items c.args.unused.items c.closed.result.logs.items c.jobs_of-jobs.ensures.posts c.closed.ensures.logs zip

pub returns-in-Ok-clause-made : goal.returns-in-Ok-clause-made
returns-in-Ok-clause-made g c =
    let t = g.L.SourceLog in
    let outcome = c.outcome_of-outcome.result in
    let posts_are = c.jobs_of-jobs.ensures.posts in
    let closed = c.closed.ensures in
    let by_is = c.as_slice.ensures.value in
    let answered = by_client c.args.options.searchers c.args.plan.clients outcome.served.items in
    inr (record {
      last = c.in-Ok.shelf;
      done = c.in-Ok.done.items;
      ran = subst (λ (js : List (Job g.row.L.Denot)). IsRun g.M.SourceLog.told t.told t.fault_count t.since c.args.options.turns c.args.shelf js c.in-Ok.shelf c.in-Ok.done.items) c.jobs_of-jobs.ensures.jobs c.in-Ok.ensures.ran;
      outcome = outcome;
      outcome_is = c.outcome_of-outcome.ensures;
      world = closed.world ∙ c.world_of.ensures;
      logs_are = closed.logs ∙ ap (λ (ps : List (Post g.row.L.Denot)). logs_behind ps outcome.indexed.items ++ c.args.unused.items) posts_are;
      ends_are = closed.ends ∙ ap (λ (ps : List (Post g.row.L.Denot)). ends_from 0 ps outcome.indexed.items ++ outcome.ends.items) posts_are;
      replies_are = λ e. closed.replies e ∙ ap (λ by. replies_by by answered) by_is;
      whole = closed.whole;
      settled = closed.settled;
    })

pub given_back-indexed-requires-clause-room : goal.given_back-indexed-requires-clause-room
given_back-indexed-requires-clause-room g c =
    let same = ap (λ (js : Vec (Job g.row.L.Denot) Global). length js.items) c.in-Err.ensures.apart.1 in
    let jobs = ap length c.jobs_of-jobs.ensures.jobs in
    let few = jobs_few c.args.begun.items c.args.plan.shares.items in
    let shares = c.requires.shares in
    let room = c.requires.room.outcome.0 in
    let none = ap length c.requires.room.no_outcome.0 in
    let a = c.in-Err.jobs.ok.0 in
    let b = c.args.room.outcome.indexed.ok.0 in
    omega (arith, same, jobs, few, shares, room, none, a, b)

pub ends_of-logs-requires-clause-as_many : goal.ends_of-logs-requires-clause-as_many
ends_of-logs-requires-clause-as_many g c =
    let since = g.L.SourceLog.since in
    let jobs_are = ap (λ (js : Vec (Job g.row.L.Denot) Global). js.items) c.in-Err.ensures.apart.1 ∙ c.jobs_of-jobs.ensures.jobs in
    let zip = back_later since (g.met.L.SourceLog g.world.𝓛 g.world.𝓜 g.world.𝓡 ((λ s x. x), (λ x. x), (λ x. x), λ x. x)).since_itself c.args.begun.items c.args.plan.shares.items c.in-Err.field-0.jobs.items c.given_back-indexed.result.items jobs_are c.given_back-indexed.ensures in
    let works = work_is since c.args.begun.items c.jobs_of-jobs.result.1.items c.given_back-indexed.result.items c.jobs_of-jobs.ensures.posts zip in
    omega (arith, works)

pub returns-clause-logs : goal.returns-clause-logs
returns-clause-logs g c =
    let since = g.L.SourceLog.since in
    let jobs_are = ap (λ (js : Vec (Job g.row.L.Denot) Global). js.items) c.in-Err.ensures.apart.1 ∙ c.jobs_of-jobs.ensures.jobs in
    let zip = back_later since (g.met.L.SourceLog g.world.𝓛 g.world.𝓜 g.world.𝓡 ((λ s x. x), (λ x. x), (λ x. x), λ x. x)).since_itself c.args.begun.items c.args.plan.shares.items c.in-Err.field-0.jobs.items c.given_back-indexed.result.items jobs_are c.given_back-indexed.ensures in
    let logs_are = ap (λ (l : Vec g.row.L.Denot Global). l.items) c.unbegun.ensures.logs ∙ (c.append_within.ensures.items ∙ ap (λ l. l ++ c.args.unused.items) c.ends_of-logs.ensures.logs) in
    back_logs since (g.met.L.SourceLog g.world.𝓛 g.world.𝓜 g.world.𝓡 ((λ s x. x), (λ x. x), (λ x. x), λ x. x)).since_itself c.args.begun.items c.jobs_of-jobs.result.1.items c.given_back-indexed.result.items c.args.unused.items c.unbegun.result.logs.items c.jobs_of-jobs.ensures.posts logs_are zip
