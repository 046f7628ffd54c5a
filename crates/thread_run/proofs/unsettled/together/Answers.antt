use Rattle.std.proofs.Common.{◌≡◌, ◌∙◌, ◌+◌, ◌++◌, ◌∷◌, [], ◌≤◌, ◌⊎◌, inl, inr, List, ap, append_assoc, arith, length, map, refl, subst, sym}
use Rattle.std.specs.List.{AllByRecursion, AllZip}
use Rattle.std.specs.Prelude.{Some}
use Rattle.std.specs.declared.alloc.Global.{Global}
use Rattle.std.specs.declared.vec.Vec.{Vec}
use Rattle.source_log.specs.Log.{IsLog, Log}
use Rattle.thread_run.specs.Made.{NotBegun, RunMade, RunWorked}
use Rattle.thread_run.specs.Planning.{IsPlanned}
use Rattle.thread_run.specs.Staffing.{log_in}
use Rattle.thread_run.proofs.Jobs.{begun_later, begun_long, jobs_fresh, jobs_tell, room_as, zip_append, zip_itself, zip_then}
use Rattle.thread_run.proofs.unsettled.together.Goals as goal

pub worked-requires-clause-few : goal.worked-requires-clause-few
worked-requires-clause-few g c κs within =
    let t = g.L.SourceLog in
    let long = begun_long t.told t.fault_count t.since (length c.args.logs.items) 0 c.args.logs.items c.in-Ok.begun.items c.in-Ok.ensures.begun in
    let few = c.requires.few.0 in
    (omega (arith, long, few), c.requires.few.1, c.requires.few.2)

pub worked-requires-clause-room : goal.worked-requires-clause-room
worked-requires-clause-room g c κs within =
    let t = g.L.SourceLog in
    let long = begun_long t.told t.fault_count t.since (length c.args.logs.items) 0 c.args.logs.items c.in-Ok.begun.items c.in-Ok.ensures.begun in
    room_as c.args.room (length c.in-Ok.begun.items) (length c.args.logs.items) c.args.options.searchers (length c.args.unused.items) long c.requires.room

pub worked-requires-clause-fresh : goal.worked-requires-clause-fresh
worked-requires-clause-fresh g c κs within =
    let t = g.L.SourceLog in
    jobs_fresh t.told t.fault_count t.since (length c.args.logs.items) 0 c.args.logs.items c.in-Ok.begun.items c.args.plan.shares.items c.in-Ok.ensures.begun

pub worked-requires-clause-told : goal.worked-requires-clause-told
worked-requires-clause-told g c κs within log tells =
    let t = g.L.SourceLog in
    let all = c.requires.told log tells in
    (all.0, jobs_tell t.told t.fault_count t.since log (length c.args.logs.items) 0 c.args.logs.items c.in-Ok.begun.items c.args.plan.shares.items c.in-Ok.ensures.begun all.1)

pub returns-in-Ok-clause-logs : goal.returns-in-Ok-clause-logs
returns-in-Ok-clause-logs g c =
    let t = g.L.SourceLog in
    let unused = c.args.unused.items in
    let first = zip_append t.since c.args.logs.items (map log_in c.in-Ok.begun.items) unused unused
    (begun_later t.told t.fault_count t.since (length c.args.logs.items) 0 c.args.logs.items c.in-Ok.begun.items c.in-Ok.ensures.begun) (zip_itself t.since unused (g.met.L.SourceLog g.world.𝓛 g.world.𝓜 g.world.𝓡 ((λ s x. x), (λ x. x), (λ x. x), λ x. x)).since_itself) in
    zip_then t.since t.since t.since (c.args.logs.items ++ unused) (map log_in c.in-Ok.begun.items ++ unused) c.worked.result.logs.items (g.met.L.SourceLog g.world.𝓛 g.world.𝓜 g.world.𝓡 ((λ s x. x), (λ x. x), (λ x. x), λ x. x)).since_then first c.worked.ensures.logs

pub returns-in-Ok-clause-made : goal.returns-in-Ok-clause-made
returns-in-Ok-clause-made g c requests planned = elim c.worked.ensures.made [
  | inl none ↦ inl none
  | inr worked ↦ inr (record { begun = c.in-Ok.begun.items; are_begun = c.in-Ok.ensures.begun; plan = c.args.plan; planned = planned; worked = worked })
]

pub returns-in-Err-clause-logs : goal.returns-in-Err-clause-logs
returns-in-Err-clause-logs g c =
    let t = g.L.SourceLog in
    let same = ap (λ (l : Vec g.row.L.Denot Global). l.items) c.in-Err.ensures.back in
    let unused = c.args.unused.items in
    let is = ap (λ (l : Vec g.row.L.Denot Global). l.items) c.unbegun.ensures.logs ∙ (c.append_within-in-Err.ensures.items ∙ ap (λ l. l ++ unused) (c.append_within.ensures.items ∙ (ap (λ l. l ++ c.in-Err.logs.items) c.requires.room.no_logs ∙ same))) in
    subst (λ l. AllZip t.since (c.args.logs.items ++ unused) l) (sym is) (zip_itself t.since (c.args.logs.items ++ unused) (g.met.L.SourceLog g.world.𝓛 g.world.𝓜 g.world.𝓡 ((λ s x. x), (λ x. x), (λ x. x), λ x. x)).since_itself)
