use Rattle.std.proofs.Common.{◌≡◌, ◌∙◌, ◌+◌, ◌++◌, ◌≤◌, [], List, ap, arith, drop, length, map, refl, subst, sym, take}
use Rattle.std.specs.List.{AllByRecursion, AllZip}
use Rattle.source_log.specs.Log.{IsLog, Log}
use Rattle.turn_lock.specs.Counts.{run_of}
use Rattle.shared_gate.specs.declared.recorded.Event.{Event}
use Rattle.shared_gate.specs.declared.recorded.Opening.{Opening}
use Rattle.thread_run.specs.Jobs.{Tells}
use Rattle.thread_run.proofs.LockClosing.{all_did, all_hold, all_of, all_parts, all_ready, all_together, as_many, configured_by, moved_all, moved_zip, passes_of, tell_by}
use Rattle.thread_run.proofs.Together.{whole_front}
use Rattle.thread_run.proofs.crew.run_together.Goals as goal

pub all_work-requires-after_bounds : goal.all_work-requires-after_bounds
all_work-requires-after_bounds g c κs within =
    let hired = c.hire-actors.result.items in
    let lock = c.in-Ok-build.lock in
    let built_is = c.in-Ok-build.ensures.lock.2 in
    let configured = configured_by g.M.SourceLog.told c.args.shelf lock c.in-Ok.config built_is c.requires.standing c.requires.none c.in-Ok.ensures.configured in
    let tell = tell_by g.M.SourceLog.told c.args.shelf lock (λ log. IsLog log × AllByRecursion (Tells g.L.SourceLog.told log) c.args.jobs.items) built_is c.requires.told in
    moved_all hired c.as_mut_slice.result.now _ c.as_mut_slice.ensures.value (all_ready hired g.M.SourceLog.told g.L.SourceLog.told g.L.SourceLog.fault_count g.L.SourceLog.since c.args.turns lock c.in-Ok.config (λ a. a.work) (λ a. a.gate.lock.now) (λ a. a.gate.pass) (λ a. a.gate.config.now) (λ a. a.gate.home) configured c.args.jobs.items hired c.hire-actors.ensures.hired c.requires.fresh tell)

pub part-done-requires-clause-did : goal.part-done-requires-clause-did
part-done-requires-clause-did g c =
    let hired = c.hire-actors.result.items in
    let lock = c.in-Ok-build.lock in
    let built_is = c.in-Ok-build.ensures.lock.2 in
    let configured = configured_by g.M.SourceLog.told c.args.shelf lock c.in-Ok.config built_is c.requires.standing c.requires.none c.in-Ok.ensures.configured in
    let worked = c.all_work.new.actors in
    let long = c.all_work.auto.actors ∙ c.as_mut_slice.ensures.len in
    let whole = whole_front worked (drop (length worked) hired) c.hire-actors.result.len long in
    let w = moved_zip hired c.as_mut_slice.result.now worked _ c.as_mut_slice.ensures.value c.all_work.ensures in
    moved_all worked _ _ whole (all_did hired g.M.SourceLog.told g.L.SourceLog.told g.L.SourceLog.fault_count g.L.SourceLog.since c.args.turns lock c.in-Ok.config (λ a. a.work) (λ a. a.gate.lock.now) (λ a. a.gate.pass) (λ a. a.gate.config.now) (λ a. a.gate.home) configured c.args.jobs.items hired worked c.hire-actors.ensures.hired w)

pub part-done-requires-clause-all : goal.part-done-requires-clause-all
part-done-requires-clause-all g c =
    let many = as_many _ c.args.jobs.items c.hire-actors.result.items c.hire-actors.ensures.hired in
    let a = c.hire-actors.result.ok.0 in let b = c.args.jobs.ok.0 in let n = c.len-count.ensures in let room = c.in-Ok-room_for.ensures.room.1 in
    (c.in-Ok-room_for.ensures.none.1, omega (arith, many, a, b, n, room))

pub part-done-requires-clause-passes : goal.part-done-requires-clause-passes
part-done-requires-clause-passes g c =
    let many = as_many _ c.args.jobs.items c.hire-actors.result.items c.hire-actors.ensures.hired in
    let a = c.hire-actors.result.ok.0 in let b = c.args.jobs.ok.0 in let n = c.len-count.ensures in let room = c.in-Ok-room_for.ensures.room.2 in
    (c.in-Ok-room_for.ensures.none.2, omega (arith, many, a, b, n, room))

pub join_all-requires-clause-others : goal.join_all-requires-clause-others
join_all-requires-clause-others g c =
    let hired = c.hire-actors.result.items in
    let lock = c.in-Ok-build.lock in
    let built_is = c.in-Ok-build.ensures.lock.2 in
    let configured = configured_by g.M.SourceLog.told c.args.shelf lock c.in-Ok.config built_is c.requires.standing c.requires.none c.in-Ok.ensures.configured in
    let worked = c.all_work.new.actors in
    let long = c.all_work.auto.actors ∙ c.as_mut_slice.ensures.len in
    let whole = whole_front worked (drop (length worked) hired) c.hire-actors.result.len long in
    let w = moved_zip hired c.as_mut_slice.result.now worked _ c.as_mut_slice.ensures.value c.all_work.ensures in
    let passes = c.part-done.result.1.items in
    let passes_are = c.part-done.ensures.passes ∙ ap (λ l. map (λ a. a.gate.pass) l) whole in
    let own = all_of hired g.M.SourceLog.told g.L.SourceLog.told g.L.SourceLog.fault_count g.L.SourceLog.since c.args.turns lock c.in-Ok.config (λ a. a.work) (λ a. a.gate.lock.now) (λ a. a.gate.pass) (λ a. a.gate.config.now) (λ a. a.gate.home) configured c.args.jobs.items hired worked c.hire-actors.ensures.hired w (all_hold worked _ (λ a. (a.gate.of_lock, a.gate.idle))) in
    passes_of hired g.M.SourceLog.told g.L.SourceLog.told g.L.SourceLog.fault_count g.L.SourceLog.since c.args.turns lock c.in-Ok.config (λ a. a.work) (λ a. a.gate.lock.now) (λ a. a.gate.pass) (λ a. a.gate.config.now) (λ a. a.gate.home) configured _ worked passes passes_are own

pub close-requires-clause-all : goal.close-requires-clause-all
close-requires-clause-all g c =
    let hired = c.hire-actors.result.items in
    let lock = c.in-Ok-build.lock in
    let built_is = c.in-Ok-build.ensures.lock.2 in
    let configured = configured_by g.M.SourceLog.told c.args.shelf lock c.in-Ok.config built_is c.requires.standing c.requires.none c.in-Ok.ensures.configured in
    let worked = c.all_work.new.actors in
    let long = c.all_work.auto.actors ∙ c.as_mut_slice.ensures.len in
    let whole = whole_front worked (drop (length worked) hired) c.hire-actors.result.len long in
    let w = moved_zip hired c.as_mut_slice.result.now worked _ c.as_mut_slice.ensures.value c.all_work.ensures in
    let passes = c.part-done.result.1.items in
    let passes_are = c.part-done.ensures.passes ∙ ap (λ l. map (λ a. a.gate.pass) l) whole in
    let total = all_parts hired g.M.SourceLog.told g.L.SourceLog.told g.L.SourceLog.fault_count g.L.SourceLog.since c.args.turns lock c.in-Ok.config (λ a. a.work) (λ a. a.gate.lock.now) (λ a. a.gate.pass) (λ a. a.gate.config.now) (λ a. a.gate.home) configured c.args.jobs.items hired worked passes c.hire-actors.ensures.hired w passes_are in
    let joined = c.join_all.ensures.parts in let counts = c.hire-actors.ensures.counts in let first = c.in-Ok-build.ensures.pass.2 in let of = c.in-Ok-build.ensures.lock.3 in
    omega (arith, total, joined, counts, first, of)

pub returns-in-Ok-build-clause-ran : goal.returns-in-Ok-build-clause-ran
returns-in-Ok-build-clause-ran g c =
    let hired = c.hire-actors.result.items in
    let lock = c.in-Ok-build.lock in
    let built_is = c.in-Ok-build.ensures.lock.2 in
    let configured = configured_by g.M.SourceLog.told c.args.shelf lock c.in-Ok.config built_is c.requires.standing c.requires.none c.in-Ok.ensures.configured in
    let tell = tell_by g.M.SourceLog.told c.args.shelf lock (λ log. IsLog log × AllByRecursion (Tells g.L.SourceLog.told log) c.args.jobs.items) built_is c.requires.told in
    let worked = c.all_work.new.actors in
    let long = c.all_work.auto.actors ∙ c.as_mut_slice.ensures.len in
    let whole = whole_front worked (drop (length worked) hired) c.hire-actors.result.len long in
    let w = moved_zip hired c.as_mut_slice.result.now worked _ c.as_mut_slice.ensures.value c.all_work.ensures in
    let passes = c.part-done.result.1.items in
    let passes_are = c.part-done.ensures.passes ∙ ap (λ l. map (λ a. a.gate.pass) l) whole in
    let d = moved_zip worked _ c.part-done.result.0.items _ whole c.part-done.ensures.did in
    let start = c.close.ensures.value.1 in
    let none = c.hire-actors.ensures.same.1 ∙ (c.in-Ok-build.ensures.pass.1 ∙ ap (λ (es : List (Event g.row.S.Denot)). run_of 0 (length es)) c.requires.none) in
    all_together hired g.M.SourceLog.told g.L.SourceLog.told g.L.SourceLog.fault_count g.L.SourceLog.since c.args.turns lock c.in-Ok.config (λ a. a.work) (λ a. a.gate.lock.now) (λ a. a.gate.pass) (λ a. a.gate.config.now) (λ a. a.gate.home) configured c.args.shelf c.close.result c.args.jobs.items hired worked c.part-done.result.0.items passes c.hire-actors.new.pass c.join_all.new.pass built_is c.close.ensures.value.0
    (ap (λ (o : Opening g.row.S.Denot g.row.M.Denot). o.world) start) (ap (λ (o : Opening g.row.S.Denot g.row.M.Denot). o.source) start) tell c.hire-actors.ensures.hired w d passes_are c.close.ensures.seen c.join_all.ensures.others none c.join_all.ensures.places c.close.ensures.places
