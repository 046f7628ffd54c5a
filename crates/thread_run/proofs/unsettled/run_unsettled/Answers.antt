use Rattle.std.proofs.Common.{◌≡◌, ◌∙◌, ◌++◌, ◌⊎◌, inl, inr, List, ap, arith, drop, length, refl, subst, sym, take}
use Rattle.std.specs.List.{AllByRecursion, AllZip}
use Rattle.std.specs.Prelude.{Option, Some}
use Rattle.std.specs.declared.alloc.Global.{Global}
use Rattle.std.specs.declared.vec.Vec.{Vec}
use Rattle.source_log.specs.Log.{IsLog, IsToldLog, Log}
use Rattle.thread_run.specs.Sources.{common}
use Rattle.thread_run.specs.declared.sources.Sources.{Sources}
use Rattle.thread_run.proofs.CommonLog.{each_tells}
use Rattle.thread_run.specs.Made.{HasRun, NotBegun, RunMade}
use Rattle.thread_run.proofs.Jobs.{zip_itself}
use Rattle.thread_run.proofs.unsettled.run_unsettled.Goals as goal

pub returns-in_default-clause-logs : goal.returns-in_default-clause-logs
returns-in_default-clause-logs g c =
    let since = g.L.SourceLog.since in
    let is = ap (λ (l : Vec g.row.L.Denot Global). l.items) c.unbegun.ensures.logs in
    subst (λ l. AllZip since c.args.logs.items l) (sym is) (zip_itself since c.args.logs.items (g.met.L.SourceLog g.world.𝓛 g.world.𝓜 g.world.𝓡 ((λ s x. x), (λ x. x), (λ x. x), λ x. x)).since_itself)

pub returns-in_default-room_for-clause-logs : goal.returns-in_default-room_for-clause-logs
returns-in_default-room_for-clause-logs g c =
    let since = g.L.SourceLog.since in
    let is = ap (λ (l : Vec g.row.L.Denot Global). l.items) c.unbegun-in_default-room_for.ensures.logs in
    subst (λ l. AllZip since c.args.logs.items l) (sym is) (zip_itself since c.args.logs.items (g.met.L.SourceLog g.world.𝓛 g.world.𝓜 g.world.𝓡 ((λ s x. x), (λ x. x), (λ x. x), λ x. x)).since_itself)

pub returns-in_default-split_off-clause-logs : goal.returns-in_default-split_off-clause-logs
returns-in_default-split_off-clause-logs g c =
    let since = g.L.SourceLog.since in
    let is = ap (λ (l : Vec g.row.L.Denot Global). l.items) (c.unbegun-in_default-split_off.ensures.logs ∙ c.in_default-split_off.ensures.err) in
    subst (λ l. AllZip since c.args.logs.items l) (sym is) (zip_itself since c.args.logs.items (g.met.L.SourceLog g.world.𝓛 g.world.𝓜 g.world.𝓡 ((λ s x. x), (λ x. x), (λ x. x), λ x. x)).since_itself)

pub together-requires-clause-told : goal.together-requires-clause-told
together-requires-clause-told g c κs within log tells =
    let told = g.L.SourceLog.told in
    let here : common told c.split_off.new.self.items ≡ Some log = ap (λ (s : Sources g.row.L.Denot). common told s.logs.items) (sym c.new-shelf.ensures.start.1) ∙ tells in
    (subst IsToldLog here c.faults.ensures.sound, each_tells told c.split_off.new.self.items log here)

pub returns-clause-went : goal.returns-clause-went
returns-clause-went g c =
    let t = g.L.SourceLog in
    let tells : Sources g.row.L.Denot → Option Log = λ sources. common t.told sources.logs.items in
    let read = c.split_off.new.self.items in
    let unused = c.in-Ok-split_off.unused.items in
    let options = c.args.options in
    let requests = c.args.requests.items in
    let shelf = c.new-shelf.result in
    let read_is : read ≡ take options.indexers c.args.logs.items = c.in-Ok-split_off.ensures.items in
    let unused_is : unused ≡ drop options.indexers c.args.logs.items = c.in-Ok-split_off.ensures.tail in
    elim (c.together.ensures.made requests c.in-Ok.ensures) [
      | inl none ↦ inl (record { memory = none.memory; same = none.same ∙ c.new-shelf.ensures.world.0; settled = none.settled })
      | inr made ↦ inr (record {
        first = shelf;
        opened = c.new-shelf.ensures.start.0;
        source = ap (λ (s : Sources g.row.L.Denot). s.logs.items) c.new-shelf.ensures.start.1 ∙ read_is;
        made = subst (λ (l : List g.row.L.Denot). RunMade tells t.told t.fault_count t.since options.searchers options.turns l (drop options.indexers c.args.logs.items) requests shelf c.together.result) read_is
            (subst (λ (l : List g.row.L.Denot). RunMade tells t.told t.fault_count t.since options.searchers options.turns read l requests shelf c.together.result) unused_is made);
      })
    ]
