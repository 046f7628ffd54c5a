-- What many did together says this of the journal at the exit.
use Rattle.std.proofs.Common.{◌≡◌, ℕ, ◌≤◌, List, [], ◌∷◌, length, map, sym, ap, ◌∙◌, subst, arith}
use Rattle.std.specs.List.{AllByRecursion}
use Rattle.std.specs.Prelude.{Option, Some}
use Rattle.byte_fields.specs.Causes.{last_count}
use Rattle.index_config.specs.declared.config.IndexConfig.{IndexConfig}
use Rattle.source_log.specs.Log.{IsLog, Log}
use Rattle.index_world.specs.Core.{Core, IsConfigured}
use Rattle.index_world.specs.Gate.{IsSoundCore}
use Rattle.index_world.specs.World.{Keeping, WorldStands}
use Rattle.index_world.proofs.Agreement.{alike_of}
use Rattle.root_search.specs.Replied.{AsksTexts}
use Rattle.thread_run.specs.Run.{IsRun, JobRan, JobRun}
use Rattle.thread_run.specs.Jobs.{Tells}
use Rattle.thread_run.specs.declared.job.Done.{Done}
use Rattle.thread_run.specs.declared.job.Job.{Job}
use Rattle.shared_gate.specs.Recording.{Begun, last_world}
use Rattle.shared_gate.specs.declared.recorded.Recorded.{Recorded}
use Rattle.thread_run.specs.JobSays.{IsCounted, JobSays}
use Rattle.thread_run.specs.Meanwhile.{IsBefore}
use Rattle.thread_run.proofs.Called.{alike_before, are_called, as_many}
use Rattle.thread_run.proofs.JobSays.{job_says}

sound_of : (world : Keeping) (core : Core) (log : Log) → WorldStands world core log → IsSoundCore core log
sound_of world core log s = record { kept = s.kept; world = s.world; timely = s.timely; opened = s.opened }

module _ {S K M L : Type 0} (tells : M → Option Log) (told : L → Option Log) (count : L → ℕ) (since : L → L → Type 0) (turns : ℕ) (begun : Recorded S K M) (jobs : List (Job L)) (last : Recorded S K M) (done : List (Done L))
    (run : IsRun tells told count since turns begun jobs last done) (config : IndexConfig) (log : Log) (telling : tells begun.source.value ≡ Some log) (is_log : IsLog log)
    (core end exit : Core) (stands : WorldStands begun.opened.value core log) (configured : IsConfigured config core) (ends : WorldStands last.world end log) (counted : last.world.store_faults ≤ last_count)
    (on : IsBefore end exit) (at_exit : IsSoundCore exit log) (texts : AsksTexts config) where
  abbrev Ran : JobRun L → Type 0
  Ran one = JobRan tells told count turns last.events.items last.world since begun.opened.value begun.source.value one

  abbrev Says : JobRun L → Type 0
  Says one = JobSays count config log exit.history (length core.history) core exit turns (length one.places) one.job one.done

  one_says : (one : JobRun L) → Ran one → Tells told log one.job → IsCounted count one.job → Says one
  one_says one ran tell within =
      let at = ran.at core log telling stands in
      let after = at.after in
      let alike = alike_of last.world after end log log at.stands ends in
      let to_exit = alike_before after end exit alike on in
      let opened_here : WorldStands last.opened.value core log = subst (λ (k : Keeping). WorldStands k core log) (sym run.opened) stands in
      let source_here : tells last.source.value ≡ Some log = ap tells run.source ∙ telling in
      let left : WorldStands (last_world last.opened.value last.events.items) after log = subst (λ (k : Keeping). WorldStands k after log) run.standing.last at.stands in
      let called =
      are_called (Begun tells last.opened.value last.source.value) log ((core, opened_here), source_here) core after exit last.opened.value last.events.items run.standing.linked opened_here left to_exit one.places at.made at.calls in
      let faults = at.stands.store_faults in
      let said =
      job_says told count config log is_log core after exit (sound_of begun.opened.value core log stands) configured (sound_of last.world after log at.stands) at_exit to_exit (omega (arith, faults, counted)) texts turns at.made called
      at.goes_on one.job one.done tell within at.did in
      subst (λ (n : ℕ). JobSays count config log exit.history (length core.history) core exit turns n one.job one.done) (as_many last.events.items one.places at.made at.calls) said

  all_say : (runs : List (JobRun L)) → AllByRecursion Ran runs → AllByRecursion (Tells told log) (map (λ (one : JobRun L). one.job) runs) → AllByRecursion (IsCounted count) (map (λ (one : JobRun L). one.job) runs) → AllByRecursion Says runs
  all_say [] ran tell within = tt
  all_say (one ∷ runs) ran tell within = (one_says one ran.0 tell.0 within.0, all_say runs ran.1 tell.1 within.1)

  -- WHAT CAME OF ALL JOBS
  pub run_says : AllByRecursion (Tells told log) jobs → AllByRecursion (IsCounted count) jobs → AllByRecursion Says run.runs
  run_says tell within = all_say run.runs run.each (subst (AllByRecursion (Tells told log)) run.jobs_are tell) (subst (AllByRecursion (IsCounted count)) run.jobs_are within)
