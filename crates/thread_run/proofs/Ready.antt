-- One of many, before it works.
use Rattle.std.proofs.Common.{◌≡◌, ℕ, List, [], refl, sym, ap, ◌∙◌, subst}
use Rattle.std.specs.Prelude.{Option, None}
use Rattle.index_config.specs.declared.config.IndexConfig.{IndexConfig}
use Rattle.source_log.specs.Log.{IsLog, Log}
use Rattle.turn_lock.specs.Passes.{built, left, parts, places, seen}
use Rattle.turn_lock.specs.declared.history.HasHistory.{Ghosts}
use Rattle.turn_lock.specs.declared.lock.Pass.{Pass}
use Rattle.turn_lock.specs.declared.lock.TurnLock.{TurnLock}
use Rattle.index_world.specs.Core.{Core}
use Rattle.shared_gate.specs.Sharing.{Seat, SeatBegins, SeatStands, seat_of}
use Rattle.shared_gate.specs.declared.recorded.Event.{Event}
use Rattle.shared_gate.specs.declared.recorded.Opening.{Opening}
use Rattle.shared_gate.specs.declared.recorded.Recorded.{Recorded}
use Rattle.thread_run.specs.Jobs.{IsFresh, Tells}
use Rattle.thread_run.specs.declared.job.Job.{Job}
use Rattle.thread_run.specs.Working.{IsReady, fresh_seat}
use Rattle.thread_run.specs.declared.actor.Work.{Work}
use Rattle.thread_run.specs.declared.actor.Work.TheVariants as works

same_job : {L : Type 0} (job other : Job L) → ◌≡◌ {A = Work L} (works.ToDo job) (works.ToDo other) → job ≡ other
same_job job other e = cc e

module _ {Lock S M L : Type 0} (tells : M → Option Log) (told : L → Option Log) where
  -- what is known of its job
  pub record JobReady (job : Job L) (seat : Seat Lock S M) : Type 0 where
    pub fresh : IsFresh job
    pub begun : (log : Log) → SeatBegins tells seat log → IsLog log × Tells told log job × ((core : Core) × SeatStands tells seat core log)

  pub ready_as : (work : Work L) (seat : Seat Lock S M) (job : Job L) → IsReady tells told work seat → work ≡ works.ToDo job → JobReady job seat
  ready_as work seat job r is = subst (λ (j : Job L). JobReady j seat) (same_job r.job job (sym r.todo ∙ is)) (record { fresh = r.fresh; begun = r.begun })

module _ {S K M : Type 0} {g : Ghosts (Recorded S K M) (Opening S M) (Event S)} where
  -- one that was given a pass that was split off
  pub fresh_is : (lock other : TurnLock (Recorded S K M) (Opening S M) (Event S)) (config own : IndexConfig) (pass given : Pass (Recorded S K M) (Opening S M) (Event S) g) (home : Option ℕ) →
      other ≡ lock → own ≡ config → given ≡ pass → seen pass ≡ [] → places pass ≡ [] → parts pass ≡ 1 → left pass ≡ 0 → home ≡ None → seat_of other given own home ≡ fresh_seat lock config
  fresh_is lock other config own pass given home same_lock same_config same_pass none none_there one none_left no_home = λ i. record {
    lock = same_lock i;
    opened = (built (same_lock i)).opened.value;
    source = (built (same_lock i)).source.value;
    config = same_config i;
    seen = (ap seen same_pass ∙ none) i;
    places = (ap places same_pass ∙ none_there) i;
    parts = (ap parts same_pass ∙ one) i;
    left = (ap left same_pass ∙ none_left) i;
    home = no_home i;
  }
