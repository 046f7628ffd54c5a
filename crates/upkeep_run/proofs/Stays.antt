-- What a worker stands for, where others went on.
use Rattle.std.proofs.Common.{◌≡◌, ℕ, [], ap, Option, Some}
use Rattle.meta_store.specs.History.{history}
use Rattle.meta_store.specs.State.{Legal}
use Rattle.source_log.specs.Log.{Log}
use Rattle.index_world.proofs.InCore.{goes_less}
use Rattle.index_world.specs.Config.{reads}
use Rattle.index_world.specs.Core.{Core, IsOther, Nobody}
use Rattle.index_world.specs.World.{GoesFor, GoesOn}
use Rattle.upkeep_run.specs.Places.{WorkerHeld, IsStagedHeld, WorkerPlace, held_facts, number_held}
use Rattle.upkeep_run.specs.Standing.{PlaceStands}
use Rattle.upkeep_run.specs.declared.work.Aim.{Aim}
use Rattle.upkeep_run.specs.declared.work.WorkerPlace.{WorkerPlace as HeldPlace}
use Rattle.upkeep_run.specs.declared.work.WorkerPlace.TheVariants as places
use Rattle.upkeep_run.proofs.Holding.{made_stays, uploaded_stays, work_stays}

module _ (aim : Aim) (core after : Core) (log : Log) (one : Option ℕ) (g : GoesOn one core after) (legal : Legal reads (history after.history)) where
  others : GoesFor Nobody core after
  others = goes_less (IsOther one) Nobody core after (λ n no. absurd no) g

  staged_stays : (held : WorkerHeld) → IsOther one held.number → IsStagedHeld log core held → IsStagedHeld log after held
  staged_stays held other s =
      record {
        configured = g.keeps.configured held.config s.configured;
        unused = g.keeps.unused held.number other s.unused;
        staged = g.keeps.staged held.number [] (held_facts held) s.staged;
        made = made_stays core after log others legal held s.made;
      }

  -- a worker stands for the same where the core went on by a call about another number than the one that it holds
  pub worker_stays : (kept : HeldPlace) (place : WorkerPlace) → ((n : ℕ) → number_held place ≡ Some n → IsOther one n) → PlaceStands aim log core kept place → PlaceStands aim log after kept place
  worker_stays places.Idle place other s = s
  worker_stays (places.Fetching held) place other s = (s.0, s.1, s.2, work_stays core after log others legal s.0 s.3, s.4)
  worker_stays (places.Staged plan token bytes) place other s = (s.0, s.1, s.2, s.3, s.4, staged_stays s.0 (other s.0.number (ap number_held s.1)) s.5)
  worker_stays (places.Uploaded plan token) place other s = (s.0, s.1, s.2, s.3, uploaded_stays core after log others legal s.0 s.4)
