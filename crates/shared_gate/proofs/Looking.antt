-- A call for tasks, which is no event: at its turn it looks at the lent world, and gives it back as it is.
use Rattle.std.proofs.Common.{◌≡◌, ℕ, List, refl, subst, inr}
use Rattle.std.specs.Prelude.{Option, Result, IfOk}
use Rattle.std.specs.declared.alloc.AllocError.{AllocError}
use Rattle.delete_tasks.specs.Removes.{DeleteTask}
use Rattle.source_log.specs.Log.{Log}
use Rattle.index_world.specs.Answering.{tasks_answered}
use Rattle.index_world.specs.Core.{Core}
use Rattle.index_world.specs.Gate.{AreTasksUpto, Looked}
use Rattle.index_world.specs.PlanTasks.{tasks_upto}
use Rattle.index_world.specs.World.{Keeping, WorldStands}
use Rattle.shared_gate.specs.Recording.{Untouched}
use Rattle.shared_gate.specs.Sharing.{Passes, Seat, SeatAdds, SeatAnswers, SeatOwns, SeatStands, last_core}
use Rattle.shared_gate.specs.declared.recorded.Recorded.{Recorded}
use Rattle.shared_gate.proofs.Doing.{Took, stands_on, untouched_adds, world_is}
use Rattle.shared_gate.proofs.Owners.{IsLent, meets}
use Rattle.shared_gate.proofs.Turning.{GivenBack, untouched_back}

module _ {S K L : Type 0} where
  as_it_is : (home : Option ℕ) (lent : Recorded S K L) → Untouched home home lent lent
  as_it_is home lent = record { world = refl; clock = refl; events = refl; opened = refl; source = refl; home_is = refl }

module _ {Lock S K L : Type 0} (told : L → Option Log) where
  pub looked_back : (seat : Seat Lock S L) (lent : Recorded S K L) → IsLent told seat lent → GivenBack told seat seat.home lent lent
  looked_back seat lent l = untouched_back told seat seat.home lent lent l (as_it_is seat.home lent)

  -- over every store: they are the tasks that the lent world keeps
  pub look_answered : (old new : Seat Lock S L) (lent : Recorded S K L) (l : IsLent told old lent) (back : GivenBack told old old.home lent lent) (t : Took told old new old.home lent lent) (upto : ℕ) (result : Result (List DeleteTask) AllocError)
      → IfOk result (λ tasks. tasks ≡ tasks_upto upto lent.world.meta.tasks) → SeatAnswers old (tasks_answered upto result) new
  look_answered old new lent l back t upto result kept = inr (inr (record {
    upto = upto;
    tasks = result;
    is = refl;
    answers = (refl, subst (λ (w : Keeping). IfOk result (λ tasks. tasks ≡ tasks_upto upto w.meta.tasks)) (world_is told old new old.home lent lent l back t) kept);
  }))

  module _ {W : Type 0} (seat : W → Seat Lock S L) (old new : W) (lent : Recorded S K L) (l : IsLent told (seat old) lent) (back : GivenBack told (seat old) (seat old).home lent lent) (t : Took told (seat old) (seat new) (seat old).home lent lent)
      (upto : ℕ) (result : Result (List DeleteTask) AllocError) where
    -- THE CALL, for its caller's core
    pub looks : ((core : Core) (log : Log) → WorldStands lent.world core log → IfOk result (λ tasks. AreTasksUpto upto tasks core)) → (core : Core) (log : Log) → SeatStands told (seat old) core log
        → Looked (λ w c g. SeatStands told (seat w) c g) Passes (λ w n. SeatOwns (seat w) n) (λ a made b. SeatAdds (seat a) made (seat b)) upto result core log old new
    looks gives core log s =
        let met = meets told (seat old) lent l core log s in
        let mid : Core = last_core core met.steps in
        record {
          mid = mid;
          passed = record { others = met.steps; life = met.life; clock = mid.clock; last = refl };
          owned = met.owned;
          stands = stands_on told (seat old) (seat new) (seat old).home lent lent l back t core mid log s met.stands (met.goes.keeps.configured (seat old).config s.configured);
          own = untouched_adds told (seat old) (seat new) (seat old).home lent lent l back t (as_it_is (seat old).home lent);
          tasks = gives mid log met.stands;
        }
