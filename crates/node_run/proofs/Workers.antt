-- What a worker holds beside the indexers and another worker: where it stays, and that none of them holds its number.
use Rattle.std.proofs.Common.{◌≡◌, ℕ, ◌<◌, List, [], ◌∷◌, length, true, refl, sym, ap, ◌∙◌, subst}
use Rattle.std.specs.List.{AllByRecursion}
use Rattle.std.specs.Prelude.{Option, Some, None, Ok, slice_set}
use Rattle.source_log.specs.Log.{Log}
use Rattle.index_world.specs.Core.{Core, IsOther, journal_of}
use Rattle.index_world.specs.Index.{has_staged}
use Rattle.index_world.specs.World.{GoesOn, Keeping, WorldStands}
use Rattle.index_world.proofs.JournalLaws.{legal_history}
use Rattle.indexing_run.specs.Places.{Indexer}
use Rattle.indexing_run.specs.Places as indexing
use Rattle.upkeep_run.specs.Outcomes.{UpkeepOutcome}
use Rattle.upkeep_run.specs.Places.{WorkerPlace, idle, number_held}
use Rattle.upkeep_run.specs.Standing.{PlaceStands}
use Rattle.upkeep_run.specs.Standing as works
use Rattle.upkeep_run.specs.declared.outcome.UpkeepOutcome.{UpkeepOutcome as Worked}
use Rattle.upkeep_run.specs.declared.work.Aim.{Aim}
use Rattle.upkeep_run.specs.declared.work.WorkerPlace.{WorkerPlace as HeldPlace}
use Rattle.upkeep_run.specs.declared.work.WorkerPlace.TheVariants as places
use Rattle.upkeep_run.proofs.Stays.{worker_stays}
use Rattle.node_run.specs.Standing.{HoldsOther, WorkApart}
use Rattle.node_run.specs.Turns.{indexer_at, made_idle}
use Rattle.node_run.proofs.Zips.{all_at, all_set}

some_same : (a b : ℕ) → Some a ≡ Some b → a ≡ b
some_same a b e = cc

none_some : (n : ℕ) → None ≡ Some n → ⊥
none_some n e = cc

-- a number that it holds was staged
pub worker_staged : (aim : Aim) (log : Log) (core : Core) (kept : HeldPlace) (place : WorkerPlace) (n : ℕ) → PlaceStands aim log core kept place → number_held place ≡ Some n →
    has_staged (journal_of core) n ≡ true
worker_staged aim log core places.Idle place n p held = absurd (none_some n (sym (ap number_held p) ∙ held))
worker_staged aim log core (places.Fetching work) place n p held = absurd (none_some n (sym (ap number_held p.1) ∙ held))
worker_staged aim log core (places.Staged plan token bytes) place n p held =
    subst (λ m. has_staged (journal_of core) m ≡ true) (some_same p.0.number n (sym (ap number_held p.1) ∙ held)) p.5.unused.staged
worker_staged aim log core (places.Uploaded plan token) place n p held =
    subst (λ m. has_staged (journal_of core) m ≡ true) (some_same p.0.number n (sym (ap number_held p.1) ∙ held)) p.4.staged.staged

-- what it stands for stays where the world went on by a call about another number
pub worker_goes_on : (aim : Aim) (core after : Core) (log : Log) (one : Option ℕ) (world : Keeping) (kept : HeldPlace) (place : WorkerPlace) → WorldStands world after log → GoesOn one core after →
    ((n : ℕ) → number_held place ≡ Some n → IsOther one n) → PlaceStands aim log core kept place → PlaceStands aim log after kept place
worker_goes_on aim core after log one world kept place w g other s = worker_stays aim core after log one g (legal_history w.kept after log w.world) kept place other s

-- an idle worker stands over every core
pub idle_worker_over : (aim : Aim) (log : Log) (core after : Core) (kept : HeldPlace) → PlaceStands aim log core kept idle → PlaceStands aim log after kept idle
idle_worker_over aim log core after places.Idle p = p
idle_worker_over aim log core after (places.Fetching work) p = absurd (cc p.1)
idle_worker_over aim log core after (places.Staged plan token bytes) p = absurd (cc p.1)
idle_worker_over aim log core after (places.Uploaded plan token) p = absurd (cc p.1)

pub worked_some : (given : Worked) (o : Option UpkeepOutcome) → works.Answers (Ok given) o → (x : UpkeepOutcome) × (o ≡ Some x) × works.IsSaid given x
worked_some given None a = absurd a
worked_some given (Some x) a = (x, refl, a)

-- ---- numbers held apart

-- an idle worker holds no number
pub idle_other : (indexers : List Indexer) → AllByRecursion (HoldsOther idle) indexers
idle_other [] = tt
idle_other (indexer ∷ indexers) = (λ n a b. none_some n a, idle_other indexers)

-- the number of an indexer that changes is another than the worker's
pub set_other : (worker : WorkerPlace) (indexers : List Indexer) (i : ℕ) (after : Indexer) → AllByRecursion (HoldsOther worker) indexers → HoldsOther worker after →
    AllByRecursion (HoldsOther worker) (slice_set indexers i after)
set_other worker indexers i after all other = all_set (HoldsOther worker) indexers i after all other

pub other_at : (worker : WorkerPlace) (indexers : List Indexer) (i : ℕ) → AllByRecursion (HoldsOther worker) indexers → i < length indexers → HoldsOther worker (indexer_at indexers i)
other_at worker indexers i all h = all_at (HoldsOther worker) indexers i all h

pub idle_indexer_other : (worker : WorkerPlace) (indexer : Indexer) → HoldsOther worker (made_idle indexer)
idle_indexer_other worker indexer n a b = none_some n b

pub all_idle_other : (worker : WorkerPlace) (indexers : List Indexer) → AllByRecursion (HoldsOther worker) indexers → (i : ℕ) →
    AllByRecursion (HoldsOther worker) (slice_set indexers i (made_idle (indexer_at indexers i)))
all_idle_other worker indexers all i = set_other worker indexers i (made_idle (indexer_at indexers i)) all (idle_indexer_other worker (indexer_at indexers i))

-- each number of the one is another than the other's
pub other_of_indexer : (worker : WorkerPlace) (indexer : Indexer) → HoldsOther worker indexer → (n : ℕ) → number_held worker ≡ Some n → IsOther (indexing.number_held indexer.place) n
other_of_indexer worker indexer apart n held = by (indexing.number_held indexer.place) refl
  where
    by : (o : Option ℕ) → indexing.number_held indexer.place ≡ o → IsOther o n
    by None e = tt
    by (Some m) e = λ same. apart n held (e ∙ ap Some (sym same))

pub other_of_worker : (worker : WorkerPlace) (indexer : Indexer) → HoldsOther worker indexer → (n : ℕ) → indexing.number_held indexer.place ≡ Some n → IsOther (number_held worker) n
other_of_worker worker indexer apart n held = by (number_held worker) refl
  where
    by : (o : Option ℕ) → number_held worker ≡ o → IsOther o n
    by None e = tt
    by (Some m) e = λ same. apart n (e ∙ ap Some (sym same)) held

-- ---- two workers

pub work_apart_back : (a b : WorkerPlace) → WorkApart a b → WorkApart b a
work_apart_back a b apart n at_b at_a = apart n at_a at_b

pub idle_work_apart : (b : WorkerPlace) → WorkApart idle b
idle_work_apart b n at_idle at_b = none_some n at_idle

-- each number of the second is another than the first one's
pub other_of_work : (a b : WorkerPlace) → WorkApart a b → (n : ℕ) → number_held b ≡ Some n → IsOther (number_held a) n
other_of_work a b apart n held = by (number_held a) refl
  where
    by : (o : Option ℕ) → number_held a ≡ o → IsOther o n
    by None e = tt
    by (Some m) e = λ same. apart n (e ∙ ap Some (sym same)) held
