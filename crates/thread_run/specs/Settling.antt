-- What settling an index leaves: no task to apply, and no rows to merge.
use Rattle.std.specs.Prelude.{◌≡◌, ℕ, ◌≤◌, max, true, false, List, [], ◌∷◌, ◌++◌, length, Option, None, Result, Ok, Err, ⊤}
use Rattle.std.specs.List.{AllByRecursion}
use Rattle.std.specs.declared.alloc.AllocError.{AllocError}
use Rattle.index_config.specs.declared.config.IndexConfig.{IndexConfig}
use Rattle.merge_policy.specs.Chosen.{chosen}
use Rattle.meta_journal.specs.declared.entry.Entry.{Entry}
use Rattle.meta_store.specs.History.{history, last_opstamp, moment_of}
use Rattle.meta_store.specs.Rows.{rows}
use Rattle.meta_store.specs.declared.refusal.Refusal.{Refusal}
use Rattle.meta_store.specs.declared.refusal.Refusal.TheVariants.{TooManyRows}
use Rattle.source_log.specs.Log.{Log}
use Rattle.split_states.specs.Rows.{is_published}
use Rattle.split_states.specs.declared.rows.Row.{Row}
use Rattle.index_world.specs.Configuration.{config_or, configuration}
use Rattle.index_world.specs.Core.{Core, Nobody}
use Rattle.index_world.specs.Gate.{NoneBetween}
use Rattle.index_world.specs.Index.{max_entries}
use Rattle.index_world.specs.Ran.{AreSteps, IsCause, StepMade}
use Rattle.index_world.specs.World.{GoesFor, Keeping, WorldStands}
use Rattle.index_world.specs.declared.world_error.WorldError.{WorldError}
use Rattle.index_world.specs.declared.world_error.WorldError.TheVariants as errors
use Rattle.upkeep_run.specs.Ending.{Told}
use Rattle.upkeep_run.specs.Places.{WorkerPlace, idle}
use Rattle.upkeep_run.specs.WorkAll.{WorkerStep, worker_at}
use Rattle.upkeep_run.specs.declared.work.Aim.{Aim}
use Rattle.upkeep_run.specs.declared.work.Aim.TheVariants.{Deleting, Merging}
use Rattle.thread_run.specs.declared.settling.Settled.{Settled}
use Rattle.thread_run.specs.declared.settling.Settled.TheVariants as settled
use Rattle.thread_run.specs.declared.settling.Stop.{Stop}
use Rattle.thread_run.specs.declared.settling.Stop.TheVariants as stops

-- ---- when nothing is left to do

-- each span of a published row is applied up to the last task, and no further
abbrev pub IsApplied : (last : ℕ) → Row → Type 0
IsApplied last row = is_published row.state ≡ true → AllByRecursion (λ span. span.applied ≡ last) row.spans

-- which rows a policy chooses at a moment
abbrev pub chosen_by : IndexConfig → (moment : ℕ) → List Entry → Option (List ℕ)
chosen_by config moment entries = chosen config.policy config.docs_target moment (rows (history entries))

-- AN INDEX AT REST, by its journal at a moment: all published rows are applied up to the last task, and the policy chooses none to be merged.
pub record IsAtRest (entries : List Entry) (moment : ℕ) : Type 0 where
  pub applied : AllByRecursion (IsApplied (last_opstamp (history entries))) (rows (history entries))
  pub chosen : chosen_by (config_or (configuration entries)) moment entries ≡ None

-- ---- on the way

-- the moment behind these entries, where no clock is asked from this moment on
abbrev pub moment_behind : (moment : ℕ) → List Entry → ℕ
moment_behind moment entries = max moment (moment_of (history entries))

-- From this moment on no clock was asked, and none will be: the moment is the greatest of that and of all entries'.
pub record IsUnasked (moment : ℕ) (core : Core) : Type 0 where
  pub frozen : core.frozen ≡ true
  pub moment_is : core.moment ≡ moment_behind moment core.history

-- There was something to do: the index was not at rest behind so many of the entries, from those of the first core on.
pub record HadWork (core after : Core) : Type 0 where
  pub more : List Entry
  pub behind : List Entry
  pub history_is : after.history ≡ (core.history ++ more) ++ behind
  pub restless : IsAtRest (core.history ++ more) (moment_behind core.moment (core.history ++ more)) → ⊥

-- ---- how it ends

-- no row more may be staged
abbrev pub IsCrowded : List Entry → Refusal → Type 0
IsCrowded entries refusal = (100000 ≤ length (rows (history entries))) × (refusal ≡ TooManyRows (length (rows (history entries))))

-- A call failed: the store's count rose, or there was something to do and the journal is full. There are no other faults: nobody else acts, and no
-- plan is over, since its moment stays while its files are fetched.
abbrev pub IsHindered : WorldError → (core after : Core) → Type 0
IsHindered (errors.StoreFault before now) core after = IsCause before now core after
IsHindered errors.Full core after = HadWork core after × (max_entries ≤ length after.history)
IsHindered (errors.Expired planned_at now) core after = ⊥
IsHindered (errors.Memory refused) core after = ⊥
IsHindered (errors.Refused refusal) core after = ⊥
IsHindered (errors.Missing key) core after = ⊥
IsHindered (errors.Corrupt key) core after = ⊥
IsHindered (errors.Foreign key) core after = ⊥
IsHindered errors.NoIndex core after = ⊥
IsHindered errors.IndexExists core after = ⊥
IsHindered (errors.BadConfig bad) core after = ⊥

-- Whole is said of an index at rest alone, of which nothing is unsure.
abbrev pub SettlesBy : Result Settled AllocError → (core after : Core) → Type 0
SettlesBy (Ok settled.Whole) core after = IsAtRest after.history after.moment × (after.unsure ≡ false)
SettlesBy (Ok (settled.Refused refusal)) core after = HadWork core after × IsCrowded after.history refusal
SettlesBy (Ok (settled.Fault error)) core after = IsHindered error core after
SettlesBy (Err refused) core after = ⊤

-- ---- what is done

-- steps of a worker that was idle, one behind another, and nobody between them
pub record WorksFrom (aim : Aim) (log : Log) (core after : Core) : Type 0 where
  pub steps : List (StepMade Told)
  pub place : WorkerPlace
  pub are : AreSteps (WorkerStep NoneBetween aim log) (worker_at idle core) steps (worker_at place after)

-- a delete worker and a merger by turns, the delete worker first
abbrev pub AreTurns : List Aim → Type 0
AreTurns [] = ⊤
AreTurns (aim ∷ []) = aim ≡ Deleting
AreTurns (aim ∷ next ∷ more) = (aim ≡ Deleting) × (next ≡ Merging) × AreTurns more

-- Their steps lead from the one core to the other: so nothing is entered but what they enter, and what stood or was late.
pub record WorksByTurns (log : Log) (core after : Core) : Type 0 where
  pub aims : List Aim
  pub turns : AreTurns aims
  pub are : AreSteps (λ from aim to. WorksFrom aim log from to) core aims after

-- WHAT SETTLING DID from a core on, whose clock is asked no more: the index went on by the steps of a delete worker and of a merger, the world stands
-- for where they led, no clock was asked, and it ended there.
pub record Settles (result : Result Settled AllocError) (core : Core) (log : Log) (new : Keeping) : Type 0 where
  pub after : Core
  pub works : WorksByTurns log (record core { frozen = true }) after
  pub goes_on : GoesFor Nobody core after
  pub stands : WorldStands new after log
  pub unasked : IsUnasked core.moment after
  pub ended : SettlesBy result core after

-- what is told of an end
abbrev pub settled_of : Result (Unit {0}) Stop → Result Settled AllocError
settled_of (Ok done) = Ok settled.Whole
settled_of (Err (stops.Refused refusal)) = Ok (settled.Refused refusal)
settled_of (Err (stops.Fault error)) = Ok (settled.Fault error)
settled_of (Err (stops.Memory refused)) = Err refused
