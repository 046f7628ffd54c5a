-- What the ends of the actors say, by the journal at the exit.
use Rattle.std.specs.Prelude.{◌≡◌, ◌⊎◌, ◌+◌, ◌-◌, ◌*◌, ◌<◌, ◌≤◌, ℕ, true, false, List, [], ◌∷◌, length, take, find, MatchOption, Option, Some, None, Err, ⊤}
use Rattle.std.specs.List.{AllByRecursion}
use Rattle.byte_fields.specs.Causes.{Rose}
use Rattle.index_config.specs.declared.config.IndexConfig.{IndexConfig}
use Rattle.merge_policy.specs.Chosen.{chosen}
use Rattle.meta_journal.specs.Places.{split_key}
use Rattle.meta_journal.specs.declared.entry.Act.{Act}
use Rattle.meta_journal.specs.declared.entry.Act.TheVariants.{MarkStaged, Remove}
use Rattle.meta_journal.specs.declared.entry.Entry.{Entry}
use Rattle.meta_store.specs.History.{history, last_opstamp, moment_of}
use Rattle.meta_store.specs.Rows.{rows}
use Rattle.meta_store.specs.declared.refusal.Refusal.{Refusal}
use Rattle.meta_store.specs.declared.refusal.Refusal.TheVariants.{TooManyRows}
use Rattle.source_log.specs.Log.{Log}
use Rattle.split_states.specs.Due.{stale_rows}
use Rattle.split_states.specs.Rows.{is_published}
use Rattle.split_states.specs.declared.rows.Row.{Row}
use Rattle.index_world.specs.Calls.{answer_behind}
use Rattle.index_world.specs.Collecting.{doomed_rows, is_left, may_go_by}
use Rattle.index_world.specs.Core.{Core}
use Rattle.index_world.specs.Index.{max_entries}
use Rattle.index_world.specs.Ran.{IsCause}
use Rattle.index_world.specs.declared.world_error.WorldError.{WorldError}
use Rattle.index_world.specs.declared.world_error.WorldError.TheVariants as errors
use Rattle.indexing_run.specs.IndexLaws.{AreEnds, most_partitions}
use Rattle.indexing_run.specs.declared.indexing.IndexerEnd.{IndexerEnd}
use Rattle.indexing_run.specs.declared.indexing.IndexerEnd.TheVariants as indexing
use Rattle.split_collector.specs.Outcomes.{Outcome}
use Rattle.split_collector.specs.declared.collecting.CollectorEnd.{CollectorEnd}
use Rattle.split_collector.specs.declared.collecting.CollectorEnd.TheVariants as collecting
use Rattle.upkeep_run.specs.declared.work.Aim.{Aim}
use Rattle.upkeep_run.specs.declared.work.Aim.TheVariants.{Deleting, Merging}
use Rattle.upkeep_run.specs.declared.working.WorkerEnd.{WorkerEnd}
use Rattle.upkeep_run.specs.declared.working.WorkerEnd.TheVariants as working
use Rattle.thread_run.specs.ClientReplies.{IsLate, IsReached}
use Rattle.thread_run.specs.Collects.{CollectsFrom}

-- ---- behind so many entries

-- no row more may be staged
abbrev pub IsCrowded : (revision : ℕ) → List Entry → Refusal → Type 0
IsCrowded revision entries refusal = (100000 ≤ length (rows (history (take revision entries)))) × (refusal ≡ TooManyRows (length (rows (history (take revision entries)))))

-- each span of a published row is applied up to the last task, and no further
abbrev pub IsApplied : (last : ℕ) → Row → Type 0
IsApplied last row = is_published row.state ≡ true → AllByRecursion (λ span. span.applied ≡ last) row.spans

abbrev pub AllApplied : (revision : ℕ) → List Entry → Type 0
AllApplied revision entries = AllByRecursion (IsApplied (last_opstamp (history (take revision entries)))) (rows (history (take revision entries)))

-- a merger or a delete worker that takes so many steps, none of which is an end, meets an entry that came in the meantime
abbrev pub steps_an_entry : ℕ
steps_an_entry = 104

-- Over these entries of the journal at exit, of which there were so many at entry. From the one core to the other all worked.
module _ (config : IndexConfig) (log : Log) (entries : List Entry) (least : ℕ) (core exit : Core) where
  -- a moment of meanwhile, at which the journal had this revision
  pub record IsSeen (revision moment : ℕ) : Type 0 where
    pub reached : IsReached entries least revision
    pub since : core.moment ≤ moment
    pub until : moment ≤ exit.moment
    pub greatest : moment_of (history (take revision entries)) ≤ moment

  -- the journal had as many entries as it may have
  abbrev pub WasFull : Type 0
  WasFull = (revision : ℕ) × IsReached entries least revision × (max_entries ≤ revision)

  -- ---- an indexer

  -- The store failed; there was no room for an entry; or something stood under the key of a file that it was to make.
  abbrev pub FaultsIndexer : WorldError → Type 0
  FaultsIndexer (errors.StoreFault before now) = IsCause before now core exit
  FaultsIndexer errors.Full = WasFull
  FaultsIndexer (errors.Foreign key) = (number : ℕ) × (key ≡ split_key number)
  FaultsIndexer error = ⊥

  -- HOW AN INDEXER ENDED that reads these partitions of a log, whose count of faults was `first` and is `last`. It has caught up only where each of them has
  -- its checkpoint at its end; it is refused only where no row more may be staged; and it has turns enough.
  abbrev pub IndexerEnded : (names : List (List ℕ)) → (first last : ℕ) → IndexerEnd → Type 0
  IndexerEnded names first last indexing.CaughtUp = AreEnds log names entries
  IndexerEnded names first last (indexing.Refused refusal) = (revision : ℕ) × IsReached entries least revision × IsCrowded revision entries refusal
  IndexerEnded names first last (indexing.Fault error) = FaultsIndexer error
  IndexerEnded names first last (indexing.SourceFault before now) = (first ≤ before) × Rose before now × (now ≤ last)
  IndexerEnded names first last indexing.Turns = most_partitions < length names
  IndexerEnded names first last indexing.Memory = ⊤

  -- ---- a merger or a delete worker

  -- the policy chose no rows
  abbrev pub Rested : Type 0
  Rested = (revision moment : ℕ) × IsSeen revision moment × (chosen config.policy config.docs_target moment (rows (history (take revision entries))) ≡ None)

  -- all published rows were applied up to the last task
  abbrev pub Settled : Type 0
  Settled = (revision : ℕ) × IsReached entries least revision × AllApplied revision entries

  abbrev pub HadNothing : Aim → Type 0
  HadNothing Merging = Rested
  HadNothing Deleting = Settled

  -- The store failed; there was no room for an entry; its plan came too late; or something stood under the key of a file that it was to make.
  abbrev pub FaultsWorker : WorldError → Type 0
  FaultsWorker (errors.StoreFault before now) = IsCause before now core exit
  FaultsWorker errors.Full = WasFull
  FaultsWorker (errors.Expired planned_at now) = IsLate config core exit planned_at now
  FaultsWorker (errors.Foreign key) = (number : ℕ) × (key ≡ split_key number)
  FaultsWorker error = ⊥

  -- HOW A WORKER ENDED that may take so many turns, and made so many calls. It has used them up only where it made a call in each, and where an entry came
  -- for each 104 of them.
  abbrev pub WorkerEnded : Aim → (turns calls : ℕ) → WorkerEnd → Type 0
  WorkerEnded aim turns calls working.Nothing = HadNothing aim
  WorkerEnded aim turns calls (working.Refused refusal) = (revision : ℕ) × IsReached entries least revision × IsCrowded revision entries refusal
  WorkerEnded aim turns calls (working.Fault error) = FaultsWorker error
  WorkerEnded aim turns calls working.Turns = (calls ≡ turns) × (turns < steps_an_entry * (length entries - least + 1))
  WorkerEnded aim turns calls working.Memory = ⊤

  -- ---- a collector

  -- a core of meanwhile, that had a front of the journal
  pub record IsMet (met : Core) : Type 0 where
    pub front : met.history ≡ take (length met.history) entries
    pub seen : IsSeen (length met.history) met.moment

  -- no row had been staged for the grace
  abbrev pub NoneStale : Core → Type 0
  NoneStale met = stale_rows met.moment config.staged_grace (rows (history met.history)) ≡ []

  -- each row that was marked and released then was doomed before
  abbrev pub NoneReleased : Core → Type 0
  NoneReleased met = find (may_go_by config.deletion_grace met.marks met.doomed met.moment) (rows (history met.history)) ≡ None

  -- no row was marked that was doomed before
  abbrev pub NoneDoomed : Core → Type 0
  NoneDoomed met = doomed_rows met.doomed (rows (history met.history)) ≡ []

  -- of the files behind the one key, up to the other, none was left whose row is gone
  abbrev pub NoneLeft : (behind next : Option (List ℕ)) → Core → Type 0
  NoneLeft behind next met = (number : ℕ) → is_left met behind next number ≡ false

  -- a listing that gave no number to sweep: the core that it met, and behind which key the next one begins, if it was not the last
  pub record Listing : Type 0 where
    pub met : Core
    pub next : Option (List ℕ)

  -- one behind the other, up to the last one
  abbrev pub GaveNone : (behind : Option (List ℕ)) → List Listing → Type 0
  GaveNone behind [] = ⊥
  GaveNone behind (page ∷ more) = IsMet page.met × NoneLeft behind page.next page.met × MatchOption page.next (more ≡ []) (λ key. GaveNone (Some key) more)

  -- THERE WAS NOTHING TO COLLECT, each at its own moment: no row was to be marked, none to be doomed, none to be removed, and no file to be swept.
  pub record Collected : Type 0 where
    pub marks : Core
    pub marks_met : IsMet marks
    pub none_stale : NoneStale marks
    pub dooms : Core
    pub dooms_met : IsMet dooms
    pub none_released : NoneReleased dooms
    pub removes : Core
    pub removes_met : IsMet removes
    pub none_doomed : NoneDoomed removes
    pub pages : List Listing
    pub none_left : GaveNone None pages

  -- a MarkStaged or a Remove that the journal refused at this revision and moment
  abbrev pub IsRefusedOwn : Refusal → Type 0
  IsRefusedOwn refusal =
      (revision moment : ℕ) × (numbers : List ℕ) × (act : Act) × ((act ≡ MarkStaged numbers) ⊎ (act ≡ Remove numbers)) × IsSeen revision moment
      × (answer_behind (take revision entries) (record { moment = moment; act = act }) ≡ Err refusal)

  -- The store failed; there was no room for an entry; or its own entry was refused.
  abbrev pub FaultsCollector : WorldError → Type 0
  FaultsCollector (errors.StoreFault before now) = IsCause before now core exit
  FaultsCollector errors.Full = WasFull
  FaultsCollector (errors.Refused refusal) = IsRefusedOwn refusal
  FaultsCollector error = ⊥

  -- HOW A COLLECTOR ENDED that may take so many turns, and made so many calls, one in each of its steps at least. It has used them up only where each of so
  -- many steps did something.
  abbrev pub CollectorEnded : (turns calls : ℕ) → CollectorEnd → Type 0
  CollectorEnded turns calls collecting.Nothing = Collected
  CollectorEnded turns calls (collecting.Fault error) = FaultsCollector error
  CollectorEnded turns calls collecting.Turns = (turns ≤ calls) × ((did : List Outcome) × (length did ≡ turns) × CollectsFrom entries least did)
  CollectorEnded turns calls collecting.Memory = ⊤
