-- What the printed line of each line tells, whatever the store, the logs and the node are: what was answered, as itself.
use Rattle.std.specs.Prelude.{◌≡◌, ◌⊎◌, ℕ, ◌++◌, Bool, List, ◌∷◌, length, decimal, codes, slice_get, slice_set, Option, Some, Result, Ok, Err, ⊤, MatchBool}
use Rattle.std.specs.Result.{is_err}
use Rattle.std.specs.declared.alloc.AllocError.{AllocError}
use Rattle.clock_time.specs.declared.clock.ScriptClock.{ScriptClock}
use Rattle.object_store.specs.Store.{State, WhereTold}
use Rattle.source_log.specs.Log.{Log}
use Rattle.index_world.specs.Answering.{Answered, IsAnswer}
use Rattle.index_world.specs.Core.{Core}
use Rattle.index_world.specs.DirectLaws.{AnyNumber, Anything, config_kept}
use Rattle.index_world.specs.Gate.{NoneBetween}
use Rattle.index_world.specs.Opened.{OpensAnew}
use Rattle.index_world.specs.Saying.{words, error_words}
use Rattle.index_world.specs.World.{Keeping, WorldStands}
use Rattle.index_world.specs.declared.direct.Direct.{Direct}
use Rattle.index_world.specs.declared.world_error.WorldError.{WorldError}
use Rattle.indexing_run.specs.Ending.{EndsStep}
use Rattle.indexing_run.specs.Standing.{said_words}
use Rattle.indexing_run.specs.declared.indexer.Indexer.{Indexer as Reader}
use Rattle.indexing_run.specs.declared.outcome.IndexerOutcome.{IndexerOutcome as Said}
use Rattle.root_search.specs.Leaving.{StepLeaves}
use Rattle.root_search.specs.StepPlans.{StepPlans}
use Rattle.root_search.specs.StepReads.{StepAnswers, StepReads}
use Rattle.root_search.specs.declared.outcome.SearchStep.{SearchStep}
use Rattle.root_search.specs.declared.searcher.Searcher.{Searcher}
use Rattle.split_collector.specs.Ending.{CallsTo}
use Rattle.split_collector.specs.Standing.{said_words as collected_words}
use Rattle.split_collector.specs.Turns.{ended, to_mark}
use Rattle.split_collector.specs.declared.outcome.CollectorOutcome.{CollectorOutcome as Collected}
use Rattle.upkeep_run.specs.Ending as worker_ends
use Rattle.upkeep_run.specs.Standing.{said_words as worked_words}
use Rattle.upkeep_run.specs.declared.outcome.UpkeepOutcome.{UpkeepOutcome as Worked}
use Rattle.upkeep_run.specs.declared.work.Aim.{Aim}
use Rattle.upkeep_run.specs.declared.work.Aim.TheVariants.{Deleting, Merging}
use Rattle.upkeep_run.specs.declared.work.WorkerPlace.{WorkerPlace as WorkerPlace}
use Rattle.node_run.specs.declared.drive.DriveNode.{DriveNode}
use Rattle.node_run.specs.Lines.{outcome_text, worker_word}
use Rattle.node_run.specs.Node.{Line, At, Assign, StepIndexer, RestartIndexer, RestartClient, StepMerger, RestartMerger, StepDeleter, RestartDeleter, StepCollector, RestartCollector, RestartNode, Open, StepClient, at_said, assigned, indexer_busy, indexer_down, indexer_restarted, client_restarted, worker_down, worker_restarted, collector_down, collector_restarted, node_restarted, request_opened, request_busy, client_said, client_down}

-- ---- a world through which one actor acts after the other

abbrev pub StandsAlone : {S : Type 0} → Direct S ScriptClock → Core → Log → Type 0
StandsAlone gate core log = WorldStands gate.world core log

abbrev pub AnswersAlone : {S : Type 0} → Direct S ScriptClock → Answered → Direct S ScriptClock → Type 0
AnswersAlone old call new = IsAnswer call old.world new.world

abbrev pub told_alone : {S : Type 0} → Direct S ScriptClock → Option State
told_alone gate = gate.world.told

abbrev pub drawn : {S : Type 0} → Direct S ScriptClock → ℕ
drawn gate = gate.fetched

-- ---- a restart of the node

-- why the node isn't started again
abbrev pub fault_text : WorldError → List ℕ
fault_text error = words (codes "node" ∷ error_words error)

abbrev pub restart_text : Result ⊤ WorldError → (revision : ℕ) → List ℕ
restart_text (Ok done) revision = outcome_text (node_restarted revision)
restart_text (Err error) revision = fault_text error

-- The store was opened anew: what that answered is told, and the node is down where it was not opened.
pub record PrintsRestart (old new : Keeping) (down : Bool) (out : List ℕ) : Type 0 where
  pub answer : Result ⊤ WorldError
  pub opened : WhereTold old.told new.told (OpensAnew old.store_faults answer new)
  pub printed : out ≡ restart_text answer new.meta.revision
  pub is_down : down ≡ is_err answer

-- ---- an indexer's step

-- a step through a world alone ended so
abbrev pub EndsAlone : {L : Type 0} → (L → Option Log) → (L → ℕ) → Reader L → Result Said AllocError → Reader L → Keeping → Keeping → Type 0
EndsAlone tells count before result reader old new = EndsStep tells count (λ (world : Keeping). world.told) config_kept (λ (was : Keeping) call (now : Keeping). IsAnswer call was now) before result reader old new

-- the words of an outcome behind the indexer's number
abbrev pub said_text : (indexer : ℕ) → Said → List ℕ
said_text indexer outcome = words (codes "indexer" ∷ decimal indexer ∷ said_words outcome)

-- The indexer with this number took a step, and its outcome is told.
pub record PrintsIndexer {L : Type 0} (tells : L → Option Log) (count : L → ℕ) (indexer : ℕ) (readers later : List (Reader L)) (old new : Keeping) (out : List ℕ) : Type 0 where
  pub reader : Reader L
  pub after : Reader L
  pub at : slice_get readers indexer ≡ Some reader
  pub behind : later ≡ slice_set readers indexer after
  pub outcome : Said
  pub ends : EndsAlone tells count reader (Ok outcome) after old new
  pub printed : out ≡ said_text indexer outcome

-- ---- a worker's step

-- a merger's step through a world alone ended so
abbrev pub MergesAlone : WorkerPlace → Result Worked AllocError → WorkerPlace → Keeping → Keeping → Type 0
MergesAlone before result after old new = worker_ends.EndsStep (λ (world : Keeping). world.told) config_kept (λ (was : Keeping) call (now : Keeping). IsAnswer call was now) before result after old new

-- and so a delete worker's
abbrev pub DeletesAlone : WorkerPlace → Result Worked AllocError → WorkerPlace → Keeping → Keeping → Type 0
DeletesAlone before result after old new = worker_ends.EndsDelete (λ (world : Keeping). world.told) config_kept (λ (was : Keeping) call (now : Keeping). IsAnswer call was now) before result after old new

-- the words of an outcome behind the worker's name
abbrev pub worked_text : Aim → Worked → List ℕ
worked_text aim outcome = words (worker_word aim ∷ worked_words outcome)

-- The merger took a step, and its outcome is told.
pub record PrintsMerger (before after : WorkerPlace) (old new : Keeping) (out : List ℕ) : Type 0 where
  pub outcome : Worked
  pub ends : MergesAlone before (Ok outcome) after old new
  pub printed : out ≡ worked_text Merging outcome

-- The delete worker took a step, and its outcome is told.
pub record PrintsDeleter (before after : WorkerPlace) (old new : Keeping) (out : List ℕ) : Type 0 where
  pub outcome : Worked
  pub ends : DeletesAlone before (Ok outcome) after old new
  pub printed : out ≡ worked_text Deleting outcome

-- ---- a step of the collector

abbrev pub collected_text : Collected → List ℕ
collected_text outcome = words (codes "collector" ∷ collected_words outcome)

-- The collector took a step: its calls came one behind another, and its outcome is told.
pub record PrintsCollector {S : Type 0} (old new : Direct S ScriptClock) (out : List ℕ) : Type 0 where
  pub outcome : Collected
  pub calls : CallsTo told_alone AnswersAlone to_mark (ended (Ok outcome)) old new
  pub printed : out ≡ collected_text outcome

-- ---- a client's step

-- What a searcher's step through a world alone answers, over every store: where it plans, by what its plan answered; where it fetches of a row, by what each
-- of its fetches gave; behind the last row, by what is kept of all; and what it leaves of the searcher.
pub record TellsSearch {S : Type 0} (searcher after : Searcher) (outcome : SearchStep) (old new : Direct S ScriptClock) : Type 0 where
  pub plans : StepPlans StandsAlone NoneBetween AnyNumber Anything drawn AnswersAlone (config_kept old.world) searcher after (Ok outcome) old new
  pub reads : StepReads StandsAlone NoneBetween AnyNumber Anything drawn told_alone AnswersAlone searcher after (Ok outcome) old new
  pub answers : StepAnswers (config_kept old.world) searcher (Ok outcome)
  pub leaves : StepLeaves searcher (Ok outcome) after

-- others may stand behind them
abbrev pub HasMore : {X : Type 0} → List X → List X → Type 0
HasMore {X} old new = (more : List X) × (new ≡ old ++ more)

-- A searcher of the node, or one that begins behind them, took a step, and its outcome is told.
pub record PrintsSearch {S : Type 0} (name : List ℕ) (searchers later : List Searcher) (old new : Direct S ScriptClock) (out : List ℕ) : Type 0 where
  pub more : List Searcher
  pub place : ℕ
  pub searcher : Searcher
  pub after : Searcher
  pub at : slice_get (searchers ++ more) place ≡ Some searcher
  pub behind : later ≡ slice_set (searchers ++ more) place after
  pub outcome : SearchStep
  pub tells : TellsSearch searcher after outcome old new
  pub printed : out ≡ outcome_text (client_said name outcome)

-- ---- each line

abbrev pub PrintsLine : {S L : Type 0} → (L → Option Log) → (L → ℕ) → Line → DriveNode S L → DriveNode S L → List ℕ → Type 0
PrintsLine tells count (At moment) old new out = out ≡ outcome_text (at_said moment)
PrintsLine tells count (Assign indexer names) old new out = (out ≡ outcome_text (assigned indexer (length names))) ⊎ (out ≡ outcome_text (indexer_busy indexer))
PrintsLine tells count (StepIndexer indexer) old new out =
    MatchBool old.down (out ≡ outcome_text (indexer_down indexer)) (PrintsIndexer tells count indexer old.indexers.items new.indexers.items old.gate.world new.gate.world out)
PrintsLine tells count (RestartIndexer indexer) old new out = out ≡ outcome_text (indexer_restarted indexer)
PrintsLine tells count (RestartClient name) old new out = out ≡ outcome_text (client_restarted name)
PrintsLine tells count StepMerger old new out =
    MatchBool old.down (out ≡ outcome_text (worker_down Merging)) (PrintsMerger old.merger.place new.merger.place old.gate.world new.gate.world out)
PrintsLine tells count RestartMerger old new out = out ≡ outcome_text (worker_restarted Merging)
PrintsLine tells count StepDeleter old new out =
    MatchBool old.down (out ≡ outcome_text (worker_down Deleting)) (PrintsDeleter old.deleter.place new.deleter.place old.gate.world new.gate.world out)
PrintsLine tells count RestartDeleter old new out = out ≡ outcome_text (worker_restarted Deleting)
PrintsLine tells count StepCollector old new out = MatchBool old.down (out ≡ outcome_text collector_down) (PrintsCollector old.gate new.gate out)
PrintsLine tells count RestartCollector old new out = out ≡ outcome_text collector_restarted
PrintsLine tells count RestartNode old new out = PrintsRestart old.gate.world new.gate.world new.down out
PrintsLine tells count (Open name text) old new out = (out ≡ outcome_text (request_opened name)) ⊎ (out ≡ outcome_text (request_busy name))
PrintsLine tells count (StepClient name) old new out = MatchBool old.down (out ≡ outcome_text (client_down name)) (PrintsSearch name old.clients.items new.clients.items old.gate new.gate out)
