-- When a searcher stands for a client of the model, and what its step does.
use Rattle.std.specs.Prelude.{◌≡◌, ℕ, ◌≤◌, Bool, List, ◌∷◌, Contains, length, map, flat_map, take, drop, Option, Some, None, Result, Ok, Err, IsErr, IsPermutation, ⊤}
use Rattle.std.specs.List.{AllByRecursion, AllZip}
use Rattle.std.specs.declared.alloc.AllocError.{AllocError}
use Rattle.meta_store.specs.Contents.{published_rows}
use Rattle.meta_store.specs.History.{History, history}
use Rattle.meta_store.specs.Ledgers.{ledger}
use Rattle.meta_store.specs.Planning.{planned_row, searched}
use Rattle.meta_store.specs.Rows.{rows}
use Rattle.index_config.specs.declared.config.IndexConfig.{IndexConfig}
use Rattle.index_world.specs.Config.{reads}
use Rattle.index_world.specs.Configuration.{configuration}
use Rattle.source_log.specs.Log.{Log}
use Rattle.split_states.specs.Rows.{row_at}
use Rattle.split_states.specs.declared.rows.Row.{Row}
use Rattle.index_world.specs.Calls.{Fault, Trouble, faulted, no_memory}
use Rattle.index_world.specs.CallsMade.{CallMade}
use Rattle.index_world.specs.Core.{Core, IsPlannedIn, IsShownIn}
use Rattle.index_world.specs.Gate.{IsTrouble, grace_of}
use Rattle.index_world.specs.Seen.{contents, visible_at}
use Rattle.index_world.specs.SplitFile.{AreSplit, file_of}
use Rattle.root_search.specs.RowFacts.{HasFactsOf}
use Rattle.leaf_search.specs.Answers.{IsAsked}
use Rattle.split_bundle.specs.declared.footer.Footer.{Footer}
use Rattle.split_bundle.specs.declared.placed.Placed.{Placed}
use Rattle.search_api.specs.Resolved.{Search}
use Rattle.search_api.specs.declared.reply.Refusal.{Refusal}
use Rattle.root_search.specs.Goes.{GoesBy}
use Rattle.root_search.specs.Recorded.{AreCallsOf}
use Rattle.root_search.specs.LeafAsks.{Asks}
use Rattle.root_search.specs.Footers.{entries}
use Rattle.root_search.specs.FetchedSplits.{HasNeeded, IsFooterIn}
use Rattle.root_search.specs.Steps.{ArePassed, Plan, Request, no_request, opened, planned, Client, Searched, Passage, config_at, fault_refusal, grace_in, step_at, trouble_replied}
use Rattle.root_search.specs.declared.outcome.SearchStep.{SearchStep}
use Rattle.root_search.specs.declared.fetching.FetchError.{FetchError}
use Rattle.root_search.specs.declared.fetching.FetchError.TheVariants.{Memory, World, Corrupt}
use Rattle.root_search.specs.declared.footers.Footers.{Footers}
use Rattle.root_search.specs.declared.searcher.Busy.{Busy}
use Rattle.root_search.specs.declared.planned.Planned.{Planned as GivenPlan}
use Rattle.root_search.specs.declared.searcher.Request.{Request as GivenRequest}
use Rattle.root_search.specs.declared.searcher.Request.TheVariants as given
use Rattle.root_search.specs.declared.searcher.Searcher.{Searcher}

-- ---- the rows of a plan, and what their files hold

abbrev pub history_at : ℕ → Core → History
history_at revision core = history (take revision core.history)

-- all published rows, and those of them that a search plans
abbrev pub published_at : ℕ → Core → List Row
published_at revision core = published_rows (rows (history_at revision core))

abbrev pub rows_at : ℕ → Search → Core → List Row
rows_at revision search core = searched (config_at revision core).schema search.query search.times (rows (history_at revision core))

-- the documents of a row at a revision
abbrev pub documents_at : ℕ → Core → Log → Row → List Placed
documents_at revision core log row = contents (config_at revision core) (ledger reads (history_at revision core)).tasks row log

-- A published row is its number's, and its file is the split of its documents, of which the row has the facts. It was shown, and as
-- long as the moment is below this one it stands.
pub record IsInHand (revision until : ℕ) (core : Core) (log : Log) (row : Row) : Type 0 where
  pub found : row_at (rows (history_at revision core)) row.number ≡ Some row
  pub shown : IsShownIn core row.number (file_of (config_at revision core) (documents_at revision core log row))
  pub planned : IsPlannedIn core until row.number (file_of (config_at revision core) (documents_at revision core log row))
  pub split : AreSplit (config_at revision core) (documents_at revision core log row)
  pub facts : HasFactsOf (config_at revision core).schema (documents_at revision core log row) row

-- Each published row's is, and they hold together what is visible at the revision.
pub record AreInHand (revision until : ℕ) (core : Core) (log : Log) : Type 0 where
  pub within : revision ≤ length core.history
  pub configured : (config : IndexConfig) × (configuration (take revision core.history) ≡ Some config)
  pub each : AllByRecursion (IsInHand revision until core log) (published_at revision core)
  pub few : length (rows (history_at revision core)) ≤ 100000
  pub shown : IsPermutation (flat_map (documents_at revision core log) (published_at revision core)) (visible_at revision core.history log)

-- ---- a searcher and a client

-- Of the planned rows the first ones are fetched: of each its footer is kept and exactly the ranges of its file that the search
-- needs. The others are still to be fetched.
pub record IsPlanned (given : GivenPlan) (plan : Plan) (core : Core) (log : Log) : Type 0 where
  pub asks : Asks plan.search given.ask
  pub asked : IsAsked (config_at plan.revision core).schema given.ask.request
  pub revision : given.plan.revision ≡ plan.revision
  pub grace : plan.grace ≡ grace_of (config_at plan.revision core) given.plan
  pub rows : given.plan.rows ≡ map planned_row (rows_at plan.revision plan.search core)
  pub place : given.next ≤ length given.plan.rows
  pub unfetched : plan.unfetched ≡ map (λ row. row.number) (drop given.next given.plan.rows)
  pub parts : AllZip (HasNeeded (config_at plan.revision core).schema given.ask.request) given.parts (map (documents_at plan.revision core log) (take given.next (rows_at plan.revision plan.search core)))
  pub in_hand : AreInHand plan.revision plan.grace.until core log

-- A footer that is kept under a row's number is that of its file at the revision. It stays so where the file is gone.
abbrev pub IsKnownOf : Footers → (revision : ℕ) → Core → Log → Row → Type 0
IsKnownOf footers revision core log row =
    (footer : Footer) → Contains (entries footers) (row.number, footer) → IsFooterIn (file_of (config_at revision core) (documents_at revision core log row)) footer

abbrev pub AreKnown : Footers → (revision : ℕ) → Core → Log → Type 0
AreKnown footers revision core log = AllByRecursion (IsKnownOf footers revision core log) (published_at revision core)

-- a searcher that keeps these footers holds the client's request
abbrev pub IsRequest : Footers → GivenRequest → Request → Core → Log → Type 0
IsRequest footers given.Vacant request core log = request ≡ no_request
IsRequest footers (given.Opened text) request core log = request ≡ opened text
IsRequest footers (given.Planned search) request core log = (plan : Plan) × (request ≡ planned plan) × IsPlanned search plan core log × AreKnown footers plan.revision core log

-- a footer that is kept is that of a split that was shown under its number
pub record IsKept (core : Core) (number : ℕ) (footer : Footer) : Type 0 where
  pub bytes : List ℕ
  pub shown : IsShownIn core number bytes
  pub footer_is : IsFooterIn bytes footer

abbrev pub AreKept : Footers → Core → Type 0
AreKept footers core = (number : ℕ) (footer : Footer) → Contains (entries footers) (number, footer) → IsKept core number footer

-- the searcher stands for the client, over this core and this log
pub record SearcherStands (searcher : Searcher) (client : Client) (core : Core) (log : Log) : Type 0 where
  pub name : searcher.client ≡ client.name
  pub front : searcher.front ≡ client.front
  pub footers : AreKept searcher.footers core
  pub request : IsRequest searcher.footers searcher.request client.request core log

abbrev pub new_client : List ℕ → Client
new_client name = record { name = name; front = 0; request = no_request }

-- ---- what its calls do

-- a text is taken where there is no request, and else nothing changes
abbrev pub Submits : Result (Unit {0}) Busy → Searcher → List ℕ → Client → Core → Log → Type 0
Submits (Ok done) new text client core log = (client.request ≡ no_request) × SearcherStands new (record client { request = opened text }) core log
Submits (Err busy) new text client core log = (client.request ≡ no_request → ⊥) × SearcherStands new client core log

abbrev pub searched_as : Option SearchStep → Client → Core → Searched
searched_as outcome client core = record { outcome = outcome; client = client; core = core }

-- the code's answer is that of the model, and want of memory is none
abbrev pub IsAnswer : Result SearchStep AllocError → Option SearchStep → Type 0
IsAnswer (Ok step) outcome = outcome ≡ Some step
IsAnswer (Err e) outcome = outcome ≡ None

-- A step of the code is the client's step, with a passage for each of its calls, before which other actors may have acted. The gate
-- recorded these calls as its own.
pub record SearchesAs {W : Type 0} (Stands : W → Core → Log → Type 0) (Between : Core → Core → Type 0) (Adds : W → List CallMade → W → Type 0)
    (old : W) (result : Result SearchStep AllocError) (new : Searcher) (gate : W) (client : Client) (core : Core) (log : Log) : Type 0 where
  pub passage : Passage
  pub more : List Passage
  pub passed : ArePassed (grace_in client.request) Between core (passage ∷ more)
  pub short : Bool
  pub outcome : Option SearchStep
  pub later : Client
  pub after : Core
  pub did : step_at passage more short log client ≡ searched_as outcome later after
  pub says : IsAnswer result outcome
  pub searcher : SearcherStands new later after log
  pub gate_stands : Stands gate after log
  pub goes_on : GoesBy Between core after
  pub made : List CallMade
  pub own : Adds old made gate
  pub asks : AreCallsOf client.request passage more after outcome made

-- ---- the parts of a step

-- the searcher is the client's, and has no request while a step works on it
pub record IsAtWork (searcher : Searcher) (client : Client) (core : Core) : Type 0 where
  pub vacant : searcher.request ≡ given.Vacant
  pub name : searcher.client ≡ client.name
  pub front : searcher.front ≡ client.front
  pub footers : AreKept searcher.footers core

-- what is answered is what the client's step says, and the searcher stands for the client that it leaves
pub record Ends (result : Result SearchStep AllocError) (new : Searcher) (step : Searched) (log : Log) : Type 0 where
  pub says : IsAnswer result step.outcome
  pub stands : SearcherStands new step.client step.core log

-- a fault is refused as it is, and want of memory is the step's own
abbrev pub IsRefusalOf : Result Refusal AllocError → Trouble → Type 0
IsRefusalOf (Ok refusal) trouble = (fault : Fault) × (trouble ≡ faulted fault) × (refusal ≡ fault_refusal fault)
IsRefusalOf (Err e) trouble = trouble ≡ no_memory

-- what is answered where fetches gave nothing: their fault is replied, and without memory there is no answer
abbrev pub FaultEnds : FetchError → Result SearchStep AllocError → Searcher → ℕ → Client → Core → Log → Type 0
FaultEnds (World error) result new revision client core log = (trouble : Trouble) → IsTrouble error trouble → Ends result new (trouble_replied revision trouble client core) log
FaultEnds (Memory e) result new revision client core log = IsErr result × IsAtWork new client core
FaultEnds Corrupt result new revision client core log = ⊤
