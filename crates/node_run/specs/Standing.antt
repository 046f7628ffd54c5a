-- What a node of the code stands for, and what its calls say of that.
use Rattle.std.specs.Prelude.{◌≡◌, ◌⊎◌, ℕ, ◌||◌, Bool, false, List, [], ◌∷◌, length, map, min, nat_lt, sum, if◌then◌else◌, Option, Some, None, Result, Ok, Err, bytes_eq}
use Rattle.std.specs.List.{AllByRecursion, AllZip, list_any}
use Rattle.std.specs.declared.alloc.AllocError.{AllocError}
use Rattle.object_store.specs.Store.{State}
use Rattle.source_log.specs.Log.{Log, IsLog}
use Rattle.index_world.specs.Core.{Core, last_count}
use Rattle.index_world.specs.World.{IsWorld, Keeping, WorldStands}
use Rattle.indexing_run.specs.Places.{Indexer, number_held}
use Rattle.indexing_run.specs.Standing.{IndexerStands}
use Rattle.indexing_run.specs.declared.indexer.Indexer.{Indexer as Reader}
use Rattle.root_search.specs.Steps.{Client}
use Rattle.root_search.specs.Searching.{SearcherStands}
use Rattle.root_search.specs.declared.searcher.Searcher.{Searcher}
use Rattle.upkeep_run.specs.Places.{WorkerPlace as Worker}
use Rattle.upkeep_run.specs.Places as workers
use Rattle.upkeep_run.specs.Standing.{PlaceStands}
use Rattle.upkeep_run.specs.declared.work.Aim.TheVariants.{Deleting, Merging}
use Rattle.upkeep_run.specs.declared.work.WorkerPlace.{WorkerPlace as WorkerPlace}
use Rattle.node_run.specs.declared.drive.Accepts.{Accepts}
use Rattle.node_run.specs.declared.drive.Accepts.TheVariants as accepts
use Rattle.node_run.specs.declared.drive.DriveNode.{DriveNode}
use Rattle.node_run.specs.declared.out_line.OutLine.{OutLine}
use Rattle.node_run.specs.Lines.{outcome_text}
use Rattle.node_run.specs.Named.{names_of, HasPlaces}
use Rattle.node_run.specs.Node.{Node, Line, At, Assign, StepIndexer, RestartIndexer, RestartClient, StepMerger, RestartMerger, StepDeleter, RestartDeleter, StepCollector, RestartCollector, RestartNode, Open, StepClient, Outcome}
use Rattle.node_run.specs.Telling.{LineMayTell}
use Rattle.node_run.specs.Turns.{LineLuck, Turn, Turned, turned, full_turn, reader_of}

-- no two of them hold one number
abbrev pub HoldApart : Indexer → Indexer → Type 0
HoldApart a b = (number : ℕ) → number_held a.place ≡ Some number → number_held b.place ≡ Some number → ⊥

abbrev pub AllApart : List Indexer → Type 0
AllApart [] = Unit {0}
AllApart (indexer ∷ indexers) = AllByRecursion (HoldApart indexer) indexers × AllApart indexers

-- a worker holds no indexer's number
abbrev pub HoldsOther : Worker → Indexer → Type 0
HoldsOther worker indexer = (number : ℕ) → workers.number_held worker ≡ Some number → number_held indexer.place ≡ Some number → ⊥

-- nor do two workers hold one
abbrev pub WorkApart : Worker → Worker → Type 0
WorkApart a b = (number : ℕ) → workers.number_held a ≡ Some number → workers.number_held b ≡ Some number → ⊥

-- The parts of a node of the code stand for this one. `firsts` are its logs as they were handed in.
pub record PartsStand {L : Type 0} (told : L → Option Log) (count : L → ℕ) (since : L → L → Type 0) (firsts : List L)
    (world : Keeping) (readers : List (Reader L)) (merger deleter : WorkerPlace) (searchers : List Searcher) (places : List (List ℕ × ℕ)) (clock : ℕ) (is_down : Bool) (node : Node) : Type 0 where
  pub world_stands : WorldStands world node.core node.log
  pub is_log : IsLog node.log
  pub moment : clock ≡ node.core.clock
  pub down : is_down ≡ node.down
  pub indexers : AllZip (λ reader indexer. IndexerStands told count reader indexer node.core node.log) readers node.indexers
  pub apart : AllApart node.indexers
  pub merging : PlaceStands Merging node.log node.core merger node.merger
  pub merger_apart : AllByRecursion (HoldsOther node.merger) node.indexers
  pub deleting : PlaceStands Deleting node.log node.core deleter node.deleter
  pub deleter_apart : AllByRecursion (HoldsOther node.deleter) node.indexers
  pub workers_apart : WorkApart node.merger node.deleter
  -- in the order in which lines named them
  pub clients : AllZip (λ searcher client. SearcherStands searcher client node.core node.log) searchers node.clients
  pub placed : HasPlaces places (names_of node.clients)
  pub later : AllZip since firsts (map (λ reader. reader.log) readers)

-- a reader of this log that was started and has done nothing
abbrev pub IsFresh : {L : Type 0} → (L → Option Log) → (L → ℕ) → L → Reader L → Type 0
IsFresh told count log reader =
    (reader.log ≡ log) × ((core : Core) (read : Log) → told log ≡ Some read → IndexerStands told count reader (reader_of (count log)) core read)

-- a node of the code stands for this one
abbrev pub NodeStands : {S L : Type 0} → (L → Option Log) → (L → ℕ) → (L → L → Type 0) → List L → DriveNode S L → Node → Type 0
NodeStands {S} {L} told count since firsts drive node =
    PartsStand told count since firsts drive.gate.world drive.indexers.items drive.merger.place drive.deleter.place drive.clients.items drive.places.entries drive.moment drive.down node

-- ---- start

-- a node of fresh readers over an opened world
abbrev pub fresh_node : Core → Log → List ℕ → Node
fresh_node core log counts = record { log = log; core = core; down = false; indexers = map reader_of counts; merger = workers.idle; deleter = workers.idle; clients = [] }

-- ---- accepts

abbrev pub max_clients : ℕ
max_clients = 10000

abbrev pub is_known : List ℕ → List Client → Bool
is_known name clients = list_any (λ client. bytes_eq client.name name) clients

abbrev pub accepts_indexer : ℕ → Node → Accepts
accepts_indexer i node = if nat_lt i (length node.indexers) then accepts.Yes else accepts.BadLine

abbrev pub accepts_client : List ℕ → Node → Accepts
accepts_client name node =
    if nat_lt (length node.clients) max_clients || is_known name node.clients then accepts.Yes else accepts.TooManyClients

-- an indexer has a number, a moment doesn't fall, and a client is known or one of the first 10,000
abbrev pub accepts_of : Node → Line → Accepts
accepts_of node (At moment) = if nat_lt moment node.core.clock then accepts.BadLine else accepts.Yes
accepts_of node (Assign i names) = accepts_indexer i node
accepts_of node (StepIndexer i) = accepts_indexer i node
accepts_of node (RestartIndexer i) = accepts_indexer i node
accepts_of node (RestartClient name) = accepts_client name node
accepts_of node StepMerger = accepts.Yes
accepts_of node RestartMerger = accepts.Yes
accepts_of node StepDeleter = accepts.Yes
accepts_of node RestartDeleter = accepts.Yes
accepts_of node StepCollector = accepts.Yes
accepts_of node RestartCollector = accepts.Yes
accepts_of node RestartNode = accepts.Yes
accepts_of node (Open name text) = accepts_client name node
accepts_of node (StepClient name) = accepts_client name node

-- ---- step

-- the printed line of what was said; without memory nothing is said
abbrev pub IsSaid : Result OutLine AllocError → Option Outcome → Type 0
IsSaid (Ok out) (Some outcome) = out.bytes ≡ outcome_text outcome
IsSaid (Ok out) None = ⊥
IsSaid (Err refused) (Some outcome) = ⊥
IsSaid (Err refused) None = Unit {0}

-- a line was done: it is a turn of the node that this one stood for, and it stands for the node behind it
pub record DoesLine {S L : Type 0} (told : L → Option Log) (count : L → ℕ) (since : L → L → Type 0) (firsts : List L) (node : Node) (line : Line)
    (result : Result OutLine AllocError) (new : DriveNode S L) : Type 0 where
  pub outcome : Option Outcome
  pub last : Node
  pub turn : Turn node line outcome last
  pub says : IsSaid result outcome
  -- no key is foreign, and what fails but for an entry, or a fetch that comes too late, is the store
  pub tells : LineMayTell outcome
  pub stands : NodeStands told count since firsts new last

-- A line was done in full, or, without memory, not at all or as far as it went. What it holds then is dropped later.
abbrev pub DoesMost : {S L : Type 0} → (L → Option Log) → (L → ℕ) → (L → L → Type 0) → List L → Node → Line → Result OutLine AllocError → DriveNode S L → Type 0
DoesMost told count since firsts node line (Ok out) new =
    (luck : LineLuck) × (outcome : Outcome) × (last : Node) × (full_turn luck node line ≡ turned outcome last)
    × (out.bytes ≡ outcome_text outcome) × NodeStands told count since firsts new last
DoesMost told count since firsts node line (Err refused) new =
    NodeStands told count since firsts new node
    ⊎ ((luck : LineLuck) × (turn : Turned) × (full_turn luck node line ≡ turn) × NodeStands told count since firsts new turn.node)

-- ---- finish

-- these logs are later states of the first ones, one of each, and these are their counts
pub record GivesLogs {L : Type 0} (count : L → ℕ) (since : L → L → Type 0) (firsts lasts : List L) (counts : List ℕ) : Type 0 where
  pub later : AllZip since firsts lasts
  pub counts_are : map count lasts ≡ counts

-- these are the counts of logs that are later states of the first ones, and this is their sum
pub record LetGo {L : Type 0} (count : L → ℕ) (since : L → L → Type 0) (firsts : List L) (counts : List ℕ) (total : ℕ) : Type 0 where
  pub lasts : List L
  pub later : AllZip since firsts lasts
  pub counts_are : map count lasts ≡ counts
  pub sum_is : total ≡ min (sum (map count lasts)) last_count

-- the store that a node gives back is that of its core
pub record GivesStore {S : Type 0} (told : S → Option State) (count : S → ℕ) (store : S) (core : Core) (log : Log) : Type 0 where
  pub kept : State
  pub tells : told store ≡ Some kept
  pub world : IsWorld kept core log
  pub faults : count store ≡ core.store_faults
