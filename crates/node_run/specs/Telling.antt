-- Which faults a node over a sound index tells: no key is foreign to it, only an entry of an indexer, of a worker, of the collector or of a
-- client's delete meets a full journal, only one of an indexer, of a worker or of a client's delete is refused, and only a search or a worker
-- comes too late.
use Rattle.std.specs.Prelude.{Option, Some, None}
use Rattle.index_world.specs.Calls.{Fault, store_fault, is_foreign, is_full, is_expired}
use Rattle.call_laws.specs.Faults.{IsNotForeign, IsOfStore}
use Rattle.indexing_run.specs.Outcomes.{IndexerOutcome}
use Rattle.indexing_run.specs.Outcomes as indexing
use Rattle.root_search.specs.declared.outcome.SearchStep.{SearchStep}
use Rattle.root_search.specs.declared.outcome.SearchStep.TheVariants.{Idle, Planned, Fetched, Replied}
use Rattle.search_api.specs.declared.reply.Refusal.{Refusal}
use Rattle.search_api.specs.declared.reply.Refusal.TheVariants as refusals
use Rattle.search_api.specs.declared.reply.Said.{Said}
use Rattle.search_api.specs.declared.reply.Said.TheVariants.{Found, Deleted, Refused}
use Rattle.request_laws.specs.OfText.{IsOfText}
use Rattle.split_collector.specs.Outcomes.{Outcome as CollectorOutcome}
use Rattle.split_collector.specs.Outcomes as collecting
use Rattle.upkeep_run.specs.Outcomes.{UpkeepOutcome}
use Rattle.upkeep_run.specs.Outcomes as working
use Rattle.upkeep_run.specs.declared.work.Aim.{Aim}
use Rattle.upkeep_run.specs.declared.work.Aim.TheVariants.{Merging, Deleting}
use Rattle.node_run.specs.Node.{NodeFault, world_fault, no_index, Outcome, at_said, assigned, indexer_busy, indexer_said, indexer_down, indexer_restarted, client_restarted, worker_said, worker_down, worker_restarted, collector_said, collector_down, collector_restarted, node_restarted, node_failed, request_opened, request_busy, client_said, client_down}

abbrev pub IndexerMayTell : IndexerOutcome → Type 0
IndexerMayTell indexing.Checkpoint = Unit {0}
IndexerMayTell (indexing.Read count) = Unit {0}
IndexerMayTell (indexing.Staged number) = Unit {0}
IndexerMayTell (indexing.Uploaded number) = Unit {0}
IndexerMayTell (indexing.Published number) = Unit {0}
IndexerMayTell indexing.CaughtUp = Unit {0}
IndexerMayTell (indexing.Stale partition current from) = Unit {0}
IndexerMayTell (indexing.Lost number refusal) = Unit {0}
IndexerMayTell (indexing.Refused refusal) = Unit {0}
IndexerMayTell (indexing.SourceFault before after) = Unit {0}
IndexerMayTell (indexing.Faulted fault) = IsNotForeign fault

-- A worker's entry may meet a full journal, and its fetch come too late.
abbrev pub IsOfWork : Fault → Type 0
IsOfWork (store_fault before after) = Unit {0}
IsOfWork (is_foreign key) = ⊥
IsOfWork is_full = Unit {0}
IsOfWork (is_expired planned_at now) = Unit {0}

-- a merger makes a new row in each case
abbrev pub MayRaise : Aim → Type 0
MayRaise Merging = ⊥
MayRaise Deleting = Unit {0}

abbrev pub WorkerMayTell : Aim → UpkeepOutcome → Type 0
WorkerMayTell aim working.Nothing = Unit {0}
WorkerMayTell aim (working.Planned count) = Unit {0}
WorkerMayTell aim (working.Fetched number) = Unit {0}
WorkerMayTell aim (working.Staged number) = Unit {0}
WorkerMayTell aim (working.Uploaded number) = Unit {0}
WorkerMayTell aim (working.Replaced number) = Unit {0}
WorkerMayTell aim (working.Raised number) = MayRaise aim
WorkerMayTell aim (working.Lost number refusal) = Unit {0}
WorkerMayTell aim (working.Refused refusal) = Unit {0}
WorkerMayTell aim (working.Faulted fault) = IsOfWork fault

-- no key is foreign, and none of its own entries is refused
abbrev pub CollectorMayTell : CollectorOutcome → Type 0
CollectorMayTell (collecting.MarkedStale count) = Unit {0}
CollectorMayTell (collecting.Doomed number) = Unit {0}
CollectorMayTell (collecting.Removed count) = Unit {0}
CollectorMayTell (collecting.Swept number) = Unit {0}
CollectorMayTell collecting.Nothing = Unit {0}
CollectorMayTell (collecting.Refused refusal) = ⊥
CollectorMayTell (collecting.Faulted fault) = IsNotForeign fault

-- the store failed, a plan's files may be gone, there is no room for the task of a delete, or the text is refused
abbrev pub RefusalMayTell : Refusal → Type 0
RefusalMayTell (refusals.StoreFault before after) = Unit {0}
RefusalMayTell (refusals.Expired planned_at now) = Unit {0}
RefusalMayTell (refusals.TooManyTasks count) = Unit {0}
RefusalMayTell refusals.Full = Unit {0}
RefusalMayTell refusal = IsOfText refusal

abbrev pub SaidMayTell : Said → Type 0
SaidMayTell (Found count hits aggregations) = Unit {0}
SaidMayTell (Deleted opstamp) = Unit {0}
SaidMayTell (Refused refusal) = RefusalMayTell refusal

abbrev pub SearchMayTell : SearchStep → Type 0
SearchMayTell Idle = Unit {0}
SearchMayTell (Planned revision count) = Unit {0}
SearchMayTell (Fetched number) = Unit {0}
SearchMayTell (Replied reply) = SaidMayTell reply.said

abbrev pub NodeMayTell : NodeFault → Type 0
NodeMayTell (world_fault fault) = IsOfStore fault
NodeMayTell no_index = Unit {0}

abbrev pub MayTell : Outcome → Type 0
MayTell (at_said moment) = Unit {0}
MayTell (assigned indexer count) = Unit {0}
MayTell (indexer_busy indexer) = Unit {0}
MayTell (indexer_said indexer outcome) = IndexerMayTell outcome
MayTell (indexer_down indexer) = Unit {0}
MayTell (indexer_restarted indexer) = Unit {0}
MayTell (client_restarted name) = Unit {0}
MayTell (worker_said aim outcome) = WorkerMayTell aim outcome
MayTell (worker_down aim) = Unit {0}
MayTell (worker_restarted aim) = Unit {0}
MayTell (collector_said outcome) = CollectorMayTell outcome
MayTell collector_down = Unit {0}
MayTell collector_restarted = Unit {0}
MayTell (node_restarted revision) = Unit {0}
MayTell (node_failed fault) = NodeMayTell fault
MayTell (request_opened name) = Unit {0}
MayTell (request_busy name) = Unit {0}
MayTell (client_said name outcome) = SearchMayTell outcome
MayTell (client_down name) = Unit {0}

-- without an outcome nothing is told
abbrev pub LineMayTell : Option Outcome → Type 0
LineMayTell None = Unit {0}
LineMayTell (Some outcome) = MayTell outcome
