-- How lines and outcomes are spelled. A line has one spelling, so a text is a line where it is some line's spelling.
use Rattle.std.specs.Prelude.{◌≡◌, ℕ, ◌^◌, ◌<◌, ◌≤◌, List, [], ◌∷◌, ◌++◌, length, All, AllPairs, decimal, codes}
use Rattle.source_checkpoint.specs.Names.{IsPartition}
use Rattle.byte_fields.specs.ClientName.{IsClientName}
use Rattle.indexing_run.specs.Outcomes.{words, outcome_words, fault_words}
use Rattle.search_api.specs.Replies.{reply_text}
use Rattle.root_search.specs.Steps.{step_words}
use Rattle.root_search.specs.declared.outcome.SearchStep.{SearchStep}
use Rattle.root_search.specs.declared.outcome.SearchStep.TheVariants.{Idle, Planned, Fetched, Replied}
use Rattle.split_collector.specs.Outcomes.{outcome_words as collector_words}
use Rattle.upkeep_run.specs.Outcomes.{outcome_words as upkeep_words}
use Rattle.upkeep_run.specs.declared.work.Aim.{Aim}
use Rattle.upkeep_run.specs.declared.work.Aim.TheVariants.{Merging, Deleting}
use Rattle.node_run.specs.Node.{Line, At, Assign, StepIndexer, RestartIndexer, RestartClient, StepMerger, RestartMerger, StepDeleter, RestartDeleter, StepCollector, RestartCollector, RestartNode, Open, StepClient, NodeFault, world_fault, no_index, Outcome, at_said, assigned, indexer_busy, indexer_said, indexer_down, indexer_restarted, client_restarted, worker_said, worker_down, worker_restarted, collector_said, collector_down, collector_restarted, node_restarted, node_failed, request_opened, request_busy, client_said, client_down}

abbrev pub line_text : Line → List ℕ
line_text (At moment) = words (codes "at" ∷ decimal moment ∷ [])
line_text (Assign indexer partitions) = words (codes "assign" ∷ decimal indexer ∷ partitions)
line_text (StepIndexer indexer) = words (codes "indexer" ∷ decimal indexer ∷ [])
line_text (RestartIndexer indexer) = words (codes "restart" ∷ codes "indexer" ∷ decimal indexer ∷ [])
line_text (RestartClient client) = words (codes "restart" ∷ codes "client" ∷ client ∷ [])
line_text StepMerger = words (codes "merger" ∷ [])
line_text RestartMerger = words (codes "restart" ∷ codes "merger" ∷ [])
line_text StepDeleter = words (codes "deleter" ∷ [])
line_text RestartDeleter = words (codes "restart" ∷ codes "deleter" ∷ [])
line_text StepCollector = words (codes "collector" ∷ [])
line_text RestartCollector = words (codes "restart" ∷ codes "collector" ∷ [])
line_text RestartNode = words (codes "restart" ∷ codes "node" ∷ [])
line_text (Open client text) = words (codes "client" ∷ client ∷ text ∷ [])
line_text (StepClient client) = words (codes "client" ∷ client ∷ [])

-- one to 64 different partitions
pub record AreNames (names : List (List ℕ)) : Type 0 where
  pub some : 1 ≤ length names
  pub most : length names ≤ 64
  pub each : All IsPartition names
  pub apart : AllPairs (λ a b. a ≡ b → ⊥) names

-- What the numbers and names of a line must be. The rest of a client's line is bytes as they stand, also none.
abbrev pub IsWellFormed : Line → Type 0
IsWellFormed (At moment) = moment < 2 ^ 62
IsWellFormed (Assign indexer partitions) = (indexer < 2 ^ 64) × AreNames partitions
IsWellFormed (StepIndexer indexer) = indexer < 2 ^ 64
IsWellFormed (RestartIndexer indexer) = indexer < 2 ^ 64
IsWellFormed (RestartClient client) = IsClientName client
IsWellFormed StepMerger = Unit {0}
IsWellFormed RestartMerger = Unit {0}
IsWellFormed StepDeleter = Unit {0}
IsWellFormed RestartDeleter = Unit {0}
IsWellFormed StepCollector = Unit {0}
IsWellFormed RestartCollector = Unit {0}
IsWellFormed RestartNode = Unit {0}
IsWellFormed (Open client text) = IsClientName client
IsWellFormed (StepClient client) = IsClientName client

-- the text is this line
pub record Spells (text : List ℕ) (line : Line) : Type 0 where
  pub is : text ≡ line_text line
  pub formed : IsWellFormed line

-- ---- outcomes

-- a reply is a line of its own; else the client's name comes first
abbrev pub search_text : List ℕ → SearchStep → List ℕ
search_text name Idle = words (name ∷ step_words Idle)
search_text name (Planned revision count) = words (name ∷ step_words (Planned revision count))
search_text name (Fetched number) = words (name ∷ step_words (Fetched number))
search_text name (Replied reply) = reply_text reply

abbrev pub node_fault_words : NodeFault → List (List ℕ)
node_fault_words (world_fault fault) = fault_words fault
node_fault_words no_index = codes "noindex" ∷ []

-- a worker's name
abbrev pub worker_word : Aim → List ℕ
worker_word Merging = codes "merger"
worker_word Deleting = codes "deleter"

-- the printed line of an outcome, without its line feed
abbrev pub outcome_text : Outcome → List ℕ
outcome_text (at_said moment) = words (codes "at" ∷ decimal moment ∷ [])
outcome_text (assigned indexer count) = words (codes "indexer" ∷ decimal indexer ∷ codes "assigned" ∷ decimal count ∷ [])
outcome_text (indexer_busy indexer) = words (codes "indexer" ∷ decimal indexer ∷ codes "busy" ∷ [])
outcome_text (indexer_said indexer outcome) = words (codes "indexer" ∷ decimal indexer ∷ outcome_words outcome)
outcome_text (indexer_down indexer) = words (codes "indexer" ∷ decimal indexer ∷ codes "down" ∷ [])
outcome_text (indexer_restarted indexer) = words (codes "indexer" ∷ decimal indexer ∷ codes "restarted" ∷ [])
outcome_text (client_restarted name) = words (name ∷ codes "restarted" ∷ [])
outcome_text (worker_said aim outcome) = words (worker_word aim ∷ upkeep_words outcome)
outcome_text (worker_down aim) = words (worker_word aim ∷ codes "down" ∷ [])
outcome_text (worker_restarted aim) = words (worker_word aim ∷ codes "restarted" ∷ [])
outcome_text (collector_said outcome) = words (codes "collector" ∷ collector_words outcome)
outcome_text collector_down = words (codes "collector" ∷ codes "down" ∷ [])
outcome_text collector_restarted = words (codes "collector" ∷ codes "restarted" ∷ [])
outcome_text (node_restarted revision) = words (codes "node" ∷ codes "restarted" ∷ decimal revision ∷ [])
outcome_text (node_failed fault) = words (codes "node" ∷ node_fault_words fault)
outcome_text (request_opened name) = words (name ∷ codes "opened" ∷ [])
outcome_text (request_busy name) = words (name ∷ codes "busy" ∷ [])
outcome_text (client_said name outcome) = search_text name outcome
outcome_text (client_down name) = words (name ∷ codes "down" ∷ [])

-- the printed lines, each with its line feed
abbrev pub printed : List Outcome → List ℕ
printed [] = []
printed (outcome ∷ outcomes) = outcome_text outcome ++ (10 ∷ printed outcomes)
