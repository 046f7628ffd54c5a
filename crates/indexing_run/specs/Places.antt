-- What an indexer holds between its steps.
use Rattle.std.specs.Prelude.{ℕ, ◌-◌, Bool, true, false, List, length, Option, Some, None}
use Rattle.index_config.specs.declared.config.IndexConfig.{IndexConfig}
use Rattle.split_bundle.specs.declared.placed.Placed.{Placed}
use Rattle.source_checkpoint.specs.declared.delta.Part.{Part}
use Rattle.source_checkpoint.specs.declared.ledger.Checkpoint.{Checkpoint}
use Rattle.source_log.specs.Log.{Log}
use Rattle.split_states.specs.declared.facts.RowFacts.{RowFacts}
use Rattle.index_world.specs.Core.{Core, IsConfigured, IsUnusedIn, IsUploadedIn, HasStagedIn}
use Rattle.index_world.specs.Index.{IsMade}
use Rattle.index_world.specs.Seen.{record_count}
use Rattle.index_world.specs.SplitFile.{file_of, facts_of}

-- what was read since the checkpoints were taken
pub record Batch : Type 0 where
  pub config : IndexConfig  -- that of the index
  pub queue : List Checkpoint  -- what is still to be read, each from its place on; the first is current
  pub parts : List Part  -- what was read, in the order of reading
  pub documents : List Placed  -- the accepted ones
  pub count : ℕ  -- how many records
  pub first_read : Option ℕ  -- the moment of the first read
  pub closed : Bool

-- a delta and its documents under a staged number
pub record IndexerHeld : Type 0 where
  pub config : IndexConfig  -- that of the index
  pub number : ℕ
  pub delta : List Part
  pub documents : List Placed

pub data IndexerPlace : Type 0 where
  idle : IndexerPlace
  reading : Batch → IndexerPlace
  staged : IndexerHeld → IndexerPlace
  uploaded : IndexerHeld → IndexerPlace

abbrev pub is_idle : IndexerPlace → Bool
is_idle idle = true
is_idle (reading batch) = false
is_idle (staged held) = false
is_idle (uploaded held) = false

pub record Indexer : Type 0 where
  pub assignment : Option (List (List ℕ))
  pub place : IndexerPlace
  pub log_faults : ℕ

-- ---- what is known of what it holds

-- the facts of a delta's split
abbrev pub held_facts : IndexerHeld → RowFacts
held_facts held = facts_of held.config held.documents (record_count held.delta - length held.documents)

pub record IsStagedHeld (log : Log) (core : Core) (held : IndexerHeld) : Type 0 where
  pub configured : IsConfigured held.config core
  pub unused : IsUnusedIn core held.number
  pub staged : HasStagedIn core held.number held.delta (held_facts held)
  pub made : IsMade held.config log held.delta (held_facts held) (file_of held.config held.documents)

pub record IsUploadedHeld (log : Log) (core : Core) (held : IndexerHeld) : Type 0 where
  pub configured : IsConfigured held.config core
  pub uploaded : IsUploadedIn core held.number (file_of held.config held.documents)
  pub staged : HasStagedIn core held.number held.delta (held_facts held)
  pub made : IsMade held.config log held.delta (held_facts held) (file_of held.config held.documents)

-- the number that it holds, if it holds one
abbrev pub number_held : IndexerPlace → Option ℕ
number_held idle = None
number_held (reading batch) = None
number_held (staged held) = Some held.number
number_held (uploaded held) = Some held.number
