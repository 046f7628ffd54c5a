-- What a step asks of its gate.
use Rattle.std.specs.Prelude.{◌≡◌, Option, Some, None, if◌then◌else◌, ⊤}
use Rattle.index_world.specs.CallsMade.{Ask, of_checkpoints, of_moment, of_stage, of_upload, of_publish}
use Rattle.index_world.specs.SplitFile.{file_of}
use Rattle.indexing_run.specs.Outcomes.{IndexerOutcome, Checkpoint, Read, Staged, Uploaded, Published, CaughtUp, Stale, Lost, Refused, SourceFault, Faulted}
use Rattle.indexing_run.specs.Places.{IndexerPlace, idle, reading, staged, uploaded}
use Rattle.indexing_run.specs.Steps.{batch_facts}

-- the one call that a step at this place makes
abbrev pub ask_of : IndexerPlace → Ask
ask_of idle = of_checkpoints
ask_of (reading batch) = if batch.closed then of_stage batch.parts (batch_facts batch) else of_moment
ask_of (staged held) = of_upload held.number (file_of held.config held.documents)
ask_of (uploaded held) = of_publish held.number

abbrev pub IsIdle : IndexerPlace → Type 0
IsIdle idle = ⊤
IsIdle (reading batch) = ⊥
IsIdle (staged held) = ⊥
IsIdle (uploaded held) = ⊥

abbrev pub HasNoRecord : IndexerPlace → Type 0
HasNoRecord idle = ⊥
HasNoRecord (reading batch) = batch.count ≡ 0
HasNoRecord (staged held) = ⊥
HasNoRecord (uploaded held) = ⊥

-- A step from this place that ends so may have made no call: it found no memory, its batch has no record, or the log failed that gives
-- an idle one its names.
abbrev pub IsCallFree : IndexerPlace → Option IndexerOutcome → Type 0
IsCallFree place None = ⊤
IsCallFree place (Some Checkpoint) = ⊥
IsCallFree place (Some (Read count)) = ⊥
IsCallFree place (Some (Staged number)) = ⊥
IsCallFree place (Some (Uploaded number)) = ⊥
IsCallFree place (Some (Published number)) = ⊥
IsCallFree place (Some CaughtUp) = HasNoRecord place
IsCallFree place (Some (Stale partition current from)) = ⊥
IsCallFree place (Some (Lost number refusal)) = ⊥
IsCallFree place (Some (Refused refusal)) = ⊥
IsCallFree place (Some (SourceFault before after)) = IsIdle place
IsCallFree place (Some (Faulted fault)) = ⊥
