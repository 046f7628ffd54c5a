-- What an indexer's end says of its partitions, and how many steps it may take.
use Rattle.std.specs.Prelude.{◌≡◌, ℕ, ◌+◌, ◌*◌, ◌^◌, List, length}
use Rattle.std.specs.List.{AllByRecursion}
use Rattle.meta_journal.specs.declared.entry.Entry.{Entry}
use Rattle.meta_store.specs.History.{history}
use Rattle.meta_store.specs.State.{checkpoints_of}
use Rattle.source_checkpoint.specs.Checkpoints.{checkpoint_at}
use Rattle.source_log.specs.Log.{Log, records_of}
use Rattle.index_world.specs.SplitFile.{max_documents}

-- the checkpoint of each of these partitions is the number of its records
abbrev pub AreEnds : Log → (names : List (List ℕ)) → List Entry → Type 0
AreEnds log names entries = AllByRecursion (λ name. checkpoint_at (checkpoints_of (history entries)) name ≡ length (records_of log name)) names

-- How many steps an idle indexer of so many partitions takes before its next Stage at most: it asks for the checkpoints, and each read takes
-- a record, of which a batch has no more than this, or leaves a partition behind.
abbrev pub steps_to_stage : (partitions : ℕ) → ℕ
steps_to_stage partitions = max_documents + partitions + 1

-- HOW MANY STEPS AN INDEXER THAT WAS IDLE TAKES at most while so many entries come to the history: each of its Stages is one of them, and
-- behind it come an upload, a Publish and the steps before the next one.
abbrev pub most_steps : (partitions entries : ℕ) → ℕ
most_steps partitions entries = steps_to_stage partitions + (steps_to_stage partitions + 3) * entries

-- Of so many partitions, and while a journal has no more entries than it may, these are fewer than 2^64 - 1.
abbrev pub most_partitions : ℕ
most_partitions = 2 ^ 40
