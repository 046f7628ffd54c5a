-- A batch that is made of a log.
use Rattle.std.specs.Prelude.{◌≡◌, ◌⊎◌, ℕ, ◌<◌, ◌≤◌, false, List, [], ◌∷◌, ◌++◌, length, Option, Some, None, All, AllPairs, bytes_eq}
use Rattle.std.specs.List.{AllByRecursion}
use Rattle.source_checkpoint.specs.Names.{IsPartition}
use Rattle.source_checkpoint.specs.declared.delta.Part.{Part}
use Rattle.source_checkpoint.specs.declared.ledger.Checkpoint.{Checkpoint}
use Rattle.source_log.specs.Log.{Log, records_of}
use Rattle.index_world.specs.Seen.{accepted_in, record_count}
use Rattle.split_bundle.specs.Documents.{total_weight}
use Rattle.split_bundle.specs.Splits.{max_weight}
use Rattle.indexing_run.specs.Places.{Batch}
use Rattle.indexing_run.specs.Steps.{is_empty, max_batch_weight}

-- no part has this name
abbrev pub IsNew : List Part → List ℕ → Type 0
IsNew parts name = AllByRecursion (λ p. bytes_eq p.partition name ≡ false) parts

-- the last part is of this name and ends here
pub record IsLast (parts : List Part) (mark : Checkpoint) : Type 0 where
  pub front : List Part
  pub from : ℕ
  pub is : parts ≡ front ++ record { partition = mark.partition; from = from; to = mark.at } ∷ []
  pub rises : from ≤ mark.at
  pub new : IsNew front mark.partition

-- what is read next goes on where the parts end
abbrev pub Follows : List Part → Checkpoint → Type 0
Follows parts mark = IsNew parts mark.partition ⊎ IsLast parts mark

abbrev pub AreOthers : List ℕ → List Checkpoint → Type 0
AreOthers name marks = AllByRecursion (λ m. bytes_eq name m.partition ≡ false) marks

abbrev pub AreNew : List Part → List Checkpoint → Type 0
AreNew parts [] = Unit {0}
AreNew parts (m ∷ ms) = IsNew parts m.partition × AreOthers m.partition ms × AreNew parts ms

-- the partitions that are still to be read differ, and the first goes on where the parts end
abbrev pub IsQueue : List Part → List Checkpoint → Type 0
IsQueue parts [] = Unit {0}
IsQueue parts (mark ∷ rest) = Follows parts mark × AreOthers mark.partition rest × AreNew parts rest

abbrev pub EndWithin : Log → List Part → Type 0
EndWithin log parts = AllByRecursion (λ part. part.to ≤ length (records_of log part.partition)) parts

-- the batch has the accepted records of its parts under its configuration, and keeps a split's limits
pub record IsBatch (log : Log) (batch : Batch) : Type 0 where
  pub documents : batch.documents ≡ accepted_in batch.config log batch.parts
  pub ends : EndWithin log batch.parts
  pub count : record_count batch.parts ≡ batch.count
  pub less : length batch.documents ≤ batch.count
  pub few : batch.count ≤ batch.config.docs_target
  pub weighs : total_weight batch.documents ≤ max_weight
  pub queue : IsQueue batch.parts batch.queue
  -- before it is closed there is room for a record, and something to read
  pub calm : batch.closed ≡ false → total_weight batch.documents ≤ max_batch_weight
  pub room : batch.closed ≡ false → batch.count < batch.config.docs_target
  pub ahead : batch.closed ≡ false → is_empty batch.queue ≡ false

-- the names differ
abbrev pub AreApart : List (List ℕ) → Type 0
AreApart [] = Unit {0}
AreApart (name ∷ names) = AllByRecursion (λ other. bytes_eq name other ≡ false) names × AreApart names

-- an assignment has different partitions
abbrev pub IsAssigned : Option (List (List ℕ)) → Type 0
IsAssigned None = Unit {0}
IsAssigned (Some names) = All IsPartition names × AllPairs (λ a b. a ≡ b → ⊥) names
