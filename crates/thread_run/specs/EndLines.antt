-- The lines in which ends are told: a name and the words of a last outcome, as a schedule's lines have them.
use Rattle.std.specs.Prelude.{◌≡◌, ℕ, Bool, true, false, List, [], ◌∷◌, decimal, codes, Option, Some, None}
use Rattle.std.specs.Option.{option_map}
use Rattle.index_world.specs.Saying.{with_words, words}
use Rattle.indexing_run.specs.Standing.{said_words as indexer_words}
use Rattle.indexing_run.specs.declared.indexing.IndexerEnd.{IndexerEnd}
use Rattle.indexing_run.specs.declared.indexing.IndexerEnd.TheVariants as indexers
use Rattle.indexing_run.specs.declared.outcome.IndexerOutcome.TheVariants as indexed
use Rattle.split_collector.specs.Standing.{said_words as collector_words}
use Rattle.split_collector.specs.declared.collecting.CollectorEnd.{CollectorEnd}
use Rattle.split_collector.specs.declared.collecting.CollectorEnd.TheVariants as collectors
use Rattle.split_collector.specs.declared.outcome.CollectorOutcome.TheVariants as collected
use Rattle.upkeep_run.specs.Standing.{said_words as worker_words}
use Rattle.upkeep_run.specs.declared.outcome.UpkeepOutcome.TheVariants as worked
use Rattle.upkeep_run.specs.declared.working.WorkerEnd.{WorkerEnd}
use Rattle.upkeep_run.specs.declared.working.WorkerEnd.TheVariants as workers
use Rattle.thread_run.specs.declared.end_lines.ActorEnd.{ActorEnd}
use Rattle.thread_run.specs.declared.end_lines.ActorEnd.TheVariants as actors
use Rattle.thread_run.specs.declared.settling.Settled.{Settled}
use Rattle.thread_run.specs.declared.settling.Settled.TheVariants as settled

-- The words of an end are those of its last outcome. Turns that were used up are told so, and want of memory isn't told.
abbrev pub indexer_end_words : IndexerEnd → Option (List (List ℕ))
indexer_end_words indexers.CaughtUp = Some (indexer_words indexed.CaughtUp)
indexer_end_words (indexers.Refused refusal) = Some (indexer_words (indexed.Refused refusal))
indexer_end_words (indexers.Fault error) = Some (indexer_words (indexed.Fault error))
indexer_end_words (indexers.SourceFault before after) = Some (indexer_words (indexed.SourceFault before after))
indexer_end_words indexers.Turns = Some (codes "turns" ∷ [])
indexer_end_words indexers.Memory = None

abbrev pub worker_end_words : WorkerEnd → Option (List (List ℕ))
worker_end_words workers.Nothing = Some (worker_words worked.Nothing)
worker_end_words (workers.Refused refusal) = Some (worker_words (worked.Refused refusal))
worker_end_words (workers.Fault error) = Some (worker_words (worked.Fault error))
worker_end_words workers.Turns = Some (codes "turns" ∷ [])
worker_end_words workers.Memory = None

abbrev pub collector_end_words : CollectorEnd → Option (List (List ℕ))
collector_end_words collectors.Nothing = Some (collector_words collected.Nothing)
collector_end_words (collectors.Fault error) = Some (collector_words (collected.Fault error))
collector_end_words collectors.Turns = Some (codes "turns" ∷ [])
collector_end_words collectors.Memory = None

-- behind the actor's name, and an indexer's number
abbrev pub end_words : ActorEnd → Option (List (List ℕ))
end_words (actors.Indexer number end) = option_map (λ more. codes "indexer" ∷ decimal number ∷ more) (indexer_end_words end)
end_words (actors.Merger end) = option_map (λ more. codes "merger" ∷ more) (worker_end_words end)
end_words (actors.Deleter end) = option_map (λ more. codes "deleter" ∷ more) (worker_end_words end)
end_words (actors.Collector end) = option_map (λ more. codes "collector" ∷ more) (collector_end_words end)

-- THE LINE OF AN END, without its line feed
abbrev pub end_text : ActorEnd → Option (List ℕ)
end_text end = option_map words (end_words end)

-- THE LINE OF WHAT SETTLING CAME TO
abbrev pub settled_text : Settled → List ℕ
settled_text settled.Whole = codes "settled"
settled_text (settled.Refused refusal) = words (codes "settle" ∷ worker_words (worked.Refused refusal))
settled_text (settled.Fault error) = words (codes "settle" ∷ worker_words (worked.Fault error))

-- words were put behind what was said, where there are any
abbrev pub IsPut : Option (List (List ℕ)) → (put : Bool) → (before after : List ℕ) → Type 0
IsPut None put before after = put ≡ false
IsPut (Some more) put before after = (put ≡ true) × (after ≡ with_words before more)
