-- What a step of an indexer says.
use Rattle.std.specs.Prelude.{ℕ, List, [], ◌∷◌, decimal, codes}
use Rattle.meta_store.specs.declared.refusal.Refusal.{Refusal}
use Rattle.index_world.specs.Calls.{Fault}
pub use Rattle.index_world.specs.Saying.{words, stale_words, state_words, refusal_words, fault_words}

pub data IndexerOutcome : Type 0 where
  Checkpoint : IndexerOutcome
  Read : (count : ℕ) → IndexerOutcome
  Staged : (number : ℕ) → IndexerOutcome
  Uploaded : (number : ℕ) → IndexerOutcome
  Published : (number : ℕ) → IndexerOutcome
  CaughtUp : IndexerOutcome
  Stale : (partition : List ℕ) → (current : ℕ) → (from : ℕ) → IndexerOutcome
  Lost : (number : ℕ) → (refusal : Refusal) → IndexerOutcome
  Refused : (refusal : Refusal) → IndexerOutcome
  SourceFault : (before : ℕ) → (after : ℕ) → IndexerOutcome
  Faulted : Fault → IndexerOutcome

-- the words of an outcome, without the indexer's name
abbrev pub outcome_words : IndexerOutcome → List (List ℕ)
outcome_words Checkpoint = codes "checkpoint" ∷ []
outcome_words (Read count) = codes "read" ∷ decimal count ∷ []
outcome_words (Staged number) = codes "staged" ∷ decimal number ∷ []
outcome_words (Uploaded number) = codes "uploaded" ∷ decimal number ∷ []
outcome_words (Published number) = codes "published" ∷ decimal number ∷ []
outcome_words CaughtUp = codes "caughtup" ∷ []
outcome_words (Stale partition current from) = codes "stale" ∷ partition ∷ decimal current ∷ decimal from ∷ []
outcome_words (Lost number refusal) = codes "lost" ∷ decimal number ∷ refusal_words refusal
outcome_words (Refused refusal) = codes "refused" ∷ refusal_words refusal
outcome_words (SourceFault before after) = codes "sourcefault" ∷ decimal before ∷ decimal after ∷ []
outcome_words (Faulted fault) = fault_words fault
