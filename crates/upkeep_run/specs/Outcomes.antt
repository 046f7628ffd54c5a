-- What a step of a merger or a delete worker says.
use Rattle.std.specs.Prelude.{ℕ, List, [], ◌∷◌, decimal, codes}
use Rattle.meta_store.specs.declared.refusal.Refusal.{Refusal}
use Rattle.index_world.specs.Calls.{Fault}
use Rattle.index_world.specs.Saying.{fault_words, refusal_words}

pub data UpkeepOutcome : Type 0 where
  Nothing : UpkeepOutcome
  Planned : (count : ℕ) → UpkeepOutcome
  Fetched : (number : ℕ) → UpkeepOutcome
  Staged : (number : ℕ) → UpkeepOutcome
  Uploaded : (number : ℕ) → UpkeepOutcome
  Replaced : (number : ℕ) → UpkeepOutcome
  Raised : (number : ℕ) → UpkeepOutcome
  Lost : (number : ℕ) → (refusal : Refusal) → UpkeepOutcome
  Refused : (refusal : Refusal) → UpkeepOutcome
  Faulted : Fault → UpkeepOutcome

-- the words of an outcome, without the actor's name
abbrev pub outcome_words : UpkeepOutcome → List (List ℕ)
outcome_words Nothing = codes "nothing" ∷ []
outcome_words (Planned count) = codes "planned" ∷ decimal count ∷ []
outcome_words (Fetched number) = codes "fetched" ∷ decimal number ∷ []
outcome_words (Staged number) = codes "staged" ∷ decimal number ∷ []
outcome_words (Uploaded number) = codes "uploaded" ∷ decimal number ∷ []
outcome_words (Replaced number) = codes "replaced" ∷ decimal number ∷ []
outcome_words (Raised number) = codes "raised" ∷ decimal number ∷ []
outcome_words (Lost number refusal) = codes "lost" ∷ decimal number ∷ refusal_words refusal
outcome_words (Refused refusal) = codes "refused" ∷ refusal_words refusal
outcome_words (Faulted fault) = fault_words fault
