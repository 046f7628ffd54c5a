-- What an indexer holds, from one call of a world to the next.
use Rattle.std.proofs.Common.{◌≡◌, ℕ, ◌-◌, sym, ap, subst, length}
use Rattle.std.specs.Prelude.{Option, Some}
use Rattle.source_log.specs.Log.{Log}
use Rattle.index_world.specs.Core.{Core, IsConfigured, IsUploadedIn, HasStagedIn, KeepsFor, IsOther}
use Rattle.index_world.specs.Gate.{IsStagedIn, IsPublishable}
use Rattle.index_world.specs.Index.{IsMade}
use Rattle.index_world.specs.SplitFile.{file_of, facts_of, AreSplit}
use Rattle.indexing_run.specs.Places.{Batch, IndexerHeld, held_facts, IsStagedHeld, IsUploadedHeld}
use Rattle.indexing_run.specs.Places.{IndexerPlace, Indexer, number_held}
use Rattle.indexing_run.specs.Standing.{PlaceStands, HoldsOwn, IndexerStands}
use Rattle.indexing_run.specs.Steps.{batch_facts, held_of}
use Rattle.indexing_run.specs.declared.indexer.Indexer.{Indexer as Reader}
use Rattle.indexing_run.specs.declared.indexer.IndexerPlace.{IndexerPlace as HeldPlace}
use Rattle.indexing_run.specs.declared.indexer.IndexerPlace.TheVariants as places
use Rattle.index_world.specs.World.{GoesOn}
use Rattle.indexing_run.specs.Making.{IsBatch}
use Rattle.indexing_run.proofs.Batches.{batch_is_made}

-- the facts under the number are those that it was staged with
facts_held : (log : Log) (batch : Batch) (number : ℕ) → IsBatch log batch → batch_facts batch ≡ held_facts (held_of batch number)
facts_held log batch number b = ap (λ c. facts_of batch.config batch.documents (c - length batch.documents)) (sym b.count)

-- a closed batch that was staged is held
pub staged_is_held : (log : Log) (core : Core) (batch : Batch) (number : ℕ) → IsBatch log batch → AreSplit batch.config batch.documents → IsConfigured batch.config core → IsStagedIn batch.parts (batch_facts batch) core number → IsStagedHeld log core (held_of batch number)
staged_is_held log core batch number b are k s =
    record {
      configured = k;
      unused = s.unused;
      staged = subst (λ f. HasStagedIn core number batch.parts f) (facts_held log batch number b) s.staged;
      made = subst (λ f. IsMade batch.config log batch.parts f (file_of batch.config batch.documents)) (facts_held log batch number b) (batch_is_made log batch b are);
    }

-- an upload that was Ok makes it uploaded
pub uploaded_is_held : (log : Log) (core after : Core) (held : IndexerHeld) (Kept : ℕ → Type 0) → KeepsFor Kept core after → IsStagedHeld log core held → IsUploadedIn after held.number (file_of held.config held.documents) → IsUploadedHeld log after held
uploaded_is_held log core after held Kept k s u = record { configured = k.configured held.config s.configured; uploaded = u; staged = k.staged held.number held.delta (held_facts held) s.staged; made = s.made }

-- what is uploaded may be published
pub held_is_publishable : (log : Log) (core : Core) (held : IndexerHeld) → IsUploadedHeld log core held → IsPublishable log core held.number
held_is_publishable log core held u =
    record { config = held.config; configured = u.configured; delta = held.delta; facts = held_facts held; bytes = file_of held.config held.documents; staged = u.staged; made = u.made; uploaded = u.uploaded }

-- the calls of others leave it as it was
pub staged_stays : (log : Log) (core after : Core) (held : IndexerHeld) (Kept : ℕ → Type 0) → KeepsFor Kept core after → Kept held.number → IsStagedHeld log core held → IsStagedHeld log after held
staged_stays log core after held Kept k other s =
    record { configured = k.configured held.config s.configured; unused = k.unused held.number other s.unused; staged = k.staged held.number held.delta (held_facts held) s.staged; made = s.made }

pub uploaded_stays : (log : Log) (core after : Core) (held : IndexerHeld) (Kept : ℕ → Type 0) → KeepsFor Kept core after → IsUploadedHeld log core held → IsUploadedHeld log after held
uploaded_stays log core after held Kept k u =
    record { configured = k.configured held.config u.configured; uploaded = k.uploaded held.number (file_of held.config held.documents) u.uploaded; staged = k.staged held.number held.delta (held_facts held) u.staged; made = u.made }

place_stays : (log : Log) (core after : Core) (kept : HeldPlace) (place : IndexerPlace) (Kept : ℕ → Type 0) → KeepsFor Kept core after → ((n : ℕ) → number_held place ≡ Some n → Kept n) →
    PlaceStands log core kept place → PlaceStands log after kept place
place_stays log core after places.Idle place Kept k other s = s
place_stays log core after (places.Reading batch) place Kept k other s = (s.0, s.1, s.2, s.3, k.configured s.0.config s.4)
place_stays log core after (places.Staged token bytes) place Kept k other s =
    (s.0, s.1, s.2, s.3, staged_stays log core after s.0 Kept k (other s.0.number (ap number_held s.1)) s.4)
place_stays log core after (places.Uploaded token) place Kept k other s =
    (s.0, s.1, s.2, uploaded_stays log core after s.0 Kept k s.3)

-- an indexer stands for the same where the core went on by a call about another number
pub indexer_stays : {L : Type 0} (tells : L → Option Log) (count : L → ℕ) (reader : Reader L) (indexer : Indexer) (core after : Core) (log : Log) (one : Option ℕ) →
    GoesOn one core after → ((n : ℕ) → number_held indexer.place ≡ Some n → IsOther one n) → IndexerStands tells count reader indexer core log → IndexerStands tells count reader indexer after log
indexer_stays tells count reader indexer core after log one g other s =
    record {
      told = s.told;
      log_faults = s.log_faults;
      assignment = s.assignment;
      assigned = s.assigned;
      place = place_stays log core after reader.place indexer.place (IsOther one) g.keeps other s.place;
    }

-- what it holds is its own at a later gate
pub own_later : {W : Type 0} (Owns : W → ℕ → Type 0) (since : W → W → Type 0) → ((first last : W) (number : ℕ) → since first last → Owns first number → Owns last number) → (old new : W) (place : HeldPlace) → since old new →
    HoldsOwn Owns old place → HoldsOwn Owns new place
own_later Owns since law old new places.Idle later h = tt
own_later Owns since law old new (places.Reading batch) later h = tt
own_later Owns since law old new (places.Staged token bytes) later h = law old new token.number later h
own_later Owns since law old new (places.Uploaded token) later h = tt
