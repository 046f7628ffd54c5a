-- How a step ends, by what its calls answered.
use Rattle.std.proofs.Common.{◌≡◌, ℕ, List, [], ◌∷◌, refl, sym, ap, ◌∙◌, subst, Ok, Err, Result, Option, Some, None}
use Rattle.std.specs.Prelude.{true, false, IsErr, IfNone, MatchBool}
use Rattle.std.specs.List.{slice_get}
use Rattle.std.specs.declared.alloc.AllocError.{AllocError}
use Rattle.index_config.specs.declared.config.IndexConfig.{IndexConfig}
use Rattle.meta_store.specs.declared.refusal.Refusal.{Refusal}
use Rattle.meta_store.specs.declared.refusal.Refusal.TheVariants.{MomentBack, NotCreated, AlreadyCreated, BadConfig, NotNext, Delta, State, BadTask, UptoAhead, TooManyTasks, TooManyRows, TooManySpans}
use Rattle.object_store.specs.Store.{State as Kept}
use Rattle.source_checkpoint.specs.declared.delta.StaleDelta.TheVariants as deltas
use Rattle.source_log.specs.Log.{Log}
use Rattle.index_world.specs.Answering.{Answered}
use Rattle.index_world.specs.declared.world_error.WorldError.{WorldError}
use Rattle.index_world.specs.declared.world_error.WorldError.TheVariants as errors
use Rattle.indexing_run.specs.declared.batch.Batch.{Batch as HeldBatch}
use Rattle.indexing_run.specs.declared.indexer.Indexer.{Indexer as Reader}
use Rattle.indexing_run.specs.declared.indexer.IndexerPlace.{IndexerPlace as HeldPlace}
use Rattle.indexing_run.specs.declared.indexer.IndexerPlace.TheVariants as places
use Rattle.indexing_run.specs.declared.outcome.IndexerOutcome.{IndexerOutcome as Said}
use Rattle.indexing_run.specs.declared.outcome.IndexerOutcome.TheVariants as said
use Rattle.indexing_run.specs.Ending.{fault_said, unstaged_said, refused_said, unpublished_said, AreNames, Ends, EndsBatch, EndsClosed, EndsOpen, EndsFrom, EndsStep}
use Rattle.indexing_run.specs.Standing.{NamesGiven}

-- ---- what an error is told as

-- but for want of memory
pub told_as_fault : (error : WorldError) → ((e : AllocError) → error ≡ errors.Memory e → ⊥) → Ok (said.Fault error) ≡ fault_said error
told_as_fault (errors.Memory e) other = absurd (other e refl)
told_as_fault (errors.Refused refusal) other = refl
told_as_fault (errors.StoreFault before after) other = refl
told_as_fault (errors.Missing key) other = refl
told_as_fault (errors.Corrupt key) other = refl
told_as_fault (errors.Foreign key) other = refl
told_as_fault errors.Full other = refl
told_as_fault (errors.Expired planned_at reached) other = refl
told_as_fault errors.NoIndex other = refl
told_as_fault errors.IndexExists other = refl
told_as_fault (errors.BadConfig bad) other = refl

-- but for a refusal
pub unstaged_as_fault : (error : WorldError) → ((r : Refusal) → error ≡ errors.Refused r → ⊥) → fault_said error ≡ unstaged_said error
unstaged_as_fault (errors.Memory e) other = refl
unstaged_as_fault (errors.Refused refusal) other = absurd (other refusal refl)
unstaged_as_fault (errors.StoreFault before after) other = refl
unstaged_as_fault (errors.Missing key) other = refl
unstaged_as_fault (errors.Corrupt key) other = refl
unstaged_as_fault (errors.Foreign key) other = refl
unstaged_as_fault errors.Full other = refl
unstaged_as_fault (errors.Expired planned_at reached) other = refl
unstaged_as_fault errors.NoIndex other = refl
unstaged_as_fault errors.IndexExists other = refl
unstaged_as_fault (errors.BadConfig bad) other = refl

pub unpublished_as_fault : (number : ℕ) (error : WorldError) → ((r : Refusal) → error ≡ errors.Refused r → ⊥) → fault_said error ≡ unpublished_said number error
unpublished_as_fault number (errors.Memory e) other = refl
unpublished_as_fault number (errors.Refused refusal) other = absurd (other refusal refl)
unpublished_as_fault number (errors.StoreFault before after) other = refl
unpublished_as_fault number (errors.Missing key) other = refl
unpublished_as_fault number (errors.Corrupt key) other = refl
unpublished_as_fault number (errors.Foreign key) other = refl
unpublished_as_fault number errors.Full other = refl
unpublished_as_fault number (errors.Expired planned_at reached) other = refl
unpublished_as_fault number errors.NoIndex other = refl
unpublished_as_fault number errors.IndexExists other = refl
unpublished_as_fault number (errors.BadConfig bad) other = refl

-- a refusal of a Publish that is no stale delta
pub lost_as : (number : ℕ) (refusal : Refusal) → ((partition : List ℕ) (current from : ℕ) → refusal ≡ Delta (deltas.Stale partition current from) → ⊥) → said.Lost number refusal ≡ refused_said number refusal
lost_as number (Delta (deltas.Stale partition current from)) other = absurd (other partition current from refl)
lost_as number (Delta (deltas.BackwardDelta partition)) other = refl
lost_as number (Delta (deltas.DoubledPartition partition)) other = refl
lost_as number (MomentBack given greatest) other = refl
lost_as number NotCreated other = refl
lost_as number AlreadyCreated other = refl
lost_as number (BadConfig error) other = refl
lost_as number (NotNext given next) other = refl
lost_as number (State refusal) other = refl
lost_as number (BadTask error) other = refl
lost_as number (UptoAhead upto last) other = refl
lost_as number (TooManyTasks count) other = refl
lost_as number (TooManyRows count) other = refl
lost_as number (TooManySpans count) other = refl

-- ---- an answer without an outcome, or with one

-- it ends so where each outcome that it gives does
pub ends_by : (Says : Said → HeldPlace → Type 0) (result : Result Said AllocError) (place : HeldPlace) → place ≡ places.Idle → ((outcome : Said) → result ≡ Ok outcome → Says outcome place) → Ends Says result place
ends_by Says (Ok outcome) place idle says = says outcome refl
ends_by Says (Err refused) place idle says = idle

-- none is given without memory
pub ends_short : (Says : Said → HeldPlace → Type 0) (result : Result Said AllocError) (place : HeldPlace) → IsErr result → place ≡ places.Idle → Ends Says result place
ends_short Says (Ok outcome) place short idle = absurd cc
ends_short Says (Err refused) place short idle = idle

pub ends_where : (Says Others : Said → HeldPlace → Type 0) (result : Result Said AllocError) (place : HeldPlace) → ((outcome : Said) → Says outcome place → Others outcome place) → Ends Says result place → Ends Others result place
ends_where Says Others (Ok outcome) place f says = f outcome says
ends_where Says Others (Err refused) place f idle = idle

-- ---- a batch

pub ends_closed : (Gave : Answered → Type 0) (before now : ℕ) (batch : HeldBatch) (result : Result Said AllocError) (place : HeldPlace) → batch.closed ≡ true → Ends (EndsClosed Gave batch) result place → Ends (EndsBatch Gave before now batch) result place
ends_closed Gave before now batch result place closed h =
    ends_where (EndsClosed Gave batch) (EndsBatch Gave before now batch) result place
    (λ outcome says. subst (λ b. MatchBool b (EndsClosed Gave batch outcome place) (EndsOpen Gave before now batch outcome place)) (sym closed) says) h

pub ends_open : (Gave : Answered → Type 0) (before now : ℕ) (batch : HeldBatch) (result : Result Said AllocError) (place : HeldPlace) → batch.closed ≡ false → Ends (EndsOpen Gave before now batch) result place → Ends (EndsBatch Gave before now batch) result place
ends_open Gave before now batch result place closed h =
    ends_where (EndsOpen Gave before now batch) (EndsBatch Gave before now batch) result place
    (λ outcome says. subst (λ b. MatchBool b (EndsClosed Gave batch outcome place) (EndsOpen Gave before now batch outcome place)) (sym closed) says) h

-- ---- the log

-- the names that were given are those of the indexer
pub names_are : (assignment : Option (List (List ℕ))) (told : Option Log) (names : List (List ℕ)) (before now : ℕ) → ((assigned : List (List ℕ)) → assignment ≡ Some assigned → names ≡ assigned) →
    ((log : Log) → told ≡ Some log → NamesGiven assignment (Ok names) before now log) → AreNames assignment told names
names_are None told names before now assigned given = λ log tells. (given log tells).0
names_are (Some all) told names before now assigned given = assigned all refl

-- the counts before and behind
pub source_fault : (b before n now : ℕ) → b ≡ before → n ≡ now → said.SourceFault b n ≡ said.SourceFault before now
source_fault b before n now e f = ap (λ x. said.SourceFault x n) e ∙ ap (said.SourceFault before) f

-- nothing is left where nothing comes first
pub none_left : {X : Type 0} (xs : List X) → slice_get xs 0 ≡ None → xs ≡ []
none_left [] h = refl
none_left (x ∷ xs) h = absurd cc

pub none_given : {X : Type 0} (o : Option X) (P : Type 0) → IfNone o P → ((x : X) → o ≡ Some x → ⊥) → P
none_given None P h other = h
none_given (Some x) P h other = absurd (other x refl)

pub if_none : {X : Type 0} (o : Option X) (P : Type 0) → P → IfNone o P
if_none None P h = h
if_none (Some x) P h = tt

-- ---- a whole step

pub ends_from : {L W : Type 0} (tells : L → Option Log) (count : L → ℕ) (told : W → Option Kept) (configured : W → IndexConfig) (Answers : W → Answered → W → Type 0) (before : Reader L) (result : Result Said AllocError) (reader : Reader L) (old new : W) (place : HeldPlace) →
    before.place ≡ place → reader.assignment ≡ before.assignment →
    Ends (EndsFrom place (λ call. Answers old call new) (count before.log) (count reader.log) (tells before.log) before.assignment (configured new) (told old) (told new)) result reader.place →
    EndsStep tells count told configured Answers before result reader old new
ends_from tells count told configured Answers before result reader old new place e same h =
    record {
      assignment = same;
      ends = subst (λ (p : HeldPlace). Ends (EndsFrom p (λ call. Answers old call new) (count before.log) (count reader.log) (tells before.log) before.assignment (configured new) (told old) (told new)) result reader.place) (sym e) h;
    }
