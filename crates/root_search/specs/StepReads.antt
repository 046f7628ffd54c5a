-- What a step answers over the bytes that its calls gave, whatever the gate tells.
use Rattle.std.specs.Prelude.{◌≡◌, ◌⊎◌, ℕ, ◌+◌, ◌-◌, ◌^◌, ◌≤◌, min, List, [], ◌∷◌, ◌++◌, length, Option, Some, None, Result, Ok, Err, ⊤, nat_eq, slice_get}
use Rattle.std.specs.List.{AllByRecursion}
use Rattle.std.specs.Map.{lookup}
use Rattle.std.specs.declared.alloc.AllocError.{AllocError}
use Rattle.index_config.specs.declared.config.IndexConfig.{IndexConfig}
use Rattle.index_world.specs.Answering.{Answered}
use Rattle.index_world.specs.CallsMade.{CallMade}
use Rattle.index_world.specs.Core.{Core, IsConfigured}
use Rattle.index_world.specs.Gate.{grace_of}
use Rattle.index_world.specs.declared.tokens.Plan.{Plan}
use Rattle.index_world.specs.declared.world_error.WorldError.{WorldError}
use Rattle.index_world.specs.declared.world_error.WorldError.TheVariants as errors
use Rattle.leaf_search.specs.Answers.{IsAsked}
use Rattle.leaf_search.specs.declared.request.LeafRequest.{LeafRequest}
use Rattle.meta_journal.specs.Places.{split_key}
use Rattle.meta_store.specs.declared.planning.PlanRow.{PlanRow}
use Rattle.search_api.specs.declared.reply.Refusal.{Refusal}
use Rattle.search_api.specs.declared.reply.Refusal.TheVariants as refusals
use Rattle.search_api.specs.declared.reply.Said.TheVariants.{Refused}
use Rattle.object_store.specs.Store.{State}
use Rattle.source_log.specs.Log.{Log}
use Rattle.split_bundle.specs.Files.{Parts, file_bytes}
use Rattle.split_bundle.specs.Splits.{IsSplitOf}
use Rattle.split_bundle.specs.declared.footer.Footer.{Footer}
use Rattle.split_bundle.specs.declared.placed.Placed.{Placed}
use Rattle.root_search.specs.FetchCalls.{AreFetches, FetchCall, HasGiven, HaveFailed, IsNoPart, IsPartRead}
use Rattle.root_search.specs.Fetching.{IsFileAt}
use Rattle.root_search.specs.Footers.{entries}
use Rattle.root_search.specs.PartAnswers.{IsSaidOver}
use Rattle.root_search.specs.FetchedSplits.{IsKnown}
use Rattle.root_search.specs.Steps.{state_refusal}
use Rattle.root_search.specs.declared.fetched_splits.FetchedSplit.{FetchedSplit}
use Rattle.root_search.specs.declared.fetching.FetchError.{FetchError}
use Rattle.root_search.specs.declared.fetching.FetchError.TheVariants.{Memory, World, Corrupt}
use Rattle.root_search.specs.declared.footers.Footers.{Footers}
use Rattle.root_search.specs.declared.outcome.SearchStep.{SearchStep}
use Rattle.root_search.specs.declared.outcome.SearchStep.TheVariants.{Fetched, Idle, Planned, Replied}
use Rattle.root_search.specs.declared.planned.Planned.{Planned as GivenPlan}
use Rattle.root_search.specs.declared.searcher.Request.{Request as GivenRequest}
use Rattle.root_search.specs.declared.searcher.Request.TheVariants as requests
use Rattle.root_search.specs.declared.searcher.Searcher.{Searcher}

-- ---- refusals

-- What is replied where a call of the world answered an error: it as it is, or that there is no room, for tasks or at all; nothing without memory.
abbrev pub refusal_of : WorldError → Option Refusal
refusal_of (errors.Memory e) = None
refusal_of (errors.Refused refusal) = Some (state_refusal refusal)
refusal_of (errors.StoreFault before after) = Some (refusals.StoreFault before after)
refusal_of (errors.Missing key) = Some (refusals.Missing key)
refusal_of (errors.Corrupt key) = Some (refusals.Corrupt key)
refusal_of (errors.Foreign key) = Some (refusals.Foreign key)
refusal_of errors.Full = Some refusals.Full
refusal_of (errors.Expired planned_at reached) = Some (refusals.Expired planned_at reached)
refusal_of errors.NoIndex = Some refusals.Full
refusal_of errors.IndexExists = Some refusals.Full
refusal_of (errors.BadConfig bad) = Some refusals.Full

-- a step replies a refusal of which this holds, over a revision, or finds no memory
abbrev pub Refuses : ℕ → (Refusal → Type 0) → Result SearchStep AllocError → Type 0
Refuses revision holds (Ok Idle) = ⊥
Refuses revision holds (Ok (Planned at count)) = ⊥
Refuses revision holds (Ok (Fetched number)) = ⊥
Refuses revision holds (Ok (Replied reply)) = (refusal : Refusal) × (reply.revision ≡ revision) × (reply.said ≡ Refused refusal) × holds refusal
Refuses revision holds (Err e) = ⊤

-- the refusal of a fetch from the split with a number
abbrev pub IsFetchRefusal : ℕ → FetchError → Refusal → Type 0
IsFetchRefusal number (World error) refusal = refusal_of error ≡ Some refusal
IsFetchRefusal number (Memory e) refusal = ⊥
IsFetchRefusal number Corrupt refusal = refusal ≡ refusals.Corrupt (split_key number)

-- ---- a step that fetches

-- What may be called corrupt. Where the gate stands for a core in which a file of as many bytes as the row says stands under the row's number within the
-- plan's grace, this file is no split of the index's configuration. So a sound split of another length than the row says is called corrupt too, and one
-- whose footer was known from another file.
abbrev pub IsNoSplit : {W : Type 0} → (W → Core → Log → Type 0) → Plan → ℕ → LeafRequest → Option Footer → W → Type 0
IsNoSplit Stands plan place r known gate =
    (config : IndexConfig) (documents : List Placed) (p : Parts) (core : Core) (log : Log) → Stands gate core log → IsConfigured config core → IsFileAt core (grace_of config plan).until plan place (file_bytes p) → IsSplitOf config.schema documents p
    → IsAsked config.schema r → IsKnown (file_bytes p) known → ⊥

-- The refusal is that of the error which the last call answered. Or it is that the file of the row with a number is corrupt, where all calls gave
-- bytes: no footer is read of these, or a footer is and what is read behind it is refused.
abbrev pub IsReadRefusal : {W : Type 0} → (W → Core → Log → Type 0) → Plan → ℕ → LeafRequest → Option Footer → PlanRow → W → List FetchCall → Refusal → Type 0
IsReadRefusal Stands plan place r known row gate calls refusal =
    ((error : WorldError) × HaveFailed error calls × (refusal_of error ≡ Some refusal))
    ⊎ (AllByRecursion HasGiven calls × (refusal ≡ refusals.Corrupt (split_key row.number)) × IsNoPart known row.size calls × IsNoSplit Stands plan place r known gate)

-- Behind a row the part that was read of it is kept, and the next row is fetched.
pub record IsFurther (known : Option Footer) (row : PlanRow) (planned : GivenPlan) (calls : List FetchCall) (request : GivenRequest) : Type 0 where
  pub part : FetchedSplit
  pub later : GivenPlan
  pub all_gave : AllByRecursion HasGiven calls
  pub read : IsPartRead known row.number row.size part calls
  pub request_is : request ≡ requests.Planned later
  pub ask : later.ask ≡ planned.ask
  pub plan : later.plan ≡ planned.plan
  pub next : later.next ≡ min (planned.next + 1) (2 ^ 32 - 1)
  pub parts : later.parts ≡ planned.parts ++ part ∷ []

-- what a step answers that fetches of a row, by what its calls gave
abbrev pub SaysFetching : {W : Type 0} → (W → Core → Log → Type 0) → Option Footer → PlanRow → GivenPlan → W → List FetchCall → GivenRequest → Result SearchStep AllocError → Type 0
SaysFetching Stands known row planned gate calls request (Ok Idle) = ⊥
SaysFetching Stands known row planned gate calls request (Ok (Planned revision count)) = ⊥
SaysFetching Stands known row planned gate calls request (Ok (Fetched number)) = (number ≡ row.number) × IsFurther known row planned calls request
SaysFetching Stands known row planned gate calls request (Ok (Replied reply)) = (refusal : Refusal) × (reply.revision ≡ planned.plan.revision) × (reply.said ≡ Refused refusal) × IsReadRefusal Stands planned.plan planned.next planned.ask.request known row gate calls refusal
SaysFetching Stands known row planned gate calls request (Err e) = ⊤

-- It calls the gate for bytes of the row's file and answers by these. Its footer may be kept.
pub record FetchesRow {W : Type 0} (Stands : W → Core → Log → Type 0) (Between : Core → Core → Type 0) (Owns : W → ℕ → Type 0) (Adds : W → List CallMade → W → Type 0) (bytes_fetched : W → ℕ) (told : W → Option State) (Answers : W → Answered → W → Type 0) (footers : Footers) (planned : GivenPlan) (row : PlanRow) (request : GivenRequest)
    (result : Result SearchStep AllocError) (old new : W) : Type 0 where
  pub calls : List FetchCall
  pub are : AreFetches Stands Between Owns Adds bytes_fetched told Answers planned.plan planned.next old calls new
  pub says : SaysFetching Stands (lookup (nat_eq row.number) (entries footers)) row planned old calls request result

-- a step of a planned search fetches of the next row, where there is one
abbrev pub StepReads : {W : Type 0} → (W → Core → Log → Type 0) → (Core → Core → Type 0) → (W → ℕ → Type 0) → (W → List CallMade → W → Type 0) → (W → ℕ) → (W → Option State) → (W → Answered → W → Type 0) → Searcher → Searcher → Result SearchStep AllocError → W → W → Type 0
StepReads Stands Between Owns Adds bytes_fetched told Answers searcher after result old new =
    (planned : GivenPlan) (row : PlanRow) → searcher.request ≡ requests.Planned planned → slice_get planned.plan.rows planned.next ≡ Some row →
    FetchesRow Stands Between Owns Adds bytes_fetched told Answers searcher.footers planned row after.request result old new

-- ---- the last step

-- It replies over the plan's revision, under the gate's configuration: what the leaves over all parts that are kept answer together, or Corrupt with the key
-- of the first part that is broken.
abbrev pub SaysOver : IndexConfig → GivenPlan → Result SearchStep AllocError → Type 0
SaysOver config planned (Ok Idle) = ⊥
SaysOver config planned (Ok (Planned revision count)) = ⊥
SaysOver config planned (Ok (Fetched number)) = ⊥
SaysOver config planned (Ok (Replied reply)) = (reply.revision ≡ planned.plan.revision) × IsSaidOver config.schema planned.ask planned.parts reply.said
SaysOver config planned (Err e) = ⊤

-- a step of a planned search of which each row is fetched
abbrev pub StepAnswers : IndexConfig → Searcher → Result SearchStep AllocError → Type 0
StepAnswers config searcher result = (planned : GivenPlan) → searcher.request ≡ requests.Planned planned → length planned.plan.rows ≤ planned.next → SaysOver config planned result
