-- What the first step of a text answers, by what its call of the gate answered, whatever the gate tells.
use Rattle.std.specs.Prelude.{◌≡◌, ◌⊎◌, ℕ, List, [], length, Some, None, Result, Ok, Err, IsErr, IsSome, ⊤}
use Rattle.std.specs.declared.alloc.AllocError.{AllocError}
use Rattle.doc_value.specs.declared.schema.Schema.{Schema}
use Rattle.index_config.specs.declared.config.IndexConfig.{IndexConfig}
use Rattle.index_world.specs.Answering.{Answered, plan_answered, task_answered}
use Rattle.index_world.specs.Calls.{asked_and_looked}
use Rattle.index_world.specs.CallsMade.{CallMade, of_plan, of_task}
use Rattle.index_world.specs.Core.{Core}
use Rattle.index_world.specs.Gate.{Does, IsPlan, IsReceipt, IsTrouble, IsUnmade, task_call}
use Rattle.index_world.specs.declared.tokens.DeleteAsk.{DeleteAsk}
use Rattle.index_world.specs.declared.tokens.Plan.{Plan}
use Rattle.index_world.specs.declared.tokens.Receipt.{Receipt}
use Rattle.index_world.specs.declared.world_error.WorldError.{WorldError}
use Rattle.leaf_search.specs.Answers.{IsAsked}
use Rattle.meta_store.specs.declared.planning.Choice.{Choice}
use Rattle.meta_store.specs.declared.planning.Choice.TheVariants.{Look}
use Rattle.search_api.specs.Resolved.{Asked, IsDelete, IsSearch, Search}
use Rattle.search_api.specs.declared.reply.Said.TheVariants.{Deleted}
use Rattle.search_api.specs.declared.unanswered.Unanswered.{Unanswered}
use Rattle.search_api.specs.declared.unanswered.Unanswered.TheVariants as reasons
use Rattle.source_log.specs.Log.{Log}
use Rattle.root_search.specs.LeafAsks.{Asks}
use Rattle.root_search.specs.ReadSearches.{IsChoiceOf}
use Rattle.root_search.specs.Requests.{ask_of, asked_of}
use Rattle.root_search.specs.StepReads.{Refuses, refusal_of}
use Rattle.root_search.specs.declared.outcome.SearchStep.{SearchStep}
use Rattle.root_search.specs.declared.outcome.SearchStep.TheVariants.{Fetched, Idle, Planned, Replied}
use Rattle.root_search.specs.declared.planned.Planned.{Planned as GivenPlan}
use Rattle.root_search.specs.declared.searcher.Request.{Request as GivenRequest}
use Rattle.root_search.specs.declared.searcher.Request.TheVariants as requests
use Rattle.root_search.specs.declared.searcher.Searcher.{Searcher}

-- ---- a search, or a text that is refused

-- What a gate says of a plan of this choice between two of its states: its call answered so, no byte was fetched, and where it stands for a core, it did
-- what a plan does there.
pub record IsPlanning {W : Type 0} (Stands : W → Core → Log → Type 0) (Between : Core → Core → Type 0) (Owns : W → ℕ → Type 0) (Adds : W → List CallMade → W → Type 0) (bytes_fetched : W → ℕ) (Answers : W → Answered → W → Type 0) (choice : Choice) (answer : Result Plan WorldError) (old new : W) : Type 0 where
  pub answered : Answers old (plan_answered choice answer) new
  pub same : bytes_fetched new ≡ bytes_fetched old
  pub step : (core : Core) (log : Log) → Stands old core log → Does Stands Between Owns Adds None (of_plan choice) asked_and_looked IsTrouble (IsPlan choice) answer core log old new

-- the search holds this plan, of which nothing is fetched
pub record Begins (s : Schema) (search : Search) (plan : Plan) (request : GivenRequest) : Type 0 where
  pub planned : GivenPlan
  pub request_is : request ≡ requests.Planned planned
  pub plan_is : planned.plan ≡ plan
  pub asks : Asks search planned.ask
  pub asked : IsAsked s planned.ask.request
  pub next : planned.next ≡ 0
  pub parts : planned.parts ≡ []

-- What is answered where a text asks this and the gate answered so. A search is planned, and an error is replied as it is, over the client's front.
-- A text that is refused is replied its refusal, over the revision of a plan of no rows, or over the front where there is none.
abbrev pub SaysPlan : Schema → Result Search Unanswered → Choice → Result Plan WorldError → ℕ → GivenRequest → Result SearchStep AllocError → Type 0
SaysPlan s (Ok search) choice (Ok plan) front request result =
    IsChoiceOf search.query search.times choice × (result ≡ Ok (Planned plan.revision (length plan.rows))) × Begins s search plan request
SaysPlan s (Ok search) choice (Err error) front request result =
    IsChoiceOf search.query search.times choice × Refuses front (λ refusal. refusal_of error ≡ Some refusal) result
SaysPlan s (Err (reasons.Refused own)) choice (Ok plan) front request result = (choice ≡ Look) × Refuses plan.revision (λ refusal. refusal ≡ own) result
SaysPlan s (Err (reasons.Refused own)) choice (Err error) front request result =
    (choice ≡ Look) × Refuses front (λ refusal. (refusal ≡ own) × IsSome (refusal_of error)) result
SaysPlan s (Err (reasons.Memory e)) choice answer front request result = ⊥

-- one call of the gate for a plan, and what is answered over it
pub record Plans {W : Type 0} (Stands : W → Core → Log → Type 0) (Between : Core → Core → Type 0) (Owns : W → ℕ → Type 0) (Adds : W → List CallMade → W → Type 0) (bytes_fetched : W → ℕ) (Answers : W → Answered → W → Type 0) (s : Schema) (asked : Result Search Unanswered) (front : ℕ) (request : GivenRequest)
    (result : Result SearchStep AllocError) (old new : W) : Type 0 where
  pub choice : Choice
  pub answer : Result Plan WorldError
  pub call : IsPlanning Stands Between Owns Adds bytes_fetched Answers choice answer old new
  pub says : SaysPlan s asked choice answer front request result

-- or there was no memory
abbrev pub PlansUnlessShort : {W : Type 0} → (W → Core → Log → Type 0) → (Core → Core → Type 0) → (W → ℕ → Type 0) → (W → List CallMade → W → Type 0) → (W → ℕ) → (W → Answered → W → Type 0) → Schema → Result Search Unanswered → ℕ → GivenRequest → Result SearchStep AllocError → W → W → Type 0
PlansUnlessShort Stands Between Owns Adds bytes_fetched Answers s asked front request (Ok step) old new = Plans Stands Between Owns Adds bytes_fetched Answers s asked front request (Ok step) old new
PlansUnlessShort Stands Between Owns Adds bytes_fetched Answers s asked front request (Err e) old new = ⊤

-- ---- a delete

-- What a gate says of this task between two of its states: its call answered so, no byte was fetched, and where it stands for a core, it did what adding
-- a task does there.
pub record IsAdding {W : Type 0} (Stands : W → Core → Log → Type 0) (Between : Core → Core → Type 0) (Owns : W → ℕ → Type 0) (Adds : W → List CallMade → W → Type 0) (bytes_fetched : W → ℕ) (Answers : W → Answered → W → Type 0) (ask : DeleteAsk) (answer : Result Receipt WorldError) (old new : W) : Type 0 where
  pub answered : Answers old (task_answered ask answer) new
  pub same : bytes_fetched new ≡ bytes_fetched old
  pub step : (core : Core) (log : Log) → Stands old core log → Does Stands Between Owns Adds None (of_task ask) (task_call ask) IsUnmade IsReceipt answer core log old new

-- the task is replied, over the revision behind it
abbrev pub RepliesTask : Receipt → Result SearchStep AllocError → Type 0
RepliesTask receipt (Ok Idle) = ⊥
RepliesTask receipt (Ok (Planned revision count)) = ⊥
RepliesTask receipt (Ok (Fetched number)) = ⊥
RepliesTask receipt (Ok (Replied reply)) = (reply.revision ≡ receipt.revision) × (reply.said ≡ Deleted receipt.opstamp)
RepliesTask receipt (Err e) = ⊥

-- the error is replied as it is, over a revision, or it was want of memory
abbrev pub RepliesError : WorldError → ℕ → Result SearchStep AllocError → Type 0
RepliesError error revision (Ok step) = Refuses revision (λ refusal. refusal_of error ≡ Some refusal) (Ok step)
RepliesError error revision (Err e) = refusal_of error ≡ None

-- What is answered where the gate answered so: the task, with its opstamp and its revision, or the error, over the client's front.
abbrev pub SaysTask : Result Receipt WorldError → ℕ → Result SearchStep AllocError → Type 0
SaysTask (Ok receipt) front result = RepliesTask receipt result
SaysTask (Err error) front result = RepliesError error front result

-- one call of the gate for this task, and what is answered over it
pub record AddsTask {W : Type 0} (Stands : W → Core → Log → Type 0) (Between : Core → Core → Type 0) (Owns : W → ℕ → Type 0) (Adds : W → List CallMade → W → Type 0) (bytes_fetched : W → ℕ) (Answers : W → Answered → W → Type 0) (ask : DeleteAsk) (front : ℕ) (result : Result SearchStep AllocError) (old new : W) : Type 0 where
  pub answer : Result Receipt WorldError
  pub call : IsAdding Stands Between Owns Adds bytes_fetched Answers ask answer old new
  pub says : SaysTask answer front result

-- or there was no memory before it, and the gate is as it was
abbrev pub AddsUnlessShort : {W : Type 0} → (W → Core → Log → Type 0) → (Core → Core → Type 0) → (W → ℕ → Type 0) → (W → List CallMade → W → Type 0) → (W → ℕ) → (W → Answered → W → Type 0) → DeleteAsk → ℕ → Result SearchStep AllocError → W → W → Type 0
AddsUnlessShort Stands Between Owns Adds bytes_fetched Answers ask front result old new =
    (IsErr result × (new ≡ old)) ⊎ AddsTask Stands Between Owns Adds bytes_fetched Answers ask front result old new

-- ---- a text

-- what is answered where a text asks this of the schema
abbrev pub AnswersText : {W : Type 0} → (W → Core → Log → Type 0) → (Core → Core → Type 0) → (W → ℕ → Type 0) → (W → List CallMade → W → Type 0) → (W → ℕ) → (W → Answered → W → Type 0) → Schema → Result Asked Unanswered → ℕ → GivenRequest → Result SearchStep AllocError → W → W → Type 0
AnswersText Stands Between Owns Adds bytes_fetched Answers s (Ok (IsSearch search)) front request result old new = PlansUnlessShort Stands Between Owns Adds bytes_fetched Answers s (Ok search) front request result old new
AnswersText Stands Between Owns Adds bytes_fetched Answers s (Ok (IsDelete deletion)) front request result old new = AddsUnlessShort Stands Between Owns Adds bytes_fetched Answers (ask_of deletion) front result old new
AnswersText Stands Between Owns Adds bytes_fetched Answers s (Err reason) front request result old new = PlansUnlessShort Stands Between Owns Adds bytes_fetched Answers s (Err reason) front request result old new

-- a step of a text that was opened, which is read under the gate's configuration
abbrev pub StepPlans : {W : Type 0} → (W → Core → Log → Type 0) → (Core → Core → Type 0) → (W → ℕ → Type 0) → (W → List CallMade → W → Type 0) → (W → ℕ) → (W → Answered → W → Type 0) → IndexConfig → Searcher → Searcher → Result SearchStep AllocError → W → W → Type 0
StepPlans Stands Between Owns Adds bytes_fetched Answers config searcher after result old new =
    (text : List ℕ) → searcher.request ≡ requests.Opened text → AnswersText Stands Between Owns Adds bytes_fetched Answers config.schema (asked_of config text) searcher.front after.request result old new
