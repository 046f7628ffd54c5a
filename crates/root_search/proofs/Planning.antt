-- What the first step of a text answers, by what its call of a gate answered.
use Rattle.std.proofs.Common.{◌≡◌, inl, inr, ℕ, List, [], refl, sym, subst, None, Result, Ok, Err}
use Rattle.std.specs.Prelude.{IsErr}
use Rattle.std.specs.declared.alloc.AllocError.{AllocError}
use Rattle.doc_value.specs.declared.schema.Schema.{Schema}
use Rattle.index_config.specs.declared.config.IndexConfig.{IndexConfig}
use Rattle.index_world.specs.Answering.{Answered, plan_answered, task_answered}
use Rattle.index_world.specs.Calls.{asked_and_looked}
use Rattle.index_world.specs.CallsMade.{CallMade, of_plan, of_task}
use Rattle.index_world.specs.Core.{Core}
use Rattle.index_world.specs.Gate.{Does, IsPlan, IsReceipt, IsTrouble, IsUnmade, task_call}
use Rattle.index_world.specs.declared.tokens.DeleteAsk.{DeleteAsk}
use Rattle.index_world.specs.declared.tokens.Plan.{Plan}
use Rattle.index_world.specs.declared.tokens.Receipt.{Receipt}
use Rattle.index_world.specs.declared.world_error.WorldError.{WorldError}
use Rattle.meta_store.specs.declared.planning.Choice.{Choice}
use Rattle.search_api.specs.Resolved.{Asked, IsDelete, IsSearch, Search}
use Rattle.search_api.specs.declared.reply.Said.TheVariants.{Deleted}
use Rattle.search_api.specs.declared.unanswered.Unanswered.{Unanswered}
use Rattle.source_log.specs.Log.{Log}
use Rattle.leaf_search.specs.Answers.{IsAsked}
use Rattle.root_search.specs.LeafAsks.{Asks}
use Rattle.root_search.specs.ReadSearches.{IsRead}
use Rattle.root_search.specs.Requests.{asked_of}
use Rattle.root_search.specs.StepPlans.{AddsUnlessShort, AnswersText, Begins, Plans, PlansUnlessShort, RepliesError, RepliesTask, SaysPlan, SaysTask}
use Rattle.root_search.specs.StepReads.{refusal_of}
use Rattle.root_search.specs.declared.leaf_asks.LeafAsk.{LeafAsk}
use Rattle.root_search.specs.declared.outcome.SearchStep.{SearchStep}
use Rattle.root_search.specs.declared.outcome.SearchStep.TheVariants.{Replied}
use Rattle.root_search.specs.declared.planned.Planned.{Planned as GivenPlan}
use Rattle.root_search.specs.declared.reads.ReadSearch.{ReadSearch}
use Rattle.root_search.specs.declared.searcher.Request.{Request as GivenRequest}
use Rattle.root_search.specs.declared.searcher.Request.TheVariants as requests

-- the plan that a search holds is the one that was given
pub begins : (s : Schema) (search : Search) (read : ReadSearch) (plan : Plan) (request : GivenRequest) (planned : GivenPlan) → IsRead s search read → request ≡ requests.Planned planned → planned.plan ≡ plan → planned.ask ≡ read.ask → planned.next ≡ 0 → planned.parts ≡ []
    → Begins s search plan request
begins s search read plan request planned is held same ask next parts =
    record { planned = planned; request_is = held; plan_is = same; asks = subst (Asks search) (sym ask) is.asks; asked = subst (λ (a : LeafAsk). IsAsked s a.request) (sym ask) is.asked; next = next; parts = parts }

-- the task is replied
pub task_replied : (receipt : Receipt) (step : SearchStep) (client : List ℕ) → step ≡ Replied (record { client = client; revision = receipt.revision; said = Deleted receipt.opstamp }) → RepliesTask receipt (Ok step)
task_replied receipt step client same = subst (λ (s : SearchStep). RepliesTask receipt (Ok s)) (sym same) (refl, refl)

-- without memory there is no reply
pub replies_none : (error : WorldError) (revision : ℕ) (result : Result SearchStep AllocError) → IsErr result → refusal_of error ≡ None → RepliesError error revision result
replies_none error revision (Ok step) short none = absurd (cc)
replies_none error revision (Err e) short none = none

module _ {W : Type 0} (Stands : W → Core → Log → Type 0) (Between : Core → Core → Type 0) (Owns : W → ℕ → Type 0) (Adds : W → List CallMade → W → Type 0) (bytes_fetched : W → ℕ) (Answers : W → Answered → W → Type 0) (front : ℕ) (request : GivenRequest) (result : Result SearchStep AllocError) (old new : W) where
  unless_short : (s : Schema) (asked : Result Search Unanswered) (r : Result SearchStep AllocError) → Plans Stands Between Owns Adds bytes_fetched Answers s asked front request r old new → PlansUnlessShort Stands Between Owns Adds bytes_fetched Answers s asked front request r old new
  unless_short s asked (Ok step) p = p
  unless_short s asked (Err e) p = tt

  pub plans_as : (s : Schema) (asked : Result Search Unanswered) (choice : Choice) (answer : Result Plan WorldError) → Answers old (plan_answered choice answer) new → bytes_fetched new ≡ bytes_fetched old
      → ((core : Core) (log : Log) → Stands old core log → Does Stands Between Owns Adds None (of_plan choice) asked_and_looked IsTrouble (IsPlan choice) answer core log old new) → SaysPlan s asked choice answer front request result
      → PlansUnlessShort Stands Between Owns Adds bytes_fetched Answers s asked front request result old new
  plans_as s asked choice answer gave same step says = unless_short s asked result (record { choice = choice; answer = answer; call = record { answered = gave; same = same; step = step }; says = says })

  pub plans_short : (s : Schema) (asked : Result Search Unanswered) → IsErr result → PlansUnlessShort Stands Between Owns Adds bytes_fetched Answers s asked front request result old new
  plans_short s asked short = by result short
    where
      by : (r : Result SearchStep AllocError) → IsErr r → PlansUnlessShort Stands Between Owns Adds bytes_fetched Answers s asked front request r old new
      by (Ok step) short = absurd (cc)
      by (Err e) short = tt

  pub adds_as : (ask : DeleteAsk) (answer : Result Receipt WorldError) → Answers old (task_answered ask answer) new → bytes_fetched new ≡ bytes_fetched old
      → ((core : Core) (log : Log) → Stands old core log → Does Stands Between Owns Adds None (of_task ask) (task_call ask) IsUnmade IsReceipt answer core log old new) → SaysTask answer front result
      → AddsUnlessShort Stands Between Owns Adds bytes_fetched Answers ask front result old new
  adds_as ask answer gave same step says = inr (record { answer = answer; call = record { answered = gave; same = same; step = step }; says = says })

  -- no memory is found before any call
  pub text_short : (s : Schema) (asked : Result Asked Unanswered) → IsErr result → new ≡ old → AnswersText Stands Between Owns Adds bytes_fetched Answers s asked front request result old new
  text_short s (Ok (IsSearch search)) short same = plans_short s (Ok search) short
  text_short s (Ok (IsDelete deletion)) short same = inl (short, same)
  text_short s (Err reason) short same = plans_short s (Err reason) short

  -- under the configuration that the gate keeps
  pub text_under : (config kept : IndexConfig) (text : List ℕ) (asked : Result Asked Unanswered) → config ≡ kept → asked_of config text ≡ asked → AnswersText Stands Between Owns Adds bytes_fetched Answers config.schema asked front request result old new
      → AnswersText Stands Between Owns Adds bytes_fetched Answers kept.schema (asked_of kept text) front request result old new
  text_under config kept text asked same is p =
      subst (λ (c : IndexConfig). AnswersText Stands Between Owns Adds bytes_fetched Answers c.schema (asked_of c text) front request result old new) same
      (subst (λ (a : Result Asked Unanswered). AnswersText Stands Between Owns Adds bytes_fetched Answers config.schema a front request result old new) (sym is) p)
