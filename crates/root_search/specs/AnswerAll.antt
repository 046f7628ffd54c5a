-- What a searcher does for a request of its client.
use Rattle.std.specs.Prelude.{◌≡◌, ◌≢◌, ◌⊎◌, ℕ, Bool, List, [], ◌∷◌, ◌++◌, Option, Some, None, Result, Ok, Err, ⊤}
use Rattle.std.specs.declared.alloc.AllocError.{AllocError}
use Rattle.source_log.specs.Log.{Log}
use Rattle.index_world.specs.CallsMade.{CallMade}
use Rattle.index_world.specs.Core.{Core, Nobody}
use Rattle.index_world.specs.World.{GoesFor}
use Rattle.search_api.specs.declared.reply.Reply.{Reply}
use Rattle.index_world.specs.Ran.{AreSteps, IsLastEnd, StepMade, calls_of}
use Rattle.root_search.specs.Recorded.{AreCallsOf}
use Rattle.root_search.specs.Searching.{IsAnswer, SearcherStands, searched_as}
use Rattle.root_search.specs.Steps.{ArePassed, Client, Passage, grace_in, opened, step_at}
use Rattle.root_search.specs.declared.outcome.SearchStep.{SearchStep}
use Rattle.root_search.specs.declared.outcome.SearchStep.TheVariants.{Fetched, Idle, Planned, Replied}
use Rattle.root_search.specs.declared.searcher.Searcher.{Searcher}

-- what a step of the code gives
abbrev pub Told : Type 0
Told = Result SearchStep AllocError

-- what it gives at last: the reply, or want of memory
abbrev pub reply_of : Told → Option (Result Reply AllocError)
reply_of (Ok Idle) = None
reply_of (Ok (Planned revision count)) = None
reply_of (Ok (Fetched number)) = None
reply_of (Ok (Replied reply)) = Some (Ok reply)
reply_of (Err short) = Some (Err short)

-- a client, and the core where it is
pub record ClientAt : Type 0 where
  pub client : Client
  pub core : Core

abbrev pub client_at : Client → Core → ClientAt
client_at client core = record { client = client; core = core }

abbrev pub core_there : ClientAt → Core
core_there at = at.core

abbrev pub with_text : List ℕ → Client → Client
with_text text client = record client { request = opened text }

-- A step is the machine's, with a passage for each of its calls, before which other actors may have acted. It answered what the machine
-- came to, and the gate recorded these calls.
pub record ClientStep (Between : Core → Core → Type 0) (log : Log) (from : ClientAt) (step : StepMade Told) (to : ClientAt) : Type 0 where
  pub passage : Passage
  pub more : List Passage
  pub passed : ArePassed (grace_in from.client.request) Between from.core (passage ∷ more)
  pub short : Bool
  pub outcome : Option SearchStep
  pub did : step_at passage more short log from.client ≡ searched_as outcome to.client to.core
  pub answer : IsAnswer step.result outcome
  pub asks : AreCallsOf from.client.request passage more to.core outcome step.made
  pub goes_on : GoesFor Nobody from.core to.core

-- THE STEPS OF A REQUEST from a core on, up to the first that replies or finds no memory: these are their calls. The searcher of the code
-- stands for the client that the last one left.
pub record RequestDid (Between : Core → Core → Type 0) (log : Log) (text : List ℕ) (result : Result Reply AllocError) (searcher : Searcher) (client : Client) (core : Core)
    (made : List CallMade) (after : Core) : Type 0 where
  pub steps : List (StepMade Told)
  pub last : ClientAt
  pub are : AreSteps (ClientStep Between log) (client_at (with_text text client) core) steps last
  pub left : SearcherStands searcher last.client last.core log
  pub calls : made ≡ calls_of steps
  pub goes_on : GoesFor Nobody last.core after
  pub ended : IsLastEnd (λ (step : StepMade Told). reply_of step.result) steps result

-- ---- the requests of a client, one after another

-- a request, and what it was answered
pub record Answered : Type 0 where
  pub text : List ℕ
  pub result : Result Reply AllocError

-- a request from where the one before it left the client: its own calls, of its own steps alone
pub record RequestStep (Between : Core → Core → Type 0) (log : Log) (from : ClientAt) (step : StepMade Answered) (to : ClientAt) : Type 0 where
  pub steps : List (StepMade Told)
  pub last : ClientAt
  pub are : AreSteps (ClientStep Between log) (client_at (with_text step.result.text from.client) from.core) steps last
  pub calls : step.made ≡ calls_of steps
  pub ended : IsLastEnd (λ (s : StepMade Told). reply_of s.result) steps step.result.result
  pub same : to.client ≡ last.client
  pub goes_on : GoesFor Nobody last.core to.core

-- these texts were answered by these replies, one each
abbrev pub AreReplies : List (StepMade Answered) → (texts : List (List ℕ)) → List Reply → Type 0
AreReplies [] [] [] = ⊤
AreReplies [] [] (reply ∷ replies) = ⊥
AreReplies [] (text ∷ texts) replies = ⊥
AreReplies (step ∷ steps) [] replies = ⊥
AreReplies (step ∷ steps) (text ∷ texts) [] = ⊥
AreReplies (step ∷ steps) (text ∷ texts) (reply ∷ replies) = (step.result.text ≡ text) × (step.result.result ≡ Ok reply) × AreReplies steps texts replies

-- Each was; or there was no memory: the first ones were, and of the others one may have been begun.
abbrev pub AnswersAll : List (StepMade Answered) → (texts : List (List ℕ)) → List Reply → Result (Unit {0}) AllocError → Type 0
AnswersAll steps texts replies (Ok done) = AreReplies steps texts replies
AnswersAll steps texts replies (Err short) =
    (answered : List (StepMade Answered)) × (first rest : List (List ℕ)) × (begun : List (StepMade Answered)) × (steps ≡ answered ++ begun) × (texts ≡ first ++ rest) × AreReplies answered first replies
    × ((begun ≡ []) ⊎ ((step : StepMade Answered) × (begun ≡ step ∷ []) × (rest ≢ [])))

-- WHAT A CLIENT WAS ANSWERED from a core on: each of its requests has its own stretch of the calls, in their order.
pub record ClientDid (Between : Core → Core → Type 0) (log : Log) (texts : List (List ℕ)) (replies : List Reply) (result : Result (Unit {0}) AllocError) (searcher : Searcher) (client : Client) (core : Core)
    (made : List CallMade) (after : Core) : Type 0 where
  pub requests : List (StepMade Answered)
  pub last : ClientAt
  pub are : AreSteps (RequestStep Between log) (client_at client core) requests last
  pub left : SearcherStands searcher last.client last.core log
  pub calls : made ≡ calls_of requests
  pub goes_on : GoesFor Nobody last.core after
  pub answers : AnswersAll requests texts replies result
