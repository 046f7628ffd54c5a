-- What a searcher does for its clients, one after another.
use Rattle.std.specs.Prelude.{◌≡◌, ℕ, Bool, List, [], ◌++◌, map, Result, IsErr, IsOk, MatchBool}
use Rattle.std.specs.declared.alloc.AllocError.{AllocError}
use Rattle.source_log.specs.Log.{Log}
use Rattle.index_world.specs.CallsMade.{CallMade}
use Rattle.index_world.specs.Core.{Core, Nobody}
use Rattle.index_world.specs.Ran.{AreSteps, StepMade, calls_of}
use Rattle.index_world.specs.World.{GoesFor}
use Rattle.root_search.specs.AnswerAll.{ClientDid}
use Rattle.root_search.specs.Searching.{new_client}
use Rattle.root_search.specs.declared.searcher.Searcher.{Searcher}
use Rattle.thread_run.specs.declared.serving.Answered.{Answered}
use Rattle.run_plan.specs.declared.clients.Asking.{Asking}

-- A client was answered by a searcher of its own, which knew nothing of it before. There was no memory exactly where it says so.
pub record ServedDid (Between : Core → Core → Type 0) (log : Log) (asking : Asking) (answered : Answered) (core : Core) (made : List CallMade) (after : Core) : Type 0 where
  pub client : answered.client ≡ asking.client
  pub searcher : Searcher
  pub result : Result (Unit {0}) AllocError
  pub short : MatchBool answered.short (IsErr result) (IsOk result)
  pub did : ClientDid Between log asking.texts.items answered.replies.items result searcher (new_client asking.client) core made after

-- a client, and what it was answered
pub record Served : Type 0 where
  pub asked : Asking
  pub given : Answered

abbrev pub ServesOne : (Between : Core → Core → Type 0) → Log → Core → StepMade Served → Core → Type 0
ServesOne Between log core step next = ServedDid Between log step.result.asked step.result.given core step.made next

-- WHAT A SEARCHER DID from a core on: each of its clients was answered, one after another, with its own stretch of the calls. Where there
-- was no memory, the first ones of them.
pub record ClientsDid (Between : Core → Core → Type 0) (log : Log) (askings : List Asking) (answered : List Answered) (result : Result (Unit {0}) AllocError) (core : Core)
    (made : List CallMade) (after : Core) : Type 0 where
  pub served : List (StepMade Served)
  pub last : Core
  pub are : AreSteps (ServesOne Between log) core served last
  pub calls : made ≡ calls_of served
  pub goes_on : GoesFor Nobody last after
  pub rest : List Asking
  pub asked : askings ≡ map (λ step. step.result.asked) served ++ rest
  pub given : answered ≡ map (λ step. step.result.given) served
  pub whole : IsOk result → rest ≡ []
