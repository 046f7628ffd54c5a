-- Which calls a gate recorded of a step.
use Rattle.std.specs.Prelude.{◌≡◌, ℕ, List, [], ◌∷◌, ◌++◌, Option, None, Result, Ok, Err}
use Rattle.meta_store.specs.declared.planning.Choice.{Choice}
use Rattle.index_world.specs.Calls.{Grace, fetched, no_memory}
use Rattle.index_world.specs.CallsMade.{CallMade, IsRecorded, of_fetch, of_plan, of_task}
use Rattle.index_world.specs.Core.{Core}
use Rattle.search_api.specs.Resolved.{Asked, IsDelete, IsSearch}
use Rattle.search_api.specs.declared.unanswered.Unanswered.{Unanswered}
use Rattle.root_search.specs.Requests.{ask_of, asked_of}
use Rattle.root_search.specs.Steps.{Passage, Request, config_in, no_request, opened, planned}
use Rattle.root_search.specs.declared.outcome.SearchStep.{SearchStep}

-- Fetches of the file with a number, one after another, each for some bytes: each is recorded as what it left, or it found no memory.
abbrev pub AreRecorded : Grace → ℕ → List Passage → List CallMade → Type 0
AreRecorded grace number [] made = made ≡ []
AreRecorded grace number (passage ∷ more) made =
    let call = fetched grace passage.fate passage.core in
    (from : ℕ) × (len : ℕ) × (first : List CallMade) × (rest : List CallMade) × (made ≡ first ++ rest)
    × IsRecorded (of_fetch number from len) passage.core call.core (call.answer ≡ Err no_memory) first × AreRecorded grace number more rest

-- the next split is fetched, if there is one
abbrev pub AreFetchesOf : Grace → List ℕ → List Passage → List CallMade → Type 0
AreFetchesOf grace [] passages made = made ≡ []
AreFetchesOf grace (number ∷ left) passages made = AreRecorded grace number passages made

-- The call for a text that asks this: the task of a delete, and for all else a plan of some choice.
abbrev pub IsFirstCall : Result Asked Unanswered → (found after : Core) → Option SearchStep → List CallMade → Type 0
IsFirstCall (Ok (IsSearch search)) found after outcome made = (choice : Choice) × IsRecorded (of_plan choice) found after (outcome ≡ None) made
IsFirstCall (Ok (IsDelete deletion)) found after outcome made = IsRecorded (of_task (ask_of deletion)) found after (outcome ≡ None) made
IsFirstCall (Err reason) found after outcome made = (choice : Choice) × IsRecorded (of_plan choice) found after (outcome ≡ None) made

-- What a step of a request calls: nothing, or a plan or a task of what its text asks, or fetches of the next split's file.
abbrev pub AreCallsOf : Request → Passage → List Passage → Core → Option SearchStep → List CallMade → Type 0
AreCallsOf no_request passage more after outcome made = made ≡ []
AreCallsOf (opened text) passage more after outcome made = IsFirstCall (asked_of (config_in passage.core) text) passage.core after outcome made
AreCallsOf (planned plan) passage more after outcome made = AreFetchesOf plan.grace plan.unfetched (passage ∷ more) made
