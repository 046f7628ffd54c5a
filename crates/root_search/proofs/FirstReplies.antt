-- The first step of a request: what it says, by what its text asks.
use Rattle.std.proofs.Common.{◌≡◌, ◌⊎◌, inl, inr, ℕ, Bool, true, false, List, [], ◌∷◌, length, refl, subst}
use Rattle.std.specs.Prelude.{Option, Some, None, Result, Ok, Err, ⊤}
use Rattle.meta_store.specs.History.{history, last_opstamp}
use Rattle.source_log.specs.Log.{Log}
use Rattle.index_world.specs.Calls.{Fate, Fault, gives, Trouble, faulted, no_memory, Unmade, refused, troubled, asked_and_looked}
use Rattle.index_world.specs.CallsMade.{Ask, CallMade, IsRecorded, made_of, of_plan, of_task}
use Rattle.index_world.specs.Core.{Core}
use Rattle.index_world.specs.Gate.{task_call}
use Rattle.index_world.specs.Ran.{StepMade}
use Rattle.search_api.specs.Resolved.{Asked, IsDelete, IsSearch, Search}
use Rattle.search_api.specs.declared.reply.Refusal.{Refusal}
use Rattle.search_api.specs.declared.reply.Reply.{Reply}
use Rattle.search_api.specs.declared.reply.Said.{Said}
use Rattle.search_api.specs.declared.reply.Said.TheVariants.{Deleted, Refused}
use Rattle.search_api.specs.declared.resolved.Deletion.{Deletion}
use Rattle.search_api.specs.declared.unanswered.Unanswered.{Unanswered}
use Rattle.search_api.specs.declared.unanswered.Unanswered.TheVariants as reasons
use Rattle.root_search.specs.AnswerAll.{ClientAt, ClientStep, Told, client_at, reply_of, with_text}
use Rattle.root_search.specs.Recorded.{IsFirstCall}
use Rattle.root_search.specs.Requests.{ask_of, asked_of}
use Rattle.root_search.specs.Searching.{IsAnswer}
use Rattle.root_search.specs.Steps.{Client, Searched, config_in, delete_by, fault_refusal, opened, opened_by, or_short, plan_by, request_at, state_refusal, with_plan}
use Rattle.root_search.specs.declared.outcome.SearchStep.{SearchStep}
use Rattle.root_search.specs.declared.outcome.SearchStep.TheVariants.{Fetched, Idle, Planned, Replied}
use Rattle.root_search.specs.Replied.{IsPlan}
use Rattle.root_search.proofs.CallFaults.{IfFails, PlanFails, looked_fails}

-- ---- what is told of a step

pub reply_told : (told : Told) (reply : Reply) → reply_of told ≡ Some (Ok reply) → told ≡ Ok (Replied reply)
reply_told (Ok Idle) reply e = absurd cc
reply_told (Ok (Planned revision count)) reply e = absurd cc
reply_told (Ok (Fetched number)) reply e = absurd cc
reply_told (Ok (Replied other)) reply e = cc
reply_told (Err short) reply e = absurd cc

-- a step goes on
abbrev pub IsGoing : SearchStep → Type 0
IsGoing Idle = ⊤
IsGoing (Planned revision count) = ⊤
IsGoing (Fetched number) = ⊤
IsGoing (Replied reply) = ⊥

pub going_told : (told : Told) → reply_of told ≡ None → (step : SearchStep) × (told ≡ Ok step) × IsGoing step
going_told (Ok Idle) e = (Idle, refl, tt)
going_told (Ok (Planned revision count)) e = (Planned revision count, refl, tt)
going_told (Ok (Fetched number)) e = (Fetched number, refl, tt)
going_told (Ok (Replied other)) e = absurd cc
going_told (Err short) e = absurd cc

pub told_is : (told : Told) (step : SearchStep) (outcome : Option SearchStep) → told ≡ Ok step → IsAnswer told outcome → outcome ≡ Some step
told_is told step outcome e answer = let P : Told → Type 0 = λ t. IsAnswer t outcome in subst P e answer

-- ---- what the first step says

-- a task that was added
pub record Added (deletion : Deletion) (mid : Core) (fate : Fate) (after : Core) (revision : ℕ) (said : Said) : Type 0 where
  pub did : task_call (ask_of deletion) fate mid ≡ gives (Ok tt) after
  pub revision_is : revision ≡ length after.history
  pub said_is : said ≡ Deleted (last_opstamp (history after.history))

abbrev pub IsUnmadeFor : Unmade → Refusal → Type 0
IsUnmadeFor (refused why) refusal = refusal ≡ state_refusal why
IsUnmadeFor (troubled (faulted fault)) refusal = refusal ≡ fault_refusal fault
IsUnmadeFor (troubled no_memory) refusal = ⊥

-- or was not
pub record Unadded (front : ℕ) (deletion : Deletion) (mid : Core) (fate : Fate) (after : Core) (revision : ℕ) (said : Said) : Type 0 where
  pub unmade : Unmade
  pub did : task_call (ask_of deletion) fate mid ≡ gives (Err unmade) after
  pub revision_is : revision ≡ front
  pub refusal : Refusal
  pub why : IsUnmadeFor unmade refusal
  pub said_is : said ≡ Refused refusal

module _ (client : Client) (mid : Core) (fate : Fate) where
  abbrev pub FirstReply : Result Asked Unanswered → (after : Core) → ℕ → Said → Type 0
  FirstReply (Ok (IsSearch search)) after revision said =
      (revision ≡ client.front) × ((fault : Fault) × (said ≡ Refused (fault_refusal fault)) × PlanFails mid.store_faults (faulted fault) after.store_faults)
  FirstReply (Ok (IsDelete deletion)) after revision said = Added deletion mid fate after revision said ⊎ Unadded client.front deletion mid fate after revision said
  FirstReply (Err (reasons.Refused own)) after revision said = (said ≡ Refused own) × ((revision ≡ client.front) ⊎ (revision ≡ length after.history))
  FirstReply (Err (reasons.Memory e)) after revision said = ⊥

  -- a search is planned
  pub record Plans (asked : Result Asked Unanswered) (after : Core) (later : Client) : Type 0 where
    pub search : Search
    pub asked_is : asked ≡ Ok (IsSearch search)
    pub later_is : later ≡ (with_plan search client after).client

  pub record Replies (asked : Result Asked Unanswered) (after : Core) (later : Client) (reply : Reply) : Type 0 where
    pub client_is : reply.client ≡ client.name
    pub name_is : later.name ≡ client.name
    pub front_is : later.front ≡ reply.revision
    pub says : FirstReply asked after reply.revision reply.said

  abbrev pub FirstSays : Result Asked Unanswered → (after : Core) → Option SearchStep → Client → Type 0
  FirstSays asked after None later = ⊤
  FirstSays asked after (Some Idle) later = ⊥
  FirstSays asked after (Some (Planned revision count)) later = Plans asked after later
  FirstSays asked after (Some (Fetched number)) later = ⊥
  FirstSays asked after (Some (Replied reply)) later = Replies asked after later reply

  abbrev First : Result Asked Unanswered → Searched → Type 0
  First asked step = FirstSays asked step.core step.outcome step.client

  search_first : (search : Search) (r : Result ⊤ Trouble) (after : Core) → IfFails (λ trouble. PlanFails mid.store_faults trouble after.store_faults) r → First (Ok (IsSearch search)) (plan_by r (Ok search) client after)
  search_first search (Ok done) after h = record { search = search; asked_is = refl; later_is = refl }
  search_first search (Err (faulted fault)) after h = record { client_is = refl; name_is = refl; front_is = refl; says = (refl, (fault, refl, h)) }
  search_first search (Err no_memory) after h = tt

  own_first : (reason : Unanswered) (r : Result ⊤ Trouble) (after : Core) → First (Err reason) (plan_by r (Err reason) client after)
  own_first (reasons.Refused own) (Ok done) after = record { client_is = refl; name_is = refl; front_is = refl; says = (refl, inr refl) }
  own_first (reasons.Refused own) (Err (faulted fault)) after = record { client_is = refl; name_is = refl; front_is = refl; says = (refl, inl refl) }
  own_first (reasons.Refused own) (Err no_memory) after = tt
  own_first (reasons.Memory e) (Ok done) after = tt
  own_first (reasons.Memory e) (Err trouble) after = tt

  delete_first : (deletion : Deletion) (r : Result ⊤ Unmade) (after : Core) → task_call (ask_of deletion) fate mid ≡ gives r after → First (Ok (IsDelete deletion)) (delete_by r client after)
  delete_first deletion (Ok done) after did = record { client_is = refl; name_is = refl; front_is = refl; says = inl (record { did = did; revision_is = refl; said_is = refl }) }
  delete_first deletion (Err (refused why)) after did =
      record { client_is = refl; name_is = refl; front_is = refl; says = inr (record { unmade = refused why; did = did; revision_is = refl; refusal = state_refusal why; why = refl; said_is = refl }) }
  delete_first deletion (Err (troubled (faulted fault))) after did =
      record { client_is = refl; name_is = refl; front_is = refl; says = inr (record { unmade = troubled (faulted fault); did = did; revision_is = refl; refusal = fault_refusal fault; why = refl; said_is = refl }) }
  delete_first deletion (Err (troubled no_memory)) after did = tt

  opened_first : (asked : Result Asked Unanswered) → First asked (opened_by asked fate client mid)
  opened_first (Ok (IsSearch search)) = let given = asked_and_looked fate mid in search_first search given.answer given.core (looked_fails fate mid)
  opened_first (Ok (IsDelete deletion)) = let given = task_call (ask_of deletion) fate mid in delete_first deletion given.answer given.core refl
  opened_first (Err reason) = let given = asked_and_looked fate mid in own_first reason given.answer given.core

  short_first : (asked : Result Asked Unanswered) (short : Bool) (step : Searched) → First asked step → First asked (or_short short client step)
  short_first asked true step f = tt
  short_first asked false step f = f

-- what the first step of a text says
pub first_says : (Between : Core → Core → Type 0) (log : Log) (text : List ℕ) (client : Client) (core : Core) (step : StepMade Told) (to : ClientAt) (s : ClientStep Between log (client_at (with_text text client) core) step to) →
    FirstSays (with_text text client) s.passage.core s.passage.fate (asked_of (config_in s.passage.core) text) to.core s.outcome to.client
first_says Between log text client core step to s =
    let asker = with_text text client in
    let asked = asked_of (config_in s.passage.core) text in
    let P : Searched → Type 0 = λ st. First asker s.passage.core s.passage.fate asked st in
    subst P s.did (short_first asker s.passage.core s.passage.fate asked s.short (request_at (opened text) s.passage s.more log asker) (opened_first asker s.passage.core s.passage.fate asked))

-- one that goes on plans a search
pub first_plans : (client : Client) (mid : Core) (fate : Fate) (asked : Result Asked Unanswered) (after : Core) (step : SearchStep) (later : Client) → IsGoing step → FirstSays client mid fate asked after (Some step) later → Plans client mid fate asked after later
first_plans client mid fate asked after Idle later going says = absurd says
first_plans client mid fate asked after (Planned revision count) later going says = says
first_plans client mid fate asked after (Fetched number) later going says = absurd says
first_plans client mid fate asked after (Replied reply) later going says = absurd going

-- ---- its call

-- what it asks for
abbrev pub AsksFor : Result Asked Unanswered → Ask → Type 0
AsksFor (Ok (IsSearch search)) ask = IsPlan ask
AsksFor (Ok (IsDelete deletion)) ask = ask ≡ of_task (ask_of deletion)
AsksFor (Err reason) ask = IsPlan ask

none_some : (o : Option SearchStep) (step : SearchStep) → o ≡ Some step → o ≡ None → ⊥
none_some o step e f = absurd cc

recorded_once : (ask : Ask) (mid after : Core) (o : Option SearchStep) (step : SearchStep) (made : List CallMade) → o ≡ Some step → IsRecorded ask mid after (o ≡ None) made → made ≡ made_of ask after ∷ []
recorded_once ask mid after o step made e (inl once) = once
recorded_once ask mid after o step made e (inr none) = absurd (none_some o step e none.2)

pub first_made : (asked : Result Asked Unanswered) (mid after : Core) (o : Option SearchStep) (step : SearchStep) (made : List CallMade) → o ≡ Some step → IsFirstCall asked mid after o made →
    (ask : Ask) × AsksFor asked ask × (made ≡ made_of ask after ∷ [])
first_made (Ok (IsSearch search)) mid after o step made e (choice, once) = (of_plan choice, (choice, refl), recorded_once (of_plan choice) mid after o step made e once)
first_made (Ok (IsDelete deletion)) mid after o step made e once = (of_task (ask_of deletion), refl, recorded_once (of_task (ask_of deletion)) mid after o step made e once)
first_made (Err reason) mid after o step made e (choice, once) = (of_plan choice, (choice, refl), recorded_once (of_plan choice) mid after o step made e once)
