-- A step of a client, by what a call of a gate did and what is answered.
use Rattle.std.proofs.Common.{◌≡◌, inr, ℕ, ◌<◌, Bool, true, false, List, [], ◌∷◌, length, map, refl, sym, ap, ◌∙◌, subst, arith, Option, Some, None, Result, Ok, Err}
use Rattle.std.specs.Prelude.{⊤, IsErr}
use Rattle.std.specs.declared.alloc.AllocError.{AllocError}
use Rattle.index_config.specs.declared.config.IndexConfig.{IndexConfig}
use Rattle.source_log.specs.Log.{Log}
use Rattle.index_world.specs.Calls.{Fate, Grace, Gives, gives, Trouble, faulted, no_memory, Unmade, troubled, asked_and_looked, fetched, calm_fate}
use Rattle.index_world.specs.Calls as calls
use Rattle.index_world.specs.CallsMade.{CallMade, IsRecorded, of_plan, of_task}
use Rattle.index_world.specs.Core.{Core}
use Rattle.index_world.specs.Gate.{NoneBetween, Says, IsReceipt, IsTrouble, IsUnmade, task_call}
use Rattle.index_world.specs.declared.tokens.DeleteAsk.{DeleteAsk}
use Rattle.index_world.specs.declared.tokens.Receipt.{Receipt}
use Rattle.meta_store.specs.declared.planning.Choice.{Choice}
use Rattle.meta_store.specs.declared.planning.Choice.TheVariants.{Look}
use Rattle.index_world.specs.declared.world_error.WorldError.{WorldError}
use Rattle.search_api.specs.Resolved.{Asked, IsDelete, IsSearch, Search}
use Rattle.search_api.specs.Unanswered.{WantsMemory}
use Rattle.search_api.specs.declared.reply.Refusal.{Refusal}
use Rattle.search_api.specs.declared.reply.Said.TheVariants.{Refused}
use Rattle.search_api.specs.declared.resolved.Deletion.{Deletion}
use Rattle.search_api.specs.declared.unanswered.Unanswered.{Unanswered}
use Rattle.search_api.specs.declared.unanswered.Unanswered.TheVariants as reasons
use Rattle.root_search.specs.Requests.{ask_of, asked_of}
use Rattle.root_search.specs.Fetching.{FetchesAs}
use Rattle.root_search.specs.declared.fetching.FetchError.{FetchError}
use Rattle.root_search.specs.declared.fetching.FetchError.TheVariants.{Memory, World, Corrupt}
use Rattle.root_search.specs.declared.outcome.SearchStep.{SearchStep}
use Rattle.root_search.specs.declared.outcome.SearchStep.TheVariants as said
use Rattle.root_search.specs.declared.planned.Planned.{Planned as GivenPlan}
use Rattle.root_search.specs.declared.searcher.Request.{Request as GivenRequest}
use Rattle.root_search.specs.declared.searcher.Request.TheVariants as requests
use Rattle.root_search.specs.declared.searcher.Searcher.{Searcher}
use Rattle.root_search.specs.Searching.{IsRefusalOf, IsRequest, SearcherStands, SearchesAs, IsAtWork, Ends, FaultEnds, searched_as}
use Rattle.root_search.specs.StepReads.{refusal_of}
use Rattle.root_search.specs.Steps.{ArePassed, grace_in, Plan, Request, no_request, opened, planned, Client, ClientLuck, Searched, Passage, config_in, without_memory, without_request, fetched_at, fetched_each, luck_of, next_at, next_step, request_at, step_at, step_client, step_request, delete_by, delete_given, opened_by, plan_by, plan_given, fetch_by, fetch_given, or_short, state_refusal, trouble_replied, unmade_replied, unless_fault, refused_over, reply_with, answer_of}
use Rattle.root_search.specs.Goes.{GoesBy}
use Rattle.root_search.specs.Recorded.{AreCallsOf, AreFetchesOf, AreRecorded, IsFirstCall}
use Rattle.index_world.specs.Taking.{IsWant}
use Rattle.root_search.proofs.Recorded.{record_as, want_is}
use Rattle.root_search.proofs.Fetches.{by_refl, some_passages}

-- ---- the request of a searcher

-- it has a planned search only where one is planned, and that one
pub vacant_unplanned : (r : GivenRequest) (q : GivenPlan) → r ≡ requests.Vacant → r ≡ requests.Planned q → ⊥
vacant_unplanned r q was is = absurd (cc)

pub vacant_unopened : (r : GivenRequest) (text : List ℕ) → r ≡ requests.Vacant → r ≡ requests.Opened text → ⊥
vacant_unopened r text was is = absurd (cc)

pub opened_one : (r : GivenRequest) (text other : List ℕ) → r ≡ requests.Opened text → r ≡ requests.Opened other → other ≡ text
opened_one r text other was is = cc

pub opened_unplanned : (r : GivenRequest) (text : List ℕ) (q : GivenPlan) → r ≡ requests.Opened text → r ≡ requests.Planned q → ⊥
opened_unplanned r text q was is = absurd (cc)

pub planned_one : (r : GivenRequest) (p q : GivenPlan) → r ≡ requests.Planned p → r ≡ requests.Planned q → q ≡ p
planned_one r p q was is = cc

-- ---- the core behind a step

trouble_core : (revision : ℕ) (trouble : Trouble) (client : Client) (core : Core) → (trouble_replied revision trouble client core).core ≡ core
trouble_core revision (faulted fault) client core = refl
trouble_core revision no_memory client core = refl

refusal_core : (revision : ℕ) (refusal : Refusal) (trouble : Trouble) (client : Client) (core : Core) → (refused_over revision refusal trouble client core).core ≡ core
refusal_core revision refusal (faulted fault) client core = refl
refusal_core revision refusal no_memory client core = refl

pub plan_core : (answer : Result ⊤ Trouble) (asked : Result Search Unanswered) (client : Client) (core : Core) → (plan_by answer asked client core).core ≡ core
plan_core (Ok done) (Ok search) client core = refl
plan_core (Ok done) (Err (reasons.Refused refusal)) client core = refl
plan_core (Ok done) (Err (reasons.Memory e)) client core = refl
plan_core (Err trouble) (Ok search) client core = trouble_core client.front trouble client core
plan_core (Err trouble) (Err (reasons.Refused refusal)) client core = refusal_core client.front refusal trouble client core
plan_core (Err trouble) (Err (reasons.Memory e)) client core = refl

-- a plan that found no memory answers nothing
pub plan_short : (answer : Result ⊤ Trouble) (asked : Result Search Unanswered) (client : Client) (core : Core) → answer ≡ Err no_memory → (plan_by answer asked client core).outcome ≡ None
plan_short answer asked client core e = ap (λ (r : Result ⊤ Trouble). (plan_by r asked client core).outcome) e ∙ by asked
  where
    by : (r : Result Search Unanswered) → (plan_by (Err no_memory) r client core).outcome ≡ None
    by (Ok search) = refl
    by (Err (reasons.Refused refusal)) = refl
    by (Err (reasons.Memory m)) = refl

-- the core behind the task of a delete, which answers nothing without memory
pub delete_core : (answer : Result ⊤ Unmade) (client : Client) (core : Core) → (delete_by answer client core).core ≡ core
delete_core (Ok done) client core = refl
delete_core (Err (calls.refused refusal)) client core = refl
delete_core (Err (troubled trouble)) client core = trouble_core client.front trouble client core

pub delete_short : (answer : Result ⊤ Unmade) (client : Client) (core : Core) → answer ≡ Err (troubled no_memory) → (delete_by answer client core).outcome ≡ None
delete_short answer client core e = ap (λ (r : Result ⊤ Unmade). (delete_by r client core).outcome) e

fetch_core : (answer : Result ⊤ Trouble) (plan : Plan) (number : ℕ) (more : List ℕ) (client : Client) (core : Core) → (fetch_by answer plan number more client core).core ≡ core
fetch_core (Ok done) plan number more client core = refl
fetch_core (Err trouble) plan number more client core = trouble_core plan.revision trouble client core

pub short_core : (short : Bool) (client : Client) (step : Searched) → (or_short short client step).core ≡ step.core
short_core true client step = refl
short_core false client step = refl

-- ---- a client that has no request any more

pub dropped : (searcher : Searcher) (client : Client) (core : Core) (log : Log) → IsAtWork searcher client core → SearcherStands searcher (without_request client) core log
dropped searcher client core log w =
    record { name = w.name; front = w.front; footers = w.footers; request = subst (λ r. IsRequest searcher.footers r no_request core log) (sym w.vacant) refl }

-- a step that finds no memory ends so
pub ends_short : (r : Result SearchStep AllocError) (searcher : Searcher) (client : Client) (core : Core) (log : Log) → IsErr r → IsAtWork searcher client core → Ends r searcher (without_memory client core) log
ends_short (Ok step) searcher client core log h w = absurd cc
ends_short (Err e) searcher client core log h w = record { says = refl; stands = dropped searcher client core log w }

-- whatever the step would have said
pub ends_without : (r : Result SearchStep AllocError) (searcher : Searcher) (client : Client) (step : Searched) (log : Log) → IsErr r → IsAtWork searcher client step.core → Ends r searcher (or_short true client step) log
ends_without r searcher client step log h w = ends_short r searcher client step.core log h w

ends_unasked : (r : Result SearchStep AllocError) (asked : Result Search Unanswered) (searcher : Searcher) (client : Client) (core : Core) (log : Log) → IsErr r → IsAtWork searcher client core →
    Ends r searcher (plan_by (Err no_memory) asked client core) log
ends_unasked r (Ok search) searcher client core log h w = ends_short r searcher client core log h w
ends_unasked r (Err (reasons.Refused refusal)) searcher client core log h w = ends_short r searcher client core log h w
ends_unasked r (Err (reasons.Memory e)) searcher client core log h w = ends_short r searcher client core log h w

-- ---- what a call of a gate says

pub says_ok : {A : Type 0} (holds : A → Core → Type 0) (a : A) (answer : Result ⊤ Trouble) (after : Core) → Says IsTrouble holds (Ok a) answer after → (answer ≡ Ok tt) × holds a after
says_ok holds a (Ok done) after s = (refl, s)
says_ok holds a (Err trouble) after s = absurd s

pub says_err : {A : Type 0} (holds : A → Core → Type 0) (error : WorldError) (answer : Result ⊤ Trouble) (after : Core) → Says IsTrouble holds (Err error) answer after →
    (trouble : Trouble) × (answer ≡ Err trouble) × IsTrouble error trouble
says_err holds error (Ok done) after s = absurd s
says_err holds error (Err trouble) after s = (trouble, refl, s)

pub added_ok : (receipt : Receipt) (answer : Result ⊤ Unmade) (after : Core) → Says IsUnmade IsReceipt (Ok receipt) answer after → (answer ≡ Ok tt) × IsReceipt receipt after
added_ok receipt (Ok done) after s = (refl, s)
added_ok receipt (Err unmade) after s = absurd s

pub added_err : (error : WorldError) (answer : Result ⊤ Unmade) (after : Core) → Says IsUnmade IsReceipt (Err error) answer after →
    (unmade : Unmade) × (answer ≡ Err unmade) × IsUnmade error unmade
added_err error (Ok done) after s = absurd s
added_err error (Err unmade) after s = (unmade, refl, s)

-- ---- why no task is added

same_refusal : (o : Option Refusal) (one other : Refusal) → o ≡ Some one → o ≡ Some other → one ≡ other
same_refusal o one other e f = cc

never_none : (o : Option Refusal) (refusal : Refusal) → o ≡ Some refusal → o ≡ None → ⊥
never_none o refusal e f = absurd (cc)

-- the error's refusal is replied
pub unmade_refused : (error : WorldError) (refusal : Refusal) (unmade : Unmade) (revision : ℕ) (client : Client) (core : Core) → IsUnmade error unmade → refusal_of error ≡ Some refusal
    → ((trouble : Trouble) → IsTrouble error trouble → IsRefusalOf (Ok refusal) trouble) → unmade_replied revision unmade client core ≡ reply_with revision (Refused refusal) client core
unmade_refused error refusal (calls.refused state) revision client core is exact h =
    ap (λ (r : Refusal). reply_with revision (Refused r) client core) (same_refusal (refusal_of error) (state_refusal state) refusal (ap refusal_of is) exact)
unmade_refused error refusal (troubled trouble) revision client core is exact h =
    let r = h trouble is in
    ap (λ (t : Trouble). trouble_replied revision t client core) r.1 ∙ ap (λ (x : Refusal). reply_with revision (Refused x) client core) (sym r.2)

-- or memory was wanting
pub unmade_short : (error : WorldError) (unmade : Unmade) (revision : ℕ) (client : Client) (core : Core) → IsUnmade error unmade → refusal_of error ≡ None
    → ((trouble : Trouble) → IsTrouble error trouble → trouble ≡ no_memory) → unmade_replied revision unmade client core ≡ without_memory client core
unmade_short error (calls.refused state) revision client core is exact h = absurd (never_none (refusal_of error) (state_refusal state) (ap refusal_of is) exact)
unmade_short error (troubled trouble) revision client core is exact h = ap (λ (t : Trouble). trouble_replied revision t client core) (h trouble is)

-- where it is, the call found none
pub unmade_want : (error : WorldError) (unmade : Unmade) → IsWant error → IsUnmade error unmade → unmade ≡ troubled no_memory
unmade_want error (calls.refused state) want is = absurd (subst IsWant is want)
unmade_want error (troubled trouble) want is = ap troubled (want_is error trouble want is)

-- ---- what is planned

pub planned_is : (asked : Request) (one other : Plan) → asked ≡ planned one → asked ≡ planned other → one ≡ other
planned_is asked one other e f = cc

-- ---- what was read of a text

pub refused_is : (asked : Result Asked Unanswered) (reason : Unanswered) (refusal : Refusal) → reason ≡ reasons.Refused refusal → (¬ WantsMemory reason → asked ≡ Err reason) → asked ≡ Err (reasons.Refused refusal)
refused_is asked reason refusal e h = subst (λ (r : Unanswered). asked ≡ Err r) e (h (λ w. subst WantsMemory e w))

-- what is no delete is planned
abbrev pub as_asked : Result Search Unanswered → Result Asked Unanswered
as_asked (Ok search) = Ok (IsSearch search)
as_asked (Err reason) = Err reason

opened_plans : (o : Result Search Unanswered) (fate : Fate) (client : Client) (core : Core) → opened_by (as_asked o) fate client core ≡ plan_given o client (asked_and_looked fate core)
opened_plans (Ok search) fate client core = refl
opened_plans (Err reason) fate client core = refl

first_plan : (o : Result Search Unanswered) (choice : Choice) (found after : Core) (outcome : Option SearchStep) (made : List CallMade) → IsRecorded (of_plan choice) found after (outcome ≡ None) made → IsFirstCall (as_asked o) found after outcome made
first_plan (Ok search) choice found after outcome made once = (choice, once)
first_plan (Err reason) choice found after outcome made once = (choice, once)

-- no memory before the call
abbrev unasked_fate : Fate
unasked_fate = record calm_fate { unasked = true }

-- ---- steps

module _ {W : Type 0} (Stands : W → Core → Log → Type 0) (Between : Core → Core → Type 0) (Adds : W → List CallMade → W → Type 0) (old : W) (result : Result SearchStep AllocError) (new : Searcher) (gate : W) (client : Client) (core : Core) (log : Log) where
  -- what a step says, behind the core that its calls left
  step_as : (passage : Passage) (more : List Passage) (short : Bool) (after : Core) (step : Searched) → ArePassed (grace_in client.request) Between core (passage ∷ more) → step_at passage more short log client ≡ step → step.core ≡ after → GoesBy Between core after → Stands gate after log
      → Ends result new step log → (made : List CallMade) → Adds old made gate → AreCallsOf client.request passage more after step.outcome made → SearchesAs Stands Between Adds old result new gate client core log
  step_as passage more short after step passed did same on stands ends made own asks =
      record {
        passage = passage;
        more = more;
        passed = passed;
        short = short;
        outcome = step.outcome;
        later = step.client;
        after = after;
        did = did ∙ ap (λ c. searched_as step.outcome step.client c) same;
        says = ends.says;
        searcher = subst (λ c. SearcherStands new step.client c log) same ends.stands;
        gate_stands = stands;
        goes_on = on;
        made = made;
        own = own;
        asks = asks;
      }

  pub planned_as : (text : List ℕ) (config : IndexConfig) (mid : Core) (fate : Fate) (answer a : Result ⊤ Trouble) (o : Result Search Unanswered) (after : Core) → Between core mid → asked_and_looked fate mid ≡ gives answer after → GoesBy Between core after →
      Stands gate after log → client.request ≡ opened text → config_in mid ≡ config → asked_of config text ≡ as_asked o → answer ≡ a → Ends result new (plan_by a o client after) log →
      (choice : Choice) (short : Type 0) (made : List CallMade) → (short → a ≡ Err no_memory) → Adds old made gate → IsRecorded (of_plan choice) mid after short made → SearchesAs Stands Between Adds old result new gate client core log
  planned_as text config mid fate answer a o after passed did on stands asked is word said ends choice short made none own once =
      let passage : Passage = record { core = mid; fate = fate } in
      let read : asked_of (config_in mid) text ≡ as_asked o = ap (λ (c : IndexConfig). asked_of c text) is ∙ word in
      step_as passage [] false after (plan_by a o client after) (passed, tt)
      (ap (λ r. request_at r passage [] log client) asked ∙ (ap (λ (q : Result Asked Unanswered). opened_by q fate client mid) read
      ∙ (opened_plans o fate client mid ∙ (ap (plan_given o client) did ∙ ap (λ (x : Result ⊤ Trouble). plan_by x o client after) said))))
      (plan_core a o client after) on stands ends made own
      (subst (λ r. AreCallsOf r passage [] after (plan_by a o client after).outcome made) (sym asked)
      (subst (λ (q : Result Asked Unanswered). IsFirstCall q mid after (plan_by a o client after).outcome made) (sym read)
      (first_plan o choice mid after (plan_by a o client after).outcome made
      (record_as (of_plan choice) mid after after short ((plan_by a o client after).outcome ≡ None) made refl (λ is_short. plan_short a o client after (none is_short)) once))))

  pub deleted_as : (text : List ℕ) (config : IndexConfig) (deletion : Deletion) (ask : DeleteAsk) (mid : Core) (fate : Fate) (answer a : Result ⊤ Unmade) (after : Core) → Between core mid → task_call ask fate mid ≡ gives answer after → GoesBy Between core after →
      Stands gate after log → client.request ≡ opened text → config_in mid ≡ config → asked_of config text ≡ Ok (IsDelete deletion) → ask ≡ ask_of deletion → answer ≡ a → Ends result new (delete_by a client after) log →
      (short : Type 0) (made : List CallMade) → (short → a ≡ Err (troubled no_memory)) → Adds old made gate → IsRecorded (of_task ask) mid after short made → SearchesAs Stands Between Adds old result new gate client core log
  deleted_as text config deletion ask mid fate answer a after passed did on stands asked is word same said ends short made none own once =
      let passage : Passage = record { core = mid; fate = fate } in
      let read : asked_of (config_in mid) text ≡ Ok (IsDelete deletion) = ap (λ (c : IndexConfig). asked_of c text) is ∙ word in
      step_as passage [] false after (delete_by a client after) (passed, tt)
      (ap (λ r. request_at r passage [] log client) asked ∙ (ap (λ (q : Result Asked Unanswered). opened_by q fate client mid) read
      ∙ (ap (λ (k : DeleteAsk). delete_given client (task_call k fate mid)) (sym same) ∙ (ap (delete_given client) did ∙ ap (λ (x : Result ⊤ Unmade). delete_by x client after) said))))
      (delete_core a client after) on stands ends made own
      (subst (λ r. AreCallsOf r passage [] after (delete_by a client after).outcome made) (sym asked)
      (subst (λ (q : Result Asked Unanswered). IsFirstCall q mid after (delete_by a client after).outcome made) (sym read)
      (subst (λ (k : DeleteAsk). IsRecorded (of_task k) mid after ((delete_by a client after).outcome ≡ None) made) same
      (record_as (of_task ask) mid after after short ((delete_by a client after).outcome ≡ None) made refl (λ is_short. delete_short a client after (none is_short)) once))))

  -- where there was no memory before the call
  pub unasked_as : (text : List ℕ) → Between core core → Adds old [] gate → Stands gate core log → client.request ≡ opened text → IsErr result → IsAtWork new client core → SearchesAs Stands Between Adds old result new gate client core log
  unasked_as text between own stands asked short w = by (asked_of (config_in core) text) refl
    where
      plans : (o : Result Search Unanswered) → asked_of (config_in core) text ≡ as_asked o → SearchesAs Stands Between Adds old result new gate client core log
      plans o word =
          planned_as text (config_in core) core unasked_fate (Err no_memory) (Err no_memory) o core between refl (by_refl Between core) stands asked refl word refl
          (ends_unasked result o new client core log short w) Look ⊤ [] (λ done. refl) own (inr (refl, refl, tt))

      by : (q : Result Asked Unanswered) → asked_of (config_in core) text ≡ q → SearchesAs Stands Between Adds old result new gate client core log
      by (Ok (IsSearch search)) word = plans (Ok search) word
      by (Ok (IsDelete deletion)) word =
          deleted_as text (config_in core) deletion (ask_of deletion) core unasked_fate (Err (troubled no_memory)) (Err (troubled no_memory)) core between refl (by_refl Between core) stands asked refl word refl refl
          (ends_short result new client core log short w) ⊤ [] (λ done. refl) own (inr (refl, refl, tt))
      by (Err reason) word = plans (Err reason) word

  pub fetched_as : (plan : Plan) (number : ℕ) (left : List ℕ) (short : Bool) (passages : List Passage) (answer a : Result ⊤ Trouble) (after : Core) → 0 < length passages → ArePassed plan.grace Between core passages → fetched_at plan.grace core passages ≡ gives answer after → GoesBy Between core after →
      Stands gate after log → client.request ≡ planned plan → plan.unfetched ≡ number ∷ left → answer ≡ a → Ends result new (or_short short client (fetch_by a plan number left client after)) log →
      (made : List CallMade) → Adds old made gate → AreRecorded plan.grace number passages made → SearchesAs Stands Between Adds old result new gate client core log
  fetched_as plan number left short [] answer a after some passed did on stands asked unfetched said ends made own recorded = absurd (omega arith)
  fetched_as plan number left short (passage ∷ more) answer a after some passed did on stands asked unfetched said ends made own recorded =
      step_as passage more short after (or_short short client (fetch_by a plan number left client after)) (subst (λ r. ArePassed (grace_in r) Between core (passage ∷ more)) (sym asked) passed)
      (ap (λ r. or_short short client (request_at r passage more log client)) asked ∙ (ap (λ l. or_short short client (next_at passage more log plan l client)) unfetched
      ∙ (ap (λ given. or_short short client (fetch_given plan number left client given)) did ∙ ap (λ x. or_short short client (fetch_by x plan number left client after)) said)))
      (short_core short client (fetch_by a plan number left client after) ∙ fetch_core a plan number left client after) on stands ends made own
      (subst (λ r. AreCallsOf r passage more after (or_short short client (fetch_by a plan number left client after)).outcome made) (sym asked)
      (subst (λ l. AreFetchesOf plan.grace l (passage ∷ more) made) (sym unfetched) recorded))

  -- where no memory is found behind some fetches, or before them
  pub short_as : (plan : Plan) (number : ℕ) (left : List ℕ) (passages : List Passage) (answer : Result ⊤ Trouble) (after : Core) → Between core core → ArePassed plan.grace Between core passages → fetched_at plan.grace core passages ≡ gives answer after → GoesBy Between core after →
      Stands gate after log → client.request ≡ planned plan → plan.unfetched ≡ number ∷ left → IsErr result → IsAtWork new client after →
      (made : List CallMade) → Adds old made gate → AreRecorded plan.grace number passages made → SearchesAs Stands Between Adds old result new gate client core log
  short_as plan number left [] answer after between passed did on stands asked unfetched short w made own recorded =
      let same : after ≡ core = ap (λ (g : Gives Trouble ⊤). g.core) (sym did) in
      let passage : Passage = record { core = core; fate = record calm_fate { unasked = true } } in
      fetched_as plan number left true (passage ∷ []) (Err no_memory) (Err no_memory) core (omega arith) (between, tt) refl (by_refl Between core) (subst (λ c. Stands gate c log) same stands) asked unfetched refl
      (ends_without result new client (fetch_by (Err no_memory) plan number left client core) log short (subst (IsAtWork new client) same w)) made own (0, 0, [], [], recorded, inr (refl, refl, refl), refl)
  short_as plan number left (passage ∷ more) answer after between passed did on stands asked unfetched short w made own recorded =
      fetched_as plan number left true (passage ∷ more) answer answer after (omega arith) passed did on stands asked unfetched refl
      (ends_without result new client (fetch_by answer plan number left client after) log short (subst (IsAtWork new client) (sym (fetch_core answer plan number left client after)) w)) made own recorded

  -- where fetches gave nothing
  pub fault_as : {A : Type 0} (bytes_fetched : W → ℕ) (holds : A → ℕ → ℕ → Type 0) (fault : FetchError) (plan : Plan) (number : ℕ) (left : List ℕ) → Between core core → (f : FetchesAs plan.grace number Stands Between Adds bytes_fetched holds (Err fault) core log old gate)
      → FaultEnds fault result new plan.revision client f.after log → client.request ≡ planned plan → plan.unfetched ≡ number ∷ left → SearchesAs Stands Between Adds old result new gate client core log
  fault_as bytes_fetched holds (World error) plan number left between f ends asked unfetched =
      fetched_as plan number left false f.passages f.answer (Err f.says.0) f.after (some_passages plan.grace core f.passages f.answer f.after f.says.0 f.did f.says.1) f.passed f.did f.goes_on f.stands asked unfetched f.says.1 (ends f.says.0 f.says.2) f.made f.own f.recorded
  fault_as bytes_fetched holds (Memory e) plan number left between f ends asked unfetched = short_as plan number left f.passages f.answer f.after between f.passed f.did f.goes_on f.stands asked unfetched ends.0 ends.1 f.made f.own f.recorded
  fault_as bytes_fetched holds Corrupt plan number left between f ends asked unfetched = absurd f.says

  pub answered_as : (plan : Plan) (short : Bool) → Between core core → Adds old [] gate → Stands gate core log → client.request ≡ planned plan → plan.unfetched ≡ [] →
      Ends result new (or_short short client (reply_with plan.revision (answer_of plan log core) client core)) log → SearchesAs Stands Between Adds old result new gate client core log
  answered_as plan short between own stands asked left ends =
      let passage : Passage = record { core = core; fate = calm_fate } in
      step_as passage [] short core (or_short short client (reply_with plan.revision (answer_of plan log core) client core)) (between, tt)
      (ap (λ r. or_short short client (request_at r passage [] log client)) asked ∙ ap (λ l. or_short short client (next_at passage [] log plan l client)) left)
      (short_core short client (reply_with plan.revision (answer_of plan log core) client core)) (by_refl Between core) stands ends [] own
      (subst (λ r. AreCallsOf r passage [] core (or_short short client (reply_with plan.revision (answer_of plan log core) client core)).outcome []) (sym asked)
      (subst (λ l. AreFetchesOf plan.grace l (passage ∷ []) []) (sym left) refl))

  pub idle_as : Between core core → Adds old [] gate → Stands gate core log → client.request ≡ no_request → Ends result new (record { outcome = Some said.Idle; client = client; core = core }) log → SearchesAs Stands Between Adds old result new gate client core log
  idle_as between own stands asked ends =
      let passage : Passage = record { core = core; fate = calm_fate } in
      step_as passage [] false core (record { outcome = Some said.Idle; client = client; core = core }) (between, tt) (ap (λ r. request_at r passage [] log client) asked) refl (by_refl Between core) stands ends [] own (subst (λ r. AreCallsOf r passage [] core (Some said.Idle) []) (sym asked) refl)

-- ---- a step while no other actor acts

last_gives : (g : Gives Trouble ⊤) → unless_fault g.answer g.core (λ left. gives (Ok tt) left) ≡ g
last_gives g = by g.answer g.core
  where
    by : (r : Result ⊤ Trouble) (core : Core) → unless_fault r core (λ left. gives (Ok tt) left) ≡ gives r core
    by (Ok done) core = refl
    by (Err trouble) core = refl

each_alone : (grace : Grace) (passage : Passage) (more : List Passage) (core : Core) → ArePassed grace NoneBetween core (passage ∷ more) → fetched_at grace core (passage ∷ more) ≡ fetched_each grace passage.fate (map (λ (p : Passage). p.fate) more) core
each_alone grace passage [] core p = last_gives (fetched grace passage.fate passage.core) ∙ ap (fetched grace passage.fate) p.0
each_alone grace passage (next ∷ more) core p =
    ap (λ (c : Core). unless_fault (fetched grace passage.fate c).answer (fetched grace passage.fate c).core (λ left. fetched_at grace left (next ∷ more))) p.0
    ∙ by (fetched grace passage.fate core).answer (fetched grace passage.fate core).core (each_alone grace next more (fetched grace passage.fate core).core (subst (λ (c : Core). ArePassed grace NoneBetween (fetched grace passage.fate c).core (next ∷ more)) p.0 p.1))
  where
    by : (r : Result ⊤ Trouble) (left : Core) → fetched_at grace left (next ∷ more) ≡ fetched_each grace next.fate (map (λ (p : Passage). p.fate) more) left
        → unless_fault r left (λ c. fetched_at grace c (next ∷ more)) ≡ unless_fault r left (fetched_each grace next.fate (map (λ (p : Passage). p.fate) more))
    by (Ok done) left q = q
    by (Err trouble) left q = refl

-- it is the machine's step with these fates
pub step_alone : (passage : Passage) (more : List Passage) (short : Bool) (log : Log) (client : Client) (core : Core) → ArePassed (grace_in client.request) NoneBetween core (passage ∷ more)
    → step_client (luck_of passage more short) log client core ≡ step_at passage more short log client
step_alone passage more short log client core p = ap (or_short short client) (by client.request p)
  where
    luck : ClientLuck
    luck = luck_of passage more short

    next : (plan : Plan) (left : List ℕ) → ArePassed plan.grace NoneBetween core (passage ∷ more) → next_step luck log plan left client core ≡ next_at passage more log plan left client
    next plan [] q = ap (λ (c : Core). reply_with plan.revision (answer_of plan log c) client c) (sym p.0)
    next plan (number ∷ left) q = ap (fetch_given plan number left client) (sym (each_alone plan.grace passage more core q))

    by : (request : Request) → ArePassed (grace_in request) NoneBetween core (passage ∷ more) → step_request request luck log client core ≡ request_at request passage more log client
    by no_request q = ap (λ (c : Core). searched_as (Some said.Idle) client c) (sym p.0)
    by (opened text) q = ap (λ (c : Core). opened_by (asked_of (config_in c) text) passage.fate client c) (sym p.0)
    by (planned plan) q = next plan plan.unfetched q
