-- The steps of a planned search, up to its reply.
use Rattle.std.proofs.Common.{◌≡◌, ◌⊎◌, inl, inr, ℕ, ◌≤◌, Bool, true, false, List, [], ◌∷◌, ◌++◌, length, take, refl, sym, ap, ◌∙◌, subst, append_assoc, arith}
use Rattle.std.proofs.lemmas.List.{take-append-le, take_all}
use Rattle.std.specs.List.{AllByRecursion}
use Rattle.std.specs.Prelude.{Option, Some, None, Result, Ok, Err, ⊤}
use Rattle.index_config.specs.declared.config.IndexConfig.{IndexConfig}
use Rattle.meta_journal.specs.declared.entry.Entry.{Entry}
use Rattle.meta_store.specs.History.{history}
use Rattle.meta_store.specs.Ledgers.{ledger}
use Rattle.source_log.specs.Log.{Log}
use Rattle.index_world.specs.Calls.{Fault, Grace, Trouble, faulted, no_memory, fetched}
use Rattle.index_world.specs.CallsMade.{CallMade, IsRecorded, of_fetch}
use Rattle.index_world.specs.Config.{reads}
use Rattle.index_world.specs.Configuration.{configuration, config_or}
use Rattle.index_world.specs.Core.{Core, Nobody}
use Rattle.index_world.specs.Ran.{AreSteps, StepMade, calls_of}
use Rattle.index_world.specs.Seen.{visible}
use Rattle.index_world.specs.World.{GoesFor}
use Rattle.index_world.proofs.Ran.{Past}
use Rattle.search_api.specs.Resolved.{Search}
use Rattle.search_api.specs.declared.reply.Reply.{Reply}
use Rattle.search_api.specs.declared.reply.Said.{Said}
use Rattle.search_api.specs.declared.reply.Said.TheVariants.{Refused}
use Rattle.root_search.specs.Answer.{answer}
use Rattle.root_search.specs.AnswerAll.{ClientAt, ClientStep, Told, reply_of}
use Rattle.root_search.specs.Recorded.{AreCallsOf, AreFetchesOf, AreRecorded}
use Rattle.root_search.specs.Steps.{ArePassed, Client, Passage, Plan, Request, Searched, answer_of, fault_refusal, fetch_by, fetched_at, grace_at, grace_in, next_at, or_short, planned, request_at, with_unfetched}
use Rattle.root_search.specs.declared.outcome.SearchStep.{SearchStep}
use Rattle.root_search.specs.declared.outcome.SearchStep.TheVariants.{Fetched, Idle, Planned, Replied}
use Rattle.root_search.specs.Replied.{IsFetch}
use Rattle.root_search.proofs.CallFaults.{FetchFails, Fetches, IfFails, each_fails}
use Rattle.root_search.proofs.FirstReplies.{IsGoing, going_told, reply_told, told_is}

-- ---- histories

-- the one begins the other
abbrev pub Begins : List Entry → List Entry → Type 0
Begins one other = (more : List Entry) × (other ≡ one ++ more)

pub begins_same : (one other : List Entry) → Begins one other → take (length one) other ≡ one
begins_same one other b = ap (take (length one)) b.1 ∙ (take-append-le (length one) one b.0 (omega arith) ∙ take_all (length one) one (omega arith))

pub begins_on : (a b c : List Entry) → Begins a b → Begins b c → Begins a c
begins_on a b c p q = (p.0 ++ q.0, q.1 ∙ (ap (λ (l : List Entry). l ++ q.0) p.1 ∙ append_assoc a p.0 q.0))

-- the answer over what is visible behind entries
abbrev pub answer_seen : List Entry → Search → Log → Said
answer_seen seen search log = answer (config_or (configuration seen)).schema search (visible (config_or (configuration seen)) (ledger reads (history seen)) log)

-- ---- one step

module _ (plan : Plan) (log : Log) (low : ℕ) (found : Core) (client : Client) where
  -- it is answered, or fails
  abbrev pub NextReply : (after : Core) → Said → Type 0
  NextReply after said = (said ≡ answer_of plan log found) ⊎ ((fault : Fault) × (said ≡ Refused (fault_refusal fault)) × FetchFails plan.grace low (faulted fault) after)

  pub record EndsAs (after : Core) (later : Client) (reply : Reply) : Type 0 where
    pub client_is : reply.client ≡ client.name
    pub name_is : later.name ≡ client.name
    pub front_is : later.front ≡ reply.revision
    pub revision_is : reply.revision ≡ plan.revision
    pub says : NextReply after reply.said

  pub record GoesOnWith (later : Client) : Type 0 where
    pub left : List ℕ
    pub later_is : later ≡ with_unfetched plan left client

  abbrev pub NextSays : (after : Core) → Option SearchStep → Client → Type 0
  NextSays after None later = ⊤
  NextSays after (Some Idle) later = ⊥
  NextSays after (Some (Planned revision count)) later = ⊥
  NextSays after (Some (Fetched number)) later = GoesOnWith later
  NextSays after (Some (Replied reply)) later = EndsAs after later reply

  abbrev Next : Searched → Type 0
  Next step = NextSays step.core step.outcome step.client

  fetch_next : (r : Result ⊤ Trouble) (number : ℕ) (left : List ℕ) (after : Core) → IfFails (λ trouble. FetchFails plan.grace low trouble after) r → Next (fetch_by r plan number left client after)
  fetch_next (Ok done) number left after h = record { left = left; later_is = refl }
  fetch_next (Err (faulted fault)) number left after h = record { client_is = refl; name_is = refl; front_is = refl; revision_is = refl; says = inr (fault, refl, h) }
  fetch_next (Err no_memory) number left after h = tt

  short_next : (short : Bool) (step : Searched) → Next step → Next (or_short short client step)
  short_next true step n = tt
  short_next false step n = n

  -- one that goes on fetches
  pub next_goes : (after : Core) (step : SearchStep) (later : Client) → IsGoing step → NextSays after (Some step) later → GoesOnWith later
  next_goes after Idle later going says = absurd says
  next_goes after (Planned revision count) later going says = absurd says
  next_goes after (Fetched number) later going says = says
  next_goes after (Replied reply) later going says = absurd going

next_next : (unfetched : List ℕ) (passage : Passage) (more : List Passage) (log : Log) (plan : Plan) (client : Client) (low : ℕ) → Fetches plan.grace low (fetched_at plan.grace passage.core (passage ∷ more)) →
    Next plan log low passage.core client (next_at passage more log plan unfetched client)
next_next [] passage more log plan client low h = record { client_is = refl; name_is = refl; front_is = refl; revision_is = refl; says = inl refl }
next_next (number ∷ left) passage more log plan client low h =
    let given = fetched_at plan.grace passage.core (passage ∷ more) in
    fetch_next plan log low passage.core client given.answer number left given.core h

-- ---- the calls of fetches

pub all_append : {X : Type 0} (P : X → Type 0) (xs ys : List X) → AllByRecursion P xs → AllByRecursion P ys → AllByRecursion P (xs ++ ys)
all_append P [] ys a b = b
all_append P (x ∷ xs) ys a b = (a.0, all_append P xs ys a.1 b)

recorded_fetch : (number from len : ℕ) (mid after : Core) (short : Type 0) (made : List CallMade) → IsRecorded (of_fetch number from len) mid after short made → AllByRecursion IsFetch made
recorded_fetch number from len mid after short made (inl once) = subst (AllByRecursion IsFetch) (sym once) ((number, from, len, refl), tt)
recorded_fetch number from len mid after short made (inr none) = subst (AllByRecursion IsFetch) (sym none.0) tt

recorded_fetches : (grace : Grace) (number : ℕ) (passages : List Passage) (made : List CallMade) → AreRecorded grace number passages made → AllByRecursion IsFetch made
recorded_fetches grace number [] made r = subst (AllByRecursion IsFetch) (sym r) tt
recorded_fetches grace number (passage ∷ more) made (from, len, first, rest, are, once, others) =
    let call = fetched grace passage.fate passage.core in
    subst (AllByRecursion IsFetch) (sym are) (all_append IsFetch first rest (recorded_fetch number from len passage.core call.core (call.answer ≡ Err no_memory) first once) (recorded_fetches grace number more rest others))

planned_fetches : (grace : Grace) (unfetched : List ℕ) (passages : List Passage) (made : List CallMade) → AreFetchesOf grace unfetched passages made → AllByRecursion IsFetch made
planned_fetches grace [] passages made r = subst (AllByRecursion IsFetch) (sym r) tt
planned_fetches grace (number ∷ left) passages made r = recorded_fetches grace number passages made r

-- ---- up to the reply

module _ (Between : Core → Core → Type 0) (goes : (one other : Core) → Between one other → GoesFor Nobody one other) (log : Log) (config : IndexConfig) (search : Search) (name : List ℕ) (first : CallMade) (from : Core) where
  -- a search that was planned by this call, where it is now
  pub record IsPlannedAt (at : ClientAt) : Type 0 where
    pub plan : Plan
    pub is : at.client.request ≡ planned plan
    pub search_is : plan.search ≡ search
    pub revision : plan.revision ≡ length first.history
    pub grace : plan.grace ≡ grace_at config first.moment
    pub name_is : at.client.name ≡ name
    pub seen : Begins first.history at.core.history
    pub low : from.store_faults ≤ at.core.store_faults

  -- and how it ends
  abbrev pub EndSays : (after : Core) → Said → Type 0
  EndSays after said = (said ≡ answer_seen first.history search log) ⊎ ((fault : Fault) × (said ≡ Refused (fault_refusal fault)) × FetchFails (grace_at config first.moment) from.store_faults (faulted fault) after)

  pub record SearchEnds (calls : List CallMade) (reply : Reply) (last : ClientAt) : Type 0 where
    pub client_is : reply.client ≡ name
    pub name_is : last.client.name ≡ name
    pub front_is : last.client.front ≡ reply.revision
    pub revision : reply.revision ≡ length first.history
    pub says : EndSays last.core reply.said
    pub fetches : AllByRecursion IsFetch calls

  module _ (at : ClientAt) (is : IsPlannedAt at) (step : StepMade Told) (to : ClientAt) (s : ClientStep Between log at step to) where
    says_next : NextSays is.plan log from.store_faults s.passage.core at.client to.core s.outcome to.client
    says_next =
        let passed : ArePassed is.plan.grace Between at.core (s.passage ∷ s.more) = subst (λ (r : Request). ArePassed (grace_in r) Between at.core (s.passage ∷ s.more)) is.is s.passed in
        let past : Past from.store_faults at.core.store_faults = (let low = is.low in omega (arith, low)) in
        let h : Fetches is.plan.grace from.store_faults (fetched_at is.plan.grace s.passage.core (s.passage ∷ s.more)) = each_fails Between goes is.plan.grace from.store_faults at.core (s.passage ∷ s.more) past passed in
        let P : Searched → Type 0 = λ st. Next is.plan log from.store_faults s.passage.core at.client st in
        let Q : Request → Type 0 = λ request. P (or_short s.short at.client (request_at request s.passage s.more log at.client)) in
        subst P s.did (subst Q (sym is.is)
        (short_next is.plan log from.store_faults s.passage.core at.client s.short (request_at (planned is.plan) s.passage s.more log at.client)
        (next_next is.plan.unfetched s.passage s.more log is.plan at.client from.store_faults h)))

    calls_next : AllByRecursion IsFetch step.made
    calls_next =
        let asks : AreCallsOf (planned is.plan) s.passage s.more to.core s.outcome step.made = subst (λ (r : Request). AreCallsOf r s.passage s.more to.core s.outcome step.made) is.is s.asks in
        planned_fetches is.plan.grace is.plan.unfetched (s.passage ∷ s.more) step.made asks

    -- what the reply was made of is what the plan saw
    found_seen : Begins first.history s.passage.core.history
    found_seen = begins_on first.history at.core.history s.passage.core.history is.seen (goes at.core s.passage.core s.passed.0).grown

    answer_is : answer_of is.plan log s.passage.core ≡ answer_seen first.history search log
    answer_is =
        ap (λ (r : ℕ). answer_seen (take r s.passage.core.history) is.plan.search log) is.revision
        ∙ (ap (λ (seen : List Entry). answer_seen seen is.plan.search log) (begins_same first.history s.passage.core.history found_seen)
        ∙ ap (λ (x : Search). answer_seen first.history x log) is.search_is)

    end_says : (said : Said) → NextReply is.plan log from.store_faults s.passage.core at.client to.core said → EndSays to.core said
    end_says said (inl answered) = inl (answered ∙ answer_is)
    end_says said (inr (fault, refused, fails)) = inr (fault, refused, subst (λ (g : Grace). FetchFails g from.store_faults (faulted fault) to.core) is.grace fails)

    ends : (reply : Reply) → reply_of step.result ≡ Some (Ok reply) → SearchEnds step.made reply to
    ends reply end =
        let outcome : s.outcome ≡ Some (Replied reply) = told_is step.result (Replied reply) s.outcome (reply_told step.result reply end) s.answer in
        let P : Option SearchStep → Type 0 = λ o. NextSays is.plan log from.store_faults s.passage.core at.client to.core o to.client in
        let e : EndsAs is.plan log from.store_faults s.passage.core at.client to.core to.client reply = subst P outcome says_next in
        record { client_is = e.client_is ∙ is.name_is; name_is = e.name_is ∙ is.name_is; front_is = e.front_is; revision = e.revision_is ∙ is.revision; says = end_says reply.said e.says; fetches = calls_next }

    goes_at : reply_of step.result ≡ None → IsPlannedAt to
    goes_at none =
        let told = going_told step.result none in
        let outcome : s.outcome ≡ Some told.0 = told_is step.result told.0 s.outcome told.1 s.answer in
        let P : Option SearchStep → Type 0 = λ o. NextSays is.plan log from.store_faults s.passage.core at.client to.core o to.client in
        let g = next_goes is.plan log from.store_faults s.passage.core at.client to.core told.0 to.client told.2 (subst P outcome says_next) in
        record {
          plan = record is.plan { unfetched = g.left };
          is = ap (λ (c : Client). c.request) g.later_is;
          search_is = is.search_is;
          revision = is.revision;
          grace = is.grace;
          name_is = ap (λ (c : Client). c.name) g.later_is ∙ is.name_is;
          seen = begins_on first.history at.core.history to.core.history is.seen s.goes_on.grown;
          low = (let low = is.low in let up = s.goes_on.faults in omega (arith, low, up));
        }

  -- its last step replies
  pub planned_ends : (front : List (StepMade Told)) (x : StepMade Told) (at last : ClientAt) (reply : Reply) → IsPlannedAt at → AreSteps (ClientStep Between log) at (front ++ x ∷ []) last →
      AllByRecursion (λ (step : StepMade Told). reply_of step.result ≡ None) front → reply_of x.result ≡ Some (Ok reply) → SearchEnds (calls_of (front ++ x ∷ [])) reply last
  planned_ends [] x at last reply is are going end =
      let e = ends at is x are.0 are.1 reply end in
      let same : last ≡ are.0 = are.2 in
      record {
        client_is = e.client_is;
        name_is = ap (λ (a : ClientAt). a.client.name) same ∙ e.name_is;
        front_is = ap (λ (a : ClientAt). a.client.front) same ∙ e.front_is;
        revision = e.revision;
        says = subst (λ (a : ClientAt). EndSays a.core reply.said) (sym same) e.says;
        fetches = all_append IsFetch x.made [] e.fetches tt;
      }
  planned_ends (y ∷ front) x at last reply is are going end =
      let mid = are.0 in
      let e = planned_ends front x mid last reply (goes_at at is y mid are.1 going.0) are.2 going.1 end in
      record {
        client_is = e.client_is;
        name_is = e.name_is;
        front_is = e.front_is;
        revision = e.revision;
        says = e.says;
        fetches = all_append IsFetch y.made (calls_of (front ++ x ∷ [])) (calls_next at is y mid are.1) e.fetches;
      }
