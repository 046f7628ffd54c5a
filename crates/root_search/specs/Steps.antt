-- What a client holds, and one step of its request, given the fate of its calls.
use Rattle.std.specs.Prelude.{ℕ, ◌+◌, Bool, true, false, List, [], ◌∷◌, length, map, take, Option, Some, None, Result, Ok, Err, ⊤, decimal, codes}
use Rattle.index_config.specs.declared.config.IndexConfig.{IndexConfig}
use Rattle.meta_store.specs.History.{History, history, last_opstamp}
use Rattle.meta_store.specs.Planning.{searched}
use Rattle.meta_store.specs.Rows.{rows}
use Rattle.meta_store.specs.declared.refusal.Refusal.{Refusal as StateRefusal}
use Rattle.meta_store.specs.declared.refusal.Refusal.TheVariants as states
use Rattle.search_api.specs.Replies.{reply_text}
use Rattle.search_api.specs.Resolved.{Asked, IsDelete, IsSearch, Search}
use Rattle.search_api.specs.declared.reply.Refusal.{Refusal}
use Rattle.search_api.specs.declared.reply.Refusal.TheVariants as refusals
use Rattle.search_api.specs.declared.reply.Said.{Said}
use Rattle.search_api.specs.declared.reply.Said.TheVariants.{Deleted, Refused}
use Rattle.search_api.specs.declared.unanswered.Unanswered.{Unanswered}
use Rattle.search_api.specs.declared.unanswered.Unanswered.TheVariants as reasons
use Rattle.source_log.specs.Log.{Log}
use Rattle.index_world.specs.Calls.{Fate, Fault, store_fault, is_foreign, is_full, is_expired, Grace, Trouble, faulted, no_memory, Unmade, refused, troubled, Gives, gives, asked_and_looked, fetched}
use Rattle.index_world.specs.Configuration.{configuration, config_or}
use Rattle.index_world.specs.Core.{Core}
use Rattle.index_world.specs.Gate.{task_call}
use Rattle.index_world.specs.Seen.{visible_at}
use Rattle.root_search.specs.Answer.{answer}
use Rattle.root_search.specs.Requests.{ask_of, asked_of}
use Rattle.root_search.specs.declared.outcome.SearchStep.{SearchStep}
use Rattle.root_search.specs.declared.outcome.SearchStep.TheVariants as steps

-- a search that was planned: what it asks, its revision, until when its files are fetched, and the splits that are still to be
-- fetched
pub record Plan : Type 0 where
  pub search : Search
  pub revision : ℕ
  pub grace : Grace
  pub unfetched : List ℕ

pub data Request : Type 0 where
  no_request : Request
  opened : (text : List ℕ) → Request
  planned : Plan → Request

-- the front is the revision of its last reply
pub record Client : Type 0 where
  pub name : List ℕ
  pub front : ℕ
  pub request : Request

-- The fate of one step: its call of the world, its further calls if it makes some, and whether it finds no memory behind
-- them.
pub record ClientLuck : Type 0 where
  pub world : Fate
  pub more : List Fate
  pub short : Bool

-- What a step answers, and the client and the core behind it. Without memory there is no answer.
pub record Searched : Type 0 where
  pub outcome : Option SearchStep
  pub client : Client
  pub core : Core

abbrev pub no_grace : Grace
no_grace = record { planned_at = 0; until = 0 }

-- until when the files of a request are fetched, if it is planned
abbrev pub grace_in : Request → Grace
grace_in no_request = no_grace
grace_in (opened text) = no_grace
grace_in (planned plan) = plan.grace

-- the configuration behind so many entries
abbrev pub config_at : ℕ → Core → IndexConfig
config_at revision core = config_or (configuration (take revision core.history))

abbrev pub config_in : Core → IndexConfig
config_in core = config_or (configuration core.history)

-- the rows that a search plans
abbrev pub planned_numbers : IndexConfig → Search → History → List ℕ
planned_numbers config search h = map (λ row. row.number) (searched config.schema search.query search.times (rows h))

abbrev pub without_request : Client → Client
without_request client = record client { request = no_request }

-- without memory the request is dropped, and the front stays
abbrev pub without_memory : Client → Core → Searched
without_memory client core = record { outcome = None; client = without_request client; core = core }

-- the request is answered at this revision, which is the client's front from then on
abbrev pub reply_with : ℕ → Said → Client → Core → Searched
reply_with revision said client core =
    record {
      outcome = Some (steps.Replied (record { client = client.name; revision = revision; said = said }));
      client = record client { front = revision; request = no_request };
      core = core;
    }

abbrev pub fault_refusal : Fault → Refusal
fault_refusal (store_fault before after) = refusals.StoreFault before after
fault_refusal (is_foreign key) = refusals.Foreign key
fault_refusal is_full = refusals.Full
fault_refusal (is_expired planned_at now) = refusals.Expired planned_at now

-- the world answered a fault, which is replied, or found no memory
abbrev pub trouble_replied : ℕ → Trouble → Client → Core → Searched
trouble_replied revision (faulted fault) client core = reply_with revision (Refused (fault_refusal fault)) client core
trouble_replied revision no_memory client core = without_memory client core

-- a request that is refused is refused whatever fault there is
abbrev pub refused_over : ℕ → Refusal → Trouble → Client → Core → Searched
refused_over revision refusal (faulted fault) client core = reply_with revision (Refused refusal) client core
refused_over revision refusal no_memory client core = without_memory client core

-- files that are marked behind a plan stand for the configuration's grace
abbrev pub grace_at : IndexConfig → ℕ → Grace
grace_at config moment = record { planned_at = moment; until = moment + config.deletion_grace }

abbrev pub with_plan : Search → Client → Core → Searched
with_plan search client core =
    record {
      outcome = Some (steps.Planned (length core.history) (length (planned_numbers (config_in core) search (history core.history))));
      client = record client {
        request = planned (record {
          search = search;
          revision = length core.history;
          grace = grace_at (config_in core) core.moment;
          unfetched = planned_numbers (config_in core) search (history core.history);
        });
      };
      core = core;
    }

-- A plan that was made, for a search or to refuse, or none was.
abbrev pub plan_by : Result ⊤ Trouble → Result Search Unanswered → Client → Core → Searched
plan_by (Ok done) (Ok search) client core = with_plan search client core
plan_by (Ok done) (Err (reasons.Refused refusal)) client core = reply_with (length core.history) (Refused refusal) client core
plan_by (Ok done) (Err (reasons.Memory e)) client core = without_memory client core
plan_by (Err trouble) (Ok search) client core = trouble_replied client.front trouble client core
plan_by (Err trouble) (Err (reasons.Refused refusal)) client core = refused_over client.front refusal trouble client core
plan_by (Err trouble) (Err (reasons.Memory e)) client core = without_memory client core

abbrev pub plan_given : Result Search Unanswered → Client → Gives Trouble ⊤ → Searched
plan_given asked client given = plan_by given.answer asked client given.core

-- ---- a delete

-- What is replied where the state refuses the task of a delete: so many stand already. What it never answers to a text that was read is replied as
-- an index that has no room.
abbrev pub state_refusal : StateRefusal → Refusal
state_refusal (states.TooManyTasks count) = refusals.TooManyTasks count
state_refusal (states.MomentBack given greatest) = refusals.Full
state_refusal states.NotCreated = refusals.Full
state_refusal states.AlreadyCreated = refusals.Full
state_refusal (states.BadConfig bad) = refusals.Full
state_refusal (states.NotNext given next) = refusals.Full
state_refusal (states.Delta stale) = refusals.Full
state_refusal (states.State refusal) = refusals.Full
state_refusal (states.BadTask bad) = refusals.Full
state_refusal (states.UptoAhead upto last) = refusals.Full
state_refusal (states.TooManyRows count) = refusals.Full
state_refusal (states.TooManySpans count) = refusals.Full

-- why no task is added
abbrev pub unmade_replied : ℕ → Unmade → Client → Core → Searched
unmade_replied revision (refused refusal) client core = reply_with revision (Refused (state_refusal refusal)) client core
unmade_replied revision (troubled trouble) client core = trouble_replied revision trouble client core

-- The task is the last entry, and the client has seen it from then on. Where there is none its front stays.
abbrev pub delete_by : Result ⊤ Unmade → Client → Core → Searched
delete_by (Ok done) client core = reply_with (length core.history) (Deleted (last_opstamp (history core.history))) client core
delete_by (Err unmade) client core = unmade_replied client.front unmade client core

abbrev pub delete_given : Client → Gives Unmade ⊤ → Searched
delete_given client given = delete_by given.answer client given.core

-- ---- the first step

-- One call of the world: what is searched or refused is planned, and a delete's task is added.
abbrev pub opened_by : Result Asked Unanswered → Fate → Client → Core → Searched
opened_by (Ok (IsSearch search)) fate client core = plan_given (Ok search) client (asked_and_looked fate core)
opened_by (Ok (IsDelete deletion)) fate client core = delete_given client (task_call (ask_of deletion) fate core)
opened_by (Err reason) fate client core = plan_given (Err reason) client (asked_and_looked fate core)

-- the text is read under the configuration of the index
abbrev pub first_step : ClientLuck → List ℕ → Client → Core → Searched
first_step luck text client core = opened_by (asked_of (config_in core) text) luck.world client core

-- the answer over what was visible at the planned revision
abbrev pub answer_of : Plan → Log → Core → Said
answer_of plan log core = answer (config_at plan.revision core).schema plan.search (visible_at plan.revision core.history log)

-- a further fetch where the one before gave something
abbrev pub unless_fault : Result ⊤ Trouble → Core → (Core → Gives Trouble ⊤) → Gives Trouble ⊤
unless_fault (Ok done) core next = next core
unless_fault (Err trouble) core next = gives (Err trouble) core

-- fetches one after another, until one fails
abbrev pub fetched_each : Grace → Fate → List Fate → Core → Gives Trouble ⊤
fetched_each grace fate [] core = fetched grace fate core
fetched_each grace fate (next ∷ more) core = unless_fault (fetched grace fate core).answer (fetched grace fate core).core (fetched_each grace next more)

abbrev pub with_unfetched : Plan → List ℕ → Client → Client
with_unfetched plan unfetched client = record client { request = planned (record plan { unfetched = unfetched }) }

abbrev pub fetch_by : Result ⊤ Trouble → Plan → ℕ → List ℕ → Client → Core → Searched
fetch_by (Ok done) plan number more client core =
    record { outcome = Some (steps.Fetched number); client = with_unfetched plan more client; core = core }
fetch_by (Err trouble) plan number more client core = trouble_replied plan.revision trouble client core

abbrev pub fetch_given : Plan → ℕ → List ℕ → Client → Gives Trouble ⊤ → Searched
fetch_given plan number more client given = fetch_by given.answer plan number more client given.core

abbrev pub next_step : ClientLuck → Log → Plan → List ℕ → Client → Core → Searched
next_step luck log plan [] client core = reply_with plan.revision (answer_of plan log core) client core
next_step luck log plan (number ∷ more) client core = fetch_given plan number more client (fetched_each plan.grace luck.world luck.more core)

abbrev pub step_request : Request → ClientLuck → Log → Client → Core → Searched
step_request no_request luck log client core = record { outcome = Some steps.Idle; client = client; core = core }
step_request (opened text) luck log client core = first_step luck text client core
step_request (planned plan) luck log client core = next_step luck log plan plan.unfetched client core

abbrev pub or_short : Bool → Client → Searched → Searched
or_short true client step = without_memory client step.core
or_short false client step = step

abbrev pub step_client : ClientLuck → Log → Client → Core → Searched
step_client luck log client core = or_short luck.short client (step_request client.request luck log client core)

-- the words of an answer, without the client's name; a reply is a line of its own
abbrev pub step_words : SearchStep → List (List ℕ)
step_words steps.Idle = codes "idle" ∷ []
step_words (steps.Planned revision count) = codes "planned" ∷ decimal revision ∷ decimal count ∷ []
step_words (steps.Fetched number) = codes "fetched" ∷ decimal number ∷ []
step_words (steps.Replied reply) = reply_text reply ∷ []

-- ---- a step between whose calls other actors act

-- a call behind what other actors did before it: the core that it finds, and its fate
pub record Passage : Type 0 where
  pub core : Core
  pub fate : Fate

-- fetches with these passages, until one fails: the answer, and the core that the last one leaves
abbrev pub fetched_at : Grace → Core → List Passage → Gives Trouble ⊤
fetched_at grace core [] = gives (Ok tt) core
fetched_at grace core (passage ∷ more) =
    unless_fault (fetched grace passage.fate passage.core).answer (fetched grace passage.fate passage.core).core (λ left. fetched_at grace left more)

-- before each call other actors may have acted on the core that the call before it left
abbrev pub ArePassed : Grace → (Core → Core → Type 0) → Core → List Passage → Type 0
ArePassed grace Between core [] = ⊤
ArePassed grace Between core (passage ∷ more) = Between core passage.core × ArePassed grace Between (fetched grace passage.fate passage.core).core more

abbrev pub next_at : Passage → List Passage → Log → Plan → List ℕ → Client → Searched
next_at passage more log plan [] client = reply_with plan.revision (answer_of plan log passage.core) client passage.core
next_at passage more log plan (number ∷ left) client = fetch_given plan number left client (fetched_at plan.grace passage.core (passage ∷ more))

abbrev pub request_at : Request → Passage → List Passage → Log → Client → Searched
request_at no_request passage more log client = record { outcome = Some steps.Idle; client = client; core = passage.core }
request_at (opened text) passage more log client = opened_by (asked_of (config_in passage.core) text) passage.fate client passage.core
request_at (planned plan) passage more log client = next_at passage more log plan plan.unfetched client

-- the step of a client whose calls have these passages
abbrev pub step_at : Passage → List Passage → Bool → Log → Client → Searched
step_at passage more short log client = or_short short client (request_at client.request passage more log client)

-- Where no other actor acts between the calls it is `step_client` with this luck.
abbrev pub luck_of : Passage → List Passage → Bool → ClientLuck
luck_of passage more short = record { world = passage.fate; more = map (λ (p : Passage). p.fate) more; short = short }
