-- What is said of each reply beside an answer: no refusal but that of a task is one too many, an answer is no delete, and what holds of a line holds of it
-- behind an earlier beginning.
use Rattle.std.proofs.Common.{◌≡◌, ℕ, ◌+◌, ◌≤◌, Bool, true, false, List, length, map, take, sym, ap, ◌∙◌, arith}
use Rattle.std.specs.Prelude.{Err, if◌then◌else◌, nat_lt}
use Rattle.agg_model.specs.Answers.{most_buckets}
use Rattle.agg_nested.specs.Answers.{all_buckets, nested_answer, told}
use Rattle.agg_nested.specs.declared.answer.NestedAnswer.{NestedAnswer}
use Rattle.doc_tallies.specs.Picked.{docs_of}
use Rattle.doc_value.specs.declared.schema.Schema.{Schema}
use Rattle.split_bundle.specs.declared.placed.Placed.{Placed}
use Rattle.meta_journal.specs.declared.entry.Entry.{Entry}
use Rattle.meta_store.specs.History.{history, last_opstamp}
use Rattle.meta_store.specs.Tasks.{tasks_of}
use Rattle.meta_store.specs.declared.refusal.Refusal.{Refusal as StateRefusal}
use Rattle.meta_store.specs.declared.refusal.Refusal.TheVariants as states
use Rattle.index_world.specs.Calls.{Fault, store_fault, is_foreign, is_full, is_expired, answer_behind}
use Rattle.index_world.specs.Config.{reads}
use Rattle.index_world.specs.declared.tokens.DeleteAsk.{DeleteAsk}
use Rattle.root_search.specs.Answer.{answer, matching, printed, shown}
use Rattle.root_search.specs.Deletes.{task_behind}
use Rattle.root_search.specs.Steps.{fault_refusal, state_refusal}
use Rattle.root_search.specs.declared.outcome.SearchStep.TheVariants.{Replied}
use Rattle.search_api.specs.Resolved.{Search}
use Rattle.search_api.specs.declared.reply.Refusal.{Refusal}
use Rattle.search_api.specs.declared.reply.Refusal.TheVariants.{TooManyBuckets}
use Rattle.search_api.specs.declared.reply.Refusal.TheVariants as refusals
use Rattle.search_api.specs.declared.reply.Reply.{Reply}
use Rattle.search_api.specs.declared.reply.Said.{Said}
use Rattle.search_api.specs.declared.reply.Said.TheVariants.{Found, Deleted, Refused}
use Rattle.node_run.specs.Node.{Line, Outcome, client_said}
use Rattle.request_laws.specs.OfText.{IsOfText}
use Rattle.quick_node.specs.Deletes.{Deletes, HasCause, KeepsFront, Replies}
use Rattle.quick_node.specs.Fronts.{Known, known_of}
use Rattle.quick_node.proofs.TaskCauses.{tasks_too_many}

-- an answer is no delete
module _ (entries : List Entry) (least next : ℕ) (known : Known) (reply : Reply) (keeps : KeepsFront next known reply) where
  buckets_told : (b : Bool) (many count : ℕ) (lines : List (List ℕ)) (results : List NestedAnswer) →
      Replies entries least next known reply (if b then Refused (TooManyBuckets count) else Found many lines results)
  buckets_told true many count lines results = (keeps, tt)
  buckets_told false many count lines results = tt

  pub answer_told : (s : Schema) (search : Search) (documents : List Placed) → Replies entries least next known reply (answer s search documents)
  answer_told s search documents =
      let found = matching s search documents in
      let count = all_buckets search.aggs (docs_of found) in
      buckets_told (nat_lt most_buckets count) (length found) (told count) (printed s (shown search found)) (map (nested_answer (docs_of found)) search.aggs)

-- a fault, or a text, is no task too many
pub fault_cause : (exit : List Entry) (from next : ℕ) (fault : Fault) → HasCause exit from next (fault_refusal fault)
fault_cause exit from next (store_fault before after) = tt
fault_cause exit from next (is_foreign key) = tt
fault_cause exit from next is_full = tt
fault_cause exit from next (is_expired planned_at now) = tt

pub text_cause : (exit : List Entry) (from next : ℕ) (refusal : Refusal) → IsOfText refusal → HasCause exit from next refusal
text_cause exit from next (refusals.TooManyTasks count) h = absurd h
text_cause exit from next refusal h = tt

-- nor is a task that is refused for another reason
pub state_cause : (exit entries : List Entry) (moment from : ℕ) (ask : DeleteAsk) → take (length entries) exit ≡ entries → from ≤ length entries → (refusal : StateRefusal) →
    answer_behind entries (task_behind ask entries moment) ≡ Err refusal → HasCause exit from (length entries) (state_refusal refusal)
state_cause exit entries moment from ask front low (states.TooManyTasks count) e =
    let stand = tasks_too_many entries moment (last_opstamp (history entries) + 1) ask.text ask.fields ask.times count e in
    (length entries, low, omega arith, stand.0 ∙ ap (λ (es : List Entry). length (tasks_of reads (history es))) (sym front), stand.1)
state_cause exit entries moment from ask front low (states.MomentBack given greatest) e = tt
state_cause exit entries moment from ask front low states.NotCreated e = tt
state_cause exit entries moment from ask front low states.AlreadyCreated e = tt
state_cause exit entries moment from ask front low (states.BadConfig bad) e = tt
state_cause exit entries moment from ask front low (states.NotNext given next) e = tt
state_cause exit entries moment from ask front low (states.Delta fault) e = tt
state_cause exit entries moment from ask front low (states.State bad) e = tt
state_cause exit entries moment from ask front low (states.BadTask bad) e = tt
state_cause exit entries moment from ask front low (states.UptoAhead upto last) e = tt
state_cause exit entries moment from ask front low (states.TooManyRows count) e = tt
state_cause exit entries moment from ask front low (states.TooManySpans count) e = tt

-- a line that begins earlier
replies_from : (exit : List Entry) (lower from next : ℕ) (known : Known) (reply : Reply) (said : Said) → lower ≤ from → Replies exit from next known reply said → Replies exit lower next known reply said
replies_from exit lower from next known reply (Found count hits aggregations) le d = tt
replies_from exit lower from next known reply (Deleted opstamp) le d =
    record {
      client = d.client;
      deletion = d.deletion;
      asked = d.asked;
      earlier = d.earlier;
      moment = d.moment;
      is = d.is;
      stamp = d.stamp;
      front = d.front;
      begins = let low = d.begins in omega (arith, le, low);
      ends = d.ends;
    }
replies_from exit lower from next known reply (Refused refusal) le d = (d.0, cause refusal d.1)
  where
    cause : (refusal : Refusal) → HasCause exit from next refusal → HasCause exit lower next refusal
    cause (refusals.TooManyTasks count) h = (h.0, (let low = h.1 in omega (arith, le, low)), h.2, h.3, h.4)
    cause refusal h = tt

pub deletes_from : (exit : List Entry) (lower from next : ℕ) (knowns : List Known) (line : Line) (o : Outcome) → lower ≤ from → Deletes exit from next knowns line o → Deletes exit lower next knowns line o
deletes_from exit lower from next knowns line (client_said who (Replied reply)) le d = (d.0, d.1, replies_from exit lower from next (known_of d.0 knowns) reply reply.said le d.2)
deletes_from exit lower from next knowns line o le d = tt
