-- What becomes of the task of a delete.
use Rattle.std.proofs.Common.{◌≡◌, ℕ, ◌+◌, ◌≤◌, Bool, true, false, List, [], ◌∷◌, ◌++◌, length, refl, sym, ap, ◌∙◌, eq-eqb, le-ltb, ltb-false, Option, Some, None, Result, Ok, Err}
use Rattle.std.specs.Prelude.{if◌then◌else◌, nat_lt}
use Rattle.index_config.proofs.Accepted.{accepted-texts}
use Rattle.index_config.specs.declared.config.IndexConfig.{IndexConfig}
use Rattle.meta_journal.specs.declared.entry.Act.{Act}
use Rattle.meta_journal.specs.declared.entry.Act.TheVariants.{Task}
use Rattle.meta_journal.specs.declared.entry.Entry.{Entry}
use Rattle.meta_store.specs.Answers.{Answer, answer_by, answer_to_moment, answer_to_next, answer_to_task, answer_to_tasks}
use Rattle.meta_store.specs.History.{History, history, last_opstamp, moment_of}
use Rattle.meta_store.specs.Readings.{config_of, reading_of}
use Rattle.meta_store.specs.State.{state_of}
use Rattle.meta_store.specs.Tasks.{tasks_of}
use Rattle.meta_store.specs.declared.config.Config.{Config}
use Rattle.meta_store.specs.declared.refusal.Refusal.{Refusal}
use Rattle.meta_store.specs.declared.refusal.Refusal.TheVariants.{TooManyTasks}
use Rattle.query_ast.specs.Sought.{Sought}
use Rattle.query_reader.specs.declared.refusal.QueryError.{QueryError}
use Rattle.source_checkpoint.specs.Deltas.{then_answer}
use Rattle.source_log.specs.Log.{Log}
use Rattle.search_api.specs.Resolved.{IsDelete}
use Rattle.search_api.specs.declared.resolved.Deletion.{Deletion}
use Rattle.index_world.specs.Calls.{Fate, entry_of, gives, refused}
use Rattle.index_world.specs.Calls as calls
use Rattle.index_world.specs.Config.{read_query, reads}
use Rattle.index_world.specs.Configuration.{index_of}
use Rattle.index_world.specs.Core.{Core, IsConfigured}
use Rattle.index_world.specs.Gate.{CanAddTask, IsSoundCore, task_act, task_call}
use Rattle.index_world.specs.declared.tokens.DeleteAsk.{DeleteAsk}
use Rattle.index_world.proofs.Configured.{configured_read, configured_schema}
use Rattle.root_search.specs.Deletes.{AreTooMany, EndsInTask, task_behind}
use Rattle.root_search.specs.Requests.{ask_of, asked_of}
use Rattle.root_search.proofs.Stands.{configured_is}
use Rattle.root_search.proofs.TaskCalls.{appended_ends, appended_refused}
use Rattle.root_search.proofs.TaskReads.{asked_reads}

-- ---- the last entry

pub ends_in_task : (ask : DeleteAsk) (fate : Fate) (core after : Core) → task_call ask fate core ≡ gives (Ok tt) after → EndsInTask ask core.history after.history
ends_in_task ask fate core after h =
    let e = appended_ends (task_act ask) fate core after h in
    record { others = e.grows.0; moment = e.moment; is = e.last ∙ ap (λ (l : List Entry). l ++ task_behind ask l e.moment ∷ []) e.grows.1 }

-- ---- refusals

passed : (a next : Answer) (refusal : Refusal) → a ≡ Ok tt → then_answer a next ≡ Err refusal → next ≡ Err refusal
passed a next refusal e h = sym (ap (λ (x : Answer). then_answer x next) e) ∙ h

in_time : (given greatest : ℕ) → greatest ≤ given → answer_to_moment given greatest ≡ Ok tt
in_time given greatest le = rw (le-ltb given greatest le) refl

is_next : (n : ℕ) → answer_to_next n n ≡ Ok tt
is_next n = rw (eq-eqb n n refl) refl

reads_task : (r : Result Sought QueryError) (query : Sought) → r ≡ Ok query → answer_to_task r ≡ Ok tt
reads_task r query e = ap answer_to_task e

-- where the count is refused it is at the limit
pub record IsFull (count : ℕ) (refusal : Refusal) : Type 0 where
  pub count_is : refusal ≡ TooManyTasks count
  pub many : 10000 ≤ count

full_by : (b : Bool) (count : ℕ) (refusal : Refusal) → nat_lt count 10000 ≡ b → ◌≡◌ {A = Answer} (if b then Ok tt else Err (TooManyTasks count)) (Err refusal) → IsFull count refusal
full_by true count refusal e h = absurd (let wrong : ◌≡◌ {A = Answer} (Ok tt) (Err refusal) = h in cc)
full_by false count refusal e h =
    let same : ◌≡◌ {A = Answer} (Err (TooManyTasks count)) (Err refusal) = h in
    record { count_is = cc; many = ltb-false count 10000 e }

tasks_full : (count : ℕ) (refusal : Refusal) → answer_to_tasks count ≡ Err refusal → IsFull count refusal
tasks_full count refusal h = full_by (nat_lt count 10000) count refusal refl h

module _ (h : History) (moment : ℕ) (ask : DeleteAsk) (refusal : Refusal) where
  abbrev act : Act
  act = Task (last_opstamp h + 1) ask.text ask.fields ask.times

  -- the answer to the task under a configuration
  abbrev answer : Option Config → Answer
  answer o = then_answer (answer_to_moment moment (moment_of h)) (answer_by (reading_of reads o act) o (state_of reads h) moment act)

  -- where its text reads it is refused by the count alone
  pub full_only : (config : IndexConfig) (query : Sought) (o : Option Config) → moment_of h ≤ moment → index_of o ≡ Some config → read_query config ask.text ask.fields ≡ Ok query → answer o ≡ Err refusal → IsFull (length (tasks_of reads h)) refusal
  full_only config query None le is reads_so e = absurd (let wrong : ◌≡◌ {A = Option IndexConfig} None (Some config) = is in cc)
  full_only config query (Some c) le is reads_so e =
      let some : ◌≡◌ {A = Option IndexConfig} (Some c.settings.index) (Some config) = is in
      let same : c.settings.index ≡ config = cc in
      let next : answer_by (reading_of reads (Some c) act) (Some c) (state_of reads h) moment act ≡ Err refusal = passed (answer_to_moment moment (moment_of h)) _ refusal (in_time moment (moment_of h) le) e in
      let behind : then_answer (answer_to_task (read_query c.settings.index ask.text ask.fields)) (answer_to_tasks (length (tasks_of reads h))) ≡ Err refusal = passed (answer_to_next (last_opstamp h + 1) (last_opstamp h + 1)) _ refusal (is_next (last_opstamp h + 1)) next in
      tasks_full (length (tasks_of reads h)) refusal
      (passed (answer_to_task (read_query c.settings.index ask.text ask.fields)) _ refusal (reads_task (read_query c.settings.index ask.text ask.fields) query (ap (λ (i : IndexConfig). read_query i ask.text ask.fields) same ∙ reads_so)) behind)

pub too_many : (text : List ℕ) (config : IndexConfig) (deletion : Deletion) (fate : Fate) (core after : Core) (log : Log) (refusal : Refusal) → asked_of config text ≡ Ok (IsDelete deletion) → CanAddTask (ask_of deletion) → IsSoundCore after log → IsConfigured config after
    → task_call (ask_of deletion) fate core ≡ gives (Err (refused refusal)) after → AreTooMany refusal after.history
too_many text config deletion fate core after log refusal asked can sound configured did =
    let is = configured_is after log config sound configured in
    let read = configured_read after.history config is in
    let r = asked_reads config text deletion (configured_schema after.history config is) (accepted-texts read.0 config read.1) can.text.1 asked in
    let refuses : calls.answer_behind after.history (entry_of (task_act (ask_of deletion) after) after) ≡ Err refusal = appended_refused (task_act (ask_of deletion)) fate core after refusal did in
    let full = full_only (history after.history) after.moment (ask_of deletion) refusal config r.0 (config_of reads (history after.history)) sound.timely.greatest is r.1 refuses in
    record { count = full.count_is; many = full.many }
