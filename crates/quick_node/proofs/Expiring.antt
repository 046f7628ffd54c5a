-- A search, or a step of a merger, is refused as Expired only where the deletion grace of the index had passed behind its plan, whatever lands and fails.
use Rattle.std.proofs.Common.{◌≡◌, ℕ, ◌+◌, ◌≤◌, Bool, true, false, List, [], ◌∷◌, length, map, take, refl, sym, ap, ◌∙◌, subst, inl, inr, arith}
use Rattle.std.proofs.lemmas.List.{length-append, take-append-le, take_all}
use Rattle.std.specs.List.{AllByRecursion}
use Rattle.std.specs.Prelude.{Option, Some, None, Result, Ok, Err, ⊤, if◌then◌else◌, bytes_eq, nat_lt}
use Rattle.agg_model.specs.Answers.{most_buckets}
use Rattle.agg_nested.specs.Answers.{all_buckets, nested_answer, told}
use Rattle.agg_nested.specs.declared.answer.NestedAnswer.{NestedAnswer}
use Rattle.doc_tallies.specs.Picked.{docs_of}
use Rattle.doc_value.specs.declared.schema.Schema.{Schema}
use Rattle.index_config.specs.declared.config.IndexConfig.{IndexConfig}
use Rattle.meta_journal.specs.declared.entry.Entry.{Entry}
use Rattle.meta_store.specs.History.{history, last_opstamp}
use Rattle.meta_store.specs.State.{Legal}
use Rattle.meta_store.specs.declared.refusal.Refusal.{Refusal as StateRefusal}
use Rattle.meta_store.specs.declared.refusal.Refusal.TheVariants as states
use Rattle.source_log.specs.Log.{Log}
use Rattle.split_bundle.specs.declared.placed.Placed.{Placed}
use Rattle.search_api.specs.Resolved.{Asked, IsDelete, IsSearch, Search}
use Rattle.search_api.specs.declared.reply.Refusal.{Refusal}
use Rattle.search_api.specs.declared.reply.Refusal.TheVariants as refusals
use Rattle.search_api.specs.declared.reply.Said.{Said}
use Rattle.search_api.specs.declared.reply.Said.TheVariants.{Found, Deleted, Refused}
use Rattle.search_api.specs.declared.unanswered.Unanswered.{Unanswered}
use Rattle.search_api.specs.declared.unanswered.Unanswered.TheVariants as reasons
use Rattle.index_world.specs.Calls.{Fate, store_fault, is_foreign, is_full, is_expired, Grace, Trouble, faulted, no_memory, Unmade, troubled, Unread, not_read, Gives, asked_and_looked, fetched, loaded}
use Rattle.index_world.specs.Calls as calls
use Rattle.index_world.specs.Config.{reads}
use Rattle.index_world.specs.Configuration.{configuration, config_or}
use Rattle.index_world.specs.Core.{Core}
use Rattle.index_world.specs.Gate.{task_act, task_call}
use Rattle.index_world.specs.Seen.{visible_at}
use Rattle.indexing_run.specs.Outcomes.{IndexerOutcome}
use Rattle.indexing_run.specs.Places.{IndexerPlace, idle, reading, staged, uploaded, Indexer}
use Rattle.root_search.specs.Answer.{answer, matching, printed, shown}
use Rattle.root_search.specs.Requests.{ask_of, asked_of}
use Rattle.root_search.specs.Steps.{Request, no_request, opened, planned, Plan, Client, ClientLuck, Searched, config_at, config_in, delete_by, fault_refusal, fetch_by, fetched_each, next_step, opened_by, or_short as or_unsaid, plan_by, plan_given, refused_over, reply_with, state_refusal, step_client, step_request, trouble_replied, unless_fault, without_memory, without_request}
use Rattle.root_search.specs.declared.outcome.SearchStep.{SearchStep}
use Rattle.root_search.specs.declared.outcome.SearchStep.TheVariants.{Idle, Planned, Fetched, Replied}
use Rattle.split_collector.specs.Outcomes.{Outcome as CollectorOutcome}
use Rattle.upkeep_run.specs.Outcomes.{UpkeepOutcome}
use Rattle.upkeep_run.specs.Places as workers
use Rattle.upkeep_run.specs.declared.work.Aim.{Aim}
use Rattle.upkeep_run.specs.declared.work.Aim.TheVariants.{Deleting, Merging}
use Rattle.node_run.specs.Node.{Node, Line, At, Assign, StepIndexer, RestartIndexer, RestartClient, StepMerger, RestartMerger, StepDeleter, RestartDeleter, StepCollector, RestartCollector, RestartNode, Open, StepClient, Outcome}
use Rattle.request_laws.specs.OfText.{IsOfText, OfText}
use Rattle.node_run.specs.Turns as node_turns
use Rattle.node_run.specs.Turns.{Turned, Turn, Turns, assign_at, client_named, client_turn_by, collector_turn_by, full_turn, indexer_at, indexer_turn_by, open_by, or_quiet, restart_by, said_by_client, said_by_collector, said_by_indexer, said_by_worker, searching_luck, turn_by, with_client, with_deleter, with_merger, worker_turn_by, working_luck}
use Rattle.call_laws.proofs.CallTells.{IfErr, IsStoreTrouble, asked_and_looked_own}
use Rattle.node_run.proofs.Moving.{plan_same, turn_later, turns_later}
use Rattle.node_run.proofs.Refusals.{asked_of_text}
use Rattle.quick_node.specs.Expires.{ExpiresOver, IsOver, SaidIsOver}
use Rattle.quick_node.specs.Serve.{IsPrefixOf, Before, End, by_reading, no_index, opening_failed, read_failed, write_failed, out_of_memory, IsFresh, Answers, RanShort, Lives}
use Rattle.quick_node.proofs.Lateness.{IsLate, IsOnTime, MadeOnTime, WorkOver, WorkerKeeps, appended_timely, fetched_late, worker_keeps}
use Rattle.quick_node.proofs.NodeAtEnd.{opens_moves}
use Rattle.quick_node.proofs.Onces.{configured_on}
use Rattle.quick_node.proofs.Searching.{prefix_on}

-- ---- fetches

module _ (grace : Grace) where
  unless_late : (r : Result ⊤ Trouble) (core : Core) (next : Core → Gives Trouble ⊤) → IfErr (IsLate grace) r → IfErr (IsLate grace) (next core).answer → IfErr (IsLate grace) (unless_fault r core next).answer
  unless_late (Ok done) core next g n = n
  unless_late (Err trouble) core next g n = g

  each_late : (more : List Fate) (fate : Fate) (core : Core) → IfErr (IsLate grace) (fetched_each grace fate more core).answer
  each_late [] fate core = fetched_late grace fate core
  each_late (next ∷ more) fate core =
      let given = fetched grace fate core in unless_late given.answer given.core (fetched_each grace next more) (fetched_late grace fate core) (each_late more next given.core)

-- ---- a client's step

-- what is planned is fetched for this grace
abbrev pub Keeps : ℕ → Request → Type 0
Keeps grace no_request = Unit {0}
Keeps grace (opened text) = Unit {0}
Keeps grace (planned plan) = plan.grace.until ≡ plan.grace.planned_at + grace

abbrev StepOver : ℕ → Option SearchStep → Type 0
StepOver grace None = Unit {0}
StepOver grace (Some Idle) = Unit {0}
StepOver grace (Some (Planned revision count)) = Unit {0}
StepOver grace (Some (Fetched number)) = Unit {0}
StepOver grace (Some (Replied reply)) = SaidIsOver grace reply.said

record StepKeeps (grace : ℕ) (step : Searched) : Type 0 where
  request : Keeps grace step.client.request
  said : StepOver grace step.outcome

module _ (grace : ℕ) where
  text_over : (refusal : Refusal) → IsOfText refusal → IsOver grace refusal
  text_over (refusals.Expired planned_at now) h = absurd h
  text_over refusal h = tt

  abbrev TroubleOver : Trouble → Type 0
  TroubleOver (faulted fault) = IsOver grace (fault_refusal fault)
  TroubleOver no_memory = Unit {0}

  store_over : (trouble : Trouble) → IsStoreTrouble trouble → TroubleOver trouble
  store_over (faulted (store_fault before after)) h = tt
  store_over (faulted (is_foreign key)) h = absurd h
  store_over (faulted is_full) h = absurd h
  store_over (faulted (is_expired planned_at now)) h = absurd h
  store_over no_memory h = tt

  late_over : (until : Grace) (trouble : Trouble) → until.until ≡ until.planned_at + grace → IsLate until trouble → TroubleOver trouble
  late_over until (faulted (store_fault before after)) k h = tt
  late_over until (faulted (is_foreign key)) k h = tt
  late_over until (faulted is_full) k h = tt
  late_over until (faulted (is_expired planned_at now)) k h = let same = h.0 in let le = h.1 in omega (arith, k, same, le)
  late_over until no_memory k h = tt

  on_time_over : (trouble : Trouble) → IsOnTime trouble → TroubleOver trouble
  on_time_over (faulted (store_fault before after)) h = tt
  on_time_over (faulted (is_foreign key)) h = tt
  on_time_over (faulted is_full) h = tt
  on_time_over (faulted (is_expired planned_at now)) h = absurd h
  on_time_over no_memory h = tt

  state_over : (refusal : StateRefusal) → IsOver grace (state_refusal refusal)
  state_over (states.TooManyTasks count) = tt
  state_over (states.MomentBack given greatest) = tt
  state_over states.NotCreated = tt
  state_over states.AlreadyCreated = tt
  state_over (states.BadConfig error) = tt
  state_over (states.NotNext given next) = tt
  state_over (states.Delta fault) = tt
  state_over (states.State refusal) = tt
  state_over (states.BadTask error) = tt
  state_over (states.UptoAhead upto last) = tt
  state_over (states.TooManyRows count) = tt
  state_over (states.TooManySpans count) = tt

  reply_keeps : (revision : ℕ) (said : Said) (client : Client) (core : Core) → SaidIsOver grace said → StepKeeps grace (reply_with revision said client core)
  reply_keeps revision said client core h = record { request = tt; said = h }

  memory_keeps : (client : Client) (core : Core) → StepKeeps grace (without_memory client core)
  memory_keeps client core = record { request = tt; said = tt }

  trouble_keeps : (revision : ℕ) (trouble : Trouble) (client : Client) (core : Core) → TroubleOver trouble → StepKeeps grace (trouble_replied revision trouble client core)
  trouble_keeps revision (faulted fault) client core h = reply_keeps revision (Refused (fault_refusal fault)) client core h
  trouble_keeps revision no_memory client core h = memory_keeps client core

  refused_keeps : (revision : ℕ) (refusal : Refusal) (trouble : Trouble) (client : Client) (core : Core) → IsOfText refusal → StepKeeps grace (refused_over revision refusal trouble client core)
  refused_keeps revision refusal (faulted fault) client core h = reply_keeps revision (Refused refusal) client core (text_over refusal h)
  refused_keeps revision refusal no_memory client core h = memory_keeps client core

  plan_keeps : (r : Result ⊤ Trouble) (asked : Result Search Unanswered) (client : Client) (core : Core) → IfErr IsStoreTrouble r → OfText asked → (config_in core).deletion_grace ≡ grace →
      StepKeeps grace (plan_by r asked client core)
  plan_keeps (Ok done) (Ok search) client core t h same = record { request = ap (λ (g : ℕ). core.moment + g) same; said = tt }
  plan_keeps (Ok done) (Err (reasons.Refused refusal)) client core t h same = reply_keeps (length core.history) (Refused refusal) client core (text_over refusal h)
  plan_keeps (Ok done) (Err (reasons.Memory e)) client core t h same = memory_keeps client core
  plan_keeps (Err trouble) (Ok search) client core t h same = trouble_keeps client.front trouble client core (store_over trouble t)
  plan_keeps (Err trouble) (Err (reasons.Refused refusal)) client core t h same = refused_keeps client.front refusal trouble client core h
  plan_keeps (Err trouble) (Err (reasons.Memory e)) client core t h same = memory_keeps client core

  -- a delete is never too late
  delete_keeps : (r : Result ⊤ Unmade) (client : Client) (core : Core) → IfErr MadeOnTime r → StepKeeps grace (delete_by r client core)
  delete_keeps (Ok done) client core h = reply_keeps (length core.history) (Deleted (last_opstamp (history core.history))) client core tt
  delete_keeps (Err (calls.refused refusal)) client core h = reply_keeps client.front (Refused (state_refusal refusal)) client core (state_over refusal)
  delete_keeps (Err (troubled trouble)) client core h = trouble_keeps client.front trouble client core (on_time_over trouble h)

  fetch_keeps : (r : Result ⊤ Trouble) (plan : Plan) (number : ℕ) (more : List ℕ) (client : Client) (core : Core) → Keeps grace (planned plan) → IfErr (IsLate plan.grace) r →
      StepKeeps grace (fetch_by r plan number more client core)
  fetch_keeps (Ok done) plan number more client core k h = record { request = k; said = tt }
  fetch_keeps (Err trouble) plan number more client core k h = trouble_keeps plan.revision trouble client core (late_over plan.grace trouble k h)

  -- an answer is no refusal for being late
  buckets_over : (b : Bool) (many count : ℕ) (lines : List (List ℕ)) (results : List NestedAnswer) → SaidIsOver grace (if b then Refused (refusals.TooManyBuckets count) else Found many lines results)
  buckets_over true many count lines results = tt
  buckets_over false many count lines results = tt

  answer_over : (s : Schema) (search : Search) (documents : List Placed) → SaidIsOver grace (answer s search documents)
  answer_over s search documents =
      let found = matching s search documents in
      let count = all_buckets search.aggs (docs_of found) in
      buckets_over (nat_lt most_buckets count) (length found) (told count) (printed s (shown search found)) (map (nested_answer (docs_of found)) search.aggs)

  module _ (luck : ClientLuck) (log : Log) (client : Client) (core : Core) where
    next_keeps : (plan : Plan) (unfetched : List ℕ) → Keeps grace (planned plan) → StepKeeps grace (next_step luck log plan unfetched client core)
    next_keeps plan [] k = reply_keeps plan.revision _ client core (answer_over (config_at plan.revision core).schema plan.search (visible_at plan.revision core.history log))
    next_keeps plan (number ∷ more) k =
        let given = fetched_each plan.grace luck.world luck.more core in fetch_keeps given.answer plan number more client given.core k (each_late plan.grace luck.more luck.world core)

    -- a plan goes by the configuration behind its step
    plans_keep : (asked : Result Search Unanswered) → OfText asked → (config_in (plan_given asked client (asked_and_looked luck.world core)).core).deletion_grace ≡ grace →
        StepKeeps grace (plan_given asked client (asked_and_looked luck.world core))
    plans_keep asked h same =
        let given = asked_and_looked luck.world core in
        plan_keeps given.answer asked client given.core (asked_and_looked_own luck.world core) h
        (subst (λ (c : Core). (config_in c).deletion_grace ≡ grace) (plan_same given.answer asked client given.core) same)

    opened_keeps : (asked : Result Asked Unanswered) → OfText asked → (config_in (opened_by asked luck.world client core).core).deletion_grace ≡ grace →
        StepKeeps grace (opened_by asked luck.world client core)
    opened_keeps (Ok (IsSearch search)) h same = plans_keep (Ok search) tt same
    opened_keeps (Ok (IsDelete deletion)) h same =
        let given = task_call (ask_of deletion) luck.world core in delete_keeps given.answer client given.core (appended_timely (task_act (ask_of deletion)) luck.world core)
    opened_keeps (Err (reasons.Refused refusal)) h same = plans_keep (Err (reasons.Refused refusal)) h same
    opened_keeps (Err (reasons.Memory e)) h same = plans_keep (Err (reasons.Memory e)) tt same

    request_keeps : (request : Request) → Keeps grace request → client.request ≡ request → (config_in (step_request request luck log client core).core).deletion_grace ≡ grace →
        StepKeeps grace (step_request request luck log client core)
    request_keeps no_request k e same = record { request = subst (Keeps grace) (sym e) tt; said = tt }
    request_keeps (opened text) k e same = opened_keeps (asked_of (config_in core) text) (asked_of_text (config_in core) text) same
    request_keeps (planned plan) k e same = next_keeps plan plan.unfetched k

    short_keeps : (b : Bool) (step : Searched) → StepKeeps grace step → StepKeeps grace (or_unsaid b client step)
    short_keeps true step k = memory_keeps client step.core
    short_keeps false step k = k

    short_core : (b : Bool) (step : Searched) → (or_unsaid b client step).core ≡ step.core
    short_core true step = refl
    short_core false step = refl

    step_keeps : Keeps grace client.request → (config_in (step_client luck log client core).core).deletion_grace ≡ grace → StepKeeps grace (step_client luck log client core)
    step_keeps k same =
        let step = step_request client.request luck log client core in
        short_keeps luck.short step (request_keeps client.request k refl (subst (λ (c : Core). (config_in c).deletion_grace ≡ grace) (short_core luck.short step) same))

-- ---- clients

abbrev pub AllKeep : ℕ → List Client → Type 0
AllKeep grace clients = AllByRecursion (λ (client : Client). Keeps grace client.request) clients

module _ (grace : ℕ) where
  named_keeps : (name : List ℕ) (clients : List Client) → AllKeep grace clients → Keeps grace (client_named name clients).request
  named_keeps name [] all = tt
  named_keeps name (client ∷ clients) all = by (bytes_eq client.name name) (named_keeps name clients all.1)
    where
      by : (b : Bool) → Keeps grace (client_named name clients).request → Keeps grace (if b then client else client_named name clients).request
      by true rest = all.0
      by false rest = rest

  with_keeps : (client : Client) (clients : List Client) → Keeps grace client.request → AllKeep grace clients → AllKeep grace (with_client client clients)
  with_keeps client [] k all = (k, tt)
  with_keeps client (other ∷ clients) k all = by (bytes_eq other.name client.name) (with_keeps client clients k all.1)
    where
      by : (b : Bool) → AllKeep grace (with_client client clients) → AllKeep grace (if b then client ∷ clients else other ∷ with_client client clients)
      by true rest = (k, all.1)
      by false rest = (all.0, rest)

  without_keeps : (clients : List Client) → AllKeep grace (map without_request clients)
  without_keeps [] = tt
  without_keeps (client ∷ clients) = (tt, without_keeps clients)

-- ---- a line

abbrev LineOver : ℕ → Option Outcome → Type 0
LineOver grace None = Unit {0}
LineOver grace (Some outcome) = ExpiresOver grace outcome

record LineKeeps (grace : ℕ) (turn : Turned) : Type 0 where
  clients : AllKeep grace turn.node.clients
  merger : WorkerKeeps grace turn.node.merger
  deleter : WorkerKeeps grace turn.node.deleter
  said : LineOver grace turn.said

module _ (grace : ℕ) (node : Node) (all : AllKeep grace node.clients) (work : WorkerKeeps grace node.merger) (deletes : WorkerKeeps grace node.deleter) where
  indexer_over : (i : ℕ) (outcome : Option IndexerOutcome) → LineOver grace (said_by_indexer i outcome)
  indexer_over i None = tt
  indexer_over i (Some outcome) = tt

  indexer_keeps : (down : Bool) (luck : node_turns.LineLuck) (i : ℕ) → LineKeeps grace (indexer_turn_by down luck i node)
  indexer_keeps true luck i = record { clients = all; merger = work; deleter = deletes; said = tt }
  indexer_keeps false luck i = record { clients = all; merger = work; deleter = deletes; said = indexer_over i _ }

  worker_over : (aim : Aim) (outcome : Option UpkeepOutcome) → WorkOver grace outcome → LineOver grace (said_by_worker aim outcome)
  worker_over aim None h = tt
  worker_over aim (Some outcome) h = h

  merger_keeps : (down : Bool) (luck : node_turns.LineLuck) → (config_in (worker_turn_by down Merging node.merger with_merger luck node).node.core).deletion_grace ≡ grace →
      LineKeeps grace (worker_turn_by down Merging node.merger with_merger luck node)
  merger_keeps true luck same = record { clients = all; merger = work; deleter = deletes; said = tt }
  merger_keeps false luck same =
      let s = worker_keeps grace (working_luck luck) node.log node.core Merging node.merger work same in record { clients = all; merger = s.place; deleter = deletes; said = worker_over Merging _ s.said }

  deleter_keeps : (down : Bool) (luck : node_turns.LineLuck) → (config_in (worker_turn_by down Deleting node.deleter with_deleter luck node).node.core).deletion_grace ≡ grace →
      LineKeeps grace (worker_turn_by down Deleting node.deleter with_deleter luck node)
  deleter_keeps true luck same = record { clients = all; merger = work; deleter = deletes; said = tt }
  deleter_keeps false luck same =
      let s = worker_keeps grace (working_luck luck) node.log node.core Deleting node.deleter deletes same in record { clients = all; merger = work; deleter = s.place; said = worker_over Deleting _ s.said }

  collector_over : (outcome : Option CollectorOutcome) → LineOver grace (said_by_collector outcome)
  collector_over None = tt
  collector_over (Some outcome) = tt

  collector_keeps : (down : Bool) (luck : node_turns.LineLuck) → LineKeeps grace (collector_turn_by down luck node)
  collector_keeps true luck = record { clients = all; merger = work; deleter = deletes; said = tt }
  collector_keeps false luck = record { clients = all; merger = work; deleter = deletes; said = collector_over _ }

  client_over : (name : List ℕ) (outcome : Option SearchStep) → StepOver grace outcome → LineOver grace (said_by_client name outcome)
  client_over name None h = tt
  client_over name (Some Idle) h = tt
  client_over name (Some (Planned revision count)) h = tt
  client_over name (Some (Fetched number)) h = tt
  client_over name (Some (Replied reply)) h = h

  client_keeps : (down : Bool) (luck : node_turns.LineLuck) (name : List ℕ) → (config_in (client_turn_by down luck name node).node.core).deletion_grace ≡ grace → LineKeeps grace (client_turn_by down luck name node)
  client_keeps true luck name same = record { clients = with_keeps grace (client_named name node.clients) node.clients (named_keeps grace name node.clients all) all; merger = work; deleter = deletes; said = tt }
  client_keeps false luck name same =
      let client = client_named name node.clients in
      let s = step_keeps grace (searching_luck luck) node.log client node.core (named_keeps grace name node.clients all) same in
      record { clients = with_keeps grace (step_client (searching_luck luck) node.log client node.core).client node.clients s.request all; merger = work; deleter = deletes; said = client_over name _ s.said }

  assign_keeps : (place : IndexerPlace) (i : ℕ) (names : List (List ℕ)) (indexer : Indexer) → LineKeeps grace (assign_at place i names indexer node)
  assign_keeps idle i names indexer = record { clients = all; merger = work; deleter = deletes; said = tt }
  assign_keeps (reading batch) i names indexer = record { clients = all; merger = work; deleter = deletes; said = tt }
  assign_keeps (staged held) i names indexer = record { clients = all; merger = work; deleter = deletes; said = tt }
  assign_keeps (uploaded held) i names indexer = record { clients = all; merger = work; deleter = deletes; said = tt }

  open_keeps : (request : Request) (name text : List ℕ) (client : Client) → LineKeeps grace (open_by request name text client node)
  open_keeps no_request name text client = record { clients = with_keeps grace (record client { request = opened text }) node.clients tt all; merger = work; deleter = deletes; said = tt }
  open_keeps (opened other) name text client = record { clients = all; merger = work; deleter = deletes; said = tt }
  open_keeps (planned plan) name text client = record { clients = all; merger = work; deleter = deletes; said = tt }

  restart_keeps : (r : Result ⊤ Unread) (core : Core) → LineKeeps grace (restart_by r core node)
  restart_keeps (Ok done) core = record { clients = without_keeps grace node.clients; merger = tt; deleter = tt; said = tt }
  restart_keeps (Err (not_read (faulted fault))) core = record { clients = without_keeps grace node.clients; merger = tt; deleter = tt; said = tt }
  restart_keeps (Err (not_read no_memory)) core = record { clients = without_keeps grace node.clients; merger = tt; deleter = tt; said = tt }
  restart_keeps (Err calls.no_index) core = record { clients = without_keeps grace node.clients; merger = tt; deleter = tt; said = tt }

  full_keeps : (luck : node_turns.LineLuck) (line : Line) → (config_in (full_turn luck node line).node.core).deletion_grace ≡ grace → LineKeeps grace (full_turn luck node line)
  full_keeps luck (At moment) same = record { clients = all; merger = work; deleter = deletes; said = tt }
  full_keeps luck (Assign i names) same = assign_keeps (indexer_at node.indexers i).place i names (indexer_at node.indexers i)
  full_keeps luck (StepIndexer i) same = indexer_keeps node.down luck i
  full_keeps luck (RestartIndexer i) same = record { clients = all; merger = work; deleter = deletes; said = tt }
  full_keeps luck (RestartClient name) same = record { clients = with_keeps grace (without_request (client_named name node.clients)) node.clients tt all; merger = work; deleter = deletes; said = tt }
  full_keeps luck StepMerger same = merger_keeps node.down luck same
  full_keeps luck RestartMerger same = record { clients = all; merger = tt; deleter = deletes; said = tt }
  full_keeps luck StepDeleter same = deleter_keeps node.down luck same
  full_keeps luck RestartDeleter same = record { clients = all; merger = work; deleter = tt; said = tt }
  full_keeps luck StepCollector same = collector_keeps node.down luck
  full_keeps luck RestartCollector same = record { clients = all; merger = work; deleter = deletes; said = tt }
  full_keeps luck RestartNode same = let given = loaded luck.world node.core in restart_keeps given.answer given.core
  full_keeps luck (Open name text) same = open_keeps (client_named name node.clients).request name text (client_named name node.clients)
  full_keeps luck (StepClient name) same = client_keeps node.down luck name same

-- ---- a line that was answered

none_is_some : (outcome : Outcome) → None ≡ Some outcome → ⊥
none_is_some outcome e = cc

line_keeps : (grace : ℕ) (node : Node) (line : Line) (outcome : Outcome) (last : Node) → AllKeep grace node.clients × WorkerKeeps grace node.merger × WorkerKeeps grace node.deleter → (config_in last.core).deletion_grace ≡ grace → Turn node line (Some outcome) last →
    (AllKeep grace last.clients × WorkerKeeps grace last.merger × WorkerKeeps grace last.deleter) × ExpiresOver grace outcome
line_keeps grace node line outcome last all same t = early t.luck.early t.is
  where
    quiet_by : (b : Bool) → or_quiet b line (full_turn t.luck node line) ≡ record { said = Some outcome; node = last } → (AllKeep grace last.clients × WorkerKeeps grace last.merger × WorkerKeeps grace last.deleter) × ExpiresOver grace outcome
    quiet_by true e = absurd (none_is_some outcome (ap (λ r. r.said) e))
    quiet_by false e =
        let k = subst (LineKeeps grace) e (full_keeps grace node all.0 all.1 all.2 t.luck line (ap (λ r. (config_in r.node.core).deletion_grace) e ∙ same)) in ((k.clients, k.merger, k.deleter), k.said)

    early : (b : Bool) → turn_by b t.luck node line ≡ record { said = Some outcome; node = last } → (AllKeep grace last.clients × WorkerKeeps grace last.merger × WorkerKeeps grace last.deleter) × ExpiresOver grace outcome
    early true e = absurd (none_is_some outcome (ap (λ r. r.said) e))
    early false e = quiet_by t.luck.short e

-- ---- lines, and a call

module _ (entry exit : List Entry) (begins : IsPrefixOf entry exit) (legal : Legal reads (history exit)) (config : IndexConfig) (is : configuration entry ≡ Some config) where
  abbrev grace : ℕ
  grace = config.deletion_grace

  -- the configuration at entry is that of each journal from there on
  in_force : (entries : List Entry) → IsPrefixOf entries exit → length entry ≤ length entries → (config_or (configuration entries)).deletion_grace ≡ grace
  in_force entries p le =
      ap (λ (o : Option IndexConfig). (config_or o).deletion_grace)
      (ap configuration (sym (ap (take (length entries)) p.1 ∙ take-append-le (length entries) entries p.0 (omega arith) ∙ take_all (length entries) entries (omega arith)))
      ∙ configured_on entry exit begins legal config is (length entries) le)

  longer : (xs ys : List Entry) → IsPrefixOf xs ys → length xs ≤ length ys
  longer xs ys p = let l : length ys ≡ length xs + length p.0 = ap length p.1 ∙ length-append xs p.0 in omega (arith, l)

  turns_expire : (node last : Node) (lines : List Line) (outcomes : List Outcome) → AllKeep grace node.clients × WorkerKeeps grace node.merger × WorkerKeeps grace node.deleter → length entry ≤ length node.core.history → IsPrefixOf last.core.history exit →
      Turns node lines outcomes last → AllByRecursion (ExpiresOver grace) outcomes
  turns_expire node last [] [] all le p run = tt
  turns_expire node last [] (o ∷ os) all le p run = absurd run
  turns_expire node last (line ∷ lines) [] all le p run = absurd run
  turns_expire node last (line ∷ lines) (o ∷ os) all le p run =
      let mid = run.0 in
      let here : IsPrefixOf mid.core.history exit = prefix_on mid.core.history last.core.history exit (turns_later mid last lines os run.2).grows p in
      let more = longer node.core.history mid.core.history (turn_later node line (Some o) mid run.1).grows in
      let up : length entry ≤ length mid.core.history = omega (arith, le, more) in
      let k = line_keeps grace node line o mid all (in_force mid.core.history here up) run.1 in
      (k.1, turns_expire mid last lines os k.0 up p run.2)

  module _ (before : Before) (fresh : Node) (fresh_is : IsFresh before entry fresh) where
    answers_expire : (lines : List Line) (outcomes : List Outcome) (last : Node) → Answers fresh lines outcomes last → IsPrefixOf last.core.history exit → AllByRecursion (ExpiresOver grace) outcomes
    answers_expire lines outcomes last a p =
        turns_expire a.opened last lines outcomes (subst (AllKeep grace) (sym clients) tt, subst (WorkerKeeps grace) (sym idle_is) tt, subst (WorkerKeeps grace) (sym deleter_is) tt)
        (let more = longer fresh.core.history a.opened.core.history (opens_moves fresh (Ok tt) a.opened a.opens).later.grows in let same = ap (λ (n : Node). length n.core.history) fresh_is.is in omega (arith, more, same)) p
        a.turns
      where
        clients : a.opened.clients ≡ []
        clients = ap (λ n. n.clients) a.opens.is ∙ ap (λ n. n.clients) fresh_is.is

        idle_is : a.opened.merger ≡ workers.idle
        idle_is = ap (λ (n : Node). n.merger) a.opens.is ∙ ap (λ (n : Node). n.merger) fresh_is.is

        deleter_is : a.opened.deleter ≡ workers.idle
        deleter_is = ap (λ (n : Node). n.deleter) a.opens.is ∙ ap (λ (n : Node). n.deleter) fresh_is.is

    none_expire : (outcomes : List Outcome) → outcomes ≡ [] → AllByRecursion (ExpiresOver grace) outcomes
    none_expire outcomes none = subst (AllByRecursion (ExpiresOver grace)) (sym none) tt

    short_expire : (lines : List Line) (outcomes : List Outcome) (last : Node) → RanShort before fresh lines outcomes last → IsPrefixOf last.core.history exit → AllByRecursion (ExpiresOver grace) outcomes
    short_expire lines outcomes last s p =
        answers_expire lines outcomes s.mid s.answers (prefix_on s.mid.core.history last.core.history exit (turn_later s.mid s.line None last s.turn).grows p)

    pub lives_expire : (end : End) (lines : List Line) (outcomes : List Outcome) (last : Node) → Lives before end fresh lines outcomes last → IsPrefixOf last.core.history exit → AllByRecursion (ExpiresOver grace) outcomes
    lives_expire (by_reading ending) lines outcomes last l p = answers_expire lines outcomes last l p
    lives_expire no_index lines outcomes last l p = none_expire outcomes l.no_outcomes
    lives_expire (opening_failed low high) lines outcomes last l p = none_expire outcomes l.no_outcomes
    lives_expire read_failed lines outcomes last l p = answers_expire lines outcomes last l p
    lives_expire write_failed lines outcomes last l p = answers_expire lines outcomes last l p
    lives_expire out_of_memory lines outcomes last (inl none) p = none_expire outcomes none.1
    lives_expire out_of_memory lines outcomes last (inr (inl u)) p = none_expire outcomes u.no_outcomes
    lives_expire out_of_memory lines outcomes last (inr (inr (inl a))) p = answers_expire lines outcomes last a p
    lives_expire out_of_memory lines outcomes last (inr (inr (inr s))) p = short_expire lines outcomes last s p
