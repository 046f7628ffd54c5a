-- A client is refused only for what its text asks: a search never for want of room, and a delete only where there is none.
use Rattle.std.proofs.Common.{◌≡◌, ℕ, ◌<◌, ◌≤◌, Bool, true, false, List, [], ◌∷◌, length, map, take, drop, refl, sym, ap, ◌∙◌, subst, arith}
use Rattle.std.proofs.lemmas.Bool.{leb-true}
use Rattle.std.proofs.lemmas.List.{length-take-le, take-append-drop, take_all}
use Rattle.std.specs.List.{AllByRecursion}
use Rattle.std.specs.Prelude.{Option, Some, None, Result, Ok, Err, ⊤, if◌then◌else◌, nat_le, nat_lt}
use Rattle.agg_model.specs.Answers.{most_buckets}
use Rattle.agg_nested.specs.Answers.{all_buckets, nested_answer, told}
use Rattle.agg_nested.specs.declared.answer.NestedAnswer.{NestedAnswer}
use Rattle.doc_tallies.specs.Picked.{docs_of}
use Rattle.doc_value.specs.declared.schema.Schema.{Schema}
use Rattle.index_config.proofs.Accepted.{accepted-texts}
use Rattle.index_config.specs.declared.config.IndexConfig.{IndexConfig}
use Rattle.split_bundle.specs.declared.placed.Placed.{Placed}
use Rattle.meta_journal.specs.declared.entry.Act.{Act}
use Rattle.meta_journal.specs.declared.entry.Entry.{Entry}
use Rattle.meta_store.specs.History.{history, moment_of}
use Rattle.meta_store.specs.Readings.{config_of}
use Rattle.meta_store.specs.State.{Legal}
use Rattle.meta_store.specs.Tasks.{tasks_of}
use Rattle.meta_store.specs.declared.refusal.Refusal.{Refusal as StateRefusal}
use Rattle.source_log.specs.Log.{Log}
use Rattle.index_world.specs.Calls.{Call, Fate, store_fault, is_foreign, is_full, is_expired, Gives, Made, made, exists, failed, Trouble, faulted, no_memory, Unmade, refused, troubled, adopted_made, and_then_by, answer_behind, appended, asked_and_looked, asked_clock, asking, create_at_end, entry_of, first_unless, full_answer, get_at_end, last_create, last_made, last_unless, may_fail, or_full, or_short, settled, transact, troubled_by}
use Rattle.index_world.specs.Calls as calls
use Rattle.index_world.specs.Config.{reads}
use Rattle.index_world.specs.Configuration.{config_or, configuration, index_of}
use Rattle.index_world.specs.Core.{Core}
use Rattle.index_world.specs.Gate.{task_act, task_call}
use Rattle.index_world.specs.Index.{max_entries}
use Rattle.index_world.specs.Seen.{visible_at}
use Rattle.index_world.proofs.Asking.{begun_history}
use Rattle.index_world.proofs.Configured.{configured_read, configured_schema}
use Rattle.index_world.proofs.Numbers.{revision_is}
use Rattle.search_api.specs.Resolved.{Asked, IsDelete, IsSearch, Search}
use Rattle.search_api.specs.declared.reply.Refusal.TheVariants.{TooManyBuckets}
use Rattle.search_api.specs.declared.reply.Reply.{Reply}
use Rattle.search_api.specs.declared.reply.Said.{Said}
use Rattle.search_api.specs.declared.reply.Said.TheVariants.{Found, Refused}
use Rattle.search_api.specs.declared.resolved.Deletion.{Deletion}
use Rattle.search_api.specs.declared.unanswered.Unanswered.{Unanswered}
use Rattle.search_api.specs.declared.unanswered.Unanswered.TheVariants as reasons
use Rattle.root_search.specs.Answer.{answer, matching, printed, shown}
use Rattle.root_search.specs.Requests.{ask_of, asked_of}
use Rattle.root_search.specs.Steps.{Client, ClientLuck, Plan, Request, Searched, no_request, opened, planned, config_at, config_in, delete_by, fetch_by, fetched_each, next_step, opened_by, or_short as short_step, plan_by, state_refusal, step_client, step_request, trouble_replied}
use Rattle.root_search.specs.declared.outcome.SearchStep.{SearchStep}
use Rattle.root_search.specs.declared.outcome.SearchStep.TheVariants.{Idle, Planned, Fetched, Replied}
use Rattle.root_search.proofs.DeleteLaws.{IsFull, full_only}
use Rattle.root_search.proofs.Steps.{delete_core}
use Rattle.root_search.proofs.TaskReads.{asked_reads}
use Rattle.node_run.specs.Node.{Node, Line, StepClient, Outcome, client_down, client_said}
use Rattle.node_run.specs.Telling.{MayTell, SaidMayTell}
use Rattle.node_run.specs.Turns.{LineLuck, Turn, Turned, Turns, client_named, client_turn_by, or_quiet, said_by_client, searching_luck, turn_by}
use Rattle.call_laws.proofs.CallMoves.{appended_moves}
use Rattle.call_laws.proofs.CallTells.{IfErr, IsFetchTrouble, IsStoreTrouble, asked_and_looked_own, got_own, settle_own}
use Rattle.node_run.proofs.Fetches.{each_own}
use Rattle.node_run.proofs.Moving.{turn_later, turns_later}
use Rattle.quick_node.specs.Fronts.{Known, after_outcome, config_then, known_of}
use Rattle.quick_node.specs.Reading.{last_moment}
use Rattle.quick_node.specs.Refusals.{IfRefused, Refuses, RefusesAsked, RefusesDelete, RefusesFrom}
use Rattle.quick_node.specs.Serve.{IsPrefixOf, Before, After, End, HasEnd, IsFresh, Answers, Lives}
use Rattle.thread_run.proofs.AskedTexts.{asked_utf8}
use Rattle.quick_node.proofs.Beginning.{RiseFrom, end_rises, lives_say, starts}
use Rattle.quick_node.proofs.Clocks.{turn_ticks}
use Rattle.quick_node.proofs.Files.{IsTimed, appended_few}
use Rattle.quick_node.proofs.MergeCalls.{Appends, appended_says}
use Rattle.quick_node.proofs.Onces.{configured_on}
use Rattle.quick_node.proofs.Prefixes.{front_legal, longer, same_front}
use Rattle.quick_node.proofs.Searching.{Agreed, OnRequest, Ready, line_goes, none_known, prefix_on, ready_on}
use Rattle.quick_node.proofs.Timing.{Rises, turn_timed}

-- ---- an entry that finds no room

-- nothing expired, and a journal that is full has as many entries as it may have
abbrev Room : Result ⊤ Unmade → Core → Type 0
Room (Ok done) core = ⊤
Room (Err (refused refusal)) core = ⊤
Room (Err (troubled (faulted (store_fault before after)))) core = ⊤
Room (Err (troubled (faulted (is_foreign key)))) core = ⊤
Room (Err (troubled (faulted is_full))) core = max_entries ≤ length core.history
Room (Err (troubled (faulted (is_expired planned_at now)))) core = ⊥
Room (Err (troubled no_memory)) core = ⊤

store_room : (trouble : Trouble) (core : Core) → IsStoreTrouble trouble → Room (Err (troubled trouble)) core
store_room (faulted (store_fault before after)) core h = tt
store_room (faulted (is_foreign key)) core h = tt
store_room (faulted is_full) core h = absurd h
store_room (faulted (is_expired planned_at now)) core h = h
store_room no_memory core h = tt

module _ (act : Core → Act) where
  abbrev HasRoom : Gives Unmade ⊤ → Type 0
  HasRoom given = Room given.answer given.core

  short_room : (b : Bool) (call : Call) (core : Core) (given : Gives Unmade ⊤) → HasRoom given → HasRoom (or_short b (troubled no_memory) call core given)
  short_room true call core given h = tt
  short_room false call core given h = h

  made_room : (count : ℕ) (entry : Entry) (m : Made) (core : Core) → HasRoom (last_made count entry m core)
  made_room count entry made core = tt
  made_room count entry (exists other) core = tt
  made_room count entry failed core = tt

  last_room : (call : Call) (count : ℕ) (core : Core) → HasRoom (last_create call count (act core) core)
  last_room call count core = short_room call.short call core _ (by (answer_behind core.history (entry_of (act core) core)))
    where
      full : (b : Bool) → nat_le max_entries (length core.history) ≡ b → HasRoom (last_unless (full_answer b) call count (act core) core)
      full true e = leb-true max_entries (length core.history) e
      full false e = let making = create_at_end call (entry_of (act core) core) core in made_room count (entry_of (act core) core) making.answer making.core

      by : (r : Result (Unit {0}) StateRefusal) → HasRoom (last_unless (or_full r core) call count (act core) core)
      by (Err refusal) = tt
      by (Ok done) = full (nat_le max_entries (length core.history)) refl

  then_room : (r : Result ⊤ Trouble) (core : Core) (call : Call) (count : ℕ) → IfErr IsStoreTrouble r →
      HasRoom (and_then_by (troubled_by r core).answer (troubled_by r core).core (λ c. last_create call count (act c) c))
  then_room (Ok done) core call count h = last_room call count core
  then_room (Err trouble) core call count h = store_room trouble core h

  adopted_room : (get again : Call) (count : ℕ) (entry : Entry) (m : Made) (core : Core) → HasRoom (adopted_made get again count act entry m core)
  adopted_room get again count entry made core = tt
  adopted_room get again count entry (exists other) core =
      let given = get_at_end get other count core in then_room given.answer given.core again count (got_own (may_fail get core.store_faults) get count other (calls.begun get core))
  adopted_room get again count entry failed core = tt

  transact_room : (b : Bool) (first second third : Call) (core : Core) → core.unsure ≡ b → HasRoom (transact b first second third act core)
  transact_room true first second third core e =
      let given = settled first second core in then_room given.answer given.core third core.store_faults (settle_own core.unsure first second core)
  transact_room false first second third core e = short_room first.short first core _ (by (answer_behind core.history (entry_of (act core) core)))
    where
      full : (b : Bool) → nat_le max_entries (length core.history) ≡ b → HasRoom (first_unless (full_answer b) first second third act core)
      full true e = leb-true max_entries (length core.history) e
      full false e =
          let making = create_at_end first (entry_of (act core) core) core in
          adopted_room second third core.store_faults (entry_of (act core) core) making.answer making.core

      by : (r : Result (Unit {0}) StateRefusal) → HasRoom (first_unless (or_full r core) first second third act core)
      by (Err refusal) = tt
      by (Ok done) = full (nat_le max_entries (length core.history)) refl

  appended_room : (fate : Fate) (core : Core) → HasRoom (appended fate act core)
  appended_room fate core = by fate.unasked
    where
      by : (b : Bool) → HasRoom (asking b (troubled no_memory) core (λ c. transact c.unsure fate.first fate.second fate.third act c))
      by true = tt
      by false = transact_room core.unsure fate.first fate.second fate.third (asked_clock core) refl

-- ---- the configuration

-- a journal that has begun has one, and is read under it
record IsUnder (entries : List Entry) : Type 0 where
  config : IndexConfig
  is : configuration entries ≡ Some config

under : (entries : List Entry) → Legal reads (history entries) → 0 < length entries → IsUnder entries
under entries legal some =
    let b = begun_history (history entries) legal (let r = revision_is entries in omega (arith, r, some)) in record { config = b.config.settings.index; is = ap index_of b.is }

-- it is that of the journal at exit
stays : (entries exit : List Entry) → IsPrefixOf entries exit → Legal reads (history exit) → 0 < length entries → config_or (configuration entries) ≡ config_or (configuration exit)
stays entries exit p legal some =
    let u = under entries (front_legal entries exit p legal) some in
    let later : configuration exit ≡ Some u.config =
    ap configuration (sym (take_all (length exit) exit (omega arith))) ∙ configured_on entries exit p legal u.config u.is (length exit) (longer entries exit p) in
    ap config_or (u.is ∙ sym later)

-- ---- a client's step

-- what is said is no refusal, or one of what is asked, in a line that ends behind so many entries
abbrev IsTold : List Entry → (from next : ℕ) → Result Asked Unanswered → Said → Type 0
IsTold exit from next asked said = SaidMayTell said → IfRefused said (RefusesAsked exit from next asked)

abbrev StepTold : List Entry → (from next : ℕ) → Result Asked Unanswered → Option SearchStep → Type 0
StepTold exit from next asked None = ⊤
StepTold exit from next asked (Some Idle) = ⊤
StepTold exit from next asked (Some (Planned revision count)) = ⊤
StepTold exit from next asked (Some (Fetched number)) = ⊤
StepTold exit from next asked (Some (Replied reply)) = IsTold exit from next asked reply.said

module _ (exit : List Entry) (from : ℕ) where
  abbrev Told : Result Asked Unanswered → Searched → Type 0
  Told asked step = StepTold exit from (length step.core.history) asked step.outcome

  -- ---- a search

  store_told : (revision : ℕ) (search : Search) (trouble : Trouble) (client : Client) (core : Core) → IsStoreTrouble trouble → Told (Ok (IsSearch search)) (trouble_replied revision trouble client core)
  store_told revision search (faulted (store_fault before after)) client core h = λ t. tt
  store_told revision search (faulted (is_foreign key)) client core h = λ t. absurd h
  store_told revision search (faulted is_full) client core h = λ t. absurd h
  store_told revision search (faulted (is_expired planned_at now)) client core h = λ t. absurd h
  store_told revision search no_memory client core h = tt

  late_told : (revision : ℕ) (search : Search) (trouble : Trouble) (client : Client) (core : Core) → IsFetchTrouble trouble → Told (Ok (IsSearch search)) (trouble_replied revision trouble client core)
  late_told revision search (faulted (store_fault before after)) client core h = λ t. tt
  late_told revision search (faulted (is_foreign key)) client core h = λ t. absurd h
  late_told revision search (faulted is_full) client core h = λ t. absurd h
  late_told revision search (faulted (is_expired planned_at now)) client core h = λ t. tt
  late_told revision search no_memory client core h = tt

  search_told : (r : Result ⊤ Trouble) (search : Search) (client : Client) (core : Core) → IfErr IsStoreTrouble r → Told (Ok (IsSearch search)) (plan_by r (Ok search) client core)
  search_told (Ok done) search client core h = tt
  search_told (Err trouble) search client core h = store_told client.front search trouble client core h

  fetch_told : (r : Result ⊤ Trouble) (plan : Plan) (number : ℕ) (more : List ℕ) (client : Client) (core : Core) → IfErr IsFetchTrouble r → Told (Ok (IsSearch plan.search)) (fetch_by r plan number more client core)
  fetch_told (Ok done) plan number more client core h = tt
  fetch_told (Err trouble) plan number more client core h = late_told plan.revision plan.search trouble client core h

  buckets_told : (next : ℕ) (search : Search) (b : Bool) (many count : ℕ) (lines : List (List ℕ)) (results : List NestedAnswer) →
      IsTold exit from next (Ok (IsSearch search)) (if b then Refused (TooManyBuckets count) else Found many lines results)
  buckets_told next search true many count lines results t = tt
  buckets_told next search false many count lines results t = tt

  answer_told : (next : ℕ) (s : Schema) (search : Search) (documents : List Placed) → IsTold exit from next (Ok (IsSearch search)) (answer s search documents)
  answer_told next s search documents =
      let found = matching s search documents in
      let count = all_buckets search.aggs (docs_of found) in
      buckets_told next search (nat_lt most_buckets count) (length found) (told count) (printed s (shown search found)) (map (nested_answer (docs_of found)) search.aggs)

  next_told : (unfetched : List ℕ) (luck : ClientLuck) (log : Log) (plan : Plan) (client : Client) (core : Core) → Told (Ok (IsSearch plan.search)) (next_step luck log plan unfetched client core)
  next_told [] luck log plan client core = answer_told (length core.history) (config_at plan.revision core).schema plan.search (visible_at plan.revision core.history log)
  next_told (number ∷ more) luck log plan client core =
      let given = fetched_each plan.grace luck.world luck.more core in
      fetch_told given.answer plan number more client given.core (each_own plan.grace luck.more luck.world core)

  -- ---- a text that asks nothing

  own_told : (r : Result ⊤ Trouble) (reason : Unanswered) (client : Client) (core : Core) → Told (Err reason) (plan_by r (Err reason) client core)
  own_told (Ok done) (reasons.Refused own) client core = λ t. refl
  own_told (Ok done) (reasons.Memory e) client core = tt
  own_told (Err (faulted fault)) (reasons.Refused own) client core = λ t. refl
  own_told (Err no_memory) (reasons.Refused own) client core = tt
  own_told (Err trouble) (reasons.Memory e) client core = tt

  -- ---- a delete

  room_told : (revision : ℕ) (deletion : Deletion) (trouble : Trouble) (client : Client) (core : Core) → Room (Err (troubled trouble)) core → from ≤ length core.history → IsPrefixOf core.history exit →
      Told (Ok (IsDelete deletion)) (trouble_replied revision trouble client core)
  room_told revision deletion (faulted (store_fault before after)) client core h low p = λ t. tt
  room_told revision deletion (faulted (is_foreign key)) client core h low p = λ t. absurd t
  room_told revision deletion (faulted is_full) client core h low p = λ t.
      (length core.history, low, omega arith, subst (λ (es : List Entry). max_entries ≤ length es) (sym (same_front core.history exit p (length core.history) (omega arith) ∙ take_all (length core.history) core.history (omega arith))) h)
  room_told revision deletion (faulted (is_expired planned_at now)) client core h low p = λ t. absurd h
  room_told revision deletion no_memory client core h low p = tt

  -- the state refuses the task of a text that was read only where as many stand as may
  module _ (legal : Legal reads (history exit)) where
    tasks_told : (text : List ℕ) (deletion : Deletion) (core : Core) → 0 < length core.history → from ≤ length core.history → IsPrefixOf core.history exit → moment_of (history core.history) ≤ core.moment →
        asked_of (config_in core) text ≡ Ok (IsDelete deletion) → (refusal : StateRefusal) → answer_behind core.history (entry_of (task_act (ask_of deletion) core) core) ≡ Err refusal →
        RefusesDelete exit from (length core.history) (state_refusal refusal)
    tasks_told text deletion core some low p greatest word refusal e =
        subst (λ (r : StateRefusal). RefusesDelete exit from (length core.history) (state_refusal r)) (sym full.count_is)
        (length core.history, low, omega arith, ap (λ (es : List Entry). length (tasks_of reads (history es))) (sym front), full.many)
      where
        front : take (length core.history) exit ≡ core.history
        front = same_front core.history exit p (length core.history) (omega arith) ∙ take_all (length core.history) core.history (omega arith)

        u : IsUnder core.history
        u = under core.history (front_legal core.history exit p legal) some

        asked_is : asked_of u.config text ≡ Ok (IsDelete deletion)
        asked_is = ap (λ (c : IndexConfig). asked_of c text) (sym (ap config_or u.is)) ∙ word

        full : IsFull (length (tasks_of reads (history core.history))) refusal
        full =
            let read = configured_read core.history u.config u.is in
            let r = asked_reads u.config text deletion (configured_schema core.history u.config u.is) (accepted-texts read.0 u.config read.1) (asked_utf8 u.config text deletion asked_is) asked_is in
            full_only (history core.history) core.moment (ask_of deletion) refusal u.config r.0 (config_of reads (history core.history)) greatest u.is r.1 e

    delete_told : (text : List ℕ) (deletion : Deletion) (r : Result ⊤ Unmade) (client : Client) (start core : Core) → Appends (task_act (ask_of deletion)) start r core → Room r core → 0 < length core.history →
        from ≤ length core.history → IsPrefixOf core.history exit → moment_of (history core.history) ≤ core.moment → asked_of (config_in core) text ≡ Ok (IsDelete deletion) → Told (Ok (IsDelete deletion)) (delete_by r client core)
    delete_told text deletion (Ok done) client start core appends room some low p greatest word = λ t. tt
    delete_told text deletion (Err (refused refusal)) client start core appends room some low p greatest word = λ t. tasks_told text deletion core some low p greatest word refusal appends.1
    delete_told text deletion (Err (troubled trouble)) client start core appends room some low p greatest word = room_told client.front deletion trouble client core room low p

    -- ---- any text

    opened_told : (asked : Result Asked Unanswered) (text : List ℕ) (luck : ClientLuck) (client : Client) (core : Core) → asked_of (config_in core) text ≡ asked → IsTimed core → 0 < length core.history →
        from ≤ length core.history → IsPrefixOf core.history exit → IsPrefixOf (opened_by asked luck.world client core).core.history exit → Told asked (opened_by asked luck.world client core)
    opened_told (Ok (IsSearch search)) text luck client core word t some low p q =
        let given = asked_and_looked luck.world core in search_told given.answer search client given.core (asked_and_looked_own luck.world core)
    opened_told (Ok (IsDelete deletion)) text luck client core word t some low p q =
        let given = task_call (ask_of deletion) luck.world core in
        let up : length core.history ≤ length given.core.history = longer core.history given.core.history (appended_moves luck.world (task_act (ask_of deletion)) core).later.grows in
        let here : IsPrefixOf given.core.history exit = subst (λ (c : Core). IsPrefixOf c.history exit) (delete_core given.answer client given.core) q in
        let more : 0 < length given.core.history = omega (arith, some, up) in
        delete_told text deletion given.answer client core given.core (appended_says (task_act (ask_of deletion)) luck.world core) (appended_room (task_act (ask_of deletion)) luck.world core) more
        (omega (arith, low, up)) here ((appended_few (task_act (ask_of deletion)) (λ c. tt) luck.world core).timed t).least
        (ap (λ (config : IndexConfig). asked_of config text) (stays given.core.history exit here legal more ∙ sym (stays core.history exit p legal some)) ∙ word)
    opened_told (Err reason) text luck client core word t some low p q = let given = asked_and_looked luck.world core in own_told given.answer reason client given.core

    request_told : (request : Request) (luck : ClientLuck) (log : Log) (least : ℕ) (known : Known) (client : Client) (core : Core) → OnRequest exit least known client.front (length core.history) request → IsTimed core →
        0 < length core.history → from ≤ length core.history → IsPrefixOf core.history exit → IsPrefixOf (step_request request luck log client core).core.history exit →
        Told (asked_of (config_or (configuration exit)) known.text) (step_request request luck log client core)
    request_told no_request luck log least known client core r t some low p q = tt
    request_told (opened text) luck log least known client core r t some low p q =
        subst (λ (asked : Result Asked Unanswered). Told asked (opened_by (asked_of (config_in core) text) luck.world client core)) (sym same)
        (opened_told (asked_of (config_in core) text) text luck client core refl t some low p q)
      where
        same : asked_of (config_or (configuration exit)) known.text ≡ asked_of (config_in core) text
        same = ap (asked_of (config_or (configuration exit))) r ∙ ap (λ (config : IndexConfig). asked_of config text) (sym (stays core.history exit p legal some))
    request_told (planned plan) luck log least known client core r t some low p q =
        subst (λ (asked : Result Asked Unanswered). Told asked (next_step luck log plan plan.unfetched client core)) (sym same) (next_told plan.unfetched luck log plan client core)
      where
        long : length (take plan.revision exit) ≡ plan.revision
        long = length-take-le plan.revision exit (let short = r.3 in let more = longer core.history exit p in omega (arith, short, more))

        is : config_then plan.revision exit ≡ config_or (configuration exit)
        is = stays (take plan.revision exit) exit (drop plan.revision exit, sym (take-append-drop plan.revision exit)) legal (let some = r.4 in omega (arith, long, some))

        same : asked_of (config_or (configuration exit)) known.text ≡ Ok (IsSearch plan.search)
        same = ap (λ (config : IndexConfig). asked_of config known.text) (sym is) ∙ r.0

    step_told : (luck : ClientLuck) (log : Log) (least : ℕ) (known : Known) (client : Client) (core : Core) → OnRequest exit least known client.front (length core.history) client.request → IsTimed core →
        0 < length core.history → from ≤ length core.history → IsPrefixOf core.history exit → IsPrefixOf (step_client luck log client core).core.history exit →
        Told (asked_of (config_or (configuration exit)) known.text) (step_client luck log client core)
    step_told luck log least known client core r t some low p = by luck.short
      where
        by : (b : Bool) → IsPrefixOf (short_step b client (step_request client.request luck log client core)).core.history exit →
            Told (asked_of (config_or (configuration exit)) known.text) (short_step b client (step_request client.request luck log client core))
        by true q = tt
        by false q = request_told client.request luck log least known client core r t some low p q

-- ---- a client's line

none_said : (outcome : Outcome) → None ≡ Some outcome → ⊥
none_said outcome e = cc

down_apart : (name who : List ℕ) (step : SearchStep) → Some (client_down name) ≡ Some (client_said who step) → ⊥
down_apart name who step e = cc

step_is : (name who : List ℕ) (s step : SearchStep) → Some (client_said name s) ≡ Some (client_said who step) → s ≡ step
step_is name who s step e = cc

abbrev TurnTold : List Entry → ℕ → Result Asked Unanswered → Turned → Type 0
TurnTold exit from asked turn = (who : List ℕ) (reply : Reply) → turn.said ≡ Some (client_said who (Replied reply)) → IsTold exit from (length turn.node.core.history) asked reply.said

said_told : (exit : List Entry) (from next : ℕ) (asked : Result Asked Unanswered) (name : List ℕ) (o : Option SearchStep) → StepTold exit from next asked o →
    (who : List ℕ) (reply : Reply) → said_by_client name o ≡ Some (client_said who (Replied reply)) → IsTold exit from next asked reply.said
said_told exit from next asked name None h who reply e = absurd (none_said (client_said who (Replied reply)) e)
said_told exit from next asked name (Some s) h who reply e = subst (λ (x : SearchStep). StepTold exit from next asked (Some x)) (step_is name who s (Replied reply) e) h

module _ (exit : List Entry) (legal : Legal reads (history exit)) (least from : ℕ) (knowns : List Known) (node : Node) (all : Agreed exit least knowns node) (t : IsTimed node.core)
    (some : 0 < length node.core.history) (low : from ≤ length node.core.history) (p : IsPrefixOf node.core.history exit) where
  module _ (name : List ℕ) where
    abbrev asked : Result Asked Unanswered
    asked = asked_of (config_or (configuration exit)) (known_of name knowns).text

    client_told : (down : Bool) (luck : LineLuck) → IsPrefixOf (client_turn_by down luck name node).node.core.history exit → TurnTold exit from asked (client_turn_by down luck name node)
    client_told true luck q = λ who reply e. absurd (down_apart name who (Replied reply) e)
    client_told false luck q =
        let step = step_client (searching_luck luck) node.log (client_named name node.clients) node.core in
        said_told exit from (length step.core.history) asked name step.outcome
        (step_told exit from legal (searching_luck luck) node.log least (known_of name knowns) (client_named name node.clients) node.core (all name).request t some low p q)

    quiet_told : (b : Bool) (luck : LineLuck) → IsPrefixOf (or_quiet b (StepClient name) (client_turn_by node.down luck name node)).node.core.history exit →
        TurnTold exit from asked (or_quiet b (StepClient name) (client_turn_by node.down luck name node))
    quiet_told true luck q = λ who reply e. absurd (none_said (client_said who (Replied reply)) e)
    quiet_told false luck q = client_told node.down luck q

    turn_told : (b : Bool) (luck : LineLuck) → IsPrefixOf (turn_by b luck node (StepClient name)).node.core.history exit → TurnTold exit from asked (turn_by b luck node (StepClient name))
    turn_told true luck q = λ who reply e. absurd (none_said (client_said who (Replied reply)) e)
    turn_told false luck q = quiet_told luck.short luck q

  line_refuses : (line : Line) (o : Outcome) (mid : Node) → Turn node line (Some o) mid → IsPrefixOf mid.core.history exit → MayTell o → Refuses exit from (length mid.core.history) knowns line o
  line_refuses (StepClient name) (client_said who (Replied reply)) mid turn q tells =
      subst (TurnTold exit from (asked name)) turn.is (turn_told name turn.luck.early turn.luck (subst (λ (x : Turned). IsPrefixOf x.node.core.history exit) (sym turn.is) q)) who reply refl tells
  line_refuses line o mid turn q tells = tt

-- ---- lines, and a call

module _ (exit : List Entry) (legal : Legal reads (history exit)) (least : ℕ) where
  turns_refuse : (clock from : ℕ) (knowns : List Known) (node last : Node) (lines : List Line) (outcomes : List Outcome) → node.core.clock ≡ clock → IsTimed node.core → RiseFrom clock lines →
      Agreed exit least knowns node → Ready exit least node.core → from ≤ length node.core.history → IsPrefixOf last.core.history exit → AllByRecursion MayTell outcomes → Turns node lines outcomes last →
      RefusesFrom exit from knowns lines outcomes
  turns_refuse clock from knowns node last [] [] ticks t rise all ready low p tells run = tt
  turns_refuse clock from knowns node last [] (o ∷ os) ticks t rise all ready low p tells run = absurd run
  turns_refuse clock from knowns node last (line ∷ lines) [] ticks t rise all ready low p tells run = absurd run
  turns_refuse clock from knowns node last (line ∷ lines) (o ∷ os) ticks t rise all ready low p tells run =
      let mid = run.0 in
      let here : IsPrefixOf mid.core.history exit = prefix_on mid.core.history last.core.history exit (turns_later mid last lines os run.2).grows p in
      let grows = (turn_later node line (Some o) mid run.1).grows in
      let up : length node.core.history ≤ length mid.core.history = longer node.core.history mid.core.history grows in
      let is_next : last_moment node.core.clock (line ∷ []) ≡ last_moment clock (line ∷ []) = ap (λ (m : ℕ). last_moment m (line ∷ [])) ticks in
      let goes = line_goes exit least knowns node mid line o all ready run.1 here in (
        length mid.core.history,
        omega (arith, low, up),
        longer mid.core.history exit here,
        line_refuses exit legal least from knowns node all t ready.some low (prefix_on node.core.history mid.core.history exit grows here) line o mid run.1 here tells.0,
        turns_refuse (last_moment clock (line ∷ [])) (length mid.core.history) (after_outcome knowns line o) mid last lines os (turn_ticks node line o mid run.1 ∙ is_next)
            (turn_timed node line o mid t (subst (λ (m : ℕ). Rises m line) (sym ticks) rise.0) run.1) rise.1 goes.agrees (ready_on exit least node.core mid.core ready up) (omega arith) p tells.1 run.2,
      )

module _ (exit : List Entry) (legal : Legal reads (history exit)) (entry : List Entry) (before : Before) (fresh : Node) (is : IsFresh before entry fresh) where
  abbrev AllRefused : List Line → List Outcome → Type 0
  AllRefused lines outcomes = RiseFrom 0 lines → AllByRecursion MayTell outcomes → RefusesFrom exit (length entry) [] lines outcomes

  answers_refuse : (lines : List Line) (outcomes : List Outcome) (last : Node) → Answers fresh lines outcomes last → IsPrefixOf last.core.history exit → AllRefused lines outcomes
  answers_refuse lines outcomes last a p rise tells =
      let s = starts entry before fresh is lines outcomes last a in
      let clients : a.opened.clients ≡ [] = ap (λ (n : Node). n.clients) a.opens.is ∙ ap (λ (n : Node). n.clients) is.is in
      turns_refuse exit legal (length entry) 0 (length entry) [] a.opened last lines outcomes s.told s.timed rise (none_known exit (length entry) a.opened clients)
      (record { legal = legal; low = s.goes_on; some = s.some }) s.goes_on p tells a.turns

  -- EACH REFUSAL is one of what its client's text asks
  pub lives_refuse : (after : After) (end : End) (lines : List Line) (outcomes : List Outcome) (last : Node) → HasEnd before after lines end → Lives before end fresh lines outcomes last → IsPrefixOf last.core.history exit →
      AllByRecursion MayTell outcomes → RefusesFrom exit (length entry) [] lines outcomes
  lives_refuse after end lines outcomes last ends l p tells = lives_say exit before fresh AllRefused (λ rise told. tt) answers_refuse end lines outcomes last l p (end_rises before after end lines ends) tells
