-- The headline's sentences on searches and deletes follow from the node: whatever lands and fails, each reply with hits is the answer to
-- what its client opened last, over one revision that is no older than its client's front and the journal at entry, and each reply that a
-- delete was done names the task that its line added.
use Rattle.std.proofs.Common.{◌≡◌, ℕ, ◌<◌, ◌≤◌, ◌+◌, List, [], ◌∷◌, ◌++◌, refl, sym, ap, ◌∙◌, subst, Bool, true, false, length, arith, take, map, append_assoc}
use Rattle.std.proofs.lemmas.List.{length-append, take-append-le, take_all}
use Rattle.std.proofs.lemmas.Slice.Eq.{bytes_eq-Decides}
use Rattle.std.specs.Prelude.{Option, Some, None, Result, Ok, Err, ⊤, if◌then◌else◌, bytes_eq}
use Rattle.meta_journal.specs.declared.entry.Entry.{Entry}
use Rattle.meta_store.proofs.Numbers.{history-snoc}
use Rattle.meta_store.specs.History.{history, last_opstamp}
use Rattle.meta_store.specs.Ledgers.{ledger}
use Rattle.meta_store.specs.State.{Legal}
use Rattle.index_world.specs.Config.{reads}
use Rattle.source_log.specs.Log.{Log}
use Rattle.index_world.specs.Calls.{Trouble, faulted, no_memory, Unmade, troubled, Unread, not_read, asked_and_looked, entry_of, loaded}
use Rattle.index_world.specs.Calls as calls
use Rattle.index_world.specs.Configuration.{configuration, config_or, index_of}
use Rattle.index_world.specs.Core.{Core}
use Rattle.index_world.specs.Gate.{task_act, task_call}
use Rattle.index_world.specs.Seen.{visible, visible_at}
use Rattle.index_world.proofs.Asking.{Begun, begun_history}
use Rattle.index_world.proofs.Numbers.{revision_is}
use Rattle.indexing_run.specs.Outcomes.{IndexerOutcome}
use Rattle.indexing_run.specs.Places.{IndexerPlace, idle, reading, staged, uploaded, Indexer}
use Rattle.indexing_run.specs.Steps.{step_indexer}
use Rattle.root_search.specs.Answer.{answer}
use Rattle.root_search.specs.Requests.{ask_of, asked_of}
use Rattle.root_search.specs.Steps.{Client, Request, no_request, opened, planned, Plan, ClientLuck, Searched, delete_by, fault_refusal, opened_by, plan_by, plan_given, reply_with, state_refusal, trouble_replied, refused_over, fetch_by, fetched_each, config_at, config_in, next_step, step_request, or_short, step_client, answer_of, without_request}
use Rattle.root_search.specs.declared.outcome.SearchStep.{SearchStep}
use Rattle.root_search.specs.declared.outcome.SearchStep.TheVariants.{Idle, Planned, Fetched, Replied}
use Rattle.root_search.proofs.Steps.{as_asked, delete_core}
use Rattle.search_api.specs.Resolved.{Asked, IsDelete, IsSearch, Search}
use Rattle.search_api.specs.declared.reply.Refusal.{Refusal}
use Rattle.search_api.specs.declared.reply.Reply.{Reply}
use Rattle.search_api.specs.declared.reply.Said.{Said}
use Rattle.search_api.specs.declared.reply.Said.TheVariants.{Found, Deleted, Refused}
use Rattle.search_api.specs.declared.resolved.Deletion.{Deletion}
use Rattle.search_api.specs.declared.unanswered.Unanswered.{Unanswered}
use Rattle.search_api.specs.declared.unanswered.Unanswered.TheVariants as reasons
use Rattle.split_collector.specs.Outcomes.{Outcome as CollectorOutcome}
use Rattle.split_collector.specs.Steps.{step_collector}
use Rattle.upkeep_run.specs.Outcomes.{UpkeepOutcome}
use Rattle.upkeep_run.specs.Places as workers
use Rattle.upkeep_run.specs.Steps.{step_worker}
use Rattle.upkeep_run.specs.declared.work.Aim.{Aim}
use Rattle.upkeep_run.specs.declared.work.Aim.TheVariants.{Deleting, Merging}
use Rattle.node_run.specs.Node.{Node, Line, At, Assign, StepIndexer, RestartIndexer, RestartClient, StepMerger, RestartMerger, StepDeleter, RestartDeleter, StepCollector, RestartCollector, RestartNode, Open, StepClient, Outcome, client_said}
use Rattle.node_run.specs.Turns as node_turns
use Rattle.node_run.specs.Turns.{full_turn, turn_with, turn_by, or_quiet, quiet, Turn, Turns, Turned, client_named, with_client, keep_client, said_by_indexer, indexer_stepped, indexer_turn_by, said_by_client, client_turn_by, collecting_luck, said_by_collector, collector_turn_by, assign_at, open_by, restart_by, indexer_at, indexing_luck, searching_luck, working_luck, said_by_worker, worker_stepped, worker_turn_by, with_deleter, with_merger}
use Rattle.call_laws.proofs.CallMoves.{Grows, same_grows, appended_moves, asked_and_looked_moves, loaded_moves}
use Rattle.node_run.proofs.Fetches.{each_moves}
use Rattle.node_run.proofs.CollectorMoves.{collector_moves}
use Rattle.node_run.proofs.WorkerMoves.{worker_moves}
use Rattle.node_run.proofs.Moving.{indexer_moves, client_moves, turns_later}
use Rattle.request_laws.specs.OfText.{IsOfText, OfText}
use Rattle.node_run.proofs.Refusals.{asked_of_text}
use Rattle.quick_node.specs.Deletes.{Deletes, DeletesFrom, HasCause, KeepsFront, Replies}
use Rattle.quick_node.specs.Fronts.{Known, known_of, after_outcome, config_then}
use Rattle.quick_node.specs.Serve.{IsPrefixOf, IfFound, AnswersOne, AnswersFrom}
use Rattle.quick_node.proofs.EntryRows.{legal_before}
use Rattle.quick_node.proofs.MergeCalls.{Appends, appended_says}
use Rattle.quick_node.proofs.Onces.{configured_on}
use Rattle.quick_node.proofs.Replying.{answer_told, deletes_from, fault_cause, state_cause, text_cause}

same-true : (a b : List ℕ) → bytes_eq a b ≡ true → a ≡ b
same-true a b = (bytes_eq-Decides a b).0

same-refl : (a : List ℕ) → bytes_eq a a ≡ true
same-refl a = (bytes_eq-Decides a a).1 refl

true_is_false : true ≡ false → ⊥
true_is_false e = cc

some_same : {X : Type 0} (x y : X) → Some x ≡ Some y → x ≡ y
some_same x y e = cc

none_is_some : {X : Type 0} (x : X) (o : Option X) → o ≡ None → o ≡ Some x → ⊥
none_is_some x o n e = cc

-- ---- what is known of a client agrees with the node

abbrev pub OnRequest : List Entry → ℕ → Known → ℕ → ℕ → Request → Type 0
OnRequest exit least known front len no_request = Unit {0}
OnRequest exit least known front len (opened text) = known.text ≡ text
OnRequest exit least known front len (planned plan) =
    (asked_of (config_then plan.revision exit) known.text ≡ Ok (IsSearch plan.search)) × (least ≤ plan.revision) × (front ≤ plan.revision) × (plan.revision ≤ len)
    × (0 < plan.revision)

pub record Agrees (exit : List Entry) (least len : ℕ) (name : List ℕ) (known : Known) (client : Client) : Type 0 where
  pub known_name : known.name ≡ name
  pub client_name : client.name ≡ name
  pub front : known.front ≡ client.front
  pub bound : client.front ≤ len
  pub request : OnRequest exit least known client.front len client.request

abbrev pub AllAgree : List Entry → ℕ → ℕ → (List ℕ → Known) → (List ℕ → Client) → Type 0
AllAgree exit least len known client = (name : List ℕ) → Agrees exit least len name (known name) (client name)

on-more : (exit : List Entry) (least : ℕ) (known : Known) (front len more : ℕ) (request : Request) → len ≤ more → OnRequest exit least known front len request → OnRequest exit least known front more request
on-more exit least known front len more no_request h r = tt
on-more exit least known front len more (opened text) h r = r
on-more exit least known front len more (planned plan) h r = (r.0, r.1, r.2, omega (arith, h, r.3), r.4)

agrees-more : (exit : List Entry) (least len more : ℕ) (name : List ℕ) (known : Known) (client : Client) → len ≤ more → Agrees exit least len name known client → Agrees exit least more name known client
agrees-more exit least len more name known client h a =
    record {
      known_name = a.known_name;
      client_name = a.client_name;
      front = a.front;
      bound = omega (arith, h, a.bound);
      request = on-more exit least known client.front len more client.request h a.request;
    }

all-more : (exit : List Entry) (least len more : ℕ) (known : List ℕ → Known) (client : List ℕ → Client) → len ≤ more → AllAgree exit least len known client → AllAgree exit least more known client
all-more exit least len more known client h all name = agrees-more exit least len more name (known name) (client name) h (all name)

-- the request was dropped
agrees-dropped : (exit : List Entry) (least len : ℕ) (name : List ℕ) (known : Known) (client : Client) → Agrees exit least len name known client → Agrees exit least len name known (without_request client)
agrees-dropped exit least len name known client a =
    record { known_name = a.known_name; client_name = a.client_name; front = a.front; bound = a.bound; request = tt }

-- one client changed, and what is known of it
all-updated : (exit : List Entry) (least len : ℕ) (name : List ℕ) (k : Known) (c : Client) (known known' : List ℕ → Known) (client client' : List ℕ → Client) →
    ((q : List ℕ) → known' q ≡ (if bytes_eq name q then k else known q)) → ((q : List ℕ) → client' q ≡ (if bytes_eq name q then c else client q)) →
    AllAgree exit least len known client → Agrees exit least len name k c → AllAgree exit least len known' client'
all-updated exit least len name k c known known' client client' ek ec all one q = by (bytes_eq name q) refl
  where
    by : (b : Bool) → bytes_eq name q ≡ b → Agrees exit least len q (known' q) (client' q)
    by true e = rw (ek q, ec q, e) (subst (λ n. Agrees exit least len n k c) (same-true name q e) one)
    by false e = rw (ek q, ec q, e) (all q)

-- the client that was kept is found under its name
client_named-with : (q : List ℕ) (c : Client) (clients : List Client) → client_named q (with_client c clients) ≡ (if bytes_eq c.name q then c else client_named q clients)
client_named-with q c [] = refl
client_named-with q c (other ∷ clients) = by (bytes_eq other.name c.name) refl (bytes_eq other.name q) refl (bytes_eq c.name q) refl (client_named-with q c clients)
  where
    by : (a : Bool) → bytes_eq other.name c.name ≡ a → (b : Bool) → bytes_eq other.name q ≡ b → (d : Bool) → bytes_eq c.name q ≡ d →
        client_named q (with_client c clients) ≡ (if bytes_eq c.name q then c else client_named q clients) →
        client_named q (with_client c (other ∷ clients)) ≡ (if bytes_eq c.name q then c else client_named q (other ∷ clients))
    by true ea b eb true ed ih = rw (ea, ed)
    by true ea true eb false ed ih = absurd (true_is_false (sym eb ∙ ap (λ n. bytes_eq n q) (same-true other.name c.name ea) ∙ ed))
    by true ea false eb false ed ih = rw (ea, ed, eb)
    by false ea true eb true ed ih =
        absurd (true_is_false (sym (same-refl c.name) ∙ ap (λ n. bytes_eq n c.name) (same-true c.name q ed ∙ sym (same-true other.name q eb)) ∙ ea))
    by false ea true eb false ed ih = rw (ea, eb, ed)
    by false ea false eb d ed ih = rw (ea, eb) ih

longer : (a b : Core) → Grows a b → length a.history ≤ length b.history
longer a b g = let e : length b.history ≡ length a.history + length g.0 = ap length g.1 ∙ length-append a.history g.0 in omega (arith, e)

-- The journal at exit is a legal one, and this core has taken in an entry at least, and as many as stood at entry.
pub record Ready (exit : List Entry) (least : ℕ) (core : Core) : Type 0 where
  pub legal : Legal reads (history exit)
  pub low : least ≤ length core.history
  pub some : 0 < length core.history

-- so is one that took in more
pub ready_on : (exit : List Entry) (least : ℕ) (core after : Core) → Ready exit least core → length core.history ≤ length after.history → Ready exit least after
ready_on exit least core after ready up =
    record { legal = ready.legal; low = let l = ready.low in omega (arith, l, up); some = let l = ready.some in omega (arith, l, up) }

pub prefix_on : (a b c : List Entry) → IsPrefixOf a b → IsPrefixOf b c → IsPrefixOf a c
prefix_on a b c g h = (g.0 ++ h.0, h.1 ∙ ap (λ l. l ++ h.0) g.1 ∙ append_assoc a g.0 h.0)

-- ---- one step of a client

-- What a client's step says is answered, and a delete was done behind so many entries; what it leaves agrees with what is known behind its outcome.
record Went (exit : List Entry) (log : Log) (least from : ℕ) (knowns : List Known) (name : List ℕ) (s : SearchStep) (client : Client) (core : Core) : Type 0 where
  agrees : Agrees exit least (length core.history) name (known_of name (after_outcome knowns (StepClient name) (client_said name s))) client
  answers : AnswersOne exit log least knowns (StepClient name) (client_said name s)
  deletes : Deletes exit from (length core.history) knowns (StepClient name) (client_said name s)

-- the first known is found under its name
pub known_first : (name : List ℕ) (known : Known) (knowns : List Known) → known.name ≡ name → known_of name (known ∷ knowns) ≡ known
known_first name known knowns e = rw (e, same-refl name)

module _ (exit : List Entry) (log : Log) (least from : ℕ) (knowns : List Known) (name : List ℕ) where
  abbrev StepWent : Searched → Type 0
  StepWent step = (s : SearchStep) → step.outcome ≡ Some s → Went exit log least from knowns name s step.client step.core

  said_went : (s : SearchStep) (client : Client) (core : Core) → Went exit log least from knowns name s client core →
      StepWent (record { outcome = Some s; client = client; core = core })
  said_went s client core w s' e = subst (λ x. Went exit log least from knowns name x client core) (some_same s s' e) w

  unsaid_went : (client : Client) (core : Core) → StepWent (record { outcome = None; client = client; core = core })
  unsaid_went client core s e = absurd (none_is_some s None refl e)

  abbrev reply_of : ℕ → Said → Client → Reply
  reply_of revision said client = record { client = client.name; revision = revision; said = said }

  -- a reply at this revision: the front is that revision, and no request is left
  reply_went : (revision : ℕ) (said : Said) (client : Client) (core : Core) → Agrees exit least (length core.history) name (known_of name knowns) client →
      revision ≤ length core.history → AnswersOne exit log least knowns (StepClient name) (client_said name (Replied (reply_of revision said client))) →
      Replies exit from (length core.history) (known_of name knowns) (reply_of revision said client) said → StepWent (reply_with revision said client core)
  reply_went revision said client core a h answered replied =
      said_went (Replied (reply_of revision said client)) (record client { front = revision; request = no_request }) core
      (record {
        agrees = subst (λ k. Agrees exit least (length core.history) name k (record client { front = revision; request = no_request }))
            (sym (known_first name (record (known_of name knowns) { text = []; front = revision }) knowns a.known_name))
            (record { known_name = a.known_name; client_name = a.client_name; front = refl; bound = h; request = tt });
        answers = answered;
        deletes = (name, refl, replied);
      })

  -- a reply from the client's front on
  keeps_front : (revision : ℕ) (said : Said) (client : Client) (core : Core) → Agrees exit least (length core.history) name (known_of name knowns) client →
      client.front ≤ revision → revision ≤ length core.history → KeepsFront (length core.history) (known_of name knowns) (reply_of revision said client)
  keeps_front revision said client core a low high =
      record { client = a.client_name ∙ sym a.known_name; front = subst (λ f. f ≤ revision) (sym a.front) low; ends = high }

  refusal_went : (revision : ℕ) (refusal : Refusal) (client : Client) (core : Core) → Agrees exit least (length core.history) name (known_of name knowns) client →
      client.front ≤ revision → revision ≤ length core.history → HasCause exit from (length core.history) refusal → StepWent (reply_with revision (Refused refusal) client core)
  refusal_went revision refusal client core a low high cause =
      reply_went revision (Refused refusal) client core a high tt (keeps_front revision (Refused refusal) client core a low high, cause)

  trouble_went : (revision : ℕ) (t : Trouble) (client : Client) (core : Core) → Agrees exit least (length core.history) name (known_of name knowns) client →
      client.front ≤ revision → revision ≤ length core.history → StepWent (trouble_replied revision t client core)
  trouble_went revision (faulted fault) client core a low high = refusal_went revision (fault_refusal fault) client core a low high (fault_cause exit from (length core.history) fault)
  trouble_went revision no_memory client core a low high = unsaid_went (without_request client) core

  refused_went : (revision : ℕ) (refusal : Refusal) (t : Trouble) (client : Client) (core : Core) → Agrees exit least (length core.history) name (known_of name knowns) client →
      client.front ≤ revision → revision ≤ length core.history → IsOfText refusal → StepWent (refused_over revision refusal t client core)
  refused_went revision refusal (faulted fault) client core a low high h = refusal_went revision refusal client core a low high (text_cause exit from (length core.history) refusal h)
  refused_went revision refusal no_memory client core a low high h = unsaid_went (without_request client) core

  plan_went : (r : Result ⊤ Trouble) (asked : Result Search Unanswered) (text : List ℕ) (client : Client) (core : Core) →
      Agrees exit least (length core.history) name (known_of name knowns) client → (known_of name knowns).text ≡ text →
      asked_of (config_then (length core.history) exit) text ≡ as_asked asked → least ≤ length core.history → 0 < length core.history → OfText asked → StepWent (plan_by r asked client core)
  plan_went (Ok done) (Ok search) text client core a t w l some h =
      let step = plan_by (Ok done) (Ok search) client core in
      said_went (Planned _ _) step.client core
      (record {
        agrees = record {
          known_name = a.known_name;
          client_name = a.client_name;
          front = a.front;
          bound = a.bound;
          request = (ap (asked_of (config_then (length core.history) exit)) t ∙ w, l, a.bound, omega arith, some);
        };
        answers = tt;
        deletes = tt;
      })
  plan_went (Ok done) (Err (reasons.Refused refusal)) text client core a t w l some h =
      refusal_went (length core.history) refusal client core a a.bound (omega arith) (text_cause exit from (length core.history) refusal h)
  plan_went (Ok done) (Err (reasons.Memory e)) text client core a t w l some h = unsaid_went (without_request client) core
  plan_went (Err trouble) (Ok search) text client core a t w l some h = trouble_went client.front trouble client core a (omega arith) a.bound
  plan_went (Err trouble) (Err (reasons.Refused refusal)) text client core a t w l some h = refused_went client.front refusal trouble client core a (omega arith) a.bound h
  plan_went (Err trouble) (Err (reasons.Memory e)) text client core a t w l some h = unsaid_went (without_request client) core

  fetch_went : (r : Result ⊤ Trouble) (plan : Plan) (number : ℕ) (more : List ℕ) (client : Client) (core : Core) →
      Agrees exit least (length core.history) name (known_of name knowns) client →
      OnRequest exit least (known_of name knowns) client.front (length core.history) (planned plan) → StepWent (fetch_by r plan number more client core)
  fetch_went (Ok done) plan number more client core a p =
      let step = fetch_by (Ok done) plan number more client core in
      said_went (Fetched number) step.client core
      (record {
        agrees = record { known_name = a.known_name; client_name = a.client_name; front = a.front; bound = a.bound; request = p };
        answers = tt;
        deletes = tt;
      })
  fetch_went (Err trouble) plan number more client core a p = trouble_went plan.revision trouble client core a p.2 p.3

  if_found : (said : Said) (fact : Type 0) → fact → IfFound said fact
  if_found (Found count hits aggregations) fact f = f
  if_found (Deleted opstamp) fact f = tt
  if_found (Refused refusal) fact f = tt

  -- the answer over the planned revision, seen from any later history
  answered : (plan : Plan) (client : Client) (core : Core) → Agrees exit least (length core.history) name (known_of name knowns) client →
      OnRequest exit least (known_of name knowns) client.front (length core.history) (planned plan) → IsPrefixOf core.history exit →
      AnswersOne exit log least knowns (StepClient name) (client_said name (Replied (record { client = client.name; revision = plan.revision; said = answer_of plan log core })))
  answered plan client core a r p = if_found (answer_of plan log core) _ (
    name,
    refl,
    record {
      client = a.client_name ∙ sym a.known_name;
      search = plan.search;
      asked = r.0;
      answer = ap (λ es. answer (config_or (configuration es)).schema plan.search (visible (config_or (configuration es)) (ledger reads (history es)) log))
          (sym (take-append-le plan.revision core.history p.0 r.3) ∙ ap (take plan.revision) (sym p.1));
      front = subst (λ f. f ≤ plan.revision) (sym a.front) r.2;
      entry = r.1;
      exit = let e : length exit ≡ length core.history + length p.0 = ap length p.1 ∙ length-append core.history p.0 in omega (arith, r.3, e);
    },
  )

  next_went : (unfetched : List ℕ) (luck : ClientLuck) (plan : Plan) (client : Client) (core : Core) →
      Agrees exit least (length core.history) name (known_of name knowns) client →
      OnRequest exit least (known_of name knowns) client.front (length core.history) (planned plan) → IsPrefixOf core.history exit →
      StepWent (next_step luck log plan unfetched client core)
  next_went [] luck plan client core a r p =
      reply_went plan.revision (answer_of plan log core) client core a r.3 (answered plan client core a r p)
      (answer_told exit from (length core.history) (known_of name knowns) (reply_of plan.revision (answer_of plan log core) client)
      (keeps_front plan.revision (answer_of plan log core) client core a r.2 r.3) (config_at plan.revision core).schema plan.search (visible_at plan.revision core.history log))
  next_went (number ∷ more) luck plan client core a r p =
      let given = fetched_each plan.grace luck.world luck.more core in
      let h : length core.history ≤ length given.core.history = longer core given.core (each_moves plan.grace luck.more luck.world core).later.grows in
      fetch_went given.answer plan number more client given.core
      (agrees-more exit least (length core.history) (length given.core.history) name (known_of name knowns) client h a)
      (r.0, r.1, r.2, omega (arith, r.3, h), r.4)

  -- the configuration that a text is read under is the one of each later revision
  seen_then : (core : Core) → Ready exit least core → IsPrefixOf core.history exit → (revision : ℕ) → length core.history ≤ revision → config_then revision exit ≡ config_in core
  seen_then core ready p revision le =
      let legal : Legal reads (history core.history) = legal_before core.history p.0 (subst (λ (es : List Entry). Legal reads (history es)) p.1 ready.legal) in
      let b : Begun (history core.history) = begun_history (history core.history) legal (let r = revision_is core.history in let some = ready.some in omega (arith, r, some)) in
      let is : configuration core.history ≡ Some b.config.settings.index = ap index_of b.is in
      ap config_or (configured_on core.history exit p ready.legal b.config.settings.index is revision le) ∙ sym (ap config_or is)

  -- all that a core took in is a front of the journal at exit
  front_of : (core : Core) → IsPrefixOf core.history exit → take (length core.history) exit ≡ core.history
  front_of core p =
      ap (take (length core.history)) p.1 ∙ take-append-le (length core.history) core.history p.0 (omega arith) ∙ take_all (length core.history) core.history (omega arith)

  -- a search that was read, or a refusal
  plans_went : (asked : Result Search Unanswered) (text : List ℕ) (luck : ClientLuck) (client : Client) (core : Core) → asked_of (config_in core) text ≡ as_asked asked →
      Agrees exit least (length core.history) name (known_of name knowns) client → (known_of name knowns).text ≡ text → Ready exit least core → IsPrefixOf core.history exit → OfText asked →
      StepWent (plan_given asked client (asked_and_looked luck.world core))
  plans_went asked text luck client core word a t ready p fits =
      let given = asked_and_looked luck.world core in
      let h : length core.history ≤ length given.core.history = longer core given.core (asked_and_looked_moves luck.world core).later.grows in
      plan_went given.answer asked text client given.core (agrees-more exit least (length core.history) (length given.core.history) name (known_of name knowns) client h a) t
      (ap (λ config. asked_of config text) (seen_then core ready p (length given.core.history) h) ∙ word) (let low = ready.low in omega (arith, low, h)) (let some = ready.some in omega (arith, some, h)) fits

  -- a delete that was read: its task is the last entry, or there is none
  delete_went : (deletion : Deletion) (text : List ℕ) (r : Result ⊤ Unmade) (client : Client) (core after : Core) → Appends (task_act (ask_of deletion)) core r after →
      Agrees exit least (length core.history) name (known_of name knowns) client → (known_of name knowns).text ≡ text → from ≤ length core.history → length core.history ≤ length after.history →
      asked_of (config_then (length after.history) exit) text ≡ Ok (IsDelete deletion) → IsPrefixOf after.history exit → StepWent (delete_by r client after)
  delete_went deletion text (Ok done) client core after made a t low up word p =
      reply_went (length after.history) (Deleted (last_opstamp (history after.history))) client after
      (agrees-more exit least (length core.history) (length after.history) name (known_of name knowns) client up a) (omega arith) tt
      (record {
        client = a.client_name ∙ sym a.known_name;
        deletion = deletion;
        asked = ap (asked_of (config_then (length after.history) exit)) t ∙ word;
        earlier = made.0.history;
        moment = made.0.moment;
        is = front_of after p ∙ made.2;
        stamp = ap (λ (es : List Entry). last_opstamp (history es)) made.2 ∙ ap last_opstamp (history-snoc made.0.history task);
        front = seen;
        begins = added;
        ends = omega arith;
      })
    where
      task : Entry
      task = entry_of (task_act (ask_of deletion) made.0) made.0

      begun : length core.history ≤ length made.0.history
      begun = longer core made.0 made.1

      long : length after.history ≡ length made.0.history + 1
      long = ap length made.2 ∙ length-append made.0.history (task ∷ [])

      seen : (known_of name knowns).front < length after.history
      seen = let same = a.front in let bound = a.bound in omega (arith, same, bound, begun, long)

      added : from < length after.history
      added = omega (arith, low, begun, long)
  delete_went deletion text (Err (calls.refused refusal)) client core after made a t low up word p =
      refusal_went client.front (state_refusal refusal) client after (agrees-more exit least (length core.history) (length after.history) name (known_of name knowns) client up a) (omega arith)
      (let bound = a.bound in omega (arith, bound, up))
      (state_cause exit after.history after.moment from (ask_of deletion) (front_of after p) (omega (arith, low, up)) refusal made.1)
  delete_went deletion text (Err (troubled trouble)) client core after made a t low up word p =
      trouble_went client.front trouble client after (agrees-more exit least (length core.history) (length after.history) name (known_of name knowns) client up a) (omega arith)
      (let bound = a.bound in omega (arith, bound, up))

  -- a text that was opened, by what it asks
  opened_went : (asked : Result Asked Unanswered) (text : List ℕ) (luck : ClientLuck) (client : Client) (core : Core) → asked_of (config_in core) text ≡ asked → OfText asked →
      Agrees exit least (length core.history) name (known_of name knowns) client → (known_of name knowns).text ≡ text → from ≤ length core.history → Ready exit least core → IsPrefixOf core.history exit →
      IsPrefixOf (opened_by asked luck.world client core).core.history exit → StepWent (opened_by asked luck.world client core)
  opened_went (Ok (IsSearch search)) text luck client core word fits a t low ready p q = plans_went (Ok search) text luck client core word a t ready p tt
  opened_went (Ok (IsDelete deletion)) text luck client core word fits a t low ready p q =
      let given = task_call (ask_of deletion) luck.world core in
      let up : length core.history ≤ length given.core.history = longer core given.core (appended_moves luck.world (task_act (ask_of deletion)) core).later.grows in
      delete_went deletion text given.answer client core given.core (appended_says (task_act (ask_of deletion)) luck.world core) a t low up
      (ap (λ config. asked_of config text) (seen_then core ready p (length given.core.history) up) ∙ word)
      (subst (λ (c : Core). IsPrefixOf c.history exit) (delete_core given.answer client given.core) q)
  opened_went (Err (reasons.Refused refusal)) text luck client core word fits a t low ready p q = plans_went (Err (reasons.Refused refusal)) text luck client core word a t ready p fits
  opened_went (Err (reasons.Memory e)) text luck client core word fits a t low ready p q = plans_went (Err (reasons.Memory e)) text luck client core word a t ready p tt

  request_went : (request : Request) (luck : ClientLuck) (client : Client) (core : Core) →
      Agrees exit least (length core.history) name (known_of name knowns) client → OnRequest exit least (known_of name knowns) client.front (length core.history) request →
      from ≤ length core.history → Ready exit least core → IsPrefixOf core.history exit → IsPrefixOf (step_request request luck log client core).core.history exit →
      StepWent (step_request request luck log client core)
  request_went no_request luck client core a r low ready p q = said_went Idle client core (record { agrees = a; answers = tt; deletes = tt })
  request_went (opened text) luck client core a r low ready p q = opened_went (asked_of (config_in core) text) text luck client core refl (asked_of_text (config_in core) text) a r low ready p q
  request_went (planned plan) luck client core a r low ready p q = next_went plan.unfetched luck plan client core a r p

  short_went : (b : Bool) (client : Client) (step : Searched) → StepWent step → StepWent (or_short b client step)
  short_went true client step w = unsaid_went (without_request client) step.core
  short_went false client step w = w

  short_core : (b : Bool) (client : Client) (step : Searched) → (or_short b client step).core ≡ step.core
  short_core true client step = refl
  short_core false client step = refl

  step_went : (luck : ClientLuck) (client : Client) (core : Core) →
      Agrees exit least (length core.history) name (known_of name knowns) client → from ≤ length core.history → Ready exit least core → IsPrefixOf core.history exit →
      IsPrefixOf (step_client luck log client core).core.history exit → StepWent (step_client luck log client core)
  step_went luck client core a low ready p q =
      let step = step_request client.request luck log client core in
      short_went luck.short client step
      (request_went client.request luck client core a a.request low ready p (subst (λ c. IsPrefixOf c.history exit) (short_core luck.short client step) q))

-- ---- one line

-- What a line leaves: the log, a longer history, and clients that agree with what is known behind it; and what it says is answered, and a delete was done
-- in it.
pub record Goes (exit : List Entry) (least : ℕ) (knowns : List Known) (node : Node) (line : Line) (o : Outcome) (new : Node) : Type 0 where
  pub log : new.log ≡ node.log
  pub grows : Grows node.core new.core
  pub agrees : AllAgree exit least (length new.core.history) (λ q. known_of q (after_outcome knowns line o)) (λ q. client_named q new.clients)
  pub answers : AnswersOne exit node.log least knowns line o
  pub deletes : Deletes exit (length node.core.history) (length new.core.history) knowns line o

-- no client's step says it
abbrev IsApart : Outcome → Type 0
IsApart (client_said name step) = ⊥
IsApart outcome = ⊤

apart_answers : (exit : List Entry) (log : Log) (least : ℕ) (knowns : List Known) (line : Line) (o : Outcome) → IsApart o → AnswersOne exit log least knowns line o
apart_answers exit log least knowns line (client_said name step) h = absurd h
apart_answers exit log least knowns line o h = tt

apart_deletes : (exit : List Entry) (least next : ℕ) (knowns : List Known) (line : Line) (o : Outcome) → IsApart o → Deletes exit least next knowns line o
apart_deletes exit least next knowns line (client_said name step) h = absurd h
apart_deletes exit least next knowns line o h = tt

abbrev TurnGoes : List Entry → ℕ → List Known → Node → Line → Turned → Type 0
TurnGoes exit least knowns node line t = (o : Outcome) → t.said ≡ Some o → Goes exit least knowns node line o t.node

abbrev pub Agreed : List Entry → ℕ → List Known → Node → Type 0
Agreed exit least knowns node = AllAgree exit least (length node.core.history) (λ q. known_of q knowns) (λ q. client_named q node.clients)

said_goes : (exit : List Entry) (least : ℕ) (knowns : List Known) (node : Node) (line : Line) (o : Outcome) (new : Node) → Goes exit least knowns node line o new →
    TurnGoes exit least knowns node line (record { said = Some o; node = new })
said_goes exit least knowns node line o new g o' e = subst (λ x. Goes exit least knowns node line x new) (some_same o o' e) g

unsaid_goes : (exit : List Entry) (least : ℕ) (knowns : List Known) (node : Node) (line : Line) (new : Node) →
    TurnGoes exit least knowns node line (record { said = None; node = new })
unsaid_goes exit least knowns node line new o e = absurd (none_is_some o None refl e)

known_same : (name : List ℕ) (knowns : List Known) (q : List ℕ) → known_of q knowns ≡ (if bytes_eq name q then known_of name knowns else known_of q knowns)
known_same name knowns q = by (bytes_eq name q) refl
  where
    by : (b : Bool) → bytes_eq name q ≡ b → known_of q knowns ≡ (if b then known_of name knowns else known_of q knowns)
    by true e = ap (λ n. known_of n knowns) (sym (same-true name q e))
    by false e = refl

known_set : (name : List ℕ) (k : Known) (knowns : List Known) (q : List ℕ) → k.name ≡ name →
    known_of q (k ∷ knowns) ≡ (if bytes_eq name q then known_of name (k ∷ knowns) else known_of q knowns)
known_set name k knowns q e =
    ap (λ n. if bytes_eq n q then k else known_of q knowns) e
    ∙ ap (λ x. if bytes_eq name q then x else known_of q knowns) (sym (known_first name k knowns e))

-- a step of a client, and the client kept
module _ (exit : List Entry) (least : ℕ) (knowns : List Known) (node : Node) (name : List ℕ) (all : Agreed exit least knowns node) where
  known_stays : (s : SearchStep) (q : List ℕ) →
      known_of q (after_outcome knowns (StepClient name) (client_said name s))
      ≡ (if bytes_eq name q then known_of name (after_outcome knowns (StepClient name) (client_said name s)) else known_of q knowns)
  known_stays (Replied reply) q = known_set name (record (known_of name knowns) { text = []; front = reply.revision }) knowns q (all name).known_name
  known_stays Idle q = known_same name knowns q
  known_stays (Planned revision count) q = known_same name knowns q
  known_stays (Fetched number) q = known_same name knowns q

  kept_client : (client : Client) → client.name ≡ name → (q : List ℕ) →
      client_named q (with_client client node.clients) ≡ (if bytes_eq name q then client else client_named q node.clients)
  kept_client client e q = client_named-with q client node.clients ∙ ap (λ n. if bytes_eq n q then client else client_named q node.clients) e

  -- the node behind a client's step
  stepped_goes : (s : SearchStep) (client : Client) (core : Core) → Grows node.core core → Went exit node.log least (length node.core.history) knowns name s client core →
      Goes exit least knowns node (StepClient name) (client_said name s) (record (keep_client client node) { core = core })
  stepped_goes s client core g w =
      record {
        log = refl;
        grows = g;
        agrees = all-updated exit least (length core.history) name (known_of name (after_outcome knowns (StepClient name) (client_said name s))) client
            (λ q. known_of q knowns) (λ q. known_of q (after_outcome knowns (StepClient name) (client_said name s)))
            (λ q. client_named q node.clients) (λ q. client_named q (with_client client node.clients))
            (known_stays s) (kept_client client w.agrees.client_name)
            (all-more exit least (length node.core.history) (length core.history) (λ q. known_of q knowns) (λ q. client_named q node.clients) (longer node.core core g) all)
            w.agrees;
        answers = w.answers;
        deletes = w.deletes;
      }

  stepped_by : (said : Option SearchStep) (client : Client) (core : Core) → Grows node.core core →
      ((s : SearchStep) → said ≡ Some s → Went exit node.log least (length node.core.history) knowns name s client core) →
      TurnGoes exit least knowns node (StepClient name) (record { said = said_by_client name said; node = record (keep_client client node) { core = core } })
  stepped_by None client core g w = unsaid_goes exit least knowns node (StepClient name) _
  stepped_by (Some s) client core g w =
      said_goes exit least knowns node (StepClient name) (client_said name s) (record (keep_client client node) { core = core })
      (stepped_goes s client core g (w s refl))

  -- a client was kept that agrees with what is known already, and nothing is said of it
  kept_agrees : (client : Client) → Agrees exit least (length node.core.history) name (known_of name knowns) client →
      AllAgree exit least (length node.core.history) (λ q. known_of q knowns) (λ q. client_named q (with_client client node.clients))
  kept_agrees client a =
      all-updated exit least (length node.core.history) name (known_of name knowns) client
      (λ q. known_of q knowns) (λ q. known_of q knowns) (λ q. client_named q node.clients) (λ q. client_named q (with_client client node.clients))
      (known_same name knowns) (kept_client client a.client_name) all a

  client_goes : (down : Bool) (luck : node_turns.LineLuck) → Ready exit least node.core →
      IsPrefixOf (client_turn_by down luck name node).node.core.history exit →
      TurnGoes exit least knowns node (StepClient name) (client_turn_by down luck name node)
  client_goes true luck l p =
      said_goes exit least knowns node (StepClient name) _ (keep_client (client_named name node.clients) node)
      (record { log = refl; grows = same_grows node.core node.core refl; agrees = kept_agrees (client_named name node.clients) (all name); answers = tt; deletes = tt })
  client_goes false luck l p =
      let client = client_named name node.clients in
      let step = step_client (searching_luck luck) node.log client node.core in
      let g = (client_moves (searching_luck luck) node.log client node.core).later.grows in
      stepped_by step.outcome step.client step.core g
      (step_went exit node.log least (length node.core.history) knowns name (searching_luck luck) client node.core (all name) (omega arith) l (prefix_on node.core.history step.core.history exit g p) p)

  -- the request was dropped
  restarted_goes : (o : Outcome) → after_outcome knowns (RestartClient name) o ≡ knowns → IsApart o →
      TurnGoes exit least knowns node (RestartClient name) (record { said = Some o; node = keep_client (without_request (client_named name node.clients)) node })
  restarted_goes o e apart =
      said_goes exit least knowns node (RestartClient name) o (keep_client (without_request (client_named name node.clients)) node)
      (record {
        log = refl;
        grows = same_grows node.core node.core refl;
        agrees = subst (λ ks. AllAgree exit least (length node.core.history) (λ q. known_of q ks) (λ q. client_named q (with_client (without_request (client_named name node.clients)) node.clients)))
            (sym e) (kept_agrees (without_request (client_named name node.clients))
            (agrees-dropped exit least (length node.core.history) name (known_of name knowns) (client_named name node.clients) (all name)));
        answers = apart_answers exit node.log least knowns (RestartClient name) o apart;
        deletes = apart_deletes exit (length node.core.history) (length node.core.history) knowns (RestartClient name) o apart;
      })

  -- a request was opened, or not
  opened_goes : (request : Request) (text : List ℕ) → TurnGoes exit least knowns node (Open name text) (open_by request name text (client_named name node.clients) node)
  opened_goes no_request text =
      let a = all name in
      let c : Client = record (client_named name node.clients) { request = opened text } in
      let k : Known = record (known_of name knowns) { text = text } in
      said_goes exit least knowns node (Open name text) _ (keep_client c node)
      (record {
        log = refl;
        grows = same_grows node.core node.core refl;
        agrees = all-updated exit least (length node.core.history) name (known_of name (k ∷ knowns)) c
            (λ q. known_of q knowns) (λ q. known_of q (k ∷ knowns)) (λ q. client_named q node.clients) (λ q. client_named q (with_client c node.clients))
            (λ q. known_set name k knowns q a.known_name) (kept_client c a.client_name) all
            (subst (λ x. Agrees exit least (length node.core.history) name x c) (sym (known_first name k knowns a.known_name))
            (record { known_name = a.known_name; client_name = a.client_name; front = a.front; bound = a.bound; request = refl }));
        answers = tt;
        deletes = tt;
      })
  opened_goes (opened other) text =
      said_goes exit least knowns node (Open name text) _ node (record { log = refl; grows = same_grows node.core node.core refl; agrees = all; answers = tt; deletes = tt })
  opened_goes (planned plan) text =
      said_goes exit least knowns node (Open name text) _ node (record { log = refl; grows = same_grows node.core node.core refl; agrees = all; answers = tt; deletes = tt })

-- ---- the other lines

-- requests are dropped, fronts stay
client_named-without : (q : List ℕ) (clients : List Client) → client_named q (map without_request clients) ≡ without_request (client_named q clients)
client_named-without q [] = refl
client_named-without q (c ∷ clients) = by (bytes_eq c.name q) refl (client_named-without q clients)
  where
    by : (b : Bool) → bytes_eq c.name q ≡ b → client_named q (map without_request clients) ≡ without_request (client_named q clients) →
        client_named q (map without_request (c ∷ clients)) ≡ without_request (client_named q (c ∷ clients))
    by true e ih = rw e
    by false e ih = rw e ih

module _ (exit : List Entry) (least : ℕ) (knowns : List Known) (node : Node) (all : Agreed exit least knowns node) where
  -- a line that no client hears of: the clients are as they were, and the history may be longer
  other_goes : (line : Line) (o : Outcome) (new : Node) → new.log ≡ node.log → Grows node.core new.core → new.clients ≡ node.clients →
      after_outcome knowns line o ≡ knowns → IsApart o →
      TurnGoes exit least knowns node line (record { said = Some o; node = new })
  other_goes line o new log g same e apart =
      said_goes exit least knowns node line o new
      (record {
        log = log;
        grows = g;
        agrees = λ q. subst (λ k. Agrees exit least (length new.core.history) q k (client_named q new.clients)) (ap (known_of q) (sym e))
            (subst (λ cs. Agrees exit least (length new.core.history) q (known_of q knowns) (client_named q cs)) (sym same)
            (agrees-more exit least (length node.core.history) (length new.core.history) q (known_of q knowns) (client_named q node.clients) (longer node.core new.core g) (all q)));
        answers = apart_answers exit node.log least knowns line o apart;
        deletes = apart_deletes exit (length node.core.history) (length new.core.history) knowns line o apart;
      })

  dropped_agree : (core : Core) → Grows node.core core →
      AllAgree exit least (length core.history) (λ q. known_of q knowns) (λ q. client_named q (map without_request node.clients))
  dropped_agree core g q =
      subst (λ c. Agrees exit least (length core.history) q (known_of q knowns) c) (sym (client_named-without q node.clients))
      (agrees-dropped exit least (length core.history) q (known_of q knowns) (client_named q node.clients)
      (agrees-more exit least (length node.core.history) (length core.history) q (known_of q knowns) (client_named q node.clients) (longer node.core core g) (all q)))

  restart_goes : (r : Result ⊤ Unread) (core : Core) → Grows node.core core → TurnGoes exit least knowns node RestartNode (restart_by r core node)
  restart_goes (Ok done) core g =
      said_goes exit least knowns node RestartNode _ _ (record { log = refl; grows = g; agrees = dropped_agree core g; answers = tt; deletes = tt })
  restart_goes (Err (not_read (faulted fault))) core g =
      said_goes exit least knowns node RestartNode _ _ (record { log = refl; grows = g; agrees = dropped_agree core g; answers = tt; deletes = tt })
  restart_goes (Err (not_read no_memory)) core g = unsaid_goes exit least knowns node RestartNode _
  restart_goes (Err calls.no_index) core g =
      said_goes exit least knowns node RestartNode _ _ (record { log = refl; grows = g; agrees = dropped_agree core g; answers = tt; deletes = tt })

  indexer_said_goes : (said : Option IndexerOutcome) (i : ℕ) (new : Node) → new.log ≡ node.log → Grows node.core new.core → new.clients ≡ node.clients →
      TurnGoes exit least knowns node (StepIndexer i) (record { said = said_by_indexer i said; node = new })
  indexer_said_goes None i new log g same = unsaid_goes exit least knowns node (StepIndexer i) new
  indexer_said_goes (Some o) i new log g same = other_goes (StepIndexer i) _ new log g same refl tt

  indexer_goes : (down : Bool) (luck : node_turns.LineLuck) (i : ℕ) → TurnGoes exit least knowns node (StepIndexer i) (indexer_turn_by down luck i node)
  indexer_goes true luck i = other_goes (StepIndexer i) _ node refl (same_grows node.core node.core refl) refl refl tt
  indexer_goes false luck i =
      let step = step_indexer (indexing_luck luck) node.log (indexer_at node.indexers i) node.core in
      indexer_said_goes step.outcome i (indexer_stepped i node step).node refl (indexer_moves (indexing_luck luck) node.log (indexer_at node.indexers i) node.core).later.grows refl

  worker_said_goes : (aim : Aim) (said : Option UpkeepOutcome) (new : Node) → new.log ≡ node.log → Grows node.core new.core → new.clients ≡ node.clients →
      TurnGoes exit least knowns node StepMerger (record { said = said_by_worker aim said; node = new })
  worker_said_goes aim None new log g same = unsaid_goes exit least knowns node StepMerger new
  worker_said_goes aim (Some o) new log g same = other_goes StepMerger _ new log g same refl tt

  deleter_said_goes : (aim : Aim) (said : Option UpkeepOutcome) (new : Node) → new.log ≡ node.log → Grows node.core new.core → new.clients ≡ node.clients →
      TurnGoes exit least knowns node StepDeleter (record { said = said_by_worker aim said; node = new })
  deleter_said_goes aim None new log g same = unsaid_goes exit least knowns node StepDeleter new
  deleter_said_goes aim (Some o) new log g same = other_goes StepDeleter _ new log g same refl tt

  merger_goes : (down : Bool) (luck : node_turns.LineLuck) → TurnGoes exit least knowns node StepMerger (worker_turn_by down Merging node.merger with_merger luck node)
  merger_goes true luck = other_goes StepMerger _ node refl (same_grows node.core node.core refl) refl refl tt
  merger_goes false luck =
      let step = step_worker Merging (working_luck luck) node.log node.merger node.core in
      worker_said_goes Merging step.outcome (worker_stepped Merging with_merger node step).node refl (worker_moves (working_luck luck) node.log node.core Merging node.merger).later.grows refl

  deleter_goes : (down : Bool) (luck : node_turns.LineLuck) → TurnGoes exit least knowns node StepDeleter (worker_turn_by down Deleting node.deleter with_deleter luck node)
  deleter_goes true luck = other_goes StepDeleter _ node refl (same_grows node.core node.core refl) refl refl tt
  deleter_goes false luck =
      let step = step_worker Deleting (working_luck luck) node.log node.deleter node.core in
      deleter_said_goes Deleting step.outcome (worker_stepped Deleting with_deleter node step).node refl (worker_moves (working_luck luck) node.log node.core Deleting node.deleter).later.grows refl

  collector_said_goes : (said : Option CollectorOutcome) (core : Core) → Grows node.core core →
      TurnGoes exit least knowns node StepCollector (record { said = said_by_collector said; node = record node { core = core } })
  collector_said_goes None core g = unsaid_goes exit least knowns node StepCollector (record node { core = core })
  collector_said_goes (Some o) core g = other_goes StepCollector _ (record node { core = core }) refl g refl refl tt

  collector_goes : (down : Bool) (luck : node_turns.LineLuck) → TurnGoes exit least knowns node StepCollector (collector_turn_by down luck node)
  collector_goes true luck = other_goes StepCollector _ node refl (same_grows node.core node.core refl) refl refl tt
  collector_goes false luck =
      let step = step_collector (collecting_luck luck) node.core in
      collector_said_goes step.outcome step.core (collector_moves (collecting_luck luck) node.core).later.grows

  assign_goes : (place : IndexerPlace) (i : ℕ) (names : List (List ℕ)) (indexer : Indexer) → TurnGoes exit least knowns node (Assign i names) (assign_at place i names indexer node)
  assign_goes idle i names indexer = other_goes (Assign i names) _ _ refl (same_grows node.core node.core refl) refl refl tt
  assign_goes (reading batch) i names indexer = other_goes (Assign i names) _ node refl (same_grows node.core node.core refl) refl refl tt
  assign_goes (staged held) i names indexer = other_goes (Assign i names) _ node refl (same_grows node.core node.core refl) refl refl tt
  assign_goes (uploaded held) i names indexer = other_goes (Assign i names) _ node refl (same_grows node.core node.core refl) refl refl tt

  full_goes : (luck : node_turns.LineLuck) (line : Line) → Ready exit least node.core →
      IsPrefixOf (full_turn luck node line).node.core.history exit → TurnGoes exit least knowns node line (full_turn luck node line)
  full_goes luck (At m) l p =
      let new = (full_turn luck node (At m)).node in other_goes (At m) _ new refl (same_grows node.core new.core refl) refl refl tt
  full_goes luck (Assign i names) l p = assign_goes (indexer_at node.indexers i).place i names (indexer_at node.indexers i)
  full_goes luck (StepIndexer i) l p = indexer_goes node.down luck i
  full_goes luck (RestartIndexer i) l p = other_goes (RestartIndexer i) _ _ refl (same_grows node.core node.core refl) refl refl tt
  full_goes luck (RestartClient name) l p = restarted_goes exit least knowns node name all _ refl tt
  full_goes luck StepMerger l p = merger_goes node.down luck
  full_goes luck RestartMerger l p = other_goes RestartMerger _ (with_merger workers.idle node) refl (same_grows node.core node.core refl) refl refl tt
  full_goes luck StepDeleter l p = deleter_goes node.down luck
  full_goes luck RestartDeleter l p = other_goes RestartDeleter _ (with_deleter workers.idle node) refl (same_grows node.core node.core refl) refl refl tt
  full_goes luck StepCollector l p = collector_goes node.down luck
  full_goes luck RestartCollector l p = other_goes RestartCollector _ node refl (same_grows node.core node.core refl) refl refl tt
  full_goes luck RestartNode l p =
      let given = loaded luck.world node.core in restart_goes given.answer given.core (loaded_moves luck.world node.core).later.grows
  full_goes luck (Open name text) l p = opened_goes exit least knowns node name all (client_named name node.clients).request text
  full_goes luck (StepClient name) l p = client_goes exit least knowns node name all node.down luck l p

  quiet_goes : (b : Bool) (line : Line) (t : Turned) → (b ≡ false → TurnGoes exit least knowns node line t) → TurnGoes exit least knowns node line (or_quiet b line t)
  quiet_goes true line t g = unsaid_goes exit least knowns node line (quiet line t.node)
  quiet_goes false line t g = g refl

  by_goes : (b : Bool) (luck : node_turns.LineLuck) (line : Line) → Ready exit least node.core →
      IsPrefixOf (turn_by b luck node line).node.core.history exit → TurnGoes exit least knowns node line (turn_by b luck node line)
  by_goes true luck line l p = unsaid_goes exit least knowns node line (quiet line node)
  by_goes false luck line l p =
      quiet_goes luck.short line (full_turn luck node line)
      (λ e. full_goes luck line l (subst (λ b. IsPrefixOf (or_quiet b line (full_turn luck node line)).node.core.history exit) e p))

  turn_goes : (luck : node_turns.LineLuck) (line : Line) → Ready exit least node.core →
      IsPrefixOf (turn_with luck node line).node.core.history exit → TurnGoes exit least knowns node line (turn_with luck node line)
  turn_goes luck line l p = by_goes luck.early luck line l p

-- ---- all lines

-- these lines are answered, and those of deletes behind so many entries
abbrev AllAnswered : List Entry → Log → (least from : ℕ) → List Known → List Line → List Outcome → Type 0
AllAnswered exit log least from knowns lines outcomes = AnswersFrom exit log least knowns lines outcomes × DeletesFrom exit from knowns lines outcomes

-- a line of a journal that goes on to the one at exit
pub line_goes : (exit : List Entry) (least : ℕ) (knowns : List Known) (node mid : Node) (line : Line) (o : Outcome) → Agreed exit least knowns node → Ready exit least node.core →
    Turn node line (Some o) mid → IsPrefixOf mid.core.history exit → Goes exit least knowns node line o mid
line_goes exit least knowns node mid line o all ready turn p =
    subst (λ x. TurnGoes exit least knowns node line x) turn.is
    (turn_goes exit least knowns node all turn.luck line ready (subst (λ x. IsPrefixOf x.node.core.history exit) (sym turn.is) p)) o refl

-- one line, and what is known behind it
one_more : (exit : List Entry) (least from : ℕ) (knowns : List Known) (node last : Node) (line : Line) (lines : List Line) (o : Outcome) (os : List Outcome) →
    Agreed exit least knowns node → Ready exit least node.core → from ≤ length node.core.history → IsPrefixOf last.core.history exit →
    (run : (mid : Node) × Turn node line (Some o) mid × Turns mid lines os last) →
    (Agreed exit least (after_outcome knowns line o) run.0 → Ready exit least run.0.core →
    AllAnswered exit run.0.log least (length run.0.core.history) (after_outcome knowns line o) lines os) →
    AllAnswered exit node.log least from knowns (line ∷ lines) (o ∷ os)
one_more exit least from knowns node last line lines o os all ready low p run more = (
  (goes.answers, subst (λ g. AnswersFrom exit g least (after_outcome knowns line o) lines os) goes.log rest.0),
  (
    length mid.core.history,
    omega (arith, low, up),
    mid_short,
    deletes_from exit from (length node.core.history) (length mid.core.history) knowns line o low goes.deletes,
    rest.1,
  ),
)
  where
    mid : Node
    mid = run.0

    mid_before : IsPrefixOf mid.core.history exit
    mid_before = prefix_on mid.core.history last.core.history exit (turns_later mid last lines os run.2).grows p

    mid_short : length mid.core.history ≤ length exit
    mid_short = let e : length exit ≡ length mid.core.history + length mid_before.0 = ap length mid_before.1 ∙ length-append mid.core.history mid_before.0 in omega (arith, e)

    goes : Goes exit least knowns node line o mid
    goes = line_goes exit least knowns node mid line o all ready run.1 mid_before

    up : length node.core.history ≤ length mid.core.history
    up = longer node.core mid.core goes.grows

    rest : AllAnswered exit mid.log least (length mid.core.history) (after_outcome knowns line o) lines os
    rest =
        more goes.agrees (ready_on exit least node.core mid.core ready up)

searches_answered : (exit : List Entry) (least from : ℕ) (knowns : List Known) (node last : Node) (lines : List Line) (outcomes : List Outcome) →
    Agreed exit least knowns node → Ready exit least node.core → from ≤ length node.core.history → IsPrefixOf last.core.history exit →
    Turns node lines outcomes last → AllAnswered exit node.log least from knowns lines outcomes
searches_answered exit least from knowns node last [] [] all ready low p run = (tt, tt)
searches_answered exit least from knowns node last [] (o ∷ os) all ready low p run = absurd run
searches_answered exit least from knowns node last (line ∷ lines) [] all ready low p run = absurd run
searches_answered exit least from knowns node last (line ∷ lines) (o ∷ os) all ready low p run =
    one_more exit least from knowns node last line lines o os all ready low p run
    (λ agreed there. searches_answered exit least (length run.0.core.history) (after_outcome knowns line o) run.0 last lines os agreed there (omega arith) p run.2)

-- a node that no client has talked to
pub none_known : (exit : List Entry) (least : ℕ) (node : Node) → node.clients ≡ [] → Agreed exit least [] node
none_known exit least node e name =
    subst (λ cs. Agrees exit least (length node.core.history) name (known_of name []) (client_named name cs)) (sym e)
    (record { known_name = refl; client_name = refl; front = refl; bound = omega arith; request = tt })

-- from what a call opened on, the searches are answered, and each delete that is told was done
pub searches_follow : (entry exit : List Entry) (first last : Node) (lines : List Line) (outcomes : List Outcome) → Legal reads (history exit) → 0 < length first.core.history →
    first.clients ≡ [] → IsPrefixOf entry first.core.history → IsPrefixOf last.core.history exit →
    Turns first lines outcomes last → AnswersFrom exit first.log (length entry) [] lines outcomes × DeletesFrom exit (length entry) [] lines outcomes
searches_follow entry exit first last lines outcomes legal some fresh begins p run =
    searches_answered exit (length entry) (length entry) [] first last lines outcomes (none_known exit (length entry) first fresh)
    (record { legal = legal; low = low; some = some }) low p run
  where
    low : length entry ≤ length first.core.history
    low = let e : length first.core.history ≡ length entry + length begins.0 = ap length begins.1 ∙ length-append entry begins.0 in omega (arith, e)
