-- Where the counts stand still and nothing is late, an opening and a step are those with a calm luck, or find no memory.
use Rattle.std.proofs.Common.{◌≡◌, ◌⊎◌, ℕ, ◌+◌, ◌<◌, min, List, [], ◌∷◌, length, refl, sym, ap, ◌∙◌, Bool, true, false, subst, inl, inr, arith, le-ltb}
use Rattle.std.proofs.lemmas.Bool.{ne_eqb}
use Rattle.std.specs.Prelude.{Option, Some, None, Result, Ok, Err, ⊤, nat_lt, drop, if◌then◌else◌, ◌==◌, ◌||◌}
use Rattle.meta_journal.specs.declared.entry.Act.TheVariants.{Publish}
use Rattle.meta_journal.specs.declared.entry.Entry.{Entry}
use Rattle.meta_journal.specs.Places.{split_key}
use Rattle.source_checkpoint.specs.declared.ledger.Checkpoint.{Checkpoint}
use Rattle.source_log.specs.Log.{Log, records_of}
use Rattle.index_world.specs.Calls.{Fate, Call, Trouble, no_memory, Unmade, troubled, not_read, Gives, risen, may_fail, begun, looked, asked, file_made, asked_and_looked, fetched, with_standing, reborn, read_journal, unless_empty, load_by, loaded, calm_call, calm_fate}
use Rattle.index_world.specs.Core.{Core, last_count}
use Rattle.index_world.specs.Gate.{stage_call, publish_call, stage_act, task_act, task_call}
use Rattle.index_world.specs.SplitFile.{file_of}
use Rattle.indexing_run.specs.Outcomes as said
use Rattle.indexing_run.specs.Places.{Batch, IndexerHeld, IndexerPlace, idle, reading, staged, uploaded, Indexer}
use Rattle.indexing_run.specs.Steps.{LogCall, Stepped, stepped, log_may_fail, log_called, checkpoints_by, checkpoints_given, take_checkpoints, idle_by, step_idle, read_by, read_given, read_asked, step_read, stage_given, step_stage, batch_facts, upload_given, step_upload, publish_given, step_publish, step_batch, step_place, step_indexer}
use Rattle.indexing_run.specs.Steps as indexing
use Rattle.root_search.specs.Requests.{ask_of, asked_of}
use Rattle.root_search.specs.Steps.{Request, no_request, opened, planned, Plan, Client, Searched, plan_by, plan_given, delete_given, opened_by, fetch_by, fetch_given, fetched_each, config_in, next_step, step_request, step_client}
use Rattle.root_search.specs.Steps as searching
use Rattle.root_search.proofs.Steps.{delete_core, delete_short}
use Rattle.search_api.specs.Resolved.{Asked, IsDelete, IsSearch, Search}
use Rattle.search_api.specs.declared.unanswered.Unanswered.{Unanswered}
use Rattle.search_api.specs.declared.unanswered.Unanswered.TheVariants as reasons
use Rattle.node_run.specs.Calm.{IsStill}
use Rattle.node_run.specs.Turns.{calm, indexing_luck, searching_luck}
use Rattle.node_run.proofs.Moving.{stage_same, upload_same, publish_same, given_same, plan_same, fetch_same}
use Rattle.node_run.proofs.Calming.{Same, Calms, begun_count, begun_still, calm_risen, false_by, not_fails, looked_calms, asked_calms, appended_calms, file_made_calms, asked_and_looked_calms, each_calms}

-- ---- an indexer's step

abbrev pub StepCalms : Stepped → Stepped → Type 0
StepCalms step calm_step = (step.outcome ≡ None) ⊎ (step ≡ calm_step)

abbrev pub calm_indexing : indexing.IndexerLuck
calm_indexing = indexing_luck calm

checkpoints_calms : (log : Log) (indexer : Indexer) (g g' : Gives Trouble ⊤) → Calms no_memory g g' → StepCalms (checkpoints_given log indexer g) (checkpoints_given log indexer g')
checkpoints_calms log indexer g g' (inl e) = inl (ap (λ r. (checkpoints_by r log indexer g.core).outcome) e)
checkpoints_calms log indexer g g' (inr e) = inr (ap (checkpoints_given log indexer) e)

take_calms : (luck : indexing.IndexerLuck) (log : Log) (indexer : Indexer) (core : Core) → IsStill core →
    StepCalms (take_checkpoints luck log indexer core) (take_checkpoints calm_indexing log indexer core)
take_calms luck log indexer core s = checkpoints_calms log indexer (looked luck.world core) (looked calm_fate core) (looked_calms luck.world core s)

pub checkpoints_log : (r : Result ⊤ Trouble) (log : Log) (indexer : Indexer) (core : Core) → (checkpoints_by r log indexer core).indexer.log_faults ≡ indexer.log_faults
checkpoints_log (Ok done) log indexer core = refl
checkpoints_log (Err e) log indexer core = refl

log_not_fails : (call : LogCall) (n : ℕ) → risen n call.rises ≡ n → n < last_count → log_may_fail call n ≡ false
log_not_fails call n r below =
    false_by call.fails (nat_lt n (risen n call.rises)) (n == last_count) (le-ltb n (risen n call.rises) (omega (arith, r)))
    (ne_eqb n last_count (λ e. omega (arith, e, below)))

true_is_false : true ≡ false → ⊥
true_is_false e = cc

called_same : (call : LogCall) (indexer : Indexer) → risen indexer.log_faults call.rises ≡ indexer.log_faults → log_called call indexer ≡ indexer
called_same call indexer r = ap (λ n. record indexer { log_faults = n }) r

module _ (luck : indexing.IndexerLuck) (log : Log) (indexer : Indexer) (core : Core) (s : IsStill core) (below : indexer.log_faults < last_count) where
  abbrev SameLog : Stepped → Type 0
  SameLog step = step.indexer.log_faults ≡ indexer.log_faults

  calm_called : log_called calm_indexing.log indexer ≡ indexer
  calm_called = called_same calm_indexing.log indexer (calm_risen indexer.log_faults below)

  idle_none : (b : Bool) → log_may_fail luck.log indexer.log_faults ≡ b → SameLog (idle_by b None luck log indexer core) →
      StepCalms (idle_by b None luck log indexer core) (idle_by false None calm_indexing log indexer core)
  idle_none true e same = absurd (true_is_false (sym e ∙ log_not_fails luck.log indexer.log_faults same below))
  idle_none false e same =
      let given = looked luck.world core in
      let r : risen indexer.log_faults luck.log.rises ≡ indexer.log_faults = sym (checkpoints_log given.answer log (log_called luck.log indexer) given.core) ∙ same in
      subst (λ i. StepCalms (take_checkpoints luck log i core) (take_checkpoints calm_indexing log (log_called calm_indexing.log indexer) core)) (sym (called_same luck.log indexer r))
      (subst (λ i. StepCalms (take_checkpoints luck log indexer core) (take_checkpoints calm_indexing log i core)) (sym calm_called) (take_calms luck log indexer core s))

  idle_some : (b c : Bool) (names : List (List ℕ)) →
      StepCalms (idle_by b (Some names) luck log indexer core) (idle_by c (Some names) calm_indexing log indexer core)
  idle_some true true names = take_calms luck log indexer core s
  idle_some true false names = take_calms luck log indexer core s
  idle_some false true names = take_calms luck log indexer core s
  idle_some false false names = take_calms luck log indexer core s

  idle_calms : (assignment : Option (List (List ℕ))) → SameLog (idle_by (log_may_fail luck.log indexer.log_faults) assignment luck log indexer core) →
      StepCalms (idle_by (log_may_fail luck.log indexer.log_faults) assignment luck log indexer core)
      (idle_by (log_may_fail calm_indexing.log indexer.log_faults) assignment calm_indexing log indexer core)
  idle_calms None same = idle_none (log_may_fail luck.log indexer.log_faults) refl same
  idle_calms (Some names) same = idle_some (log_may_fail luck.log indexer.log_faults) false names

  unless_calms : (b : Bool) → SameLog (indexing.idle_unless b luck log indexer core) →
      StepCalms (indexing.idle_unless b luck log indexer core) (step_idle calm_indexing log indexer core)
  unless_calms true same = inl refl
  unless_calms false same = idle_calms indexer.assignment same

  module _ (batch : Batch) (mark : Checkpoint) (rest : List Checkpoint) where
    read_by_calms : (b : Bool) (at : Core) → log_may_fail luck.log indexer.log_faults ≡ b → SameLog (read_by b luck log batch mark rest indexer at) →
        read_by b luck log batch mark rest indexer at ≡ read_by false calm_indexing log batch mark rest indexer at
    read_by_calms true at e same = absurd (true_is_false (sym e ∙ log_not_fails luck.log indexer.log_faults same below))
    read_by_calms false at e same =
        ap (λ i. indexing.read_current batch mark rest (drop mark.at (records_of log mark.partition)) i at) (called_same luck.log indexer same ∙ sym calm_called)

    given_calms : (r : Result ⊤ Trouble) (at : Core) → SameLog (read_given luck log batch mark rest indexer r at) →
        read_given luck log batch mark rest indexer r at ≡ read_given calm_indexing log batch mark rest indexer r at
    given_calms (Err trouble) at same = refl
    given_calms (Ok done) at same = read_by_calms (log_may_fail luck.log indexer.log_faults) at refl same

    asked_read : (g g' : Gives Trouble ⊤) → Calms no_memory g g' → SameLog (read_asked luck log batch mark rest indexer g) →
        StepCalms (read_asked luck log batch mark rest indexer g) (read_asked calm_indexing log batch mark rest indexer g')
    asked_read g g' (inl e) same = inl (ap (λ r. (read_given luck log batch mark rest indexer r g.core).outcome) e)
    asked_read g g' (inr e) same = inr (given_calms g.answer g.core same ∙ ap (read_asked calm_indexing log batch mark rest indexer) e)

-- ---- opening

or_false : (a b : Bool) → a ≡ false → b ≡ false → (a || b) ≡ false
or_false a b ea eb = rw (ea, eb)

standing_count : (standing : Option Entry) (core : Core) → (with_standing standing core).store_faults ≡ core.store_faults
standing_count None core = refl
standing_count (Some entry) core = refl

empty_count : (b : Bool) (core : Core) → (unless_empty b core).core.store_faults ≡ core.store_faults
empty_count true core = refl
empty_count false core = refl

load_count : (c : Bool) (second : Call) (before : ℕ) (core : Core) → (load_by false c second before core).core.store_faults ≡ min (core.store_faults + second.rises) last_count
load_count true second before core = begun_count second core
load_count false second before core =
    empty_count (length (read_journal core).history == 0) (begun second (read_journal core)) ∙ begun_count second (read_journal core)
    ∙ ap (λ n. min (n + second.rises) last_count) (standing_count core.standing core)

module _ (first second : Call) (core : Core) (s : IsStill core) where
  pub load_still : risen core.store_faults first.rises ≡ core.store_faults → risen core.store_faults second.rises ≡ core.store_faults →
      load_by false (may_fail first core.store_faults || may_fail second (begun first core).store_faults) second core.store_faults (begun first core)
      ≡ unless_empty (length core.history == 0) (reborn core)
  load_still r1 r2 =
      ap (λ b. load_by false b second core.store_faults (begun first core))
      (or_false (may_fail first core.store_faults) (may_fail second (begun first core).store_faults) (not_fails first core.store_faults r1 s.below)
      (ap (λ c. may_fail second c.store_faults) (begun_still first core s.late r1) ∙ not_fails second core.store_faults r2 s.below))
      ∙ ap (λ c. load_by false false second core.store_faults c) (begun_still first core s.late r1)
      ∙ ap (λ st. unless_empty (length (reborn (with_standing st core)).history == 0) (begun second (reborn (with_standing st core)))) s.standing
      ∙ ap (unless_empty (length core.history == 0)) (begun_still second (reborn core) s.late r2)

  load_calms : (b : Bool) → Same core (load_by b (may_fail first core.store_faults || may_fail second (begun first core).store_faults) second core.store_faults (begun first core)).core →
      Calms (not_read no_memory) (load_by b (may_fail first core.store_faults || may_fail second (begun first core).store_faults) second core.store_faults (begun first core))
      (unless_empty (length core.history == 0) (reborn core))
  load_calms true same = inl refl
  load_calms false same = inr (load_still (omega (arith, one, two, s.below)) (omega (arith, one, two, s.below)))
    where
      one : (begun first core).store_faults ≡ min (core.store_faults + first.rises) last_count
      one = begun_count first core

      two : core.store_faults ≡ min ((begun first core).store_faults + second.rises) last_count
      two = sym same ∙ load_count (may_fail first core.store_faults || may_fail second (begun first core).store_faults) second core.store_faults (begun first core)

pub loaded_calms : (fate : Fate) (core : Core) → IsStill core → Same core (loaded fate core).core →
    Calms (not_read no_memory) (loaded fate core) (unless_empty (length core.history == 0) (reborn core))
loaded_calms fate core s same = load_calms fate.first fate.second core s (fate.first.short || fate.second.short) same

-- ---- the other steps of an indexer

stage_calms : (batch : Batch) (indexer : Indexer) (g g' : Gives Unmade ⊤) → Calms (troubled no_memory) g g' → StepCalms (stage_given batch indexer g) (stage_given batch indexer g')
stage_calms batch indexer g g' (inl e) = inl (ap (λ r. (indexing.stage_by r batch indexer g.core).outcome) e)
stage_calms batch indexer g g' (inr e) = inr (ap (stage_given batch indexer) e)

upload_calms : (held : IndexerHeld) (indexer : Indexer) (g g' : Gives Trouble ⊤) → Calms no_memory g g' → StepCalms (upload_given held indexer g) (upload_given held indexer g')
upload_calms held indexer g g' (inl e) = inl (ap (λ r. (indexing.upload_by r held indexer g.core).outcome) e)
upload_calms held indexer g g' (inr e) = inr (ap (upload_given held indexer) e)

publish_calms : (held : IndexerHeld) (indexer : Indexer) (g g' : Gives Unmade ⊤) → Calms (troubled no_memory) g g' → StepCalms (publish_given held indexer g) (publish_given held indexer g')
publish_calms held indexer g g' (inl e) = inl (ap (λ r. (indexing.publish_by r held indexer g.core).outcome) e)
publish_calms held indexer g g' (inr e) = inr (ap (publish_given held indexer) e)

-- the count behind a call that a step hands on
handed : (core a b : Core) → b ≡ a → Same core b → Same core a
handed core a b e same = sym (ap (λ c. c.store_faults) e) ∙ same

module _ (luck : indexing.IndexerLuck) (log : Log) (indexer : Indexer) (core : Core) (s : IsStill core) (below : indexer.log_faults < last_count) where
  abbrev StepIs : Stepped → Stepped → Type 0
  StepIs step calm_step = Same core step.core → step.indexer.log_faults ≡ indexer.log_faults → StepCalms step calm_step

  step_read_calms : (batch : Batch) (queue : List Checkpoint) → StepIs (step_read luck log batch queue indexer core) (step_read calm_indexing log batch queue indexer core)
  step_read_calms batch [] same same_log = inr refl
  step_read_calms batch (mark ∷ rest) same same_log =
      let given = asked luck.world core in
      asked_read luck log indexer core s below batch mark rest given (asked calm_fate core)
      (asked_calms luck.world core (handed core given.core _ (given_same luck log batch mark rest indexer given.answer given.core) same)) same_log

  step_stage_calms : (batch : Batch) → StepIs (step_stage luck batch indexer core) (step_stage calm_indexing batch indexer core)
  step_stage_calms batch same same_log =
      let given = stage_call batch.parts (batch_facts batch) luck.world core in
      stage_calms batch indexer given (stage_call batch.parts (batch_facts batch) calm_fate core)
      (appended_calms luck.world (stage_act batch.parts (batch_facts batch)) core s (handed core given.core _ (stage_same given.answer batch indexer given.core) same))

  step_upload_calms : (held : IndexerHeld) → StepIs (step_upload luck held indexer core) (step_upload calm_indexing held indexer core)
  step_upload_calms held same same_log =
      let given = file_made luck.world.first (split_key held.number) (file_of held.config held.documents) core in
      upload_calms held indexer given (file_made calm_call (split_key held.number) (file_of held.config held.documents) core)
      (file_made_calms luck.world.first (split_key held.number) (file_of held.config held.documents) core s (handed core given.core _ (upload_same given.answer held indexer given.core) same))

  step_publish_calms : (held : IndexerHeld) → StepIs (step_publish luck held indexer core) (step_publish calm_indexing held indexer core)
  step_publish_calms held same same_log =
      let given = publish_call held.number luck.world core in
      publish_calms held indexer given (publish_call held.number calm_fate core)
      (appended_calms luck.world (λ c. Publish held.number) core s (handed core given.core _ (publish_same given.answer held indexer given.core) same))

  choice_calms : (b : Bool) (x y x' y' : Stepped) → StepIs x x' → StepIs y y' → StepIs (if b then x else y) (if b then x' else y')
  choice_calms true x y x' y' h k = h
  choice_calms false x y x' y' h k = k

  batch_calms : (batch : Batch) → StepIs (step_batch luck log batch indexer core) (step_batch calm_indexing log batch indexer core)
  batch_calms batch =
      choice_calms batch.closed (if batch.count == 0 then stepped (Some said.CaughtUp) idle indexer core else step_stage luck batch indexer core) (step_read luck log batch batch.queue indexer core)
      (if batch.count == 0 then stepped (Some said.CaughtUp) idle indexer core else step_stage calm_indexing batch indexer core) (step_read calm_indexing log batch batch.queue indexer core)
      (choice_calms (batch.count == 0) (stepped (Some said.CaughtUp) idle indexer core) (step_stage luck batch indexer core)
      (stepped (Some said.CaughtUp) idle indexer core) (step_stage calm_indexing batch indexer core) (λ same same_log. inr refl) (step_stage_calms batch))
      (step_read_calms batch batch.queue)

  place_calms : (place : IndexerPlace) → StepIs (step_place place luck log indexer core) (step_place place calm_indexing log indexer core)
  place_calms idle same same_log = unless_calms luck log indexer core s below luck.log.short same_log
  place_calms (reading batch) same same_log = batch_calms batch same same_log
  place_calms (staged held) same same_log = step_upload_calms held same same_log
  place_calms (uploaded held) same same_log = step_publish_calms held same same_log

  indexer_short_calms : (b : Bool) (x y : Stepped) → StepIs x y → StepIs (indexing.or_short b x) y
  indexer_short_calms true x y h same same_log = inl refl
  indexer_short_calms false x y h same same_log = h same same_log

  -- a step of an indexer whose log's count stands still too
  pub indexer_calms : StepIs (step_indexer luck log indexer core) (step_indexer calm_indexing log indexer core)
  indexer_calms = indexer_short_calms luck.short (step_place indexer.place luck log indexer core) (step_place indexer.place calm_indexing log indexer core) (place_calms indexer.place)

-- ---- a client's step

abbrev pub SearchCalms : Searched → Searched → Type 0
SearchCalms step calm_step = (step.outcome ≡ None) ⊎ (step ≡ calm_step)

abbrev pub calm_searching : searching.ClientLuck
calm_searching = searching_luck calm

plan_none : (asked : Result Search Unanswered) (client : Client) (core : Core) → (plan_by (Err no_memory) asked client core).outcome ≡ None
plan_none (Ok search) client core = refl
plan_none (Err (reasons.Refused refusal)) client core = refl
plan_none (Err (reasons.Memory e)) client core = refl

plan_calms : (asked : Result Search Unanswered) (client : Client) (g g' : Gives Trouble ⊤) → Calms no_memory g g' → SearchCalms (plan_given asked client g) (plan_given asked client g')
plan_calms asked client g g' (inl e) = inl (ap (λ r. (plan_by r asked client g.core).outcome) e ∙ plan_none asked client g.core)
plan_calms asked client g g' (inr e) = inr (ap (plan_given asked client) e)

delete_calms : (client : Client) (g g' : Gives Unmade ⊤) → Calms (troubled no_memory) g g' → SearchCalms (delete_given client g) (delete_given client g')
delete_calms client g g' (inl e) = inl (delete_short g.answer client g.core e)
delete_calms client g g' (inr e) = inr (ap (delete_given client) e)

fetch_calms : (plan : Plan) (number : ℕ) (more : List ℕ) (client : Client) (g g' : Gives Trouble ⊤) → Calms no_memory g g' →
    SearchCalms (fetch_given plan number more client g) (fetch_given plan number more client g')
fetch_calms plan number more client g g' (inl e) = inl (ap (λ r. (fetch_by r plan number more client g.core).outcome) e)
fetch_calms plan number more client g g' (inr e) = inr (ap (fetch_given plan number more client) e)

module _ (luck : searching.ClientLuck) (log : Log) (client : Client) (core : Core) (s : IsStill core) where
  abbrev SearchIs : Searched → Searched → Type 0
  SearchIs step calm_step = Same core step.core → SearchCalms step calm_step

  next_calms : (plan : Plan) (unfetched : List ℕ) → SearchIs (next_step luck log plan unfetched client core) (next_step calm_searching log plan unfetched client core)
  next_calms plan [] same = inr refl
  next_calms plan (number ∷ more) same =
      let given = fetched_each plan.grace luck.world luck.more core in
      fetch_calms plan number more client given (fetched plan.grace calm_fate core)
      (each_calms plan.grace luck.more luck.world core s (handed core given.core _ (fetch_same given.answer plan number more client given.core) same))

  given_plan_calms : (asked : Result Search Unanswered) → SearchIs (plan_given asked client (asked_and_looked luck.world core)) (plan_given asked client (asked_and_looked calm_fate core))
  given_plan_calms asked same =
      let given = asked_and_looked luck.world core in
      plan_calms asked client given (asked_and_looked calm_fate core)
      (asked_and_looked_calms luck.world core s (handed core given.core _ (plan_same given.answer asked client given.core) same))

  opened_calms : (asked : Result Asked Unanswered) → SearchIs (opened_by asked luck.world client core) (opened_by asked calm_fate client core)
  opened_calms (Ok (IsSearch search)) same = given_plan_calms (Ok search) same
  opened_calms (Ok (IsDelete deletion)) same =
      let given = task_call (ask_of deletion) luck.world core in
      delete_calms client given (task_call (ask_of deletion) calm_fate core)
      (appended_calms luck.world (task_act (ask_of deletion)) core s (handed core given.core _ (delete_core given.answer client given.core) same))
  opened_calms (Err reason) same = given_plan_calms (Err reason) same

  request_calms : (request : Request) → SearchIs (step_request request luck log client core) (step_request request calm_searching log client core)
  request_calms no_request same = inr refl
  request_calms (opened text) same = opened_calms (asked_of (config_in core) text) same
  request_calms (planned plan) same = next_calms plan plan.unfetched same

  search_short_calms : (b : Bool) (x y : Searched) → SearchIs x y → SearchIs (searching.or_short b client x) y
  search_short_calms true x y h same = inl refl
  search_short_calms false x y h same = h same

  -- a step of a client
  pub client_calms : SearchIs (step_client luck log client core) (step_client calm_searching log client core)
  client_calms = search_short_calms luck.short (step_request client.request luck log client core) (step_request client.request calm_searching log client core) (request_calms client.request)
