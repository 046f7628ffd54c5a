-- The stretch of a request: from its first step to its reply.
use Rattle.std.proofs.Common.{◌≡◌, ◌⊎◌, inl, inr, ℕ, ◌≤◌, Bool, true, false, List, [], ◌∷◌, ◌++◌, length, take, refl, sym, ap, ◌∙◌, subst, append-nil, arith}
use Rattle.std.proofs.lemmas.List.{length-append}
use Rattle.std.specs.List.{AllByRecursion}
use Rattle.std.specs.Prelude.{Option, Some, None, Result, Ok, Err, ⊤, nat_lt, map, if◌then◌else◌}
use Rattle.agg_model.specs.Answers.{most_buckets}
use Rattle.agg_nested.specs.Answers.{all_buckets, nested_answer, told}
use Rattle.agg_nested.specs.declared.answer.NestedAnswer.{NestedAnswer}
use Rattle.byte_fields.specs.Causes.{Rose, last_count}
use Rattle.doc_tallies.specs.Picked.{docs_of}
use Rattle.index_config.proofs.Accepted.{accepted-texts}
use Rattle.index_config.specs.declared.config.IndexConfig.{IndexConfig}
use Rattle.meta_journal.specs.declared.entry.Entry.{Entry}
use Rattle.meta_store.specs.History.{history, last_opstamp}
use Rattle.meta_store.specs.Readings.{config_of}
use Rattle.meta_store.specs.State.{Legal}
use Rattle.meta_store.specs.Tasks.{tasks_of}
use Rattle.meta_store.specs.declared.refusal.Refusal.{Refusal as StateRefusal}
use Rattle.source_log.specs.Log.{Log}
use Rattle.index_world.specs.Calls.{Fate, Fault, store_fault, is_foreign, is_full, is_expired, Gives, gives, faulted, no_memory, Unmade, refused, troubled, answer_behind, asked_and_looked, entry_of}
use Rattle.index_world.specs.CallsMade.{Ask, CallMade, made_of}
use Rattle.index_world.specs.Config.{reads}
use Rattle.index_world.specs.Configuration.{configuration, config_or}
use Rattle.index_world.specs.Core.{Core, Nobody}
use Rattle.index_world.specs.Gate.{task_act, task_call}
use Rattle.index_world.specs.Ran.{AreSteps, IsLastEnd, StepMade, calls_of}
use Rattle.index_world.specs.Seen.{visible_at}
use Rattle.index_world.specs.World.{GoesFor}
use Rattle.index_world.proofs.CallCauses.{AnswerWithin, UnmadeWithin, appended_caused}
use Rattle.index_world.proofs.Configured.{configured_read, configured_schema}
use Rattle.index_world.proofs.Ran.{Past, goes_then, steps_go}
use Rattle.search_api.specs.Resolved.{Asked, IsDelete, IsSearch, Search}
use Rattle.search_api.specs.declared.reply.Refusal.{Refusal}
use Rattle.search_api.specs.declared.reply.Refusal.TheVariants.{TooManyBuckets}
use Rattle.search_api.specs.declared.reply.Reply.{Reply}
use Rattle.search_api.specs.declared.reply.Said.{Said}
use Rattle.search_api.specs.declared.reply.Said.TheVariants.{Found, Refused}
use Rattle.search_api.specs.declared.resolved.Deletion.{Deletion}
use Rattle.search_api.specs.declared.unanswered.Unanswered.{Unanswered}
use Rattle.search_api.specs.declared.unanswered.Unanswered.TheVariants as reasons
use Rattle.root_search.specs.Answer.{answer, matching, printed, shown}
use Rattle.root_search.specs.AnswerAll.{ClientAt, ClientStep, Told, client_at, core_there, reply_of, with_text}
use Rattle.root_search.specs.Deletes.{EndsInTask, task_behind}
use Rattle.root_search.specs.Recorded.{IsFirstCall}
use Rattle.root_search.specs.Requests.{ask_of, asked_of}
use Rattle.root_search.specs.Steps.{Client, Searched, config_in, fault_refusal, grace_at, opened, opened_by, or_short, planned_numbers, request_at, state_refusal}
use Rattle.root_search.specs.declared.outcome.SearchStep.{SearchStep}
use Rattle.root_search.specs.declared.outcome.SearchStep.TheVariants.{Replied}
use Rattle.root_search.proofs.DeleteLaws.{IsFull, ends_in_task, full_only}
use Rattle.root_search.proofs.Stands.{configured_more, history_more, legal_before}
use Rattle.root_search.proofs.Steps.{delete_core, plan_core, short_core}
use Rattle.root_search.proofs.TaskCalls.{Grows, appended_refused}
use Rattle.root_search.proofs.TaskReads.{asked_reads}
use Rattle.root_search.specs.Replied.{AsksTexts, IsAdded, IsAnswered, IsPlan, IsReplied, IsTimed, IsWithin, RefusesDelete, RefusesSearch, RepliesAsked, RepliesDelete, RepliesSearch}
use Rattle.root_search.proofs.CallFaults.{FetchFails, PlanFails}
use Rattle.root_search.proofs.Entered.{Room, appended_leaves, looked_grows}
use Rattle.root_search.proofs.FirstReplies.{Added, AsksFor, FirstReply, FirstSays, IsUnmadeFor, Plans, Replies, Unadded, first_made, first_plans, first_says, going_told, reply_told, told_is}
use Rattle.root_search.proofs.NextReplies.{Begins, EndSays, IsPlannedAt, SearchEnds, answer_seen, begins_on, begins_same, planned_ends}

-- ---- histories

pub longer : (a b : List Entry) → Begins a b → length a ≤ length b
longer a b p = let e = ap length p.1 ∙ length-append a p.0 in omega (arith, e)

-- a journal is read under one configuration
pub under : (a b exit : List Entry) (config : IndexConfig) → Begins a b → Begins b exit → Legal reads (history exit) → configuration a ≡ Some config → configuration b ≡ Some config
under a b exit config p q legal is = configured_more a b p.0 config p.1 (legal_before b exit q.0 q.1 legal) is

-- ---- what the first call of a text leaves

module _ (client : Client) (mid : Core) where
  opened_grows : (asked : Result Asked Unanswered) (fate : Fate) → Grows mid (opened_by asked fate client mid).core
  opened_grows (Ok (IsSearch search)) fate =
      let given = asked_and_looked fate mid in subst (Grows mid) (sym (plan_core given.answer (Ok search) client given.core)) (looked_grows fate mid)
  opened_grows (Ok (IsDelete deletion)) fate =
      let given = task_call (ask_of deletion) fate mid in
      subst (Grows mid) (sym (delete_core given.answer client given.core)) (appended_leaves (task_act (ask_of deletion)) fate mid).grows
  opened_grows (Err reason) fate =
      let given = asked_and_looked fate mid in subst (Grows mid) (sym (plan_core given.answer (Err reason) client given.core)) (looked_grows fate mid)

  short_grows : (short : Bool) (step : Searched) → Grows mid step.core → Grows mid (or_short short client step).core
  short_grows short step g = subst (Grows mid) (sym (short_core short client step)) g

module _ (Between : Core → Core → Type 0) (goes : (one other : Core) → Between one other → GoesFor Nobody one other) (log : Log) (config : IndexConfig) (exit : List Entry) (legal : Legal reads (history exit)) (texts : AsksTexts config) where
  -- where a request begins
  pub record Starts (at : ClientAt) : Type 0 where
    pub config_is : configuration at.core.history ≡ Some config
    pub front : at.client.front ≤ length at.core.history
    pub count : at.core.store_faults ≤ last_count

  pub record Stretch (from : ClientAt) (text : List ℕ) (next : Core) (calls : List CallMade) (reply : Reply) (last : ClientAt) : Type 0 where
    pub replied : IsReplied config log exit (record { name = from.client.name; text = text; front = from.client.front }) from.core calls reply next
    pub name_is : last.client.name ≡ from.client.name
    pub front_is : last.client.front ≡ reply.revision

  module _ (from : ClientAt) (starts : Starts from) (text : List ℕ) (next : Core) (to_exit : Begins next.history exit) where
    abbrev asker : Client
    asker = with_text text from.client

    module _ (x : StepMade Told) (mid : ClientAt) (s : ClientStep Between log (client_at asker from.core) x mid) (on : GoesFor Nobody mid.core next) where
      abbrev found : Core
      found = s.passage.core

      abbrev left : List Entry
      left = mid.core.history

      up : GoesFor Nobody from.core found
      up = goes from.core found s.passed.0

      call_grows : Begins found.history left
      call_grows =
          let P : Searched → Type 0 = λ st. Grows found st.core in
          subst P s.did (short_grows asker found s.short (request_at (opened text) s.passage s.more log asker) (opened_grows asker found (asked_of (config_in found) text) s.passage.fate))

      left_exit : Begins left exit
      left_exit = begins_on left next.history exit on.grown to_exit

      left_config : configuration left ≡ Some config
      left_config = under from.core.history left exit config s.goes_on.grown left_exit legal starts.config_is

      word : asked_of (config_in found) text ≡ asked_of config text
      word =
          let is = under from.core.history found.history exit config up.grown (begins_on found.history left exit call_grows left_exit) legal starts.config_is in
          ap (λ (c : IndexConfig). asked_of c text) (ap config_or is)

      says : FirstSays asker found s.passage.fate (asked_of config text) mid.core s.outcome mid.client
      says = subst (λ (asked : Result Asked Unanswered). FirstSays asker found s.passage.fate asked mid.core s.outcome mid.client) word (first_says Between log text from.client from.core x mid s)

      made : (step : SearchStep) → s.outcome ≡ Some step → (ask : Ask) × AsksFor (asked_of config text) ask × (x.made ≡ made_of ask mid.core ∷ [])
      made step outcome =
          first_made (asked_of config text) found mid.core s.outcome step x.made outcome (subst (λ (asked : Result Asked Unanswered). IsFirstCall asked found mid.core s.outcome x.made) word s.asks)

      within : (ask : Ask) → IsWithin exit from.core next (made_of ask mid.core)
      within ask =
          record {
            front = sym (begins_same left exit left_exit);
            begins = longer from.core.history left s.goes_on.grown;
            ends = longer left next.history on.grown;
            since = s.goes_on.moment;
            until = on.moment;
          }

      bounds : (revision : ℕ) → (revision ≡ from.client.front) ⊎ (revision ≡ length left) → (from.client.front ≤ revision) × (revision ≤ length next.history)
      bounds revision (inl same) = let low = starts.front in let a = longer from.core.history left s.goes_on.grown in let b = longer left next.history on.grown in (omega (arith, same), omega (arith, same, low, a, b))
      bounds revision (inr same) = let low = starts.front in let a = longer from.core.history left s.goes_on.grown in let b = longer left next.history on.grown in (omega (arith, same, low, a), omega (arith, same, b))

      -- ---- a fault's cause

      caused : (before now : ℕ) → Past from.core.store_faults before → Rose before now → now ≤ mid.core.store_faults → (from.core.store_faults ≤ before) × Rose before now × (now ≤ next.store_faults)
      caused before now past rose high = let count = starts.count in let more = on.faults in (omega (arith, past, count), rose, omega (arith, high, more))

      earlier_past : (before : ℕ) → Past found.store_faults before → Past from.core.store_faults before
      earlier_past before past = let more = up.faults in omega (arith, past, more)

      plan_fault : (search : Search) (plan : CallMade) (reply : Reply) (fault : Fault) → PlanFails found.store_faults (faulted fault) mid.core.store_faults → RefusesSearch config log exit search plan from.core next reply (fault_refusal fault)
      plan_fault search plan reply (store_fault before now) h = caused before now (earlier_past before h.0) h.1 h.2
      plan_fault search plan reply (is_foreign key) h = absurd h
      plan_fault search plan reply is_full h = absurd h
      plan_fault search plan reply (is_expired planned_at now) h = absurd h

      -- ---- a delete

      module _ (deletion : Deletion) (ask : Ask) (timed : IsTimed (made_of ask mid.core)) (asked : asked_of config text ≡ Ok (IsDelete deletion)) (reply : Reply) where
        tasks_full : (why : StateRefusal) → task_call (ask_of deletion) s.passage.fate found ≡ gives (Err (refused why)) mid.core → RefusesDelete (made_of ask mid.core) from.core next (state_refusal why)
        tasks_full why did =
            let read = configured_read left config left_config in
            let r = asked_reads config text deletion (configured_schema left config left_config) (accepted-texts read.0 config read.1) (texts text deletion asked) asked in
            let refuses : answer_behind left (entry_of (task_act (ask_of deletion) mid.core) mid.core) ≡ Err why = appended_refused (task_act (ask_of deletion)) s.passage.fate found mid.core why did in
            let full : IsFull (length (tasks_of reads (history left))) why = full_only (history left) mid.core.moment (ask_of deletion) why config r.0 (config_of reads (history left)) timed left_config r.1 refuses in
            subst (λ (w : StateRefusal). RefusesDelete (made_of ask mid.core) from.core next (state_refusal w)) (sym full.count_is) (refl, full.many)

        unmade_by : (unmade : Unmade) (refusal : Refusal) → IsUnmadeFor unmade refusal → task_call (ask_of deletion) s.passage.fate found ≡ gives (Err unmade) mid.core → UnmadeWithin found.store_faults unmade mid.core.store_faults → Room (Err unmade) mid.core →
            RefusesDelete (made_of ask mid.core) from.core next refusal
        unmade_by (refused why) refusal is did h room = subst (RefusesDelete (made_of ask mid.core) from.core next) (sym is) (tasks_full why did)
        unmade_by (troubled (faulted (store_fault before now))) refusal is did h room = subst (RefusesDelete (made_of ask mid.core) from.core next) (sym is) (caused before now (earlier_past before h.0) h.1 h.2)
        unmade_by (troubled (faulted (is_foreign key))) refusal is did h room = subst (RefusesDelete (made_of ask mid.core) from.core next) (sym is) room
        unmade_by (troubled (faulted is_full)) refusal is did h room = subst (RefusesDelete (made_of ask mid.core) from.core next) (sym is) room
        unmade_by (troubled (faulted (is_expired planned_at now))) refusal is did h room = absurd room
        unmade_by (troubled no_memory) refusal is did h room = absurd is

        unadded : Unadded asker.front deletion found s.passage.fate mid.core reply.revision reply.said → RepliesDelete exit from.core next from.client.front deletion (made_of ask mid.core) reply reply.said
        unadded u =
            let P : Gives Unmade ⊤ → Type 0 = λ given. AnswerWithin UnmadeWithin found.store_faults given.answer given.core.store_faults in
            let Q : Gives Unmade ⊤ → Type 0 = λ given. Room given.answer given.core in
            let h : UnmadeWithin found.store_faults u.unmade mid.core.store_faults = subst P u.did (appended_caused s.passage.fate (task_act (ask_of deletion)) found).says in
            let room : Room (Err u.unmade) mid.core = subst Q u.did (appended_leaves (task_act (ask_of deletion)) s.passage.fate found).room in
            subst (RepliesDelete exit from.core next from.client.front deletion (made_of ask mid.core) reply) (sym u.said_is) (u.revision_is, unmade_by u.unmade u.refusal u.why u.did h room)

        added : Added deletion found s.passage.fate mid.core reply.revision reply.said → RepliesDelete exit from.core next from.client.front deletion (made_of ask mid.core) reply reply.said
        added a =
            let e : EndsInTask (ask_of deletion) found.history left = ends_in_task (ask_of deletion) s.passage.fate found mid.core a.did in
            let earlier = found.history ++ e.others in
            let task = task_behind (ask_of deletion) earlier e.moment in
            let long = ap length e.is ∙ length-append earlier (task ∷ []) in
            let behind = length-append found.history e.others in
            let low = starts.front in
            let first = longer from.core.history found.history up.grown in
            let same = a.revision_is in
            let is_added : IsAdded exit from.core from.client.front deletion (made_of ask mid.core) reply (last_opstamp (history left)) =
            record {
              revision = a.revision_is;
              earlier = earlier;
              moment = e.moment;
              is = ap (λ (n : ℕ). take n exit) a.revision_is ∙ (begins_same left exit left_exit ∙ e.is);
              stamp = ap (λ (es : List Entry). last_opstamp (history es)) e.is ∙ ap last_opstamp (history_more earlier (task ∷ []));
              above = omega (arith, same, long, behind, low, first);
              begins = omega (arith, same, long, behind, first);
            } in
            subst (RepliesDelete exit from.core next from.client.front deletion (made_of ask mid.core) reply) (sym a.said_is) is_added

        delete_says : Added deletion found s.passage.fate mid.core reply.revision reply.said ⊎ Unadded asker.front deletion found s.passage.fate mid.core reply.revision reply.said →
            RepliesDelete exit from.core next from.client.front deletion (made_of ask mid.core) reply reply.said
        delete_says (inl a) = added a
        delete_says (inr u) = unadded u

      -- ---- the first step replies

      revision_by : (asked : Result Asked Unanswered) (revision : ℕ) (said : Said) → FirstReply asker found s.passage.fate asked mid.core revision said → (revision ≡ from.client.front) ⊎ (revision ≡ length left)
      revision_by (Ok (IsSearch search)) revision said f = inl f.0
      revision_by (Ok (IsDelete deletion)) revision said (inl added) = inr added.revision_is
      revision_by (Ok (IsDelete deletion)) revision said (inr unadded) = inl unadded.revision_is
      revision_by (Err (reasons.Refused own)) revision said f = f.1
      revision_by (Err (reasons.Memory e)) revision said f = absurd f

      first_replies : (asked : Result Asked Unanswered) (ask : Ask) (reply : Reply) → IsTimed (made_of ask mid.core) → asked_of config text ≡ asked → AsksFor asked ask → FirstReply asker found s.passage.fate asked mid.core reply.revision reply.said →
          RepliesAsked config log exit from.core next from.client.front (made_of ask mid.core) [] reply asked
      first_replies (Ok (IsSearch search)) ask reply timed is asks f =
          (asks, tt, subst (RepliesSearch config log exit search (made_of ask mid.core) from.core next reply) (sym f.1.1) (plan_fault search (made_of ask mid.core) reply f.1.0 f.1.2))
      first_replies (Ok (IsDelete deletion)) ask reply timed is asks f = (asks, refl, delete_says deletion ask timed is reply f)
      first_replies (Err (reasons.Refused own)) ask reply timed is asks f = (asks, refl, f.0)
      first_replies (Err (reasons.Memory e)) ask reply timed is asks f = absurd f

      first_stretch : (reply : Reply) (last : ClientAt) → last ≡ mid → AllByRecursion IsTimed (x.made ++ []) → reply_of x.result ≡ Some (Ok reply) → Stretch from text next (x.made ++ []) reply last
      first_stretch reply last same timed end =
          let outcome : s.outcome ≡ Some (Replied reply) = told_is x.result (Replied reply) s.outcome (reply_told x.result reply end) s.answer in
          let P : Option SearchStep → Type 0 = λ o. FirstSays asker found s.passage.fate (asked_of config text) mid.core o mid.client in
          let r : Replies asker found s.passage.fate (asked_of config text) mid.core mid.client reply = subst P outcome says in
          let m = made (Replied reply) outcome in
          let call = made_of m.0 mid.core in
          let are : x.made ++ [] ≡ call ∷ [] = ap (λ (l : List CallMade). l ++ []) m.2 in
          let call_timed : IsTimed call = (subst (AllByRecursion IsTimed) are timed).0 in
          let at = revision_by (asked_of config text) reply.revision reply.said r.says in
          let b = bounds reply.revision at in
          record {
            replied = record {
              first = call;
              rest = [];
              calls_are = are;
              within = within m.0;
              client = r.client_is;
              revision = at;
              front = b.0;
              ends = b.1;
              says = first_replies (asked_of config text) m.0 reply call_timed refl m.1 r.says;
              goes_on = goes_then from.core mid.core next s.goes_on on;
            };
            name_is = ap (λ (a : ClientAt). a.client.name) same ∙ r.name_is;
            front_is = ap (λ (a : ClientAt). a.client.front) same ∙ r.front_is;
          }

      -- ---- the first step plans

      pub record FirstPlans : Type 0 where
        pub search : Search
        pub asked_is : asked_of config text ≡ Ok (IsSearch search)
        pub ask : Ask
        pub is_plan : IsPlan ask
        pub made_is : x.made ≡ made_of ask mid.core ∷ []
        pub at : IsPlannedAt Between goes log config search from.client.name (made_of ask mid.core) from.core mid

      first_goes : reply_of x.result ≡ None → FirstPlans
      first_goes going =
          let step_on = going_told x.result going in
          let outcome : s.outcome ≡ Some step_on.0 = told_is x.result step_on.0 s.outcome step_on.1 s.answer in
          let P : Option SearchStep → Type 0 = λ o. FirstSays asker found s.passage.fate (asked_of config text) mid.core o mid.client in
          let p : Plans asker found s.passage.fate (asked_of config text) mid.core mid.client = first_plans asker found s.passage.fate (asked_of config text) mid.core step_on.0 mid.client step_on.2 (subst P outcome says) in
          let m = made step_on.0 outcome in
          let Q : Result Asked Unanswered → Type 0 = λ asked. AsksFor asked m.0 in
          record {
            search = p.search;
            asked_is = p.asked_is;
            ask = m.0;
            is_plan = subst Q p.asked_is m.1;
            made_is = m.2;
            at = record {
              plan = record { search = p.search; revision = length left; grace = grace_at (config_in mid.core) mid.core.moment; unfetched = planned_numbers (config_in mid.core) p.search (history left) };
              is = ap (λ (c : Client). c.request) p.later_is;
              search_is = refl;
              revision = refl;
              grace = ap (λ (c : IndexConfig). grace_at c mid.core.moment) (ap config_or left_config);
              name_is = ap (λ (c : Client). c.name) p.later_is;
              seen = ([], sym (append-nil left));
              low = s.goes_on.faults;
            };
          }

      module _ (search : Search) (ask : Ask) (reply : Reply) (revision : reply.revision ≡ length left) where
        abbrev HasReply : Said → Type 0
        HasReply said = RepliesSearch config log exit search (made_of ask mid.core) from.core next reply said

        either : (b : Bool) (many count : ℕ) (lines : List (List ℕ)) (results : List NestedAnswer) → IsAnswered config log exit search (made_of ask mid.core) reply →
            reply.said ≡ (if b then Refused (TooManyBuckets count) else Found many lines results) → HasReply reply.said
        either true many count lines results is same = subst HasReply (sym same) is
        either false many count lines results is same = subst HasReply (sym same) is

        answered : reply.said ≡ answer_seen left search log → HasReply reply.said
        answered same =
            let front : take reply.revision exit ≡ left = ap (λ (n : ℕ). take n exit) revision ∙ begins_same left exit left_exit in
            let there : config_or (configuration (take reply.revision exit)) ≡ config = ap (λ (es : List Entry). config_or (configuration es)) front ∙ ap config_or left_config in
            let documents = visible_at reply.revision exit log in
            let said : reply.said ≡ answer config.schema search documents =
            same ∙ (ap (λ (es : List Entry). answer_seen es search log) (sym front) ∙ ap (λ (c : IndexConfig). answer c.schema search documents) there) in
            let matches = matching config.schema search documents in
            let count = all_buckets search.aggs (docs_of matches) in
            either (nat_lt most_buckets count) (length matches) (told count) (printed config.schema (shown search matches)) (map (nested_answer (docs_of matches)) search.aggs) (record { revision = revision; said = said }) said

        fetch_fault : (last : Core) (fault : Fault) → GoesFor Nobody last next → FetchFails (grace_at config mid.core.moment) from.core.store_faults (faulted fault) last →
            RefusesSearch config log exit search (made_of ask mid.core) from.core next reply (fault_refusal fault)
        fetch_fault last (store_fault before now) later h =
            let past = h.0 in let high = h.2 in let count = starts.count in let more = later.faults in (omega (arith, past, count), h.1, omega (arith, high, more))
        fetch_fault last (is_foreign key) later h = absurd h
        fetch_fault last is_full later h = absurd h
        fetch_fault last (is_expired planned_at now) later h =
            let same = h.2 in let more = later.moment in record { planned_at_is = h.0; over = h.1; until = omega (arith, same, more) }

        ends_by : (last : Core) → GoesFor Nobody last next → EndSays Between goes log config search from.client.name (made_of ask mid.core) from.core last reply.said → HasReply reply.said
        ends_by last later (inl same) = answered same
        ends_by last later (inr (fault, refused_so, fails)) = subst HasReply (sym refused_so) (fetch_fault last fault later fails)

      search_stretch : (reply : Reply) (front : List (StepMade Told)) (z : StepMade Told) (last : ClientAt) → reply_of x.result ≡ None → AreSteps (ClientStep Between log) mid (front ++ z ∷ []) last →
          AllByRecursion (λ (step : StepMade Told). reply_of step.result ≡ None) front → reply_of z.result ≡ Some (Ok reply) → GoesFor Nobody last.core next → Stretch from text next (x.made ++ calls_of (front ++ z ∷ [])) reply last
      search_stretch reply front z last none are going end later =
          let p = first_goes none in
          let call = made_of p.ask mid.core in
          let e : SearchEnds Between goes log config p.search from.client.name call from.core (calls_of (front ++ z ∷ [])) reply last =
          planned_ends Between goes log config p.search from.client.name call from.core front z mid last reply p.at are going end in
          let b = bounds reply.revision (inr e.revision) in
          let P : Result Asked Unanswered → Type 0 = λ asked. RepliesAsked config log exit from.core next from.client.front call (calls_of (front ++ z ∷ [])) reply asked in
          record {
            replied = record {
              first = call;
              rest = calls_of (front ++ z ∷ []);
              calls_are = ap (λ (l : List CallMade). l ++ calls_of (front ++ z ∷ [])) p.made_is;
              within = within p.ask;
              client = e.client_is;
              revision = inr e.revision;
              front = b.0;
              ends = b.1;
              says = subst P (sym p.asked_is) (p.is_plan, e.fetches, ends_by p.search p.ask reply e.revision last.core later e.says);
              goes_on = goes_then from.core mid.core next s.goes_on on;
            };
            name_is = e.name_is;
            front_is = e.front_is;
          }

    -- ---- all of its steps

    step_goes : (a : ClientAt) (x : StepMade Told) (b : ClientAt) → ClientStep Between log a x b → GoesFor Nobody a.core b.core
    step_goes a x b s = s.goes_on

    steps_on : (a b : ClientAt) (xs : List (StepMade Told)) → AreSteps (ClientStep Between log) a xs b → GoesFor Nobody a.core b.core
    steps_on a b xs are = steps_go (ClientStep Between log) core_there reply_of (λ at. ⊤) step_goes a b xs are

    stretch_by : (reply : Reply) (front : List (StepMade Told)) (z : StepMade Told) (last : ClientAt) → AreSteps (ClientStep Between log) (client_at asker from.core) (front ++ z ∷ []) last →
        AllByRecursion (λ (step : StepMade Told). reply_of step.result ≡ None) front → reply_of z.result ≡ Some (Ok reply) → GoesFor Nobody last.core next → AllByRecursion IsTimed (calls_of (front ++ z ∷ [])) →
        Stretch from text next (calls_of (front ++ z ∷ [])) reply last
    stretch_by reply [] z last are going end later timed =
        let on : GoesFor Nobody are.0.core next = subst (λ (a : ClientAt). GoesFor Nobody a.core next) are.2 later in
        first_stretch z are.0 are.1 on reply last are.2 timed end
    stretch_by reply (y ∷ front) z last are going end later timed =
        let on = goes_then are.0.core last.core next (steps_on are.0 last (front ++ z ∷ []) are.2) later in
        search_stretch y are.0 are.1 on reply front z last going.0 are.2 going.1 end later

    pub stretch : (reply : Reply) (steps : List (StepMade Told)) (last : ClientAt) → AreSteps (ClientStep Between log) (client_at asker from.core) steps last →
        IsLastEnd (λ (step : StepMade Told). reply_of step.result) steps (Ok reply) → GoesFor Nobody last.core next → AllByRecursion IsTimed (calls_of steps) → Stretch from text next (calls_of steps) reply last
    stretch reply steps last are ended later timed =
        let P : List (StepMade Told) → Type 0 = λ l. AreSteps (ClientStep Between log) (client_at asker from.core) l last in
        let Q : List (StepMade Told) → Type 0 = λ l. AllByRecursion IsTimed (calls_of l) in
        let R : List (StepMade Told) → Type 0 = λ l. Stretch from text next (calls_of l) reply last in
        subst R (sym ended.are) (stretch_by reply ended.front ended.last last (subst P ended.are are) ended.going ended.ends later (subst Q ended.are timed))

  -- its steps only let the index go on
  pub request_goes : (from to : ClientAt) (xs : List (StepMade Told)) → AreSteps (ClientStep Between log) from xs to → GoesFor Nobody from.core to.core
  request_goes from to xs are = steps_go (ClientStep Between log) core_there reply_of (λ at. ⊤) (λ a x b s. s.goes_on) from to xs are
