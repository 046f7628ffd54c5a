-- What the clients of a searcher were replied.
use Rattle.std.proofs.Common.{◌≡◌, ℕ, ◌≤◌, Bool, true, false, List, [], ◌∷◌, ◌++◌, length, map, take, sym, ap, ◌∙◌, subst, append-nil, arith}
use Rattle.std.proofs.lemmas.List.{length-map}
use Rattle.std.specs.List.{AllByRecursion, AllZip}
use Rattle.std.specs.Prelude.{flat_map, Some, Result, Ok, Err, IsErr, IsOk, MatchBool, ⊤}
use Rattle.std.specs.declared.alloc.AllocError.{AllocError}
use Rattle.byte_fields.specs.Causes.{last_count}
use Rattle.index_config.specs.declared.config.IndexConfig.{IndexConfig}
use Rattle.source_log.specs.Log.{Log}
use Rattle.index_world.specs.CallsMade.{CallMade}
use Rattle.index_world.specs.Core.{Core, IsConfigured, Nobody}
use Rattle.index_world.specs.Gate.{IsSoundCore}
use Rattle.index_world.specs.Ran.{AreSteps, StepMade, calls_of}
use Rattle.index_world.specs.World.{GoesFor}
use Rattle.index_world.proofs.Ran.{goes_then, steps_go}
use Rattle.search_api.specs.declared.reply.Reply.{Reply}
use Rattle.root_search.specs.AnswerAll.{ClientAt, ClientDid, ClientStep, RequestStep, Told, client_at, core_there, with_text}
use Rattle.root_search.specs.AnswerAll as answering
use Rattle.root_search.specs.Replied.{AreReplied, AsksTexts, IsTimed}
use Rattle.root_search.specs.Searching.{new_client}
use Rattle.root_search.specs.Steps.{Client}
use Rattle.root_search.specs.declared.searcher.Searcher.{Searcher}
use Rattle.root_search.proofs.Replied.{did_all, did_reply}
use Rattle.root_search.proofs.Stretches.{longer}
use Rattle.thread_run.specs.Clients.{ClientsDid, Served, ServedDid, ServesOne}
use Rattle.thread_run.specs.declared.serving.Answered.{Answered}
use Rattle.run_plan.specs.declared.clients.Asking.{Asking}
use Rattle.thread_run.specs.Meanwhile.{IsBefore}
use Rattle.thread_run.specs.SearcherReplies.{ClientAnswered, RiseBetween, SearcherAnswered, deleted_at}
use Rattle.thread_run.proofs.Lists.{all_back, all_front, whole_front}
use Rattle.thread_run.proofs.Replies.{client_replies}
use Rattle.thread_run.proofs.Rising.{replies_rise, rise_from, rise_on, rise_to}

-- ---- while a client was served the index went on

module _ (Between : Core → Core → Type 0) (log : Log) where
  request_goes : (from : ClientAt) (step : StepMade answering.Answered) (to : ClientAt) → RequestStep Between log from step to → GoesFor Nobody from.core to.core
  request_goes from step to r =
      goes_then from.core r.last.core to.core
      (steps_go (ClientStep Between log) core_there (λ (told : Told). Some told) (λ at. ⊤) (λ a x b s. s.goes_on) (client_at (with_text step.result.text from.client) from.core) r.last r.steps r.are) r.goes_on

  pub client_goes : (texts : List (List ℕ)) (replies : List Reply) (result : Result (Unit {0}) AllocError) (searcher : Searcher) (client : Client) (core : Core) (made : List CallMade) (after : Core) →
      ClientDid Between log texts replies result searcher client core made after → GoesFor Nobody core after
  client_goes texts replies result searcher client core made after d =
      goes_then core d.last.core after (steps_go (RequestStep Between log) core_there (λ (r : answering.Answered). Some r.text) (λ at. ⊤) request_goes (client_at client core) d.last d.requests d.are) d.goes_on

  serve_goes : (core : Core) (step : StepMade Served) (next : Core) → ServesOne Between log core step next → GoesFor Nobody core next
  serve_goes core step next s =
      let asked = step.result.asked in
      let given = step.result.given in
      client_goes asked.texts.items given.replies.items s.result s.searcher (new_client asked.client) core step.made next s.did

  pub served_go : (core last : Core) (served : List (StepMade Served)) → AreSteps (ServesOne Between log) core served last → GoesFor Nobody core last
  served_go core last served are = steps_go (ServesOne Between log) (λ (c : Core). c) (λ (s : Served). Some s.asked) (λ c. ⊤) serve_goes core last served are

false_true : false ≡ true → ⊥
false_true e = cc

-- From the first core to the last, behind which the journal went on up to the exit.
module _ (config : IndexConfig) (log : Log) (Between : Core → Core → Type 0) (goes : (one other : Core) → Between one other → GoesFor Nobody one other) (first last exit : Core)
    (sound : IsSoundCore first log) (configured : IsConfigured config first) (ends : IsSoundCore last log) (count : last.store_faults ≤ last_count) (texts_are : AsksTexts config)
    (on : IsBefore last exit) where
  abbrev OneAnswered : Asking → Answered → Type 0
  OneAnswered asking answered = ClientAnswered config log exit.history (length first.history) first exit asking answered

  client_are : (asking : Asking) (answered : Answered) (core : Core) (made : List CallMade) (after : Core) → GoesFor Nobody first core → GoesFor Nobody after last → AllByRecursion IsTimed made →
      ServedDid Between log asking answered core made after → AreReplied config log last.history asking.client 0 core asking.texts.items answered.replies.items made after
  client_are asking answered core made after to_core to_last timed s =
      did_reply Between goes config log asking.texts.items answered.replies.items s.result s.searcher (new_client asking.client) first core after last made sound configured to_core to_last ends count texts_are (omega arith) timed s.did

  pub client_answered : (asking : Asking) (answered : Answered) (core : Core) (made : List CallMade) (after : Core) → GoesFor Nobody first core → GoesFor Nobody after last → AllByRecursion IsTimed made →
      ServedDid Between log asking answered core made after → OneAnswered asking answered
  client_answered asking answered core made after to_core to_last timed s =
      let name = asking.client in
      let texts = asking.texts.items in
      let replies = answered.replies.items in
      let are = client_are asking answered core made after to_core to_last timed s in
      record {
        client = s.client;
        replies = client_replies config log first last exit on name 0 core texts replies made after to_core to_last are;
        all = λ whole. by s.result (subst (λ b. MatchBool b (IsErr s.result) (IsOk s.result)) whole s.short) s.did;
      }
    where
      by : (r : Result (Unit {0}) AllocError) → IsOk r → ClientDid Between log asking.texts.items answered.replies.items r s.searcher (new_client asking.client) core made after →
          length answered.replies.items ≡ length asking.texts.items
      by (Ok done) ok did = did_all Between log asking.texts.items answered.replies.items s.searcher (new_client asking.client) core after made did
      by (Err short) ok did = absurd (false_true ok)

  abbrev asked_in : List (StepMade Served) → List Asking
  asked_in served = map (λ (step : StepMade Served). step.result.asked) served

  abbrev given_in : List (StepMade Served) → List Answered
  given_in served = map (λ (step : StepMade Served). step.result.given) served

  served_each : (core here : Core) (served : List (StepMade Served)) → AreSteps (ServesOne Between log) core served here → GoesFor Nobody first core → GoesFor Nobody here last → AllByRecursion IsTimed (calls_of served) →
      AllZip OneAnswered (asked_in served) (given_in served)
  served_each core here [] are to_core to_last timed = tt
  served_each core here (step ∷ more) are to_core to_last timed =
      let next = are.0 in
      let rest = served_go Between log next here more are.2 in
      let one = serve_goes Between log core step next are.1 in (
        client_answered step.result.asked step.result.given core step.made next to_core (goes_then next here last rest to_last) (all_front IsTimed step.made (calls_of more) timed) are.1,
        served_each next here more are.2 (goes_then first core next to_core one) to_last (all_back IsTimed step.made (calls_of more) timed),
      )

  -- the revisions of all their deletes rise
  abbrev deletes_in : List Answered → List ℕ
  deletes_in answered = flat_map (λ (one : Answered). deleted_at one.replies.items) answered

  served_rise : (core here : Core) (served : List (StepMade Served)) → AreSteps (ServesOne Between log) core served here → GoesFor Nobody first core → GoesFor Nobody here last → AllByRecursion IsTimed (calls_of served) →
      RiseBetween (length core.history) (deletes_in (given_in served)) (length here.history)
  served_rise core here [] are to_core to_last timed = let same = ap (λ (c : Core). length c.history) are in omega (arith, same)
  served_rise core here (step ∷ more) are to_core to_last timed =
      let next = are.0 in
      let asking = step.result.asked in
      let given = step.result.given in
      let rest = served_go Between log next here more are.2 in
      let one = serve_goes Between log core step next are.1 in
      let own = client_are asking given core step.made next to_core (goes_then next here last rest to_last) (all_front IsTimed step.made (calls_of more) timed) are.1 in
      rise_on (length core.history) (length next.history) (length here.history) (deleted_at given.replies.items) (deletes_in (given_in more))
      (replies_rise config log last.history asking.client 0 core asking.texts.items given.replies.items step.made next own)
      (served_rise next here more are.2 (goes_then first core next to_core one) to_last (all_back IsTimed step.made (calls_of more) timed))

  -- ALL CLIENTS OF A SEARCHER
  pub searcher_answered : (askings : List Asking) (answered : List Answered) (short : Bool) (result : Result (Unit {0}) AllocError) (core : Core) (made : List CallMade) (after : Core) → GoesFor Nobody first core → GoesFor Nobody after last →
      AllByRecursion IsTimed made → MatchBool short (IsErr result) (IsOk result) → ClientsDid Between log askings answered result core made after →
      SearcherAnswered config log exit.history (length first.history) first exit askings answered short
  searcher_answered askings answered short result core made after to_core to_last timed is d =
      let calls = subst (AllByRecursion IsTimed) d.calls timed in
      let each = served_each core d.last d.served d.are to_core (goes_then d.last after last d.goes_on to_last) calls in
      let as_many : length (asked_in d.served) ≡ length answered = length-map d.served (λ (step : StepMade Served). step.result.asked) ∙ (sym (length-map d.served (λ (step : StepMade Served). step.result.given)) ∙ ap length (sym d.given)) in
      let front : take (length answered) askings ≡ asked_in d.served = ap (take (length answered)) d.asked ∙ whole_front (asked_in d.served) d.rest (length answered) as_many in
      record {
        each = subst (λ (l : List Asking). AllZip OneAnswered l answered) (sym front) (subst (λ (l : List Answered). AllZip OneAnswered (asked_in d.served) l) (sym d.given) each);
        all = λ whole.
            let none = d.whole (subst (λ b. MatchBool b (IsErr result) (IsOk result)) whole is) in
            sym (ap length (d.asked ∙ (ap (λ (l : List Asking). asked_in d.served ++ l) none ∙ append-nil (asked_in d.served))) ∙ as_many);
        apart =
            let down = longer first.history core.history to_core.grown in
            let up = goes_then d.last after last d.goes_on to_last in
            let most = longer d.last.history last.history up.grown in
            let later = longer last.history exit.history on.grown in
            let rises = served_rise core d.last d.served d.are to_core up calls in
            subst (λ (l : List Answered). RiseBetween (length first.history) (deletes_in l) (length exit.history)) (sym d.given)
            (rise_from (length first.history) (length core.history) (length exit.history) (deletes_in (given_in d.served)) down
            (rise_to (length core.history) (length d.last.history) (length exit.history) (deletes_in (given_in d.served)) (omega (arith, most, later)) rises));
      }
