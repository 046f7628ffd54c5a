-- The requests of a client, each by its own stretch.
use Rattle.std.proofs.Common.{◌≡◌, ℕ, ◌≤◌, List, [], ◌∷◌, ◌++◌, length, refl, sym, ap, ◌∙◌, subst, append-nil, arith}
use Rattle.std.specs.List.{AllByRecursion}
use Rattle.std.specs.Prelude.{Some, Result, Ok, Err, ⊤}
use Rattle.std.specs.declared.alloc.AllocError.{AllocError}
use Rattle.byte_fields.specs.Causes.{last_count}
use Rattle.index_config.specs.declared.config.IndexConfig.{IndexConfig}
use Rattle.meta_journal.specs.declared.entry.Entry.{Entry}
use Rattle.meta_store.specs.History.{history}
use Rattle.meta_store.specs.State.{Legal}
use Rattle.source_log.specs.Log.{Log}
use Rattle.index_world.specs.CallsMade.{CallMade}
use Rattle.index_world.specs.Config.{reads}
use Rattle.index_world.specs.Core.{Core, IsConfigured, Nobody}
use Rattle.index_world.specs.Gate.{IsSoundCore}
use Rattle.index_world.specs.Ran.{AreSteps, IsLastEnd, StepMade, calls_of}
use Rattle.index_world.specs.World.{GoesFor}
use Rattle.index_world.proofs.Ran.{goes_then, steps_go}
use Rattle.search_api.specs.declared.reply.Reply.{Reply}
use Rattle.root_search.specs.AnswerAll.{Answered, AnswersAll, AreReplies, ClientAt, ClientDid, ClientStep, RequestStep, Told, client_at, core_there, reply_of, with_text}
use Rattle.root_search.specs.Steps.{Client}
use Rattle.root_search.specs.declared.searcher.Searcher.{Searcher}
use Rattle.root_search.proofs.Rows.{world_legal}
use Rattle.root_search.proofs.Stands.{configured_is}
use Rattle.root_search.specs.Replied.{AreReplied, AsksTexts, IsTimed, NeverFall}
use Rattle.root_search.proofs.NextReplies.{Begins, begins_on}
use Rattle.root_search.proofs.Stretches.{Starts, Stretch, request_goes, stretch, under}

all_front : {X : Type 0} (P : X → Type 0) (xs ys : List X) → AllByRecursion P (xs ++ ys) → AllByRecursion P xs
all_front P [] ys a = tt
all_front P (x ∷ xs) ys a = (a.0, all_front P xs ys a.1)

all_back : {X : Type 0} (P : X → Type 0) (xs ys : List X) → AllByRecursion P (xs ++ ys) → AllByRecursion P ys
all_back P [] ys a = a
all_back P (x ∷ xs) ys a = all_back P xs ys a.1

-- as many replies as texts
pub replies_each : (steps : List (StepMade Answered)) (texts : List (List ℕ)) (replies : List Reply) → AreReplies steps texts replies → length replies ≡ length texts
replies_each [] [] [] are = refl
replies_each [] [] (reply ∷ replies) are = absurd are
replies_each [] (text ∷ texts) replies are = absurd are
replies_each (step ∷ steps) [] replies are = absurd are
replies_each (step ∷ steps) (text ∷ texts) [] are = absurd are
replies_each (step ∷ steps) (text ∷ texts) (reply ∷ replies) are = let e = replies_each steps texts replies are.2 in omega (arith, e)

module _ (Between : Core → Core → Type 0) (goes : (one other : Core) → Between one other → GoesFor Nobody one other) (log : Log) (config : IndexConfig) (after end : Core) (to_end : GoesFor Nobody after end) (legal : Legal reads (history end.history)) (texts_are : AsksTexts config)
    (count : end.store_faults ≤ last_count) where
  abbrev exit : List Entry
  exit = end.history

  abbrev Begun : ClientAt → Type 0
  Begun at = Starts Between goes log config exit legal texts_are at

  one_goes : (from : ClientAt) (step : StepMade Answered) (to : ClientAt) → RequestStep Between log from step to → GoesFor Nobody from.core to.core
  one_goes from step to r =
      goes_then from.core r.last.core to.core (request_goes Between goes log config exit legal texts_are (client_at (with_text step.result.text from.client) from.core) r.last r.steps r.are) r.goes_on

  all_go : (from to : ClientAt) (xs : List (StepMade Answered)) → AreSteps (RequestStep Between log) from xs to → GoesFor Nobody from.core to.core
  all_go from to xs are = steps_go (RequestStep Between log) core_there (λ (r : Answered). Some r.text) (λ at. ⊤) one_goes from to xs are

  -- those behind the last reply
  none_more : (name : List ℕ) (front : ℕ) (core : Core) (rest : List (List ℕ)) (made : List CallMade) → GoesFor Nobody core after → AreReplied config log exit name front core rest [] made after
  none_more name front core [] made on = on
  none_more name front core (text ∷ rest) made on = on

  module _ (from : ClientAt) (starts : Begun from) (step : StepMade Answered) (to : ClientAt) (r : RequestStep Between log from step to) (later : GoesFor Nobody to.core after) (text : List ℕ) (reply : Reply)
      (asked : step.result.text ≡ text) (answered : step.result.result ≡ Ok reply) (timed : AllByRecursion IsTimed step.made) where
    own_stretch : Stretch Between goes log config exit legal texts_are from text to.core step.made reply r.last
    own_stretch =
        let P : List CallMade → Type 0 = λ l. AllByRecursion IsTimed l in
        let Q : List CallMade → Type 0 = λ l. Stretch Between goes log config exit legal texts_are from text to.core l reply r.last in
        let T : List ℕ → Type 0 = λ t. AreSteps (ClientStep Between log) (client_at (with_text t from.client) from.core) r.steps r.last in
        let E : Result Reply AllocError → Type 0 = λ result. IsLastEnd (λ (s : StepMade Told). reply_of s.result) r.steps result in
        subst Q (sym r.calls) (stretch Between goes log config exit legal texts_are from starts text to.core (begins_on to.core.history after.history exit later.grown to_end.grown) reply r.steps r.last (subst T asked r.are) (subst E answered r.ended) r.goes_on (subst P r.calls timed))

    next_starts : Begun to
    next_starts =
        let w = own_stretch in
        let ends = w.replied.ends in
        let same = ap (λ (c : Client). c.front) r.same ∙ w.front_is in
        let faults = later.faults in
        let more = to_end.faults in
        record {
          config_is = under from.core.history to.core.history exit config (one_goes from step to r).grown (begins_on to.core.history after.history exit later.grown to_end.grown) legal starts.config_is;
          front = omega (arith, same, ends);
          count = omega (arith, faults, more, count);
        }

    next_name : to.client.name ≡ from.client.name
    next_name = ap (λ (c : Client). c.name) r.same ∙ own_stretch.name_is

    next_front : to.client.front ≡ reply.revision
    next_front = ap (λ (c : Client). c.front) r.same ∙ own_stretch.front_is

  -- EACH REQUEST, one behind the other
  pub replied_each : (answered begun : List (StepMade Answered)) (first rest : List (List ℕ)) (replies : List Reply) (from last : ClientAt) → AreSteps (RequestStep Between log) from (answered ++ begun) last →
      AreReplies answered first replies → Begun from → GoesFor Nobody last.core after → AllByRecursion IsTimed (calls_of (answered ++ begun)) →
      AreReplied config log exit from.client.name from.client.front from.core (first ++ rest) replies (calls_of (answered ++ begun)) after
  replied_each [] begun [] rest [] from last are replies_are starts on timed = none_more from.client.name from.client.front from.core rest (calls_of begun) (goes_then from.core last.core after (all_go from last begun are) on)
  replied_each [] begun [] rest (reply ∷ replies) from last are replies_are starts on timed = absurd replies_are
  replied_each [] begun (text ∷ first) rest replies from last are replies_are starts on timed = absurd replies_are
  replied_each (step ∷ answered) begun [] rest replies from last are replies_are starts on timed = absurd replies_are
  replied_each (step ∷ answered) begun (text ∷ first) rest [] from last are replies_are starts on timed = absurd replies_are
  replied_each (step ∷ answered) begun (text ∷ first) rest (reply ∷ replies) from last are replies_are starts on timed =
      let to = are.0 in
      let more = calls_of (answered ++ begun) in
      let later = goes_then to.core last.core after (all_go to last (answered ++ begun) are.2) on in
      let own_timed = all_front IsTimed step.made more timed in
      let w = own_stretch from starts step to are.1 later text reply replies_are.0 replies_are.1 own_timed in
      let others = replied_each answered begun first rest replies to last are.2 replies_are.2 (next_starts from starts step to are.1 later text reply replies_are.0 replies_are.1 own_timed) on (all_back IsTimed step.made more timed) in
      let P : List ℕ → Type 0 = λ name. AreReplied config log exit name to.client.front to.core (first ++ rest) replies more after in
      let Q : ℕ → Type 0 = λ front. AreReplied config log exit from.client.name front to.core (first ++ rest) replies more after in
      (to.core, step.made, more, refl, w.replied, subst Q (next_front from starts step to are.1 later text reply replies_are.0 replies_are.1 own_timed) (subst P (next_name from starts step to are.1 later text reply replies_are.0 replies_are.1 own_timed) others))

-- WHAT A CLIENT WAS REPLIED
pub did_reply : (Between : Core → Core → Type 0) → ((one other : Core) → Between one other → GoesFor Nobody one other) → (config : IndexConfig) (log : Log) (texts : List (List ℕ)) (replies : List Reply) (result : Result (Unit {0}) AllocError) (searcher : Searcher) (client : Client) (first core after end : Core) (made : List CallMade) →
    IsSoundCore first log → IsConfigured config first → GoesFor Nobody first core → GoesFor Nobody after end → IsSoundCore end log → end.store_faults ≤ last_count → AsksTexts config → client.front ≤ length core.history →
    AllByRecursion IsTimed made → ClientDid Between log texts replies result searcher client core made after → AreReplied config log end.history client.name client.front core texts replies made after
did_reply Between goes config log texts replies result searcher client first core after end made sound configured to_core to_end ends count texts_are front timed did =
    let going = all_go Between goes log config after end to_end legal texts_are count (client_at client core) did.last did.requests did.are in
    let all = goes_then core did.last.core after going did.goes_on in
    let here : Begins core.history end.history = begins_on core.history after.history end.history all.grown to_end.grown in
    let starts : Starts Between goes log config end.history legal texts_are (client_at client core) =
    record {
      config_is = under first.history core.history end.history config to_core.grown here legal (configured_is first log config sound configured);
      front = front;
      count = (let faults = all.faults in let more = to_end.faults in omega (arith, faults, more, count));
    } in
    let P : List CallMade → Type 0 = λ calls. AreReplied config log end.history client.name client.front core texts replies calls after in
    subst P (sym did.calls) (by result did.answers starts)
  where
    legal : Legal reads (history end.history)
    legal = world_legal ends.kept end log ends.world

    timed_all : AllByRecursion IsTimed (calls_of did.requests)
    timed_all = subst (AllByRecursion IsTimed) did.calls timed

    by : (r : Result (Unit {0}) AllocError) → AnswersAll did.requests texts replies r → Starts Between goes log config end.history legal texts_are (client_at client core) →
        AreReplied config log end.history client.name client.front core texts replies (calls_of did.requests) after
    by (Ok done) answers starts =
        let P : List (StepMade Answered) → Type 0 = λ steps. AreReplied config log end.history client.name client.front core texts replies (calls_of steps) after in
        let Q : List (List ℕ) → Type 0 = λ l. AreReplied config log end.history client.name client.front core l replies (calls_of (did.requests ++ [])) after in
        let same = append-nil did.requests in
        let are = subst (λ (l : List (StepMade Answered)). AreSteps (RequestStep Between log) (client_at client core) l did.last) (sym same) did.are in
        let timed_so = subst (λ (l : List (StepMade Answered)). AllByRecursion IsTimed (calls_of l)) (sym same) timed_all in
        subst P same (subst Q (append-nil texts) (replied_each Between goes log config after end to_end legal texts_are count did.requests [] texts [] replies (client_at client core) did.last are answers starts did.goes_on timed_so))
    by (Err short) (answered, front_texts, rest, begun, steps_are, texts_are_so, answers, more) starts =
        let P : List (StepMade Answered) → Type 0 = λ steps. AreReplied config log end.history client.name client.front core texts replies (calls_of steps) after in
        let Q : List (List ℕ) → Type 0 = λ l. AreReplied config log end.history client.name client.front core l replies (calls_of (answered ++ begun)) after in
        let are = subst (λ (l : List (StepMade Answered)). AreSteps (RequestStep Between log) (client_at client core) l did.last) steps_are did.are in
        let timed_so = subst (λ (l : List (StepMade Answered)). AllByRecursion IsTimed (calls_of l)) steps_are timed_all in
        subst P (sym steps_are) (subst Q (sym texts_are_so) (replied_each Between goes log config after end to_end legal texts_are count answered begun front_texts rest replies (client_at client core) did.last are answers starts did.goes_on timed_so))

-- and where there was memory, each text
pub did_all : (Between : Core → Core → Type 0) (log : Log) (texts : List (List ℕ)) (replies : List Reply) (searcher : Searcher) (client : Client) (core after : Core) (made : List CallMade) →
    ClientDid Between log texts replies (Ok tt) searcher client core made after → length replies ≡ length texts
did_all Between log texts replies searcher client core after made did = replies_each did.requests texts replies did.answers

pub never_fall : (config : IndexConfig) (log : Log) (exit : List Entry) (name : List ℕ) (front : ℕ) (core after : Core) (texts : List (List ℕ)) (replies : List Reply) (made : List CallMade) →
    AreReplied config log exit name front core texts replies made after → NeverFall front replies
never_fall config log journal name front core after texts [] made are = tt
never_fall config log journal name front core after [] (reply ∷ replies) made are = absurd are
never_fall config log journal name front core after (text ∷ texts) (reply ∷ replies) made (next, own, more, same, replied, others) =
    (replied.front, never_fall config log journal name reply.revision next after texts replies more others)
