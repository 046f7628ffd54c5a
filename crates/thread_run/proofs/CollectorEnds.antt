-- What the end of a collector says of the journal at the exit.
use Rattle.std.proofs.Common.{◌≡◌, ◌⊎◌, inl, inr, ℕ, ◌+◌, ◌<◌, ◌≤◌, Bool, true, false, List, [], ◌∷◌, ◌++◌, find, length, take, drop, refl, sym, ap, ◌∙◌, subst, arith}
use Rattle.std.proofs.lemmas.List.{length-append, take-append-drop, take-take}
use Rattle.std.specs.List.{AllByRecursion}
use Rattle.std.specs.Prelude.{IsSome, MatchOption, Option, Some, None, Result, Ok, Err, ⊤}
use Rattle.byte_fields.specs.Causes.{last_count}
use Rattle.index_config.specs.declared.config.IndexConfig.{IndexConfig}
use Rattle.meta_journal.specs.declared.entry.Entry.{Entry}
use Rattle.meta_store.specs.History.{history, last_number, moment_of}
use Rattle.meta_store.specs.Rows.{rows}
use Rattle.meta_store.specs.State.{Legal}
use Rattle.meta_store.specs.declared.refusal.Refusal.{Refusal}
use Rattle.source_log.specs.Log.{Log}
use Rattle.split_states.specs.Due.{stale_rows}
use Rattle.split_states.specs.declared.rows.Row.{Row}
use Rattle.index_world.specs.Calls.{Fate, Fault, is_foreign, is_full, is_expired, Trouble, faulted, no_memory, Unmade, refused, troubled, answer_behind, asked_clock, asking, entry_of, troubled_by}
use Rattle.index_world.specs.CallsMade.{Ask, CallMade, IsRecorded, made_of}
use Rattle.index_world.specs.Collecting.{config_taken, doom_call, doom_next, doomed_by, is_left, list_call, mark_stale_call, marks_offer, may_go_by, next_doomed, removal_of, remove_call}
use Rattle.index_world.specs.Config.{reads}
use Rattle.index_world.specs.Configuration.{config_or, configuration}
use Rattle.index_world.specs.Core.{Core, Nobody}
use Rattle.index_world.specs.DirectLaws.{stays_as_is}
use Rattle.index_world.specs.Gate.{IsTrouble, IsUnmade}
use Rattle.index_world.specs.Ran.{AreSteps, IsCause, IsCaused, StepMade, calls_of}
use Rattle.index_world.specs.World.{GoesFor}
use Rattle.index_world.specs.declared.world_error.WorldError.{WorldError}
use Rattle.index_world.specs.declared.world_error.WorldError.TheVariants as errors
use Rattle.split_collector.specs.CollectAll.{CollectorDid, CollectorStep, end_of}
use Rattle.split_collector.specs.Ending.{Told}
use Rattle.split_collector.specs.Idle.{HadNothing}
use Rattle.split_collector.specs.Idle as idle
use Rattle.split_collector.specs.Outcomes.{Outcome, Nothing, Refused}
use Rattle.split_collector.specs.Standing.{Answers}
use Rattle.split_collector.specs.Steps.{ArePassed, AreRecorded, Passage, Stand, ask_at, failed_with, least_left, outcomes, page_by, ran, stand, turned}
use Rattle.split_collector.specs.Turns.{Turn, behind_doom, behind_list, behind_mark, behind_remove, ended, next_behind, page_turn, to_doom, to_list, to_mark, to_remove}
use Rattle.split_collector.specs.declared.collecting.CollectorEnd.{CollectorEnd}
use Rattle.split_collector.specs.declared.collecting.CollectorEnd.TheVariants as ends
use Rattle.split_collector.specs.declared.outcome.CollectorOutcome.TheVariants as said
use Rattle.split_collector.proofs.Idling.{nothing_done}
use Rattle.split_collector.proofs.Least.{none_found}
use Rattle.call_laws.proofs.CallTells.{IsLowCore}
use Rattle.root_search.proofs.NextReplies.{begins_on, begins_same}
use Rattle.root_search.proofs.Stretches.{under}
use Rattle.thread_run.specs.Ends.{Collected, CollectorEnded, FaultsCollector, GaveNone, IsMet, Listing, NoneDoomed, NoneReleased, NoneStale}
use Rattle.thread_run.specs.Meanwhile.{IsBefore, IsCalled}
use Rattle.thread_run.proofs.CollectorSteps.{Mets, Says, TurnSays, all_met, marks_call, ran_says, removes_call}
use Rattle.thread_run.proofs.CollectorWorks.{steps_did}
use Rattle.thread_run.proofs.LastSteps.{LastStep, all_going, ends_last, works_go}
use Rattle.thread_run.proofs.Lists.{all_back}
use Rattle.thread_run.proofs.OfferSteps.{FullAt}
use Rattle.thread_run.proofs.Replies.{cause_wider}

-- ---- what an answer of the code is

nothing_told : (told : Told) → end_of told ≡ Some ends.Nothing → told ≡ Ok said.Nothing
nothing_told (Ok (said.MarkedStale count)) e = absurd cc
nothing_told (Ok (said.Doomed number)) e = absurd cc
nothing_told (Ok (said.Removed count)) e = absurd cc
nothing_told (Ok (said.Swept number)) e = absurd cc
nothing_told (Ok said.Nothing) e = refl
nothing_told (Ok (said.Fault error)) e = absurd cc
nothing_told (Err short) e = absurd cc

fault_told : (told : Told) (error : WorldError) → end_of told ≡ Some (ends.Fault error) → told ≡ Ok (said.Fault error)
fault_told (Ok (said.MarkedStale count)) error e = absurd cc
fault_told (Ok (said.Doomed number)) error e = absurd cc
fault_told (Ok (said.Removed count)) error e = absurd cc
fault_told (Ok (said.Swept number)) error e = absurd cc
fault_told (Ok said.Nothing) error e = absurd cc
fault_told (Ok (said.Fault other)) error e = let same : other ≡ error = cc in ap (λ x. Ok (said.Fault x)) same
fault_told (Err short) error e = absurd cc

-- the turns are used up by no answer
never_turns : (told : Told) → end_of told ≡ Some ends.Turns → ⊥
never_turns (Ok (said.MarkedStale count)) e = cc
never_turns (Ok (said.Doomed number)) e = cc
never_turns (Ok (said.Removed count)) e = cc
never_turns (Ok (said.Swept number)) e = cc
never_turns (Ok said.Nothing) e = cc
never_turns (Ok (said.Fault error)) e = cc
never_turns (Err short) e = cc

-- an answer that is no end has an outcome
going_some : (told : Told) (outcome : Option Outcome) → end_of told ≡ None → Answers told outcome → outcome ≡ None → ⊥
going_some (Ok given) None e a none = a
going_some (Ok given) (Some outcome) e a none = cc
going_some (Err short) outcome e a none = cc

-- why it failed
record IsFault (error : WorldError) (outcome : Option Outcome) : Type 0 where
  said_is : Outcome
  is : outcome ≡ Some said_is
  unmade : Unmade
  of : IsUnmade error unmade
  failed : failed_with unmade ≡ Some said_is

fault_is : (error : WorldError) (outcome : Option Outcome) → Answers (Ok (said.Fault error)) outcome → IsFault error outcome
fault_is error None a = absurd a
fault_is error (Some outcome) a = record { said_is = outcome; is = refl; unmade = a.0; of = a.1; failed = a.2 }

nothing_is : (outcome : Option Outcome) → Answers (Ok said.Nothing) outcome → outcome ≡ Some Nothing
nothing_is None a = absurd a
nothing_is (Some outcome) a = ap (λ o. Some o) a

-- ---- a core that had nothing

marks_none : (numbers : List ℕ) → marks_offer numbers ≡ None → numbers ≡ []
marks_none [] e = refl
marks_none (n ∷ numbers) e = absurd cc

removal_none : (numbers : List ℕ) → removal_of numbers ≡ None → numbers ≡ []
removal_none [] e = refl
removal_none (n ∷ numbers) e = absurd cc

doomed_some : (number : ℕ) (r : Result ⊤ Trouble) (core : Core) → (doomed_by number r core).answer ≡ Ok None → ⊥
doomed_some number (Ok done) core e = cc
doomed_some number (Err trouble) core e = cc

doom_none : (fate : Fate) (core : Core) → (doom_call fate core).answer ≡ Ok None → next_doomed (doom_call fate core).core ≡ None
doom_none fate core = by fate.unasked
  where
    next : (row : Option Row) (c : Core) → next_doomed c ≡ row → (doom_next row fate.first c).answer ≡ Ok None → next_doomed (doom_next row fate.first c).core ≡ None
    next None c is e = is
    next (Some row) c is e = absurd (doomed_some row.number _ _ e)

    by : (unasked : Bool) → (asking unasked no_memory core (λ c. doom_next (next_doomed c) fate.first c)).answer ≡ Ok None → next_doomed (asking unasked no_memory core (λ c. doom_next (next_doomed c) fate.first c)).core ≡ None
    by true e = absurd cc
    by false e = next (next_doomed (asked_clock core)) (asked_clock core) refl e

none_least : (core : Core) (behind end : Option (List ℕ)) → ((n : ℕ) → is_left core behind end n ≡ false) → least_left behind end core ≡ None
none_least core behind end none = none_found (is_left core behind end) 1 (last_number (history core.history)) (λ n e. let wrong : false ≡ true = sym (none n) ∙ e in absurd (cc))

-- ---- the steps

doom_no_end : ◌≡◌ {A = Turn (Option Outcome)} to_doom (ended None) → ⊥
doom_no_end e = cc

remove_no_end : ◌≡◌ {A = Turn (Option Outcome)} to_remove (ended None) → ⊥
remove_no_end e = cc

list_no_end : (behind : Option (List ℕ)) → ◌≡◌ {A = Turn (Option Outcome)} (to_list behind) (ended None) → ⊥
list_no_end behind e = cc

ended_other : (o : Outcome) → ◌≡◌ {A = Turn (Option Outcome)} (ended (Some o)) (ended None) → ⊥
ended_other o e = cc

ended_asks : (outcome : Option Outcome) → IsSome (ask_at (ended outcome)) → ⊥
ended_asks outcome asks = cc

or_met : {M X : Type 0} → (X → ⊥) → X ⊎ M → M
or_met never (inl x) = absurd (never x)
or_met never (inr m) = m

-- From the first core to the last, behind which the journal went on up to the exit.
module _ (config : IndexConfig) (log : Log) (Between : Core → Core → Type 0) (goes : (core mid : Core) → Between core mid → GoesFor Nobody core mid) (keeps_low : (core mid : Core) → Between core mid → IsLowCore core → IsLowCore mid)
    (first last exit : Core) (low_first : IsLowCore first) (some : 0 < length first.history) (configured : configuration first.history ≡ Some config) (legal_exit : Legal reads (history exit.history)) (begins : (more : List Entry) × (exit.history ≡ first.history ++ more))
    (on : IsBefore last exit) (counted : last.store_faults ≤ last_count) where
  abbrev IsMetCore : Core → Type 0
  IsMetCore core = (ask : Ask) × IsCalled first exit (made_of ask core)

  abbrev Met : Turn (Option Outcome) → List Passage → Type 0
  Met turn passages = Mets Between keeps_low first exit turn passages

  abbrev IsMetHere : Core → Type 0
  IsMetHere core = IsMet config log exit.history (length first.history) first exit core

  is_met : (core : Core) → IsMetCore core → IsMetHere core
  is_met core (ask, call) =
      record {
        front = call.front;
        seen = record { reached = (call.begins, call.ends); since = call.since; until = call.until; greatest = subst (λ (es : List Entry). moment_of (history es) ≤ core.moment) call.front call.greatest };
      }

  -- its configuration is that of the first core
  config_met : (core : Core) → IsMetCore core → config_taken core ≡ config
  config_met core (ask, call) =
      let m = length first.history in
      let n = length core.history in
      let least = call.begins in
      let firsts : take m core.history ≡ first.history = ap (take m) call.front ∙ (take-take m n exit.history least ∙ begins_same first.history exit.history begins) in
      let from : core.history ≡ first.history ++ drop m core.history = sym (take-append-drop m core.history) ∙ ap (λ (es : List Entry). es ++ drop m core.history) firsts in
      let to : exit.history ≡ core.history ++ drop n exit.history = sym (take-append-drop n exit.history) ∙ ap (λ (es : List Entry). es ++ drop n exit.history) (sym call.front) in
      ap config_or (under first.history core.history exit.history config (drop m core.history, from) (drop n exit.history, to) legal_exit configured)

  -- ---- pages

  abbrev Page : Type 0
  Page = Listing config log exit.history (length first.history) first exit

  abbrev Gave : Option (List ℕ) → List Page → Type 0
  Gave behind pages = GaveNone config log exit.history (length first.history) first exit behind pages

  -- a page that gave none, by whether it was the last one
  one_page : (behind next : Option (List ℕ)) (left : Core) (more : List Passage) → ((page_turn outcomes None next ≡ ended None) ⊎ IsMetCore left) × Met (page_turn outcomes None next) more →
      MatchOption next (more ≡ []) (λ key. idle.GaveNone (Some key) more) → ((n : ℕ) → is_left left behind next n ≡ false) →
      ((key : List ℕ) → idle.GaveNone (Some key) more → Met (to_list (Some key)) more → (pages : List Page) × Gave (Some key) pages) → (pages : List Page) × Gave behind pages
  one_page behind None left more at last_one gone further = (record { met = left; next = None } ∷ [], (is_met left (or_met (ended_other Nothing) at.0), gone, refl))
  one_page behind (Some key) left more at last_one gone further =
      let rest = further key last_one at.1 in
      (record { met = left; next = Some key } ∷ rest.0, (is_met left (or_met (list_no_end (Some key)) at.0), gone, rest.1))

  all_pages : (behind : Option (List ℕ)) (passages : List Passage) → idle.GaveNone behind passages → Met (to_list behind) passages → (pages : List Page) × Gave behind pages
  all_pages behind [] none met = absurd none
  all_pages behind (passage ∷ more) none met =
      let given = list_call passage.luck.fate passage.core in
      let next = next_behind behind passage.luck.end in
      let P : Result ⊤ Trouble → Type 0 = λ r.
      let u = troubled_by r given.core in
      let turn = behind_list outcomes (page_by behind next u.core u.answer) in
      ((turn ≡ ended None) ⊎ IsMetCore u.core) × Met turn more in
      let at_ok = subst P none.0 (met.1, met.2) in
      let Q : Option ℕ → Type 0 = λ o. let turn = page_turn outcomes o next in ((turn ≡ ended None) ⊎ IsMetCore given.core) × Met turn more in
      let at_none = subst Q (none_least given.core behind next none.1) at_ok in
      one_page behind next given.core more at_none none.2 none.1 (λ key gave behind_it. all_pages (Some key) more gave behind_it)

  -- ---- nothing to do

  module _ (passages : List Passage) (h : HadNothing passages) (met : Met to_mark passages) where
    abbrev marked : Core
    marked = (mark_stale_call h.marks.luck.fate h.marks.core).core

    abbrev doomed : Core
    doomed = (doom_call h.dooms.luck.fate h.dooms.core).core

    abbrev removed : Core
    removed = (remove_call h.removes.luck.fate h.removes.core).core

    whole : Met to_mark (h.marks ∷ (h.dooms ∷ (h.removes ∷ h.pages)))
    whole = subst (λ l. Met to_mark l) h.are met

    behind_marks : IsMetCore marked × Met to_doom (h.dooms ∷ (h.removes ∷ h.pages))
    behind_marks =
        let P : Result ℕ Unmade → Type 0 = λ r. ((behind_mark outcomes r ≡ ended None) ⊎ IsMetCore marked) × Met (behind_mark outcomes r) (h.dooms ∷ (h.removes ∷ h.pages)) in
        let there = subst P h.none_stale (whole.1, whole.2) in
        (or_met doom_no_end there.0, there.1)

    behind_dooms : IsMetCore doomed × Met to_remove (h.removes ∷ h.pages)
    behind_dooms =
        let P : Result (Option ℕ) Trouble → Type 0 = λ r.
        let u = troubled_by r doomed in
        ((behind_doom outcomes u.answer ≡ ended None) ⊎ IsMetCore u.core) × Met (behind_doom outcomes u.answer) (h.removes ∷ h.pages) in
        let there = subst P h.none_doomed (behind_marks.1.1, behind_marks.1.2) in
        (or_met remove_no_end there.0, there.1)

    behind_removes : IsMetCore removed × Met (to_list None) h.pages
    behind_removes =
        let P : Result ℕ Unmade → Type 0 = λ r. ((behind_remove outcomes r ≡ ended None) ⊎ IsMetCore removed) × Met (behind_remove outcomes r) h.pages in
        let there = subst P h.none_removed (behind_dooms.1.1, behind_dooms.1.2) in
        (or_met (list_no_end None) there.0, there.1)

    none_stale : NoneStale config log exit.history (length first.history) first exit marked
    none_stale =
        let none = marks_none _ ((marks_call h.marks.luck.fate h.marks.core whole.0).none_left h.none_stale) in
        subst (λ (c : IndexConfig). stale_rows marked.moment c.staged_grace (rows (history marked.history)) ≡ []) (config_met marked behind_marks.0) none

    none_released : NoneReleased config log exit.history (length first.history) first exit doomed
    none_released =
        let none : next_doomed doomed ≡ None = doom_none h.dooms.luck.fate h.dooms.core h.none_doomed in
        subst (λ (c : IndexConfig). find (may_go_by c.deletion_grace doomed.marks doomed.doomed doomed.moment) (rows (history doomed.history)) ≡ None) (config_met doomed behind_dooms.0) none

    none_doomed : NoneDoomed config log exit.history (length first.history) first exit removed
    none_doomed = removal_none _ ((removes_call h.removes.luck.fate h.removes.core behind_dooms.1.0).none_left h.none_removed)

    had_nothing : Collected config log exit.history (length first.history) first exit
    had_nothing =
        let pages = all_pages None h.pages h.none_left behind_removes.1 in
        record {
          marks = marked;
          marks_met = is_met marked behind_marks.0;
          none_stale = none_stale;
          dooms = doomed;
          dooms_met = is_met doomed behind_dooms.0;
          none_released = none_released;
          removes = removed;
          removes_met = is_met removed behind_removes.0;
          none_doomed = none_doomed;
          pages = pages.0;
          none_left = pages.1;
        }

  -- ---- the last call of a step

  last_met : (turn : Turn (Option Outcome)) (core : Core) (passages : List Passage) (o : Outcome) (after : Core) → IsSome (ask_at turn) → ArePassed Between turn core passages → Met turn passages →
      ran turn core passages ≡ stand (ended (Some o)) after → IsMetCore after
  last_met turn core [] o after asks passed met e =
      let same : turn ≡ ended (Some o) = ap (λ (s : Stand). s.turn) e in
      absurd (ended_asks (Some o) (subst (λ t. IsSome (ask_at t)) same asks))
  last_met turn core (passage ∷ []) o after asks passed met e =
      let left = turned turn passage.luck passage.core in
      let same : left.turn ≡ ended (Some o) = ap (λ (s : Stand). s.turn) e in
      let there = or_met (λ (none : left.turn ≡ ended None). ended_other o (sym same ∙ none)) met.1 in
      subst IsMetCore (ap (λ (s : Stand). s.core) e) there
  last_met turn core (passage ∷ next ∷ more) o after asks passed met e =
      let left = turned turn passage.luck passage.core in
      last_met left.turn left.core (next ∷ more) o after passed.3.0 passed.3 met.2 e

  -- ---- along the steps

  steps_low : (from to : Core) (steps : List (StepMade Told)) → AreSteps (CollectorStep Between) from steps to → IsLowCore from → IsLowCore to
  steps_low from to [] are low = subst IsLowCore (sym are) low
  steps_low from to (step ∷ steps) are low =
      let s = are.1 in
      let call = ran_says Between keeps_low first exit to_mark from s.passages s.passed tt low in
      steps_low are.0 to steps are.2 (subst (λ (st : Stand). IsLowCore st.core) s.did call.low)

  module _ (turns : ℕ) (made : List CallMade) (called : AllByRecursion (IsCalled first exit) made) where
    abbrev Did : CollectorEnd → Type 0
    Did end = CollectorDid Between turns end first made last

    abbrev Ended : CollectorEnd → Type 0
    Ended end = CollectorEnded config log exit.history (length first.history) first exit turns (length made) end

    module _ (end : CollectorEnd) (d : Did end) (other : end ≡ ends.Turns → ⊥) where
      abbrev end_step : LastStep (CollectorStep Between) (λ (c : Core). c) end_of ends.Turns (λ (c : Core). ⊤) end first d.works.last made
      end_step = ends_last (CollectorStep Between) (λ (c : Core). c) end_of ends.Turns (λ (c : Core). ⊤) turns end first made last d.works other

      mid_low : IsLowCore end_step.mid
      mid_low = steps_low first end_step.mid end_step.front end_step.are low_first

      end_met : Met to_mark end_step.did.passages
      end_met =
          all_met Between keeps_low first exit to_mark end_step.mid end_step.did.passages end_step.step.made end_step.did.passed end_step.did.recorded
          (all_back (IsCalled first exit) (calls_of end_step.front) end_step.step.made (subst (AllByRecursion (IsCalled first exit)) end_step.calls called)) tt mid_low

      end_says : Says d.works.last end_step.did.outcome
      end_says =
          let P : Stand → Type 0 = λ s. TurnSays s.core s.turn in
          subst P end_step.did.did (ran_says Between keeps_low first exit to_mark end_step.mid end_step.did.passages end_step.did.passed tt mid_low).says

    nothing_ended : Did ends.Nothing → Ended ends.Nothing
    nothing_ended d =
        let other : ends.Nothing ≡ ends.Turns → ⊥ = λ e. cc in
        let last_one = end_step ends.Nothing d other in
        let s = last_one.did in
        let told = nothing_told last_one.step.result last_one.ends in
        let outcome_is = nothing_is s.outcome (subst (λ (t : Told). Answers t s.outcome) told s.answer) in
        let turn_is : (ran to_mark last_one.mid s.passages).turn ≡ ended (Some Nothing) = ap (λ (st : Stand). st.turn) s.did ∙ ap (λ (o : Option Outcome). ended o) outcome_is in
        had_nothing s.passages (nothing_done Between last_one.mid s.passages s.passed turn_is) (end_met ends.Nothing d other)

    -- ---- a fault

    abbrev Faults : WorldError → Type 0
    Faults error = FaultsCollector config log exit.history (length first.history) first exit error

    refused_same : (a b : Refusal) → Some (Refused a) ≡ Some (Refused b) → a ≡ b
    refused_same a b e = cc

    fault_same : (x y : Fault) → faulted x ≡ faulted y → x ≡ y
    fault_same x y e = cc

    fault_wanted : (x : Fault) → faulted x ≡ no_memory → ⊥
    fault_wanted x e = cc

    none_some : (o : Outcome) → None ≡ Some o → ⊥
    none_some o e = cc

    refused_own : (refusal : Refusal) (core : Core) → IsMetCore core → Says core (Some (Refused refusal)) → Faults (errors.Refused refusal)
    refused_own refusal core met u =
        let seen = (is_met core met).seen in
        (length core.history, core.moment, u.0, u.1, u.2, seen, ap (λ (es : List Entry). answer_behind es (entry_of u.1 core)) (sym met.1.front) ∙ u.3)

    by_fault : (error : WorldError) (fault : Fault) (core : Core) → IsMetCore core → IsTrouble error (faulted fault) → FullAt core (faulted fault) → ((before now : ℕ) → error ≡ errors.StoreFault before now → IsCause before now first exit) → Faults error
    by_fault (errors.StoreFault before now) fault core met of at cause = cause before now refl
    by_fault errors.Full fault core met of at cause = (length core.history, (met.1.begins, met.1.ends), subst (λ f. FullAt core (faulted f)) (fault_same fault is_full of) at)
    by_fault (errors.Foreign key) fault core met of at cause = subst (λ f. FullAt core (faulted f)) (fault_same fault (is_foreign key) of) at
    by_fault (errors.Memory e) fault core met of at cause = absurd (fault_wanted fault of)
    by_fault (errors.Expired planned_at now) fault core met of at cause = absurd (subst (λ f. FullAt core (faulted f)) (fault_same fault (is_expired planned_at now) of) at)
    by_fault (errors.Refused refusal) fault core met of at cause = absurd of
    by_fault error fault core met of at cause = of

    by_unmade : (error : WorldError) (unmade : Unmade) (said_is : Outcome) (core : Core) → IsMetCore core → IsUnmade error unmade → failed_with unmade ≡ Some said_is → Says core (Some said_is) →
        ((before now : ℕ) → error ≡ errors.StoreFault before now → IsCause before now first exit) → Faults error
    by_unmade error (refused refusal) said_is core met of failed says cause =
        subst Faults (sym of) (refused_own refusal core met (subst (λ (o : Option Outcome). Says core o) (sym failed) says))
    by_unmade error (troubled (faulted fault)) said_is core met of failed says cause = by_fault error fault core met of (subst (λ (o : Option Outcome). Says core o) (sym failed) says) cause
    by_unmade error (troubled no_memory) said_is core met of failed says cause = absurd (none_some said_is failed)

    -- a step that came to a fault
    step_fails : (error : WorldError) (mid after : Core) (passages : List Passage) (outcome : Option Outcome) → IsFault error outcome → ArePassed Between to_mark mid passages → Met to_mark passages → ran to_mark mid passages ≡ stand (ended outcome) after →
        Says after outcome → ((before now : ℕ) → error ≡ errors.StoreFault before now → IsCause before now first exit) → Faults error
    step_fails error mid after passages outcome fault passed at did says cause =
        let met = last_met to_mark mid passages fault.said_is after mark_asks passed at (subst (λ (o : Option Outcome). ran to_mark mid passages ≡ stand (ended o) after) fault.is did) in
        by_unmade error fault.unmade fault.said_is after met fault.of fault.failed (subst (λ (o : Option Outcome). Says after o) fault.is says) cause
      where
        mark_asks : IsSome (ask_at to_mark)
        mark_asks = refl

    fault_ended : (error : WorldError) → Did (ends.Fault error) → Ended (ends.Fault error)
    fault_ended error d =
        let other : ends.Fault error ≡ ends.Turns → ⊥ = λ e. cc in
        let last_one = end_step (ends.Fault error) d other in
        let s = last_one.did in
        let told = fault_told last_one.step.result error last_one.ends in
        step_fails error last_one.mid d.works.last s.passages s.outcome (fault_is error s.outcome (subst (λ (t : Told). Answers t s.outcome) told s.answer)) s.passed (end_met (ends.Fault error) d other) s.did (end_says (ends.Fault error) d other)
        (λ before now is. cause before now is)
      where
        within : first.store_faults ≤ last_count
        within =
            let up = (works_go (CollectorStep Between) (λ (c : Core). c) end_of (λ (c : Core). ⊤) (λ a x b s. s.goes_on) ends.Turns turns (ends.Fault error) first made last d.works).faults in
            omega (arith, up, counted)

        cause : (before now : ℕ) → error ≡ errors.StoreFault before now → IsCause before now first exit
        cause before now is = cause_wider before now first first last exit (stays_as_is Nobody first) on (subst (λ (e : WorldError). IsCaused e first last) is (d.cause within))

    -- ---- the turns are used up

    some_made : (turn : Turn (Option Outcome)) (core : Core) (passages : List Passage) (own : List CallMade) (outcome : Option Outcome) (after : Core) → IsSome (ask_at turn) → ArePassed Between turn core passages → AreRecorded turn passages own →
        ran turn core passages ≡ stand (ended outcome) after → (outcome ≡ None → ⊥) → 1 ≤ length own
    some_made turn core [] own outcome after asks passed recorded e never =
        let same : turn ≡ ended outcome = ap (λ (s : Stand). s.turn) e in
        absurd (ended_asks outcome (subst (λ t. IsSome (ask_at t)) same asks))
    some_made turn core (passage ∷ more) own outcome after asks passed (ask, call, rest, asked, are, once, others) e never =
        let left = turned turn passage.luck passage.core in by left.turn left.core call more are once e passed.3
      where
        ended_same : (a b : Option Outcome) → ended a ≡ ended b → a ≡ b
        ended_same a b e = cc

        none_behind : (c : Core) (ps : List Passage) → ArePassed Between (ended None) c ps → ran (ended None) c ps ≡ stand (ended outcome) after → outcome ≡ None
        none_behind c [] ps e = sym (ended_same None outcome (ap (λ (s : Stand). s.turn) e))
        none_behind c (p ∷ ps) passed e = absurd (ended_asks None passed.0)

        by : (turn' : Turn (Option Outcome)) (c : Core) (one : List CallMade) (ps : List Passage) → own ≡ one ++ rest → IsRecorded ask passage.core c (turn' ≡ ended None) one → ran turn' c ps ≡ stand (ended outcome) after → ArePassed Between turn' c ps →
            1 ≤ length own
        by turn' c one ps are (inl once) e passed =
            let long : length own ≡ length one + length rest = ap (λ (l : List CallMade). length l) are ∙ length-append one rest in
            let one_long : length one ≡ 1 = ap (λ (l : List CallMade). length l) once in
            omega (arith, long, one_long)
        by turn' c one ps are (inr none) e passed =
            absurd (never (none_behind c ps (subst (λ t. ArePassed Between t c ps) none.2 passed) (subst (λ t. ran t c ps ≡ stand (ended outcome) after) none.2 e)))

    as_many : (from to : Core) (steps : List (StepMade Told)) → AreSteps (CollectorStep Between) from steps to → AllByRecursion (λ (step : StepMade Told). end_of step.result ≡ None) steps → length steps ≤ length (calls_of steps)
    as_many from to [] are going = omega arith
    as_many from to (step ∷ steps) are going =
        let s = are.1 in
        let one = some_made to_mark from s.passages step.made s.outcome are.0 refl s.passed s.recorded s.did (going_some step.result s.outcome going.0 s.answer) in
        let all = length-append step.made (calls_of steps) in
        let rest = as_many are.0 to steps are.2 going.1 in
        omega (arith, one, all, rest)

    turns_ended : Did ends.Turns → Ended ends.Turns
    turns_ended d =
        let all = all_going (CollectorStep Between) (λ (c : Core). c) end_of ends.Turns (λ (c : Core). ⊤) turns ends.Turns first made last d.works refl never_turns in
        let long = as_many first d.works.last d.works.steps d.works.are all.going in
        let many = all.many in
        let calls : length made ≡ length (calls_of d.works.steps) = ap (λ (l : List CallMade). length l) d.works.calls in
        let did = steps_did Between goes exit.history legal_exit first d.works.last d.works.steps d.works.are all.going some (begins_on d.works.last.history last.history exit.history d.works.goes_on.grown on.grown) in
        (omega (arith, long, many, calls), (did.0, did.1 ∙ all.many, did.2))

    -- ---- A COLLECTOR'S END

    pub collector_ended : (end : CollectorEnd) → Did end → Ended end
    collector_ended ends.Nothing d = nothing_ended d
    collector_ended (ends.Fault error) d = fault_ended error d
    collector_ended ends.Turns d = turns_ended d
    collector_ended ends.Memory d = tt
