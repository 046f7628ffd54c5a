-- What a step of a collector that is no end did: the entry that it made, or the number whose file it deleted.
use Rattle.std.proofs.Common.{◌≡◌, ◌⊎◌, inl, inr, ℕ, zero, suc, ◌+◌, ◌==◌, ◌<◌, ◌≤◌, Bool, true, false, List, [], ◌∷◌, ◌++◌, length, find, take, refl, sym, ap, ◌∙◌, subst, append_assoc, arith}
use Rattle.std.proofs.lemmas.Bool.{and_parts}
use Rattle.std.proofs.lemmas.List.{append-nil, length-append}
use Rattle.std.specs.List.{AllByRecursion}
use Rattle.std.specs.Prelude.{IsSome, Option, Some, None, Result, Ok, Err, ⊤, if◌then◌else◌, is_some, nat_lt, not, slice_get}
use Rattle.meta_journal.specs.Places.{split_key}
use Rattle.meta_journal.specs.declared.entry.Act.{Act}
use Rattle.meta_journal.specs.declared.entry.Act.TheVariants.{MarkStaged, Remove}
use Rattle.meta_journal.specs.declared.entry.Entry.{Entry}
use Rattle.meta_store.proofs.Numbers.{each_found}
use Rattle.meta_store.proofs.Sound.{sound}
use Rattle.meta_store.specs.History.{history, last_number}
use Rattle.meta_store.specs.Numbers.{has_staged}
use Rattle.meta_store.specs.Rows.{rows}
use Rattle.meta_store.specs.State.{Legal}
use Rattle.split_states.specs.Rows.{row_at}
use Rattle.split_states.specs.declared.rows.Row.{Row}
use Rattle.split_states.specs.declared.rows.RowState.TheVariants.{Marked}
use Rattle.index_config.specs.declared.config.IndexConfig.{IndexConfig}
use Rattle.index_world.specs.Calls.{is_at_once, Call, Fate, Trouble, faulted, no_memory, Unmade, refused, troubled, asked_clock, asking, begun, file_deleted, may_fail, troubled_by}
use Rattle.index_world.specs.Collecting.{Offer, answered_by, doom_call, doom_next, doomed_by, is_swept, list_call, mark_stale_call, may_go, next_doomed, removal_offer, remove_call, stale_offer, sweep_if, swept_unless}
use Rattle.index_world.specs.Config.{reads}
use Rattle.index_world.specs.Configuration.{configuration, index_of}
use Rattle.index_world.specs.Core.{Core, Nobody}
use Rattle.index_world.specs.Ran.{AreSteps, StepMade}
use Rattle.index_world.specs.World.{GoesFor}
use Rattle.index_world.proofs.Asking.{Begun, begun_history}
use Rattle.index_world.proofs.Dooming.{doomed_is_free, swept_is_free}
use Rattle.index_world.proofs.Numbers.{revision_is}
use Rattle.index_world.proofs.Ran.{steps_go}
use Rattle.index_world.proofs.StoreKeys.{none_some, true_is_false}
use Rattle.split_collector.specs.CollectAll.{CollectorStep, end_of}
use Rattle.split_collector.specs.Ending.{Told}
use Rattle.split_collector.specs.Outcomes.{Outcome, MarkedStale, Doomed, Removed, Swept, Nothing, Refused, Faulted}
use Rattle.split_collector.specs.Standing.{Answers}
use Rattle.split_collector.specs.Steps.{ArePassed, CallLuck, Passage, Stand, ask_at, failed_with, least_left, outcomes, page_by, ran, turned}
use Rattle.split_collector.specs.Turns.{Turn, behind_delete, behind_doom, behind_list, behind_mark, behind_remove, ended, next_behind, page_turn, paging, to_doom, to_list, to_mark, to_remove, to_sweep}
use Rattle.split_collector.specs.declared.outcome.CollectorOutcome.TheVariants as said
use Rattle.thread_run.proofs.CollectorCalls.{called_moves}
use Rattle.call_laws.proofs.CollectingMoves.{deleted_kept, doomed_kept}
use Rattle.root_search.proofs.Stands.{legal_before}
use Rattle.root_search.proofs.Stretches.{longer}
use Rattle.root_search.proofs.TaskCalls.{Grows, begun_same, grows_on}
use Rattle.thread_run.specs.Collects.{CollectsFrom, DidBetween}
use Rattle.thread_run.proofs.CollectorSteps.{marked_own, removed_own}
use Rattle.thread_run.proofs.OfferWorks.{AtEnd, MadeBy, appended_makes}

-- ---- which entry

abbrev pub IsMarks : Act → ℕ → Type 0
IsMarks act count = (numbers : List ℕ) × (act ≡ MarkStaged numbers) × (length numbers ≡ count)

abbrev pub IsRemovals : Act → ℕ → Type 0
IsRemovals act count = (numbers : List ℕ) × (act ≡ Remove numbers) × (length numbers ≡ count)

pub stale_fits : (core : Core) (offer : Offer ℕ) → stale_offer core ≡ Some offer → IsMarks offer.act offer.answer
stale_fits core offer e = let own = marked_own _ offer e in (_, own.0, sym own.1)

pub removal_fits : (core : Core) (offer : Offer ℕ) → removal_offer core ≡ Some offer → IsRemovals offer.act offer.answer
removal_fits core offer e = let own = removed_own _ offer e in (_, own.0, sym own.1)

abbrev pub Marks : (least : ℕ) → Core → (count : ℕ) → Type 0
Marks least core count = AtEnd 0 stale_offer IsMarks stale_fits least core count

abbrev pub Removes : (least : ℕ) → Core → (count : ℕ) → Type 0
Removes least core count = AtEnd 0 removal_offer IsRemovals removal_fits least core count

-- ---- what was done, by what was taken in then

abbrev pub IsMarkedIn : Core → (number : ℕ) → Type 0
IsMarkedIn core number = (row : Row) × (row_at (rows (history core.history)) number ≡ Some row) × (row.state ≡ Marked)

abbrev pub IsGoneIn : Core → (number : ℕ) → Type 0
IsGoneIn core number = (has_staged core.history number ≡ true) × (row_at (rows (history core.history)) number ≡ None)

abbrev pub Did : (least : ℕ) → Core → Option Outcome → Type 0
Did least core None = ⊤
Did least core (Some (MarkedStale count)) = (0 < count) × Marks least core count
Did least core (Some (Doomed number)) = IsMarkedIn core number
Did least core (Some (Removed count)) = (0 < count) × Removes least core count
Did least core (Some (Swept number)) = IsGoneIn core number
Did least core (Some Nothing) = ⊤
Did least core (Some (Refused refusal)) = ⊤
Did least core (Some (Faulted fault)) = ⊤

abbrev pub TurnDid : (least : ℕ) → Core → Turn (Option Outcome) → Type 0
TurnDid least core to_mark = ⊤
TurnDid least core to_doom = ⊤
TurnDid least core to_remove = ⊤
TurnDid least core (to_list behind) = ⊤
TurnDid least core (to_sweep number next) = ⊤
TurnDid least core (ended outcome) = Did least core outcome

failed_did : (least : ℕ) (core : Core) (unmade : Unmade) → Did least core (failed_with unmade)
failed_did least core (refused refusal) = tt
failed_did least core (troubled (faulted fault)) = tt
failed_did least core (troubled no_memory) = tt

-- ---- rows

-- the first row that passes is one of them
found_one : (P : Row → Type 0) (test : Row → Bool) (list : List Row) (row : Row) → find test list ≡ Some row → AllByRecursion P list → P row
found_one P test [] row e all = absurd (none_some row e)
found_one P test (x ∷ list) row e all = by (test x) refl (found_one P test list row)
  where
    by : (b : Bool) → test x ≡ b → (find test list ≡ Some row → AllByRecursion P list → P row) → P row
    by true t more = let here : Some x ≡ Some row = rw t at e in let is : x ≡ row = cc here in subst P is all.0
    by false t more = let there : find test list ≡ Some row = rw t at e in more there all.1

none_is : (o : Option Row) → not (is_some o) ≡ true → o ≡ None
none_is None e = refl
none_is (Some row) e = absurd (true_is_false (sym e))

module _ (core : Core) (legal : Legal reads (history core.history)) (some : 0 < length core.history) where
  begun_here : Begun (history core.history)
  begun_here = begun_history (history core.history) legal (let r = revision_is core.history in omega (arith, r, some))

  abbrev config : IndexConfig
  config = begun_here.config.settings.index

  config_is : configuration core.history ≡ Some config
  config_is = ap index_of begun_here.is

  -- the row that is doomed is marked
  due_marked : (row : Row) → next_doomed core ≡ Some row → IsMarkedIn core row.number
  due_marked row e =
      let h = history core.history in
      let found = found_one (λ (x : Row). row_at (rows h) x.number ≡ Some x) (may_go core) (rows h) row e (each_found (rows h) (sound reads h legal).held.apart) in
      (row, found, ((doomed_is_free core config config_is legal row e).free row found).0)

  -- a number that is swept is gone
  swept_gone : (number : ℕ) → is_swept core number ≡ true → IsGoneIn core number
  swept_gone number e =
      let a = and_parts (nat_lt 0 number) _ e in
      let b = and_parts (nat_lt number (last_number (history core.history) + 1)) _ a.1 in
      ((swept_is_free core config config_is legal number e).staged, none_is (row_at (rows (history core.history)) number) b.1)

-- ---- a call

deleted_same : (call : Call) (key : List ℕ) (core : Core) → (file_deleted call key core).core.history ≡ core.history
deleted_same call key core = ap (λ k. k.0) (deleted_kept (may_fail call core.store_faults) (is_at_once call.effect) core.store_faults key (begun call core)) ∙ begun_same call core

module _ (least : ℕ) (low : 0 < least) where
  some_of : (core : Core) → least ≤ length core.history → 0 < length core.history
  some_of core long = omega (arith, low, long)

  -- a call that counts
  counted_some : (count : ℕ) → (count == 0) ≡ false → 0 < count
  counted_some zero e = absurd (true_is_false e)
  counted_some (suc n) e = omega arith

  counted_none : (count : ℕ) → (count == 0) ≡ false → count ≡ 0 → ⊥
  counted_none count e zero_is = let some = counted_some count e in omega (arith, some, zero_is)

  marks_did : (answer : Result ℕ Unmade) (core : Core) → MadeBy 0 stale_offer IsMarks stale_fits least answer core → TurnDid least core (behind_mark outcomes answer)
  marks_did (Err unmade) core m = failed_did least core unmade
  marks_did (Ok count) core m = by (count == 0) refl
    where
      at : (count == 0) ≡ false → (count ≡ 0) ⊎ Marks least core count → Marks least core count
      at e (inl none) = absurd (counted_none count e none)
      at e (inr made) = made

      by : (b : Bool) → (count == 0) ≡ b → TurnDid least core (if b then to_doom else ended (Some (MarkedStale count)))
      by true e = tt
      by false e = (counted_some count e, at e m)

  removes_did : (answer : Result ℕ Unmade) (core : Core) → MadeBy 0 removal_offer IsRemovals removal_fits least answer core → TurnDid least core (behind_remove outcomes answer)
  removes_did (Err unmade) core m = failed_did least core unmade
  removes_did (Ok count) core m = by (count == 0) refl
    where
      at : (count == 0) ≡ false → (count ≡ 0) ⊎ Removes least core count → Removes least core count
      at e (inl none) = absurd (counted_none count e none)
      at e (inr made) = made

      by : (b : Bool) → (count == 0) ≡ b → TurnDid least core (if b then to_list None else ended (Some (Removed count)))
      by true e = tt
      by false e = (counted_some count e, at e m)

  -- where the call ends the step
  abbrev DoomDid : Result (Option ℕ) Trouble → Core → Type 0
  DoomDid answer core = let given = troubled_by answer core in TurnDid least given.core (behind_doom outcomes given.answer)

  doomed_did : (row : Row) (r : Result ⊤ Trouble) (core mid : Core) → next_doomed core ≡ Some row → mid.history ≡ core.history → least ≤ length core.history → Legal reads (history mid.history) →
      DoomDid (doomed_by row.number r mid).answer (doomed_by row.number r mid).core
  doomed_did row (Err trouble) core mid is same long legal = failed_did least mid (troubled trouble)
  doomed_did row (Ok done) core mid is same long legal =
      let P : List Entry → Type 0 = λ es. (x : Row) × (row_at (rows (history es)) row.number ≡ Some x) × (x.state ≡ Marked) in
      subst P (sym same) (due_marked core (subst (λ (es : List Entry). Legal reads (history es)) same legal) (some_of core long) row is)

  doom_next_did : (o : Option Row) (call : Call) (core : Core) → next_doomed core ≡ o → least ≤ length core.history → Legal reads (history (doom_next o call core).core.history) → DoomDid (doom_next o call core).answer (doom_next o call core).core
  doom_next_did None call core is long legal = tt
  doom_next_did (Some row) call core is long legal =
      let given = file_deleted call (split_key row.number) core in
      let same : (doomed_by row.number given.answer given.core).core.history ≡ given.core.history = ap (λ k. k.0) (doomed_kept row.number given.answer given.core) in
      doomed_did row given.answer core given.core is (deleted_same call (split_key row.number) core) long (subst (λ (es : List Entry). Legal reads (history es)) same legal)

  doom_did : (fate : Fate) (core : Core) → least ≤ length core.history → Legal reads (history (doom_call fate core).core.history) → DoomDid (doom_call fate core).answer (doom_call fate core).core
  doom_did fate core long = by fate.unasked
    where
      by : (unasked : Bool) → let given = asking unasked no_memory core (λ c. doom_next (next_doomed c) fate.first c) in Legal reads (history given.core.history) → DoomDid given.answer given.core
      by true legal = tt
      by false legal = doom_next_did (next_doomed (asked_clock core)) fate.first (asked_clock core) refl long legal

  -- ---- a sweep

  paging_did : (next : Option (List ℕ)) (core : Core) → TurnDid least core (paging outcomes next)
  paging_did None core = tt
  paging_did (Some key) core = tt

  page_did : (number : Option ℕ) (next : Option (List ℕ)) (core : Core) → TurnDid least core (page_turn outcomes number next)
  page_did None next core = paging_did next core
  page_did (Some number) next core = tt

  list_did : (behind next : Option (List ℕ)) (r : Result ⊤ Trouble) (core : Core) → let given = troubled_by r core in TurnDid least given.core (behind_list outcomes (page_by behind next given.core given.answer))
  list_did behind next (Ok done) core = page_did (least_left behind next core) next core
  list_did behind next (Err trouble) core = failed_did least core (troubled trouble)

  abbrev SweepDid : (number : ℕ) → (next : Option (List ℕ)) → Result Bool Trouble → Core → Type 0
  SweepDid number next answer core = let given = troubled_by answer core in TurnDid least given.core (behind_delete outcomes number next given.answer)

  swept_did : (number : ℕ) (next : Option (List ℕ)) (r : Result ⊤ Trouble) (core mid : Core) → is_swept core number ≡ true → mid.history ≡ core.history → least ≤ length core.history → Legal reads (history mid.history) →
      SweepDid number next (answered_by true r mid).answer (answered_by true r mid).core
  swept_did number next (Err trouble) core mid is same long legal = failed_did least mid (troubled trouble)
  swept_did number next (Ok done) core mid is same long legal =
      let P : List Entry → Type 0 = λ es. (has_staged es number ≡ true) × (row_at (rows (history es)) number ≡ None) in
      subst P (sym same) (swept_gone core (subst (λ (es : List Entry). Legal reads (history es)) same legal) (some_of core long) number is)

  answered_core : (r : Result ⊤ Trouble) (core : Core) → (answered_by true r core).core.history ≡ core.history
  answered_core (Ok done) core = refl
  answered_core (Err trouble) core = refl

  sweep_if_did : (b : Bool) (call : Call) (number : ℕ) (next : Option (List ℕ)) (core : Core) → is_swept core number ≡ b → least ≤ length core.history → Legal reads (history (sweep_if b call number core).core.history) →
      SweepDid number next (sweep_if b call number core).answer (sweep_if b call number core).core
  sweep_if_did false call number next core is long legal = paging_did next core
  sweep_if_did true call number next core is long legal =
      let given = file_deleted call (split_key number) core in
      swept_did number next given.answer core given.core is (deleted_same call (split_key number) core) long (subst (λ (es : List Entry). Legal reads (history es)) (answered_core given.answer given.core) legal)

  sweep_did : (unasked : Bool) (number : ℕ) (next : Option (List ℕ)) (fate : Fate) (core : Core) → least ≤ length core.history → Legal reads (history (swept_unless unasked number fate core).core.history) →
      SweepDid number next (swept_unless unasked number fate core).answer (swept_unless unasked number fate core).core
  sweep_did true number next fate core long legal = tt
  sweep_did false number next fate core long legal = sweep_if_did (is_swept core number) fate.first number next core refl long legal

  -- ---- any call

  no_ask : (outcome : Option Outcome) → IsSome (ask_at (ended outcome)) → ⊥
  no_ask outcome asks = cc

  troubled_core : {A : Type 0} (r : Result A Trouble) (core : Core) → (troubled_by r core).core ≡ core
  troubled_core (Ok a) core = refl
  troubled_core (Err trouble) core = refl

  turned_did : (turn : Turn (Option Outcome)) (luck : CallLuck) (core : Core) → IsSome (ask_at turn) → least ≤ length core.history → Legal reads (history (turned turn luck core).core.history) → TurnDid least (turned turn luck core).core (turned turn luck core).turn
  turned_did to_mark luck core asks long legal =
      let given = mark_stale_call luck.fate core in marks_did given.answer given.core (appended_makes 0 stale_offer IsMarks stale_fits least luck.fate core long)
  turned_did to_doom luck core asks long legal =
      let given = doom_call luck.fate core in doom_did luck.fate core long (subst (λ (c : Core). Legal reads (history c.history)) (troubled_core given.answer given.core) legal)
  turned_did to_remove luck core asks long legal =
      let given = remove_call luck.fate core in removes_did given.answer given.core (appended_makes 0 removal_offer IsRemovals removal_fits least luck.fate core long)
  turned_did (to_list behind) luck core asks long legal = let given = list_call luck.fate core in list_did behind (next_behind behind luck.end) given.answer given.core
  turned_did (to_sweep number next) luck core asks long legal =
      let given = swept_unless luck.fate.unasked number luck.fate core in
      sweep_did luck.fate.unasked number next luck.fate core long (subst (λ (c : Core). Legal reads (history c.history)) (troubled_core given.answer given.core) legal)
  turned_did (ended outcome) luck core asks long legal = absurd (no_ask outcome asks)

-- ---- a step

module _ (Between : Core → Core → Type 0) (goes : (core mid : Core) → Between core mid → GoesFor Nobody core mid) where
  ran_grows : (turn : Turn (Option Outcome)) (core : Core) (passages : List Passage) → ArePassed Between turn core passages → Grows core (ran turn core passages).core
  ran_grows turn core [] passed = ([], sym (append-nil core.history))
  ran_grows turn core (passage ∷ more) passed =
      let left = turned turn passage.luck passage.core in
      let here : Grows core left.core = grows_on core passage.core left.core (goes core passage.core passed.1).grown (called_moves turn passage.luck passage.core).later.grows in
      grows_on core left.core (ran left.turn left.core more).core here (ran_grows left.turn left.core more passed.3)

  ran_did : (least : ℕ) → 0 < least → (turn : Turn (Option Outcome)) (core : Core) (passages : List Passage) → ArePassed Between turn core passages → least ≤ length core.history → TurnDid least core turn →
      Legal reads (history (ran turn core passages).core.history) → TurnDid least (ran turn core passages).core (ran turn core passages).turn
  ran_did least low turn core [] passed long did legal = did
  ran_did least low turn core (passage ∷ more) passed long did legal =
      let left = turned turn passage.luck passage.core in
      let end = (ran left.turn left.core more).core in
      let rest = ran_grows left.turn left.core more passed.3 in
      let up = longer core.history passage.core.history (goes core passage.core passed.1).grown in
      let on = longer passage.core.history left.core.history (called_moves turn passage.luck passage.core).later.grows in
      let here = turned_did least low turn passage.luck passage.core passed.0 (omega (arith, long, up)) (legal_before left.core.history end.history rest.0 rest.1 legal) in
      ran_did least low left.turn left.core more passed.3 (omega (arith, long, up, on)) here legal

-- ---- by the journal at the exit

at_place : (earlier more : List Entry) (entry : Entry) → slice_get (earlier ++ entry ∷ more) (length earlier) ≡ Some entry
at_place [] more entry = refl
at_place (x ∷ earlier) more entry = at_place earlier more entry

abbrev IsWork : Outcome → Type 0
IsWork (MarkedStale count) = ⊤
IsWork (Doomed number) = ⊤
IsWork (Removed count) = ⊤
IsWork (Swept number) = ⊤
IsWork Nothing = ⊥
IsWork (Refused refusal) = ⊥
IsWork (Faulted fault) = ⊥

-- an answer that is no end tells of work
record Works (outcome : Option Outcome) : Type 0 where
  did : Outcome
  is : outcome ≡ Some did
  work : IsWork did

works_of : (told : Told) (outcome : Option Outcome) → end_of told ≡ None → Answers told outcome → Works outcome
works_of (Ok (said.MarkedStale count)) None e a = absurd a
works_of (Ok (said.MarkedStale count)) (Some o) e a = record { did = MarkedStale count; is = ap (λ x. Some x) a; work = tt }
works_of (Ok (said.Doomed number)) None e a = absurd a
works_of (Ok (said.Doomed number)) (Some o) e a = record { did = Doomed number; is = ap (λ x. Some x) a; work = tt }
works_of (Ok (said.Removed count)) None e a = absurd a
works_of (Ok (said.Removed count)) (Some o) e a = record { did = Removed count; is = ap (λ x. Some x) a; work = tt }
works_of (Ok (said.Swept number)) None e a = absurd a
works_of (Ok (said.Swept number)) (Some o) e a = record { did = Swept number; is = ap (λ x. Some x) a; work = tt }
works_of (Ok said.Nothing) o e a = absurd cc
works_of (Ok (said.Fault error)) o e a = absurd cc
works_of (Err short) o e a = absurd cc

module _ (exit : List Entry) (least : ℕ) (after : Core) (front : after.history ≡ take (length after.history) exit) (on : (more : List Entry) × (exit ≡ after.history ++ more)) (long : least ≤ length after.history) where
  place_of : (earlier : List Entry) (entry : Entry) → after.history ≡ earlier ++ entry ∷ [] → slice_get exit (length earlier) ≡ Some entry
  place_of earlier entry whole =
      let all : exit ≡ earlier ++ entry ∷ on.0 = on.1 ∙ (ap (λ (es : List Entry). es ++ on.0) whole ∙ append_assoc earlier (entry ∷ []) on.0) in
      ap (λ (es : List Entry). slice_get es (length earlier)) all ∙ at_place earlier on.0 entry

  below : (earlier : List Entry) (entry : Entry) → after.history ≡ earlier ++ entry ∷ [] → length earlier < length after.history
  below earlier entry whole =
      let all : length after.history ≡ length earlier + length (entry ∷ []) = ap (λ (es : List Entry). length es) whole ∙ length-append earlier (entry ∷ []) in omega (arith, all)

  did_between : (outcome : Outcome) → IsWork outcome → Did least after (Some outcome) → DidBetween exit least (length after.history) outcome
  did_between (MarkedStale count) work d =
      let m = d.1 in (d.0, length m.earlier, m.from, below m.earlier m.entry m.whole, (m.entry, m.is.0, place_of m.earlier m.entry m.whole, m.is.1, m.is.2))
  did_between (Doomed number) work d =
      let P : List Entry → Type 0 = λ es. (row : Row) × (row_at (rows (history es)) number ≡ Some row) × (row.state ≡ Marked) in (length after.history, long, omega arith, subst P front d)
  did_between (Removed count) work d =
      let m = d.1 in (d.0, length m.earlier, m.from, below m.earlier m.entry m.whole, (m.entry, m.is.0, place_of m.earlier m.entry m.whole, m.is.1, m.is.2))
  did_between (Swept number) work d =
      let P : List Entry → Type 0 = λ es. (has_staged es number ≡ true) × (row_at (rows (history es)) number ≡ None) in (length after.history, long, omega arith, subst P front d)
  did_between Nothing work d = absurd work
  did_between (Refused refusal) work d = absurd work
  did_between (Faulted fault) work d = absurd work

-- ---- the steps

module _ (Between : Core → Core → Type 0) (goes : (core mid : Core) → Between core mid → GoesFor Nobody core mid) (exit : List Entry) (legal_exit : Legal reads (history exit)) where
  abbrev Step : Core → StepMade Told → Core → Type 0
  Step from step to = CollectorStep Between from step to

  abbrev BeforeExit : Core → Type 0
  BeforeExit core = (more : List Entry) × (exit ≡ core.history ++ more)

  step_did : (from : Core) (step : StepMade Told) (to : Core) (s : Step from step to) → end_of step.result ≡ None → 0 < length from.history → BeforeExit to → (outcome : Outcome) × DidBetween exit (length from.history) (length to.history) outcome
  step_did from step to s none some on =
      let work = works_of step.result s.outcome none s.answer in
      let least = length from.history in
      let P : Stand → Type 0 = λ st. Legal reads (history st.core.history) → TurnDid least st.core st.turn in
      let there = subst P s.did (ran_did Between goes least some to_mark from s.passages s.passed (omega arith) tt) (legal_before to.history exit on.0 on.1 legal_exit) in
      let did : Did least to (Some work.did) = subst (λ (o : Option Outcome). Did least to o) work.is there in
      (work.did, did_between exit least to (front_of to on) on (longer from.history to.history s.goes_on.grown) work.did work.work did)
    where
      take_front : (xs ys : List Entry) → take (length xs) (xs ++ ys) ≡ xs
      take_front [] ys = refl
      take_front (x ∷ xs) ys = ap (λ (es : List Entry). x ∷ es) (take_front xs ys)

      front_of : (core : Core) (on : BeforeExit core) → core.history ≡ take (length core.history) exit
      front_of core on = sym (ap (λ (es : List Entry). take (length core.history) es) on.1 ∙ take_front core.history on.0)

  -- of steps none of which is an end
  pub steps_did : (from to : Core) (steps : List (StepMade Told)) → AreSteps Step from steps to → AllByRecursion (λ (step : StepMade Told). end_of step.result ≡ None) steps → 0 < length from.history → BeforeExit to →
      (outcomes : List Outcome) × (length outcomes ≡ length steps) × CollectsFrom exit (length from.history) outcomes
  steps_did from to [] are going some on = ([], refl, tt)
  steps_did from to (step ∷ steps) are going some on =
      let there = are.0 in
      let s = are.1 in
      let rest = steps_go Step (λ (c : Core). c) end_of (λ (c : Core). ⊤) (λ a x b t. t.goes_on) there to steps are.2 in
      let here : BeforeExit there = (rest.grown.0 ++ on.0, on.1 ∙ (ap (λ (es : List Entry). es ++ on.0) rest.grown.1 ∙ append_assoc there.history rest.grown.0 on.0)) in
      let up = longer from.history there.history s.goes_on.grown in
      let one = step_did from step there s going.0 some here in
      let more = steps_did there to steps are.2 going.1 (omega (arith, some, up)) on in
      (one.0 ∷ more.0, ap (λ (n : ℕ). suc n) more.1, (length there.history, up, longer there.history exit here, one.1, more.2))
