-- A Replace and a Raise are lost exactly where the rows are not such as they need.
use Rattle.std.proofs.Common.{◌≡◌, ℕ, ◌≤◌, Bool, true, false, cond, List, [], ◌∷◌, ◌++◌, refl, sym, ap, ◌∙◌, subst, arith, Ok, Err, Option, Some, None, Result}
use Rattle.std.specs.Prelude.{⊤, IsErr, IsOk, nat_le}
use Rattle.meta_journal.specs.declared.entry.Act.{Act}
use Rattle.meta_journal.specs.declared.entry.Act.TheVariants.{Raise, Replace}
use Rattle.meta_journal.specs.declared.entry.Entry.{Entry}
use Rattle.meta_store.specs.History.{history, last_opstamp}
use Rattle.meta_store.specs.Readings.{config_of, reading_of}
use Rattle.meta_store.specs.State.{Legal, MayCome, state_of}
use Rattle.meta_store.specs.declared.config.Config.{Config}
use Rattle.meta_store.specs.declared.refusal.Refusal.{Refusal}
use Rattle.source_log.specs.Log.{Log}
use Rattle.split_states.specs.declared.rows.Row.{Row}
use Rattle.index_world.proofs.Asking.{begun_history}
use Rattle.index_world.proofs.InCore.{goes_less}
use Rattle.index_world.proofs.Lives.{answers_allowed}
use Rattle.index_world.proofs.Numbers.{history-snoc, revision_is}
use Rattle.index_world.specs.Calls.{Call, Fate, Gives, Made, Making, Trouble, Unmade, adopted_made, adopted_making, and_then, answer_behind, appended, as_unmade, asked_clock, create_at_end, entry_of, exists, failed, faulted, first_unless, full_answer, get_at_end, last_create, last_made, last_making, last_unless, made, may_append, no_memory, or_full, refused, settled, transact, troubled, troubled_by}
use Rattle.index_world.specs.Calls as calls
use Rattle.index_world.specs.Config.{reads}
use Rattle.index_world.specs.Core.{Core, IsOther, Nobody}
use Rattle.index_world.specs.Gate.{IsSoundCore}
use Rattle.index_world.specs.Index.{IsAllowed, max_entries}
use Rattle.index_world.specs.World.{GoesFor, GoesOn}
use Rattle.upkeep_run.specs.Losing.{CanRaise, CanReplace, LosesUnless, rows_in}
use Rattle.upkeep_run.specs.Places.{WorkerHeld, IsUploadedHeld, IsWork, Work, fetching, uploaded}
use Rattle.upkeep_run.specs.Steps.{WorkerLuck, Stepped, drops_none, first_number, or_short, raise_by, replace_by, step_raise, step_replace, step_stage, step_work, step_worker, trouble_outcome, held_of}
use Rattle.index_world.specs.Gate.{raise_call, replace_call}
use Rattle.upkeep_run.specs.declared.work.Aim.{Aim}
use Rattle.upkeep_run.specs.declared.work.Aim.TheVariants.{Deleting}
use Rattle.upkeep_run.proofs.Holding.{sound_legal, uploaded_stays, work_stays}

-- ---- what a transaction says of the history that it came to

module _ (act : Act) where
  -- its entry was taken in last, or the history refuses it
  abbrev pub Came : Result ⊤ Unmade → Core → Type 0
  Came (Ok done) core = (before : List Entry) × (moment : ℕ) × (core.history ≡ before ++ record { moment = moment; act = act } ∷ [])
  Came (Err (refused refusal)) core = IsErr (answer_behind core.history (entry_of act core))
  Came (Err (troubled trouble)) core = Unit {0}

  abbrev Comes : Gives Unmade ⊤ → Type 0
  Comes given = Came given.answer given.core

  refusal_is : (core : Core) (x : Refusal) → may_append act core ≡ Err (refused x) → IsErr (answer_behind core.history (entry_of act core))
  refusal_is core x may = by (answer_behind core.history (entry_of act core)) refl
    where
      full : (b : Bool) → full_answer b ≡ Err (refused x) → ⊥
      full true e = cc e
      full false e = cc e

      by : (r : Result (Unit {0}) Refusal) → answer_behind core.history (entry_of act core) ≡ r → IsErr (answer_behind core.history (entry_of act core))
      by (Err y) e = subst IsErr (sym e) refl
      by (Ok y) e = absurd (full (nat_le max_entries _) (sym (ap (λ r. or_full r core) e) ∙ may))

  last_by : (before : ℕ) (moment : ℕ) (a : Made) (c : Core) → Comes (last_made before (record { moment = moment; act = act }) a c)
  last_by before moment made c = (c.history, moment, refl)
  last_by before moment (exists other) c = tt
  last_by before moment failed c = tt

  last_comes : (call : Call) (before : ℕ) (core : Core) → Comes (last_create call before act core)
  last_comes call before core = short call.short
    where
      by : (r : Result ⊤ Unmade) → may_append act core ≡ r → Comes (last_unless r call before act core)
      by (Err (refused x)) e = refusal_is core x e
      by (Err (troubled t)) e = tt
      by (Ok done) e = let making : Making = create_at_end call (entry_of act core) core in last_by before core.moment making.answer making.core

      short : (b : Bool) → Comes (calls.or_short b (troubled no_memory) call core (last_unless (may_append act core) call before act core))
      short true = tt
      short false = by (may_append act core) refl

  then_by : (again : Call) (before : ℕ) (a : Result ⊤ Trouble) (c : Core) → Comes (and_then (troubled_by a c) (λ core'. last_create again before act core'))
  then_by again before (Ok done) c = last_comes again before c
  then_by again before (Err e) c = tt

  adopted_by : (get again : Call) (before moment : ℕ) (a : Made) (c : Core) → Comes (adopted_made get again before (λ core'. act) (record { moment = moment; act = act }) a c)
  adopted_by get again before moment made c = (c.history, moment, refl)
  adopted_by get again before moment (exists other) c = let got = get_at_end get other before c in then_by again before got.answer got.core
  adopted_by get again before moment failed c = tt

  transact_comes : (unsure : Bool) (first second third : Call) (core : Core) → Comes (transact unsure first second third (λ core'. act) core)
  transact_comes true first second third core = let done = settled first second core in then_by third core.store_faults done.answer done.core
  transact_comes false first second third core = short first.short
    where
      by : (r : Result ⊤ Unmade) → may_append act core ≡ r → Comes (first_unless r first second third (λ core'. act) core)
      by (Err (refused x)) e = refusal_is core x e
      by (Err (troubled t)) e = tt
      by (Ok done) e = let making : Making = create_at_end first (entry_of act core) core in adopted_by second third core.store_faults core.moment making.answer making.core

      short : (b : Bool) → Comes (calls.or_short b (troubled no_memory) first core (first_unless (may_append act core) first second third (λ core'. act) core))
      short true = tt
      short false = by (may_append act core) refl

  pub appended_comes : (fate : Fate) (core : Core) → Comes (appended fate (λ core'. act) core)
  appended_comes fate core = unasked fate.unasked
    where
      unasked : (b : Bool) → Comes (calls.asking b (troubled no_memory) core (λ c. transact c.unsure fate.first fate.second fate.third (λ core'. act) c))
      unasked true = tt
      unasked false = let c = asked_clock core in transact_comes c.unsure fate.first fate.second fate.third c

-- ---- what that says of its rows

allowed_last : (after : Core) (log : Log) (before : List Entry) (entry : Entry) → IsSoundCore after log → after.history ≡ before ++ entry ∷ [] → IsAllowed before entry
allowed_last after log before entry sound e = (subst (Legal reads) (ap history e ∙ history-snoc before entry) (sound_legal after log sound)).1

not_both : (r : Result (Unit {0}) Refusal) → IsOk r → IsErr r → ⊥
not_both (Ok done) ok bad = cc bad
not_both (Err refusal) ok bad = cc ok

-- an entry that may come is not refused
refused_never : (after : Core) (log : Log) (act : Act) → IsSoundCore after log → ((config : Config) → MayCome (reading_of reads (Some config) act) (Some config) (state_of reads (history after.history)) after.moment act) →
    IsErr (answer_behind after.history (entry_of act after)) → ⊥
refused_never after log act sound may bad =
    let some = sound.opened in
    let begun = begun_history (history after.history) (sound_legal after log sound) (let e = revision_is after.history in omega (arith, some, e)) in
    not_both (answer_behind after.history (entry_of act after))
    (answers_allowed (state_of reads (history after.history)) after.history (entry_of act after) refl (
      sound.timely.greatest,
      subst (λ (o : Option Config). MayCome (reading_of reads o act) o (state_of reads (history after.history)) after.moment act) (sym begun.is) (may begun.config),
    )) bad

replace_came : (before : List Entry) (moment new : ℕ) (old : List ℕ) (upto : ℕ) → IsAllowed before (record { moment = moment; act = Replace new old upto }) → CanReplace (rows_in before) new old
replace_came before moment new old upto allowed = by (config_of reads (history before)) allowed.1
  where
    by : (o : Option Config) → MayCome (reading_of reads o (Replace new old upto)) o (state_of reads (history before)) moment (Replace new old upto) → CanReplace (rows_in before) new old
    by None may = absurd may
    by (Some config) may = (may.0.0, may.0.1.2)

raise_came : (before : List Entry) (moment number upto : ℕ) → IsAllowed before (record { moment = moment; act = Raise number upto }) → CanRaise (rows_in before) number
raise_came before moment number upto allowed = by (config_of reads (history before)) allowed.1
  where
    by : (o : Option Config) → MayCome (reading_of reads o (Raise number upto)) o (state_of reads (history before)) moment (Raise number upto) → CanRaise (rows_in before) number
    by None may = absurd may
    by (Some config) may = may.0

-- ---- a Replace

none_lost : (Can : List Row → Type 0) (trouble : Trouble) (after : Core) → LosesUnless Can (trouble_outcome trouble) after
none_lost Can (faulted fault) after = tt
none_lost Can no_memory after = tt

module _ (log : Log) (held : WorkerHeld) where
  abbrev Can : List Row → Type 0
  Can rs = CanReplace rs held.number held.old

  replace_loses : (answer : Result ⊤ Unmade) (after : Core) → IsUploadedHeld log after held → IsSoundCore after log → Came (Replace held.number held.old held.upto) answer after →
      LosesUnless Can (replace_by answer held.number after).outcome after
  replace_loses (Ok done) after u sound came = (came.0, record { moment = came.1; act = Replace held.number held.old held.upto }, came.2, replace_came came.0 came.1 held.number held.old held.upto (allowed_last after log came.0 _ sound came.2))
  replace_loses (Err (troubled trouble)) after u sound came = none_lost Can trouble after
  replace_loses (Err (refused refusal)) after u sound came = λ can.
      refused_never after log (Replace held.number held.old held.upto) sound (λ config. ((can.0, (u.made.some, u.made.apart, can.1)), u.made.known)) came

  -- of a step with a replacement in hand
  pub replace_lost : (aim : Aim) (luck : WorkerLuck) (core : Core) → IsUploadedHeld log core held → GoesOn (Some held.number) core (step_worker aim luck log (uploaded held) core).core → IsSoundCore (step_worker aim luck log (uploaded held) core).core log →
      LosesUnless Can (step_worker aim luck log (uploaded held) core).outcome (step_worker aim luck log (uploaded held) core).core
  replace_lost aim luck core u goes sound = short luck.short goes sound
    where
      given : Gives Unmade ⊤
      given = replace_call held.number held.old held.upto luck.world core

      at_end : GoesOn (Some held.number) core given.core → IsSoundCore given.core log → LosesUnless Can (replace_by given.answer held.number given.core).outcome given.core
      at_end on well =
          let others : GoesFor Nobody core given.core = goes_less (IsOther (Some held.number)) Nobody core given.core (λ n no. absurd no) on in
          replace_loses given.answer given.core (uploaded_stays core given.core log others (sound_legal given.core log well) held u) well (appended_comes (Replace held.number held.old held.upto) luck.world core)

      same_core : (answer : Result ⊤ Unmade) (c : Core) → (replace_by answer held.number c).core ≡ c
      same_core (Ok done) c = refl
      same_core (Err e) c = refl

      short : (b : Bool) → GoesOn (Some held.number) core (or_short b (step_replace luck held core)).core → IsSoundCore (or_short b (step_replace luck held core)).core log →
          LosesUnless Can (or_short b (step_replace luck held core)).outcome (or_short b (step_replace luck held core)).core
      short true on well = tt
      short false on well =
          let same = same_core given.answer given.core in
          subst (λ (c : Core). LosesUnless Can (replace_by given.answer held.number given.core).outcome c) (sym same)
          (at_end (subst (λ (c : Core). GoesOn (Some held.number) core c) same on) (subst (λ (c : Core). IsSoundCore c log) same well))

-- ---- a Raise

module _ (log : Log) (work : Work) where
  abbrev CanThis : List Row → Type 0
  CanThis rs = CanRaise rs (first_number work.rows)

  raise_loses : (answer : Result ⊤ Unmade) (after : Core) → work.upto ≤ last_opstamp (history after.history) → IsSoundCore after log → Came (Raise (first_number work.rows) work.upto) answer after →
      LosesUnless CanThis (raise_by answer (first_number work.rows) after).outcome after
  raise_loses (Ok done) after known sound came = (came.0, record { moment = came.1; act = Raise (first_number work.rows) work.upto }, came.2, raise_came came.0 came.1 (first_number work.rows) work.upto (allowed_last after log came.0 _ sound came.2))
  raise_loses (Err (troubled trouble)) after known sound came = none_lost CanThis trouble after
  raise_loses (Err (refused refusal)) after known sound came = λ can. refused_never after log (Raise (first_number work.rows) work.upto) sound (λ config. (can, known)) came

  -- of a step of a delete worker that drops nothing
  pub raise_lost : (luck : WorkerLuck) (core : Core) → work.unfetched ≡ [] → drops_none work core ≡ true → IsWork log core work → GoesOn None core (step_worker Deleting luck log (fetching work) core).core →
      IsSoundCore (step_worker Deleting luck log (fetching work) core).core log → LosesUnless CanThis (step_worker Deleting luck log (fetching work) core).outcome (step_worker Deleting luck log (fetching work) core).core
  raise_lost luck core done none w goes sound =
      subst (λ (st : Stepped). GoesOn None core st.core → IsSoundCore st.core log → LosesUnless CanThis st.outcome st.core) (sym steps) (short luck.short) goes sound
    where
      steps : step_worker Deleting luck log (fetching work) core ≡ or_short luck.short (step_raise luck (first_number work.rows) work.upto core)
      steps =
          ap (λ u. or_short luck.short (step_work Deleting luck work u core)) done
          ∙ ap (λ b. or_short luck.short (cond b (step_raise luck (first_number work.rows) work.upto core) (step_stage luck (held_of Deleting work core) core))) none

      given : Gives Unmade ⊤
      given = raise_call (first_number work.rows) work.upto luck.world core

      at_end : GoesOn None core given.core → IsSoundCore given.core log → LosesUnless CanThis (raise_by given.answer (first_number work.rows) given.core).outcome given.core
      at_end on well =
          let others : GoesFor Nobody core given.core = goes_less (IsOther None) Nobody core given.core (λ n no. absurd no) on in
          raise_loses given.answer given.core (work_stays core given.core log others (sound_legal given.core log well) work w).known well (appended_comes (Raise (first_number work.rows) work.upto) luck.world core)

      same_core : (answer : Result ⊤ Unmade) (c : Core) → (raise_by answer (first_number work.rows) c).core ≡ c
      same_core (Ok done) c = refl
      same_core (Err e) c = refl

      short : (b : Bool) → GoesOn None core (or_short b (step_raise luck (first_number work.rows) work.upto core)).core → IsSoundCore (or_short b (step_raise luck (first_number work.rows) work.upto core)).core log →
          LosesUnless CanThis (or_short b (step_raise luck (first_number work.rows) work.upto core)).outcome (or_short b (step_raise luck (first_number work.rows) work.upto core)).core
      short true on well = tt
      short false on well =
          let same = same_core given.answer given.core in
          subst (λ (c : Core). LosesUnless CanThis (raise_by given.answer (first_number work.rows) given.core).outcome c) (sym same)
          (at_end (subst (λ (c : Core). GoesOn None core c) same on) (subst (λ (c : Core). IsSoundCore c log) same well))
