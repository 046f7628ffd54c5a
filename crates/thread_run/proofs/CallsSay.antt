-- What fails a call of a world, and what the journal says of it then.
use Rattle.std.proofs.Common.{◌≡◌, ℕ, ◌+◌, ◌≤◌, ◌<◌, Bool, true, false, cond, List, [], length, refl, sym, ap, ◌∙◌, arith}
use Rattle.std.proofs.lemmas.Bool.{eq-eqb, le-ltb, leb-true, ltb-false}
use Rattle.std.specs.Prelude.{Option, Some, Result, Ok, Err, IsOk, ⊤, is_some, nat_le, nat_lt}
use Rattle.meta_journal.specs.Places.{split_key}
use Rattle.meta_journal.specs.declared.entry.Act.{Act}
use Rattle.meta_journal.specs.declared.entry.Act.TheVariants.{Stage}
use Rattle.meta_journal.specs.declared.entry.Entry.{Entry}
use Rattle.meta_store.specs.Answers as answers
use Rattle.meta_store.specs.History.{history, last_number, moment_of}
use Rattle.meta_store.specs.Readings.{config_of, reading_of}
use Rattle.meta_store.specs.Rows.{rows}
use Rattle.meta_store.specs.State.{Legal, state_of}
use Rattle.meta_store.specs.declared.config.Config.{Config}
use Rattle.meta_store.specs.declared.refusal.Refusal.{Refusal}
use Rattle.meta_store.specs.declared.refusal.Refusal.TheVariants.{MomentBack, NotNext, TooManyRows}
use Rattle.source_checkpoint.specs.Deltas.{IsDelta, answer_to_delta, then_answer}
use Rattle.source_checkpoint.specs.declared.delta.Part.{Part}
use Rattle.source_checkpoint.specs.declared.delta.StaleDelta.{StaleDelta}
use Rattle.source_checkpoint.proofs.Answering.{delta_answer}
use Rattle.split_states.specs.declared.facts.RowFacts.{RowFacts}
use Rattle.index_world.specs.Calls.{Call, Effect, done_at_once, done_late, done_never, Fate, Fault, store_fault, is_foreign, is_full, is_expired, Gives, gives, Grace, Trouble, faulted, no_memory, Unmade, refused, troubled, answer_behind, appended, asked_clock, asking, begun, entry_of, fetched, file_by, file_got, file_made, got_file, may_fail, or_short, unless_over}
use Rattle.index_world.specs.Config.{reads}
use Rattle.index_world.specs.Core.{Core, file_at}
use Rattle.index_world.specs.Index.{max_entries}
use Rattle.index_world.proofs.Asking.{Begun, begun_history}
use Rattle.index_world.proofs.Numbers.{revision_is}
use Rattle.root_search.proofs.Entered.{Room, appended_leaves}
use Rattle.root_search.proofs.TaskCalls.{appended_refused}
use Rattle.call_laws.proofs.CallTells.{IfErr, IsLowCore, IsOwnTrouble, IsStoreTrouble, appended_own}

-- ---- faults

-- a fault of a call that left this core, which is none of a fetch
abbrev pub FaultAt : Core → Fault → Type 0
FaultAt core (store_fault before now) = ⊤
FaultAt core (is_foreign key) = (number : ℕ) × (key ≡ split_key number)
FaultAt core is_full = max_entries ≤ length core.history
FaultAt core (is_expired planned_at now) = ⊥

abbrev pub TroubleAt : Core → Trouble → Type 0
TroubleAt core (faulted fault) = FaultAt core fault
TroubleAt core no_memory = ⊤

abbrev pub Fails : Core → Result ⊤ Trouble → Type 0
Fails core (Ok done) = ⊤
Fails core (Err trouble) = TroubleAt core trouble

-- a call that makes no entry and no file fails by the store alone
store_trouble : (core : Core) (trouble : Trouble) → IsStoreTrouble trouble → TroubleAt core trouble
store_trouble core (faulted (store_fault before now)) own = tt
store_trouble core (faulted (is_foreign key)) own = absurd own
store_trouble core (faulted is_full) own = absurd own
store_trouble core (faulted (is_expired planned_at now)) own = absurd own
store_trouble core no_memory own = tt

pub store_fails : (core : Core) (r : Result ⊤ Trouble) → IfErr IsStoreTrouble r → Fails core r
store_fails core (Ok done) own = tt
store_fails core (Err trouble) own = store_trouble core trouble own

-- ---- an entry

abbrev pub Unmakes : (Core → Act) → Core → Result ⊤ Unmade → Type 0
Unmakes act core (Ok done) = ⊤
Unmakes act core (Err (refused refusal)) = answer_behind core.history (entry_of (act core) core) ≡ Err refusal
Unmakes act core (Err (troubled trouble)) = TroubleAt core trouble

-- an entry is refused by what was taken in then
pub entry_fails : (act : Core → Act) (fate : Fate) (core : Core) → IsLowCore core → Unmakes act (appended fate act core).core (appended fate act core).answer
entry_fails act fate core low = by (appended fate act core).answer refl (appended_own fate act core low) (appended_leaves act fate core).room
  where
    after : Core
    after = (appended fate act core).core

    by : (r : Result ⊤ Unmade) → (appended fate act core).answer ≡ r → IfErr IsOwnTrouble r → Room r (appended fate act core).core → Unmakes act (appended fate act core).core r
    by (Ok done) e own room = tt
    by (Err (refused refusal)) e own room = appended_refused act fate core (appended fate act core).core refusal (ap (λ (x : Result ⊤ Unmade). gives x (appended fate act core).core) e)
    by (Err (troubled (faulted (store_fault before now)))) e own room = tt
    by (Err (troubled (faulted (is_foreign key)))) e own room = absurd own
    by (Err (troubled (faulted is_full))) e own room = room
    by (Err (troubled (faulted (is_expired planned_at now)))) e own room = absurd room
    by (Err (troubled no_memory)) e own room = tt

-- ---- a file

file_by_fails : (fails : Bool) (effect : Effect) (stands : Bool) (before number : ℕ) (bytes : List ℕ) (core : Core) →
    Fails (file_by fails effect stands before (split_key number) bytes core).core (file_by fails effect stands before (split_key number) bytes core).answer
file_by_fails true done_at_once false before number bytes core = tt
file_by_fails true done_at_once true before number bytes core = tt
file_by_fails true done_late stands before number bytes core = tt
file_by_fails true done_never stands before number bytes core = tt
file_by_fails false effect true before number bytes core = (number, refl)
file_by_fails false effect false before number bytes core = tt

or_short_fails : (short : Bool) (call : Call) (core : Core) (given : Gives Trouble ⊤) → Fails given.core given.answer → Fails (or_short short no_memory call core given).core (or_short short no_memory call core given).answer
or_short_fails true call core given f = tt
or_short_fails false call core given f = f

pub file_fails : (call : Call) (number : ℕ) (bytes : List ℕ) (core : Core) → Fails (file_made call (split_key number) bytes core).core (file_made call (split_key number) bytes core).answer
file_fails call number bytes core =
    or_short_fails call.short call core _
    (file_by_fails (may_fail call core.store_faults) call.effect (is_some (file_at (begun call core).files (split_key number))) core.store_faults number bytes (begun call core))

-- ---- a fetch

-- the store failed, or it came too late, as the core tells that it left
abbrev pub FetchAt : Grace → Core → Trouble → Type 0
FetchAt grace core (faulted (store_fault before now)) = ⊤
FetchAt grace core (faulted (is_foreign key)) = ⊥
FetchAt grace core (faulted is_full) = ⊥
FetchAt grace core (faulted (is_expired planned_at now)) = (planned_at ≡ grace.planned_at) × (grace.until ≤ now) × (now ≡ core.moment)
FetchAt grace core no_memory = ⊤

abbrev pub Unfetches : Grace → Core → Result ⊤ Trouble → Type 0
Unfetches grace core (Ok done) = ⊤
Unfetches grace core (Err trouble) = FetchAt grace core trouble

module _ (grace : Grace) where
  got_fails : (fails : Bool) (before : ℕ) (core : Core) → Unfetches grace (got_file fails before core).core (got_file fails before core).answer
  got_fails true before core = tt
  got_fails false before core = tt

  short_fails : (short : Bool) (call : Call) (core : Core) (given : Gives Trouble ⊤) → Unfetches grace given.core given.answer → Unfetches grace (or_short short no_memory call core given).core (or_short short no_memory call core given).answer
  short_fails true call core given f = tt
  short_fails false call core given f = f

  over_fails : (over : Bool) (core : Core) (given : Gives Trouble ⊤) → nat_le grace.until core.moment ≡ over → Unfetches grace given.core given.answer →
      Unfetches grace (unless_over over grace.planned_at core given).core (unless_over over grace.planned_at core given).answer
  over_fails true core given e f = (refl, leb-true grace.until core.moment e, refl)
  over_fails false core given e f = f

  asked_fails : (unasked : Bool) (fate : Fate) (core : Core) → let given = asking unasked no_memory core (λ c. unless_over (nat_le grace.until c.moment) grace.planned_at c (file_got fate.first c)) in Unfetches grace given.core given.answer
  asked_fails true fate core = tt
  asked_fails false fate core =
      let c = asked_clock core in
      over_fails (nat_le grace.until c.moment) c (file_got fate.first c) refl
      (short_fails fate.first.short fate.first c _ (got_fails (may_fail fate.first c.store_faults) c.store_faults (begun fate.first c)))

  pub fetch_fails : (fate : Fate) (core : Core) → Unfetches grace (fetched grace fate core).core (fetched grace fate core).answer
  fetch_fails fate core = asked_fails fate.unasked fate core

-- ---- a Stage that is refused

ok_is_err : (refusal : Refusal) → ◌≡◌ {A = Result (Unit {0}) Refusal} (Ok tt) (Err refusal) → ⊥
ok_is_err refusal e = cc

refusal_same : (a b : Refusal) → ◌≡◌ {A = Result (Unit {0}) Refusal} (Err a) (Err b) → a ≡ b
refusal_same a b e = cc

ok_is : {E : Type 0} (r : Result (Unit {0}) E) → IsOk r → r ≡ Ok tt
ok_is (Ok done) ok = refl
ok_is (Err e) ok = absurd (false_true ok)
  where
    false_true : false ≡ true → ⊥
    false_true e = cc

-- behind entries whose moments are no later, one of a delta is refused where no row more may be staged
module _ (es : List Entry) (moment : ℕ) (legal : Legal reads (history es)) (some : 0 < length es) (late : moment_of (history es) ≤ moment) where
  begun_here : Begun (history es)
  begun_here = begun_history (history es) legal (let r = revision_is es in omega (arith, r, some))

  abbrev Answering : (act : Act) → Option Config → Result (Unit {0}) Refusal
  Answering act c = answers.answer_by (reading_of reads c act) c (state_of reads (history es)) moment act

  answer_here : (act : Act) → answer_behind es (record { moment = moment; act = act }) ≡ Answering act (Some begun_here.config)
  answer_here act =
      ap (λ (b : Bool). then_answer (cond b (Err (MomentBack moment (moment_of (history es)))) (Ok tt)) (Answering act (config_of reads (history es)))) (le-ltb moment (moment_of (history es)) late)
      ∙ ap (Answering act) begun_here.is

  pub crowded_here : (delta : List Part) (facts : RowFacts) (refusal : Refusal) → IsDelta delta → answer_behind es (record { moment = moment; act = Stage (last_number (history es) + 1) delta facts }) ≡ Err refusal →
      (100000 ≤ length (rows (history es))) × (refusal ≡ TooManyRows (length (rows (history es))))
  crowded_here delta facts refusal is_delta e = by (nat_lt (length (rows (history es))) 100000) refl (staged_rows ∙ e)
    where
      next : ℕ
      next = last_number (history es) + 1

      checked : answer_to_delta [] delta ≡ Ok tt
      checked = ok_is (answer_to_delta [] delta) ((delta_answer delta).1 is_delta)

      rest : Result (Unit {0}) Refusal
      rest = then_answer (answers.in_delta (answer_to_delta [] delta)) (answers.answer_to_rows (length (rows (history es))))

      staged_rows : answers.answer_to_rows (length (rows (history es))) ≡ answer_behind es (record { moment = moment; act = Stage next delta facts })
      staged_rows =
          ap (λ (d : Result (Unit {0}) StaleDelta). then_answer (answers.in_delta d) (answers.answer_to_rows (length (rows (history es))))) (sym checked)
          ∙ ap (λ (b : Bool). then_answer (cond b (Ok tt) (Err (NotNext next next))) rest) (sym (eq-eqb next next refl))
          ∙ sym (answer_here (Stage next delta facts))

      by : (b : Bool) → nat_lt (length (rows (history es))) 100000 ≡ b → answers.answer_to_rows (length (rows (history es))) ≡ Err refusal →
          (100000 ≤ length (rows (history es))) × (refusal ≡ TooManyRows (length (rows (history es))))
      by true t k = absurd (ok_is_err refusal (ap (λ (b : Bool). cond b (Ok tt) (Err (TooManyRows (length (rows (history es)))))) (sym t) ∙ k))
      by false t k =
          (ltb-false (length (rows (history es))) 100000 t, refusal_same refusal (TooManyRows (length (rows (history es)))) (sym (ap (λ (b : Bool). cond b (Ok tt) (Err (TooManyRows (length (rows (history es)))))) (sym t) ∙ k)))
