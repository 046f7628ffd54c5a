-- What a transaction says of the journal that it came to.
use Rattle.std.proofs.Common.{◌≡◌, ℕ, ◌<◌, ◌≤◌, Bool, true, false, List, [], ◌∷◌, ◌++◌, length, refl, ap, arith}
use Rattle.std.proofs.lemmas.Bool.{leb-true}
use Rattle.std.proofs.lemmas.List.{length-append}
use Rattle.std.specs.Prelude.{Result, Ok, Err, ⊤, nat_le}
use Rattle.meta_journal.specs.declared.entry.Act.{Act}
use Rattle.meta_journal.specs.declared.entry.Entry.{Entry}
use Rattle.meta_store.specs.declared.refusal.Refusal.{Refusal}
use Rattle.index_world.specs.Calls.{Call, Fate, Gives, Made, made, exists, failed, store_fault, is_foreign, is_full, is_expired, Trouble, faulted, no_memory, Unmade, refused, troubled, adopted_made, and_then_by, answer_behind, appended, asked_clock, asking, begun, create_at_end, entry_of, first_unless, full_answer, get_at_end, last_create, last_made, last_unless, may_fail, or_full, or_short, settled, taken_in, transact, troubled_by}
use Rattle.index_world.specs.Core.{Core}
use Rattle.index_world.specs.Index.{max_entries}
use Rattle.call_laws.proofs.CallTells.{IfErr, IsStoreTrouble, got_own, settle_own}
use Rattle.thread_run.proofs.Keeping.{create_keeps, get_keeps, settled_keeps}

-- ---- the history has so many entries at least

abbrev pub Long : ℕ → Core → Type 0
Long count core = count ≤ length core.history

module _ (count : ℕ) where
  pub long_same : (a b : Core) → b.history ≡ a.history → b.moment ≡ a.moment → b.frozen ≡ a.frozen → Long count a → Long count b
  long_same a b entries now frozen le = let same = ap (λ (es : List Entry). length es) entries in omega (arith, same, le)

  pub long_taken : (entry : Entry) (core : Core) → Long count core → Long count (taken_in entry core)
  long_taken entry core le = let more = length-append core.history (entry ∷ []) in omega (arith, more, le)

  pub long_asked : (core : Core) → Long count core → Long count (asked_clock core)
  long_asked core le = le

-- ---- a transaction

-- Its entry was taken in; it was refused behind what is taken in now; or the journal is full.
abbrev pub Appends : (Core → Act) → (count : ℕ) → Result ⊤ Unmade → Core → Type 0
Appends act count (Ok done) core = count < length core.history
Appends act count (Err (refused refusal)) core = answer_behind core.history (entry_of (act core) core) ≡ Err refusal
Appends act count (Err (troubled (faulted (store_fault low high)))) core = ⊤
Appends act count (Err (troubled (faulted (is_foreign key)))) core = ⊤
Appends act count (Err (troubled (faulted is_full))) core = max_entries ≤ length core.history
Appends act count (Err (troubled (faulted (is_expired planned_at now)))) core = ⊤
Appends act count (Err (troubled no_memory)) core = ⊤

module _ (act : Core → Act) (count : ℕ) where
  abbrev Comes : Gives Unmade ⊤ → Type 0
  Comes given = Appends act count given.answer given.core

  short_comes : (b : Bool) (call : Call) (core : Core) (given : Gives Unmade ⊤) → Comes given → Comes (or_short b (troubled no_memory) call core given)
  short_comes true call core given m = tt
  short_comes false call core given m = m

  taken_comes : (entry : Entry) (core : Core) → Long count core → count < length (core.history ++ entry ∷ [])
  taken_comes entry core le = let more = length-append core.history (entry ∷ []) in omega (arith, more, le)

  last_made_comes : (faults : ℕ) (entry : Entry) (m : Made) (core : Core) → Long count core → Comes (last_made faults entry m core)
  last_made_comes faults entry made core le = taken_comes entry core le
  last_made_comes faults entry (exists other) core le = tt
  last_made_comes faults entry failed core le = tt

  created : (call : Call) (entry : Entry) (core : Core) → Long count core → Long count (create_at_end call entry core).core
  created call entry core le = create_keeps (Long count) (long_same count) (long_taken count) (long_asked count) call entry core le

  full_comes : (b : Bool) (call : Call) (faults : ℕ) (core : Core) → nat_le max_entries (length core.history) ≡ b → Long count core → Comes (last_unless (full_answer b) call faults (act core) core)
  full_comes true call faults core e le = leb-true max_entries (length core.history) e
  full_comes false call faults core e le =
      let making = create_at_end call (entry_of (act core) core) core in
      last_made_comes faults (entry_of (act core) core) making.answer making.core (created call (entry_of (act core) core) core le)

  answer_comes : (r : Result (Unit {0}) Refusal) (call : Call) (faults : ℕ) (core : Core) → answer_behind core.history (entry_of (act core) core) ≡ r → Long count core →
      Comes (last_unless (or_full r core) call faults (act core) core)
  answer_comes (Err refusal) call faults core e le = e
  answer_comes (Ok done) call faults core e le = full_comes (nat_le max_entries (length core.history)) call faults core refl le

  last_comes : (call : Call) (faults : ℕ) (core : Core) → Long count core → Comes (last_create call faults (act core) core)
  last_comes call faults core le = short_comes call.short call core _ (answer_comes (answer_behind core.history (entry_of (act core) core)) call faults core refl le)

  then_comes : (r : Result ⊤ Trouble) (core : Core) (call : Call) (faults : ℕ) → IfErr IsStoreTrouble r → Long count core →
      Comes (and_then_by (troubled_by r core).answer (troubled_by r core).core (λ c. last_create call faults (act c) c))
  then_comes (Ok done) core call faults h le = last_comes call faults core le
  then_comes (Err (faulted (store_fault low high))) core call faults h le = tt
  then_comes (Err (faulted (is_foreign key))) core call faults h le = tt
  then_comes (Err (faulted is_full)) core call faults h le = absurd h
  then_comes (Err (faulted (is_expired planned_at now))) core call faults h le = tt
  then_comes (Err no_memory) core call faults h le = tt

  adopted_comes : (get again : Call) (faults : ℕ) (entry : Entry) (m : Made) (core : Core) → Long count core → Comes (adopted_made get again faults act entry m core)
  adopted_comes get again faults entry made core le = taken_comes entry core le
  adopted_comes get again faults entry (exists other) core le =
      let given = get_at_end get other faults core in
      then_comes given.answer given.core again faults (got_own (may_fail get core.store_faults) get faults other (begun get core))
      (get_keeps (Long count) (long_same count) (long_taken count) (long_asked count) get other faults core le)
  adopted_comes get again faults entry failed core le = tt

  module _ (first second third : Call) where
    first_full_comes : (b : Bool) (core : Core) → nat_le max_entries (length core.history) ≡ b → Long count core → Comes (first_unless (full_answer b) first second third act core)
    first_full_comes true core e le = leb-true max_entries (length core.history) e
    first_full_comes false core e le =
        let making = create_at_end first (entry_of (act core) core) core in
        adopted_comes second third core.store_faults (entry_of (act core) core) making.answer making.core (created first (entry_of (act core) core) core le)

    first_comes : (r : Result (Unit {0}) Refusal) (core : Core) → answer_behind core.history (entry_of (act core) core) ≡ r → Long count core → Comes (first_unless (or_full r core) first second third act core)
    first_comes (Err refusal) core e le = e
    first_comes (Ok done) core e le = first_full_comes (nat_le max_entries (length core.history)) core refl le

    transact_comes : (b : Bool) (core : Core) → Long count core → Comes (transact b first second third act core)
    transact_comes true core le =
        let given = settled first second core in
        then_comes given.answer given.core third core.store_faults (settle_own core.unsure first second core)
        (settled_keeps (Long count) (long_same count) (long_taken count) (long_asked count) first second core le)
    transact_comes false core le = short_comes first.short first core _ (first_comes (answer_behind core.history (entry_of (act core) core)) core refl le)

  pub appended_comes : (fate : Fate) (core : Core) → Long count core → Comes (appended fate act core)
  appended_comes fate core le = by fate.unasked
    where
      by : (b : Bool) → Comes (asking b (troubled no_memory) core (λ c. transact c.unsure fate.first fate.second fate.third act c))
      by true = tt
      by false = transact_comes fate.first fate.second fate.third core.unsure (asked_clock core) le
