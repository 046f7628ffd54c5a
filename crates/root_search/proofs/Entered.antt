-- What a transaction and a plan leave, however they end: the history that they found, grown at its end.
use Rattle.std.proofs.Common.{◌≡◌, ℕ, ◌≤◌, Bool, true, false, [], ◌∷◌, refl, Result, Ok, Err}
use Rattle.std.proofs.lemmas.Bool.{leb-true}
use Rattle.std.specs.Prelude.{⊤, ◌||◌, length, nat_le}
use Rattle.meta_journal.specs.Places.{meta_key}
use Rattle.meta_journal.specs.declared.entry.Act.{Act}
use Rattle.meta_journal.specs.declared.entry.Entry.{Entry}
use Rattle.meta_store.specs.declared.refusal.Refusal.{Refusal}
use Rattle.index_world.specs.Calls.{Call, is_at_once, Fate, store_fault, is_foreign, is_full, is_expired, Gives, Made, made, exists, failed, Trouble, faulted, Unmade, refused, troubled, adopted_made, answer_behind, appended, and_then_by, asked_and_looked, asked_clock, asking, begun, create_at_end, entry_of, fence_of, first_unless, full_answer, get_at_end, got_at, last_create, last_made, last_unless, may_fail, no_memory, or_full, or_short, settle_made, settle_with, settled, settled_and_copied, taken_in, taken_unless, transact, troubled_by, unless_short}
use Rattle.index_world.specs.Core.{Core}
use Rattle.index_world.specs.Index.{max_entries}
use Rattle.root_search.proofs.TaskCalls.{Grows, begun_same, created_same, get_grows, grows_on, room_grows, same_grows, settled_grows}

module _ (from : Core) where
  begun_grows : (call : Call) (core : Core) → Grows from core → Grows from (begun call core)
  begun_grows call core g = grows_on from core (begun call core) g (same_grows core (begun call core) (begun_same call core))

  created_grows : (call : Call) (entry : Entry) (core : Core) → Grows from core → Grows from (create_at_end call entry core).core
  created_grows call entry core g = grows_on from core (create_at_end call entry core).core g (same_grows core (create_at_end call entry core).core (created_same call entry core))

  taken_grows : (entry : Entry) (core : Core) → Grows from core → Grows from (taken_in entry core)
  taken_grows entry core g = grows_on from core (taken_in entry core) g (entry ∷ [], refl)

  -- ---- a plan

  copied_grows : (r : Result ⊤ Trouble) (core : Core) (short : Bool) → Grows from core → Grows from (and_then_by r core (λ c. unless_short short c)).core
  copied_grows (Ok done) core short g = grows_on from core (unless_short short core).core g (room_grows short core)
  copied_grows (Err trouble) core short g = g

  asked_grows : (unasked : Bool) (fate : Fate) (core : Core) → Grows from core → Grows from (asking unasked no_memory core (λ c. settled_and_copied fate c)).core
  asked_grows true fate core g = g
  asked_grows false fate core g =
      let given = settled fate.first fate.second (asked_clock core) in
      copied_grows given.answer given.core fate.third.short (grows_on from (asked_clock core) given.core g (settled_grows core.unsure fate.first fate.second (asked_clock core)))

-- a plan takes entries in
pub looked_grows : (fate : Fate) (core : Core) → Grows core (asked_and_looked fate core).core
looked_grows fate core = asked_grows core fate.unasked fate core (same_grows core core refl)

-- ---- a transaction

-- where it met a full journal, or an object that it did not make
abbrev pub Room : Result ⊤ Unmade → Core → Type 0
Room (Ok done) core = ⊤
Room (Err (refused refusal)) core = ⊤
Room (Err (troubled (faulted (store_fault before after)))) core = ⊤
Room (Err (troubled (faulted (is_foreign key)))) core = key ≡ meta_key (length core.history)
Room (Err (troubled (faulted is_full))) core = max_entries ≤ length core.history
Room (Err (troubled (faulted (is_expired planned_at now)))) core = ⊥
Room (Err (troubled no_memory)) core = ⊤

pub record Leaves (from : Core) (answer : Result ⊤ Unmade) (core : Core) : Type 0 where
  pub grows : Grows from core
  pub room : Room answer core

-- settling meets neither
abbrev pub IsSettling : Result ⊤ Trouble → Type 0
IsSettling (Ok done) = ⊤
IsSettling (Err (faulted (store_fault before after))) = ⊤
IsSettling (Err (faulted (is_foreign key))) = ⊥
IsSettling (Err (faulted is_full)) = ⊥
IsSettling (Err (faulted (is_expired planned_at now))) = ⊥
IsSettling (Err no_memory) = ⊤

taken_settles : (short unsure : Bool) (entry : Entry) (core : Core) → IsSettling (taken_unless short unsure entry core).answer
taken_settles true unsure entry core = tt
taken_settles false unsure entry core = tt

got_settles : (fails : Bool) (call : Call) (before : ℕ) (entry : Entry) (core : Core) → IsSettling (got_at fails call before entry core).answer
got_settles true call before entry core = tt
got_settles false call before entry core = taken_settles call.short (core.unsure || is_at_once call.effect) entry core

fence_settles : (get : Call) (before : ℕ) (fence : Entry) (answer : Made) (core : Core) → IsSettling (settle_made get before fence answer core).answer
fence_settles get before fence made core = taken_settles get.short true fence core
fence_settles get before fence (exists entry) core = got_settles (may_fail get core.store_faults) get before entry (begun get core)
fence_settles get before fence failed core = tt

room_settles : (short : Bool) (core : Core) → IsSettling (unless_short short core).answer
room_settles true core = tt
room_settles false core = tt

short_settles : (short : Bool) (call : Call) (core : Core) (otherwise : Gives Trouble ⊤) → IsSettling otherwise.answer → IsSettling (or_short short no_memory call core otherwise).answer
short_settles true call core otherwise s = tt
short_settles false call core otherwise s = s

settling : (unsure : Bool) (first second : Call) (core : Core) → IsSettling (settle_with unsure first second core).answer
settling false first second core = room_settles first.short core
settling true first second core =
    let making = create_at_end first (fence_of core) core in
    short_settles first.short first core (settle_made second core.store_faults (fence_of core) making.answer making.core) (fence_settles second core.store_faults (fence_of core) making.answer making.core)

copied_settles : (r : Result ⊤ Trouble) (core : Core) (short : Bool) → IsSettling r → IsSettling (and_then_by r core (λ c. unless_short short c)).answer
copied_settles (Ok done) core short s = room_settles short core
copied_settles (Err trouble) core short s = s

asked_settles : (unasked : Bool) (fate : Fate) (core : Core) → IsSettling (asking unasked no_memory core (λ c. settled_and_copied fate c)).answer
asked_settles true fate core = tt
asked_settles false fate core =
    let given = settled fate.first fate.second (asked_clock core) in
    copied_settles given.answer given.core fate.third.short (settling core.unsure fate.first fate.second (asked_clock core))

-- a plan meets neither, and comes never too late
pub looked_settles : (fate : Fate) (core : Core) → IsSettling (asked_and_looked fate core).answer
looked_settles fate core = asked_settles fate.unasked fate core

module _ (act : Core → Act) (from : Core) where
  abbrev LeavesAs : Gives Unmade ⊤ → Type 0
  LeavesAs given = Leaves from given.answer given.core

  short_leaves : (short : Bool) (call : Call) (core : Core) (given : Gives Unmade ⊤) → Grows from core → LeavesAs given → LeavesAs (or_short short (troubled no_memory) call core given)
  short_leaves true call core given g l = record { grows = begun_grows from call core g; room = tt }
  short_leaves false call core given g l = l

  made_leaves : (count : ℕ) (entry : Entry) (answer : Made) (core : Core) → Grows from core → LeavesAs (last_made count entry answer core)
  made_leaves count entry made core g = record { grows = taken_grows from entry core g; room = tt }
  made_leaves count entry (exists other) core g = record { grows = g; room = refl }
  made_leaves count entry failed core g = record { grows = g; room = tt }

  last_full : (b : Bool) (call : Call) (count : ℕ) (core : Core) → nat_le max_entries (length core.history) ≡ b → Grows from core → LeavesAs (last_unless (full_answer b) call count (act core) core)
  last_full true call count core e g = record { grows = g; room = leb-true max_entries (length core.history) e }
  last_full false call count core e g =
      let making = create_at_end call (entry_of (act core) core) core in
      made_leaves count (entry_of (act core) core) making.answer making.core (created_grows from call (entry_of (act core) core) core g)

  last_by : (r : Result (Unit {0}) Refusal) (call : Call) (count : ℕ) (core : Core) → Grows from core → LeavesAs (last_unless (or_full r core) call count (act core) core)
  last_by (Err refusal) call count core g = record { grows = g; room = tt }
  last_by (Ok done) call count core g = last_full (nat_le max_entries (length core.history)) call count core refl g

  last_leaves : (call : Call) (count : ℕ) (core : Core) → Grows from core → LeavesAs (last_create call count (act core) core)
  last_leaves call count core g = short_leaves call.short call core _ g (last_by (answer_behind core.history (entry_of (act core) core)) call count core g)

  then_leaves : (r : Result ⊤ Trouble) (core : Core) (call : Call) (count : ℕ) → IsSettling r → Grows from core →
      LeavesAs (and_then_by (troubled_by r core).answer (troubled_by r core).core (λ c. last_create call count (act c) c))
  then_leaves (Ok done) core call count s g = last_leaves call count core g
  then_leaves (Err (faulted (store_fault before after))) core call count s g = record { grows = g; room = tt }
  then_leaves (Err (faulted (is_foreign key))) core call count s g = absurd s
  then_leaves (Err (faulted is_full)) core call count s g = absurd s
  then_leaves (Err (faulted (is_expired planned_at now))) core call count s g = absurd s
  then_leaves (Err no_memory) core call count s g = record { grows = g; room = tt }

  adopted_leaves : (get again : Call) (count : ℕ) (entry : Entry) (answer : Made) (core : Core) → Grows from core → LeavesAs (adopted_made get again count act entry answer core)
  adopted_leaves get again count entry made core g = record { grows = taken_grows from entry core g; room = tt }
  adopted_leaves get again count entry (exists other) core g =
      let given = get_at_end get other count core in
      then_leaves given.answer given.core again count (got_settles (may_fail get core.store_faults) get count other (begun get core)) (grows_on from core given.core g (get_grows get other count core))
  adopted_leaves get again count entry failed core g = record { grows = g; room = tt }

  first_full : (b : Bool) (first second third : Call) (core : Core) → nat_le max_entries (length core.history) ≡ b → Grows from core → LeavesAs (first_unless (full_answer b) first second third act core)
  first_full true first second third core e g = record { grows = g; room = leb-true max_entries (length core.history) e }
  first_full false first second third core e g =
      let making = create_at_end first (entry_of (act core) core) core in
      adopted_leaves second third core.store_faults (entry_of (act core) core) making.answer making.core (created_grows from first (entry_of (act core) core) core g)

  first_by : (r : Result (Unit {0}) Refusal) (first second third : Call) (core : Core) → Grows from core → LeavesAs (first_unless (or_full r core) first second third act core)
  first_by (Err refusal) first second third core g = record { grows = g; room = tt }
  first_by (Ok done) first second third core g = first_full (nat_le max_entries (length core.history)) first second third core refl g

  transact_leaves : (unsure : Bool) (first second third : Call) (core : Core) → Grows from core → LeavesAs (transact unsure first second third act core)
  transact_leaves true first second third core g =
      let given = settled first second core in
      then_leaves given.answer given.core third core.store_faults (settling core.unsure first second core) (grows_on from core given.core g (settled_grows core.unsure first second core))
  transact_leaves false first second third core g = short_leaves first.short first core _ g (first_by (answer_behind core.history (entry_of (act core) core)) first second third core g)

  appended_by : (unasked : Bool) (fate : Fate) (core : Core) → Grows from core → LeavesAs (asking unasked (troubled no_memory) core (λ c. transact c.unsure fate.first fate.second fate.third act c))
  appended_by true fate core g = record { grows = g; room = tt }
  appended_by false fate core g = transact_leaves core.unsure fate.first fate.second fate.third (asked_clock core) g

-- what it leaves
pub appended_leaves : (act : Core → Act) (fate : Fate) (core : Core) → Leaves core (appended fate act core).answer (appended fate act core).core
appended_leaves act fate core = appended_by act core fate.unasked fate core (same_grows core core refl)
