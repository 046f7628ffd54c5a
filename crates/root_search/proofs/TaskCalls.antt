-- A transaction that was done ends in its own entry, made of the state before it, and one that is refused is refused by the state that it left.
use Rattle.std.proofs.Common.{◌≡◌, ℕ, Bool, true, false, List, [], ◌∷◌, ◌++◌, refl, sym, subst, ap, ◌∙◌, append_assoc, Option, Some, None, Result, Ok, Err}
use Rattle.std.proofs.lemmas.List.{append-nil}
use Rattle.std.specs.Prelude.{⊤, ◌==◌, ◌||◌, length, slice_get, is_some, nat_le}
use Rattle.meta_journal.specs.declared.entry.Act.{Act}
use Rattle.meta_journal.specs.declared.entry.Entry.{Entry}
use Rattle.meta_store.specs.History.{at}
use Rattle.meta_store.specs.declared.refusal.Refusal.{Refusal}
use Rattle.index_world.specs.Calls.{Call, Effect, done_at_once, done_late, done_never, is_at_once, Fate, Gives, gives, Made, made, exists, failed, Trouble, Unmade, refused, troubled, adopted_made, all_landed, answer_behind, appended, and_then_by, asked_clock, asking, begun, create_at_end, entry_lands, entry_of, fence_of, file_lands, first_unless, full_answer, get_at_end, got_at, land_at, last_made, last_unless, made_at, made_behind, may_append, may_fail, no_memory, or_full, or_short, risen, settle_made, settle_with, settled, taken_unless, transact, tried, troubled_by, unless_short}
use Rattle.index_world.specs.Core.{Core, Late, late_dead, late_entry, late_file, file_at}
use Rattle.index_world.specs.Index.{max_entries}

-- ---- answers

pub ok_one : {A E : Type 0} (a b : A) → ◌≡◌ {A = Result A E} (Ok a) (Ok b) → a ≡ b
ok_one a b h = cc

pub never_ok : {A E : Type 0} (e : E) (a : A) → ◌≡◌ {A = Result A E} (Err e) (Ok a) → ⊥
never_ok e a h = absurd (cc)

-- what a call answered, and the core that it left
answer_is : (g : Gives Unmade ⊤) (r : Result ⊤ Unmade) (after : Core) → g ≡ gives r after → g.answer ≡ r
answer_is g r after h = ap (λ (x : Gives Unmade ⊤). x.answer) h

not_done : (e : Unmade) (core after : Core) → ◌≡◌ {A = Gives Unmade ⊤} (gives (Err e) core) (gives (Ok tt) after) → ⊥
not_done e core after h = never_ok e tt (answer_is (gives (Err e) core) (Ok tt) after h)

left_is : (r s : Result ⊤ Unmade) (core after : Core) → ◌≡◌ {A = Gives Unmade ⊤} (gives r core) (gives s after) → core ≡ after
left_is r s core after h = ap (λ (x : Gives Unmade ⊤). x.core) h

-- ---- what is taken in

abbrev pub Grows : Core → Core → Type 0
Grows core after = (more : List Entry) × (after.history ≡ core.history ++ more)

pub same_grows : (core after : Core) → after.history ≡ core.history → Grows core after
same_grows core after e = ([], e ∙ sym (append-nil core.history))

pub grows_on : (a b c : Core) → Grows a b → Grows b c → Grows a c
grows_on a b c g h = (g.0 ++ h.0, h.1 ∙ (ap (λ (l : List Entry). l ++ h.0) g.1 ∙ append_assoc a.history g.0 h.0))

entry_same : (standing : Option Entry) (b : Bool) (entry : Entry) (core : Core) → (entry_lands standing b entry core).history ≡ core.history
entry_same None true entry core = refl
entry_same None false entry core = refl
entry_same (Some other) b entry core = refl

file_same : (b : Bool) (key bytes : List ℕ) (core : Core) → (file_lands b key bytes core).history ≡ core.history
file_same true key bytes core = refl
file_same false key bytes core = refl

land_same : (late : Option Late) (place : ℕ) (core : Core) → (land_at late place core).history ≡ core.history
land_same None place core = refl
land_same (Some (late_entry number entry bytes)) place core = entry_same core.standing (number == length core.history) entry core
land_same (Some (late_dead key bytes)) place core = refl
land_same (Some (late_file key bytes)) place core = file_same (is_some (file_at core.files key)) key bytes core

landed_same : (places : List ℕ) (core : Core) → (all_landed places core).history ≡ core.history
landed_same [] core = refl
landed_same (place ∷ places) core = landed_same places (land_at (slice_get core.late place) place core) ∙ land_same (slice_get core.late place) place core

pub begun_same : (call : Call) (core : Core) → (begun call core).history ≡ core.history
begun_same call core = landed_same call.lands (record core { store_faults = risen core.store_faults call.rises })

tried_same : (effect : Effect) (standing : Option Entry) (entry : Entry) (core : Core) → (tried effect standing entry core).history ≡ core.history
tried_same done_at_once None entry core = refl
tried_same done_at_once (Some other) entry core = refl
tried_same done_late standing entry core = refl
tried_same done_never standing entry core = refl

behind_same : (standing : Option Entry) (entry : Entry) (core : Core) → (made_behind standing entry core).core.history ≡ core.history
behind_same None entry core = refl
behind_same (Some other) entry core = refl

made_same : (fails : Bool) (effect : Effect) (entry : Entry) (core : Core) → (made_at fails effect entry core).core.history ≡ core.history
made_same true effect entry core = tried_same effect core.standing entry core
made_same false effect entry core = behind_same core.standing entry core

-- no entry is taken in by a create alone
pub created_same : (call : Call) (entry : Entry) (core : Core) → (create_at_end call entry core).core.history ≡ core.history
created_same call entry core = made_same (may_fail call core.store_faults) call.effect entry (begun call core) ∙ begun_same call core

unless_grows : (short unsure : Bool) (entry : Entry) (core : Core) → Grows core (taken_unless short unsure entry core).core
unless_grows true unsure entry core = same_grows core (record core { unsure = unsure }) refl
unless_grows false unsure entry core = (entry ∷ [], refl)

got_grows : (fails : Bool) (call : Call) (before : ℕ) (entry : Entry) (core : Core) → Grows core (got_at fails call before entry core).core
got_grows true call before entry core = same_grows core (record core { unsure = true }) refl
got_grows false call before entry core = unless_grows call.short (core.unsure || is_at_once call.effect) entry core

pub get_grows : (call : Call) (entry : Entry) (before : ℕ) (core : Core) → Grows core (get_at_end call entry before core).core
get_grows call entry before core = grows_on core (begun call core) (get_at_end call entry before core).core (same_grows core (begun call core) (begun_same call core)) (got_grows (may_fail call core.store_faults) call before entry (begun call core))

fence_grows : (get : Call) (before : ℕ) (fence : Entry) (answer : Made) (core : Core) → Grows core (settle_made get before fence answer core).core
fence_grows get before fence made core = unless_grows get.short true fence core
fence_grows get before fence (exists entry) core = get_grows get entry before core
fence_grows get before fence failed core = same_grows core core refl

short_grows : {E A : Type 0} (short : Bool) (e : E) (call : Call) (core : Core) (otherwise : Gives E A) → Grows core otherwise.core → Grows core (or_short short e call core otherwise).core
short_grows true e call core otherwise g = same_grows core (begun call core) (begun_same call core)
short_grows false e call core otherwise g = g

pub room_grows : (short : Bool) (core : Core) → Grows core (unless_short short core).core
room_grows true core = same_grows core core refl
room_grows false core = same_grows core core refl

pub settled_grows : (unsure : Bool) (first second : Call) (core : Core) → Grows core (settle_with unsure first second core).core
settled_grows false first second core = room_grows first.short core
settled_grows true first second core =
    let making = create_at_end first (fence_of core) core in
    short_grows first.short no_memory first core (settle_made second core.store_faults (fence_of core) making.answer making.core)
    (grows_on core making.core (settle_made second core.store_faults (fence_of core) making.answer making.core).core (same_grows core making.core (created_same first (fence_of core) core)) (fence_grows second core.store_faults (fence_of core) making.answer making.core))

-- ---- a transaction that was done

-- behind what was taken in, the last entry is the one that the state there gives
pub record EndsIn (act : Core → Act) (core after : Core) : Type 0 where
  pub found : Core
  pub grows : Grows core found
  pub moment : ℕ
  pub last : after.history ≡ found.history ++ at moment (act found) ∷ []

ends_on : (act : Core → Act) (a b after : Core) → Grows a b → EndsIn act b after → EndsIn act a after
ends_on act a b after g e = record { found = e.found; grows = grows_on a b e.found g e.grows; moment = e.moment; last = e.last }

last_is : (before : ℕ) (entry : Entry) (answer : Made) (core after : Core) → last_made before entry answer core ≡ gives (Ok tt) after → after.history ≡ core.history ++ entry ∷ []
last_is before entry made core after h = ap (λ (x : Gives Unmade ⊤). x.core.history) (sym h)
last_is before entry (exists other) core after h = absurd (not_done _ core after h)
last_is before entry failed core after h = absurd (not_done _ core after h)

last_by : (act : Core → Act) (answer : Result ⊤ Unmade) (call : Call) (before : ℕ) (core after : Core) → last_unless answer call before (act core) core ≡ gives (Ok tt) after → EndsIn act core after
last_by act (Err e) call before core after h = absurd (not_done e core after h)
last_by act (Ok done) call before core after h =
    let making = create_at_end call (entry_of (act core) core) core in
    record {
      found = core;
      grows = same_grows core core refl;
      moment = core.moment;
      last = last_is before (entry_of (act core) core) making.answer making.core after h ∙ ap (λ (l : List Entry). l ++ entry_of (act core) core ∷ []) (created_same call (entry_of (act core) core) core);
    }

last_ends : (act : Core → Act) (short : Bool) (call : Call) (before : ℕ) (core after : Core) → or_short short (troubled no_memory) call core (last_unless (may_append (act core) core) call before (act core) core) ≡ gives (Ok tt) after → EndsIn act core after
last_ends act true call before core after h = absurd (not_done (troubled no_memory) (begun call core) after h)
last_ends act false call before core after h = last_by act (may_append (act core) core) call before core after h

-- the own entry, behind what was taken in before it
then_ends : (act : Core → Act) (again : Call) (before : ℕ) (core after : Core) (answer : Result ⊤ Trouble) (left : Core) → Grows core left →
    and_then_by (troubled_by answer left).answer (troubled_by answer left).core (λ c. or_short again.short (troubled no_memory) again c (last_unless (may_append (act c) c) again before (act c) c)) ≡ gives (Ok tt) after → EndsIn act core after
then_ends act again before core after (Ok done) left g h = ends_on act core left after g (last_ends act again.short again before left after h)
then_ends act again before core after (Err trouble) left g h = absurd (not_done (troubled trouble) left after h)

adopted_ends : (act : Core → Act) (get again : Call) (before : ℕ) (found core after : Core) (answer : Made) → core.history ≡ found.history → adopted_made get again before act (entry_of (act found) found) answer core ≡ gives (Ok tt) after → EndsIn act found after
adopted_ends act get again before found core after made same h =
    record {
      found = found;
      grows = same_grows found found refl;
      moment = found.moment;
      last = ap (λ (x : Gives Unmade ⊤). x.core.history) (sym h) ∙ ap (λ (l : List Entry). l ++ entry_of (act found) found ∷ []) same;
    }
adopted_ends act get again before found core after (exists other) same h =
    let given = get_at_end get other before core in
    then_ends act again before found after given.answer given.core (grows_on found core given.core (same_grows found core same) (get_grows get other before core)) h
adopted_ends act get again before found core after failed same h = absurd (not_done _ core after h)

first_ends : (act : Core → Act) (answer : Result ⊤ Unmade) (first second third : Call) (core after : Core) → first_unless answer first second third act core ≡ gives (Ok tt) after → EndsIn act core after
first_ends act (Err e) first second third core after h = absurd (not_done e core after h)
first_ends act (Ok done) first second third core after h =
    let making = create_at_end first (entry_of (act core) core) core in
    adopted_ends act second third core.store_faults core making.core after making.answer (created_same first (entry_of (act core) core) core) h

unsettled_ends : (act : Core → Act) (short : Bool) (first second third : Call) (core after : Core) → or_short short (troubled no_memory) first core (first_unless (may_append (act core) core) first second third act core) ≡ gives (Ok tt) after → EndsIn act core after
unsettled_ends act true first second third core after h = absurd (not_done (troubled no_memory) (begun first core) after h)
unsettled_ends act false first second third core after h = first_ends act (may_append (act core) core) first second third core after h

transact_ends : (act : Core → Act) (unsure : Bool) (first second third : Call) (core after : Core) → transact unsure first second third act core ≡ gives (Ok tt) after → EndsIn act core after
transact_ends act true first second third core after h =
    let given = settled first second core in
    then_ends act third core.store_faults core after given.answer given.core (settled_grows core.unsure first second core) h
transact_ends act false first second third core after h = unsettled_ends act first.short first second third core after h

-- the clock is asked before, if there is the memory
pub appended_ends : (act : Core → Act) (fate : Fate) (core after : Core) → appended fate act core ≡ gives (Ok tt) after → EndsIn act core after
appended_ends act fate core after h = by fate.unasked h
  where
    by : (unasked : Bool) → asking unasked (troubled no_memory) core (λ c. transact c.unsure fate.first fate.second fate.third act c) ≡ gives (Ok tt) after → EndsIn act core after
    by true k = absurd (not_done (troubled no_memory) core after k)
    by false k = ends_on act core (asked_clock core) after (same_grows core (asked_clock core) refl) (transact_ends act (asked_clock core).unsure fate.first fate.second fate.third (asked_clock core) after k)

-- ---- a transaction that is refused

-- the state that it left refuses the entry that it gives
abbrev IsRefusedBy : (Core → Act) → Refusal → Core → Type 0
IsRefusedBy act refusal after = answer_behind after.history (entry_of (act after) after) ≡ Err refusal

not_refused : (r : Result ⊤ Unmade) (refusal : Refusal) → r ≡ Err (refused refusal) → ((t : Trouble) → r ≡ Err (troubled t) → ⊥)
not_refused r refusal h t k = let same : refused refusal ≡ troubled t = cc in absurd (cc)

other_answer : (trouble : Trouble) (refusal : Refusal) (core after : Core) → ◌≡◌ {A = Gives Unmade ⊤} (gives (Err (troubled trouble)) core) (gives (Err (refused refusal)) after) → ⊥
other_answer trouble refusal core after h = not_refused (Err (troubled trouble)) refusal (ap (λ (x : Gives Unmade ⊤). x.answer) h) trouble refl

never_done : (refusal : Refusal) (core after : Core) → ◌≡◌ {A = Gives Unmade ⊤} (gives (Ok tt) core) (gives (Err (refused refusal)) after) → ⊥
never_done refusal core after h = never_ok (refused refusal) tt (sym (ap (λ (x : Gives Unmade ⊤). x.answer) h))

full_is : (b : Bool) (refusal : Refusal) → full_answer b ≡ Err (refused refusal) → ⊥
full_is true refusal h = not_refused (full_answer true) refusal h _ refl
full_is false refusal h = never_ok (refused refusal) tt (sym h)

refusal_one : (one other : Refusal) → ◌≡◌ {A = Result ⊤ Unmade} (Err (refused one)) (Err (refused other)) → one ≡ other
refusal_one one other h = let same : refused one ≡ refused other = cc in cc

-- which is the state's own
own_refusal : (answer : Result (Unit {0}) Refusal) (core : Core) (refusal : Refusal) → or_full answer core ≡ Err (refused refusal) → answer ≡ Err refusal
own_refusal (Ok done) core refusal h = absurd (full_is (nat_le max_entries (length core.history)) refusal h)
own_refusal (Err one) core refusal h = ap (λ (r : Refusal). Err r) (refusal_one one refusal h)

may_is : (act : Core → Act) (core after : Core) (refusal : Refusal) (e : Unmade) → may_append (act core) core ≡ Err e → ◌≡◌ {A = Gives Unmade ⊤} (gives (Err e) core) (gives (Err (refused refusal)) after) → IsRefusedBy act refusal after
may_is act core after refusal e may h =
    subst (IsRefusedBy act refusal) (left_is (Err e) (Err (refused refusal)) core after h)
    (own_refusal (answer_behind core.history (entry_of (act core) core)) core refusal (may ∙ ap (λ (x : Gives Unmade ⊤). x.answer) h))

last_not : (before : ℕ) (entry : Entry) (answer : Made) (core after : Core) (refusal : Refusal) → last_made before entry answer core ≡ gives (Err (refused refusal)) after → ⊥
last_not before entry made core after refusal h = never_done refusal _ after h
last_not before entry (exists other) core after refusal h = other_answer _ refusal core after h
last_not before entry failed core after refusal h = other_answer _ refusal core after h

last_refused : (act : Core → Act) (answer : Result ⊤ Unmade) (call : Call) (before : ℕ) (core after : Core) (refusal : Refusal) → may_append (act core) core ≡ answer → last_unless answer call before (act core) core ≡ gives (Err (refused refusal)) after → IsRefusedBy act refusal after
last_refused act (Err e) call before core after refusal may h = may_is act core after refusal e may h
last_refused act (Ok done) call before core after refusal may h =
    let making = create_at_end call (entry_of (act core) core) core in
    absurd (last_not before (entry_of (act core) core) making.answer making.core after refusal h)

end_refused : (act : Core → Act) (short : Bool) (call : Call) (before : ℕ) (core after : Core) (refusal : Refusal) → or_short short (troubled no_memory) call core (last_unless (may_append (act core) core) call before (act core) core) ≡ gives (Err (refused refusal)) after → IsRefusedBy act refusal after
end_refused act true call before core after refusal h = absurd (other_answer no_memory refusal (begun call core) after h)
end_refused act false call before core after refusal h = last_refused act (may_append (act core) core) call before core after refusal refl h

then_refused : (act : Core → Act) (again : Call) (before : ℕ) (after : Core) (refusal : Refusal) (answer : Result ⊤ Trouble) (left : Core) →
    and_then_by (troubled_by answer left).answer (troubled_by answer left).core (λ c. or_short again.short (troubled no_memory) again c (last_unless (may_append (act c) c) again before (act c) c)) ≡ gives (Err (refused refusal)) after → IsRefusedBy act refusal after
then_refused act again before after refusal (Ok done) left h = end_refused act again.short again before left after refusal h
then_refused act again before after refusal (Err trouble) left h = absurd (other_answer trouble refusal left after h)

adopted_refused : (act : Core → Act) (get again : Call) (before : ℕ) (entry : Entry) (answer : Made) (core after : Core) (refusal : Refusal) → adopted_made get again before act entry answer core ≡ gives (Err (refused refusal)) after → IsRefusedBy act refusal after
adopted_refused act get again before entry made core after refusal h = absurd (never_done refusal _ after h)
adopted_refused act get again before entry (exists other) core after refusal h =
    let given = get_at_end get other before core in
    then_refused act again before after refusal given.answer given.core h
adopted_refused act get again before entry failed core after refusal h = absurd (other_answer _ refusal core after h)

first_refused : (act : Core → Act) (answer : Result ⊤ Unmade) (first second third : Call) (core after : Core) (refusal : Refusal) → may_append (act core) core ≡ answer → first_unless answer first second third act core ≡ gives (Err (refused refusal)) after → IsRefusedBy act refusal after
first_refused act (Err e) first second third core after refusal may h = may_is act core after refusal e may h
first_refused act (Ok done) first second third core after refusal may h =
    let making = create_at_end first (entry_of (act core) core) core in
    adopted_refused act second third core.store_faults (entry_of (act core) core) making.answer making.core after refusal h

unsettled_refused : (act : Core → Act) (short : Bool) (first second third : Call) (core after : Core) (refusal : Refusal) → or_short short (troubled no_memory) first core (first_unless (may_append (act core) core) first second third act core) ≡ gives (Err (refused refusal)) after → IsRefusedBy act refusal after
unsettled_refused act true first second third core after refusal h = absurd (other_answer no_memory refusal (begun first core) after h)
unsettled_refused act false first second third core after refusal h = first_refused act (may_append (act core) core) first second third core after refusal refl h

transact_refused : (act : Core → Act) (unsure : Bool) (first second third : Call) (core after : Core) (refusal : Refusal) → transact unsure first second third act core ≡ gives (Err (refused refusal)) after → IsRefusedBy act refusal after
transact_refused act true first second third core after refusal h =
    let given = settled first second core in
    then_refused act third core.store_faults after refusal given.answer given.core h
transact_refused act false first second third core after refusal h = unsettled_refused act first.short first second third core after refusal h

pub appended_refused : (act : Core → Act) (fate : Fate) (core after : Core) (refusal : Refusal) → appended fate act core ≡ gives (Err (refused refusal)) after → IsRefusedBy act refusal after
appended_refused act fate core after refusal h = by fate.unasked h
  where
    by : (unasked : Bool) → asking unasked (troubled no_memory) core (λ c. transact c.unsure fate.first fate.second fate.third act c) ≡ gives (Err (refused refusal)) after → IsRefusedBy act refusal after
    by true k = absurd (other_answer no_memory refusal core after k)
    by false k = transact_refused act (asked_clock core).unsure fate.first fate.second fate.third (asked_clock core) after refusal k
