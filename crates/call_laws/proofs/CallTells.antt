-- What calls of the world answer over a sound index: no key is foreign.
use Rattle.std.proofs.Common.{◌≡◌, ℕ, ◌≤◌, ◌<◌, Bool, true, false, List, [], ◌∷◌, ◌++◌, length, refl, sym, ap, subst, arith}
use Rattle.std.proofs.lemmas.Bool.{eqb-true}
use Rattle.std.proofs.lemmas.List.{length-append}
use Rattle.std.specs.List.{AllByRecursion}
use Rattle.std.specs.Prelude.{Option, Some, None, Result, Ok, Err, ⊤, if◌then◌else◌, ◌==◌, ◌||◌, is_some, slice_get, bytes_eq, nat_le}
use Rattle.std.proofs.lemmas.Slice.Eq.{bytes_eq-Decides}
use Rattle.meta_journal.specs.declared.entry.Act.{Act}
use Rattle.meta_journal.specs.declared.entry.Entry.{Entry}
use Rattle.meta_store.specs.declared.refusal.Refusal.{Refusal}
use Rattle.index_world.specs.Calls.{Effect, done_at_once, done_late, done_never, is_at_once, Fate, Call, Fault, store_fault, is_foreign, is_full, is_expired, Grace, unless_over, Trouble, faulted, no_memory, Unmade, refused, troubled, Unread, not_read, Gives, gives, Made, made, exists, failed, risen, may_fail, entry_lands, file_lands, late_lands, land_at, all_landed, begun, made_behind, made_at, create_at_end, taken_in, or_short, unless_short, asked_clock, asking, and_then, and_then_by, taken_unless, got_at, get_at_end, settle_made, settle_with, settled, fence_of, entry_of, may_append, last_made, last_unless, last_create, troubled_by, adopted_made, first_unless, transact, appended, settled_and_copied, asked_and_looked, asked, file_by, file_made, got_file, file_got, fetched, unless_empty, read_journal, load_by}
use Rattle.index_world.specs.Calls as calls
use Rattle.index_world.specs.Core.{Core, File, Late, late_entry, late_dead, late_file, late_key, file_at, IsNotLateIn}
use Rattle.index_world.specs.Standing.{IsCalled}
use Rattle.index_world.proofs.Indexing.{All-remove, All-get}
use Rattle.call_laws.specs.Faults.{IsNotForeign, IsOfStore}
use Rattle.call_laws.proofs.CallMoves.{landed_kept}

-- ---- late entries lie at most at the end of the history

abbrev pub IsLow : ℕ → Late → Type 0
IsLow count (late_entry number entry bytes) = number ≤ count
IsLow count (late_dead key bytes) = Unit {0}
IsLow count (late_file key bytes) = Unit {0}

abbrev pub AreLow : ℕ → Core → Type 0
AreLow count core = AllByRecursion (IsLow count) core.late

pub called_low : (entries : List Entry) (lates : List Late) → AllByRecursion (IsCalled entries) lates → AllByRecursion (IsLow (length entries)) lates
called_low entries [] h = tt
called_low entries (late_entry number entry bytes ∷ lates) h = (h.0.0, called_low entries lates h.1)
called_low entries (late_dead key bytes ∷ lates) h = (tt, called_low entries lates h.1)
called_low entries (late_file key bytes ∷ lates) h = (tt, called_low entries lates h.1)

pub entry_late : (standing : Option Entry) (b : Bool) (entry : Entry) (core : Core) → (entry_lands standing b entry core).late ≡ core.late
entry_late None true entry core = refl
entry_late None false entry core = refl
entry_late (Some standing) b entry core = refl

pub file_late : (b : Bool) (key bytes : List ℕ) (core : Core) → (file_lands b key bytes core).late ≡ core.late
file_late true key bytes core = refl
file_late false key bytes core = refl

pub lands_late : (late : Late) (core : Core) → (late_lands late core).late ≡ core.late
lands_late (late_entry number entry bytes) core = entry_late core.standing (number == length core.history) entry core
lands_late (late_dead key bytes) core = refl
lands_late (late_file key bytes) core = file_late (is_some (file_at core.files key)) key bytes core

-- what holds of each late create holds of those that are left
pub land_all : (P : Late → Type 0) (late : Option Late) (place : ℕ) (core : Core) → AllByRecursion P core.late → AllByRecursion P (land_at late place core).late
land_all P None place core all = all
land_all P (Some late) place core all = All-remove P (late_lands late core).late place (subst (AllByRecursion P) (sym (lands_late late core)) all)

pub landed_all : (P : Late → Type 0) (places : List ℕ) (core : Core) → AllByRecursion P core.late → AllByRecursion P (all_landed places core).late
landed_all P [] core all = all
landed_all P (place ∷ places) core all = landed_all P places (land_at (slice_get core.late place) place core) (land_all P (slice_get core.late place) place core all)

pub begun_low : (count : ℕ) (call : Call) (core : Core) → AreLow count core → AreLow count (begun call core)
begun_low count call core low = landed_all (IsLow count) call.lands (record core { store_faults = risen core.store_faults call.rises }) low

pub landed_history : (places : List ℕ) (core : Core) → (all_landed places core).history ≡ core.history
landed_history places core = ap (λ k. k.0) (landed_kept places core)

pub begun_history : (call : Call) (core : Core) → (begun call core).history ≡ core.history
begun_history call core = landed_history call.lands (record core { store_faults = risen core.store_faults call.rises })

-- late entries all lie before the end of the history, behind which nothing stands
pub record IsSettled (core : Core) : Type 0 where
  pub count : ℕ
  pub low : AreLow count core
  pub below : count < length core.history
  pub none : core.standing ≡ None

pub below_not_end : (n m count : ℕ) → n ≤ count → count < m → (n == m) ≡ true → ⊥
below_not_end n m count le lt e = let same = eqb-true n m e in omega (arith, le, lt, same)

pub entry_none : (standing : Option Entry) (b : Bool) (entry : Entry) (core : Core) → standing ≡ None → core.standing ≡ None → (b ≡ true → ⊥) → (entry_lands standing b entry core).standing ≡ None
entry_none None true entry core e none not_end = absurd (not_end refl)
entry_none None false entry core e none not_end = none
entry_none (Some standing) b entry core e none not_end = none

pub file_none : (b : Bool) (key bytes : List ℕ) (core : Core) → core.standing ≡ None → (file_lands b key bytes core).standing ≡ None
file_none true key bytes core none = none
file_none false key bytes core none = none

pub lands_none : (count : ℕ) (late : Late) (core : Core) → IsLow count late → count < length core.history → core.standing ≡ None → (late_lands late core).standing ≡ None
lands_none count (late_entry number entry bytes) core low below none =
    entry_none core.standing (number == length core.history) entry core none none (λ e. below_not_end number (length core.history) count low below e)
lands_none count (late_dead key bytes) core low below none = none
lands_none count (late_file key bytes) core low below none = file_none (is_some (file_at core.files key)) key bytes core none

pub land_none : (count place : ℕ) (late : Option Late) (core : Core) → slice_get core.late place ≡ late → AreLow count core → count < length core.history → core.standing ≡ None →
    (land_at late place core).standing ≡ None
land_none count place None core at low below none = none
land_none count place (Some late) core at low below none = lands_none count late core (All-get (IsLow count) core.late place late low at) below none

pub landed_none : (count : ℕ) (places : List ℕ) (core : Core) → AreLow count core → count < length core.history → core.standing ≡ None → (all_landed places core).standing ≡ None
landed_none count [] core low below none = none
landed_none count (place ∷ places) core low below none =
    let mid = land_at (slice_get core.late place) place core in
    let same : mid.history ≡ core.history = landed_history (place ∷ []) core in
    landed_none count places mid (land_all (IsLow count) (slice_get core.late place) place core low)
    (subst (λ h. count < length h) (sym same) below) (land_none count place (slice_get core.late place) core refl low below none)

pub begun_settled : (call : Call) (core : Core) → IsSettled core → IsSettled (begun call core)
begun_settled call core s =
    record {
      count = s.count;
      low = begun_low s.count call core s.low;
      below = subst (λ h. s.count < length h) (sym (begun_history call core)) s.below;
      none = landed_none s.count call.lands (record core { store_faults = risen core.store_faults call.rises }) s.low s.below s.none;
    }

pub taken_settled : (entry : Entry) (core : Core) → AreLow (length core.history) core → IsSettled (taken_in entry core)
taken_settled entry core low =
    record { count = length core.history; low = low; below = (let l = length-append core.history (entry ∷ []) in omega (arith, l)); none = refl }

-- ---- what calls answer

abbrev pub IsStoreTrouble : Trouble → Type 0
IsStoreTrouble (faulted fault) = IsOfStore fault
IsStoreTrouble no_memory = Unit {0}

abbrev pub IsOwnTrouble : Unmade → Type 0
IsOwnTrouble (refused refusal) = Unit {0}
IsOwnTrouble (troubled (faulted fault)) = IsNotForeign fault
IsOwnTrouble (troubled no_memory) = Unit {0}

pub store_not_foreign : (fault : Fault) → IsOfStore fault → IsNotForeign fault
store_not_foreign (store_fault low high) h = tt
store_not_foreign (is_foreign key) h = absurd h
store_not_foreign is_full h = tt
store_not_foreign (is_expired planned_at now) h = absurd h

abbrev pub IfErr : {E A : Type 0} → (E → Type 0) → Result A E → Type 0
IfErr Is (Ok a) = Unit {0}
IfErr Is (Err e) = Is e

-- an answer, and where it is Ok what holds of the core behind it
abbrev pub Gave : {E A : Type 0} → (E → Type 0) → (Core → Type 0) → Result A E → Core → Type 0
Gave Is Holds (Ok a) core = Holds core
Gave Is Holds (Err e) core = Is e

abbrev pub Settles : Gives Trouble ⊤ → Type 0
Settles given = Gave IsStoreTrouble IsSettled given.answer given.core

pub taken_unless_settles : (b unsure : Bool) (entry : Entry) (core : Core) → AreLow (length core.history) core → Settles (taken_unless b unsure entry core)
taken_unless_settles true unsure entry core low = tt
taken_unless_settles false unsure entry core low = taken_settled entry core low

pub got_settles : (b : Bool) (call : Call) (before : ℕ) (entry : Entry) (core : Core) → AreLow (length core.history) core → Settles (got_at b call before entry core)
got_settles true call before entry core low = tt
got_settles false call before entry core low = taken_unless_settles call.short (core.unsure || is_at_once call.effect) entry core low

pub low_begun : (call : Call) (core : Core) → AreLow (length core.history) core → AreLow (length (begun call core).history) (begun call core)
low_begun call core low = subst (λ h. AreLow (length h) (begun call core)) (sym (begun_history call core)) (begun_low (length core.history) call core low)

pub get_settles : (call : Call) (entry : Entry) (before : ℕ) (core : Core) → AreLow (length core.history) core → Settles (get_at_end call entry before core)
get_settles call entry before core low = got_settles (may_fail call core.store_faults) call before entry (begun call core) (low_begun call core low)

-- a create that did not fail
abbrev pub MadeLow : Made → Core → Type 0
MadeLow made core = AreLow (length core.history) core
MadeLow (exists entry) core = AreLow (length core.history) core
MadeLow failed core = Unit {0}

pub behind_low : (standing : Option Entry) (entry : Entry) (core : Core) → AreLow (length core.history) core → MadeLow (made_behind standing entry core).answer (made_behind standing entry core).core
behind_low None entry core low = low
behind_low (Some other) entry core low = low

pub made_low : (b : Bool) (effect : Effect) (entry : Entry) (core : Core) → AreLow (length core.history) core → MadeLow (made_at b effect entry core).answer (made_at b effect entry core).core
made_low true effect entry core low = tt
made_low false effect entry core low = behind_low core.standing entry core low

pub create_low : (call : Call) (entry : Entry) (core : Core) → AreLow (length core.history) core → MadeLow (create_at_end call entry core).answer (create_at_end call entry core).core
create_low call entry core low = made_low (may_fail call core.store_faults) call.effect entry (begun call core) (low_begun call core low)

pub settle_made_settles : (get : Call) (before : ℕ) (fence : Entry) (m : Made) (core : Core) → MadeLow m core → Settles (settle_made get before fence m core)
settle_made_settles get before fence made core low = taken_unless_settles get.short true fence core low
settle_made_settles get before fence (exists entry) core low = get_settles get entry before core low
settle_made_settles get before fence failed core low = tt

-- settling an unsure number
pub settles : (first second : Call) (core : Core) → AreLow (length core.history) core → Settles (settle_with true first second core)
settles first second core low = by first.short
  where
    rest : Settles (calls.settle_making second core.store_faults (fence_of core) (create_at_end first (fence_of core) core))
    rest = settle_made_settles second core.store_faults (fence_of core) (create_at_end first (fence_of core) core).answer (create_at_end first (fence_of core) core).core
        (create_low first (fence_of core) core low)

    by : (b : Bool) → Settles (or_short b no_memory first core (calls.settle_making second core.store_faults (fence_of core) (create_at_end first (fence_of core) core)))
    by true = tt
    by false = rest

-- ---- appending

abbrev pub Own : Gives Unmade ⊤ → Type 0
Own given = IfErr IsOwnTrouble given.answer

abbrev pub IsLowCore : Core → Type 0
IsLowCore core = AreLow (length core.history) core

low_more : (a b : ℕ) → a ≤ b → (lates : List Late) → AllByRecursion (IsLow a) lates → AllByRecursion (IsLow b) lates
low_more a b le [] all = tt
low_more a b le (late_entry number entry bytes ∷ lates) all = (let low : number ≤ a = all.0 in omega (arith, le, low), low_more a b le lates all.1)
low_more a b le (late_dead key bytes ∷ lates) all = (tt, low_more a b le lates all.1)
low_more a b le (late_file key bytes ∷ lates) all = (tt, low_more a b le lates all.1)

pub settled_low : (core : Core) → IsSettled core → IsLowCore core
settled_low core s = low_more s.count (length core.history) (let below = s.below in omega (arith, below)) core.late s.low

pub taken_low : (entry : Entry) (core : Core) → IsLowCore core → IsLowCore (taken_in entry core)
taken_low entry core low = settled_low (taken_in entry core) (taken_settled entry core low)

-- an answer, and where it is Ok late entries lie at most at the end of the history again
abbrev pub Keeps : {A : Type 0} → Gives Unmade A → Type 0
Keeps given = Gave IsOwnTrouble IsLowCore given.answer given.core

kept_own : {A : Type 0} (r : Result A Unmade) (core : Core) → Gave IsOwnTrouble IsLowCore r core → IfErr IsOwnTrouble r
kept_own (Ok a) core k = tt
kept_own (Err e) core k = k

-- nothing stands where a create works
abbrev pub IsNotThere : Made → Type 0
IsNotThere made = Unit {0}
IsNotThere (exists entry) = ⊥
IsNotThere failed = Unit {0}

pub behind_none : (standing : Option Entry) (entry : Entry) (core : Core) → standing ≡ None → IsNotThere (made_behind standing entry core).answer
behind_none None entry core e = tt
behind_none (Some other) entry core e = cc

pub made_none : (b : Bool) (effect : Effect) (entry : Entry) (core : Core) → core.standing ≡ None → IsNotThere (made_at b effect entry core).answer
made_none true effect entry core none = tt
made_none false effect entry core none = behind_none core.standing entry core none

pub last_made_keeps : (before : ℕ) (entry : Entry) (m : Made) (core : Core) → IsNotThere m → MadeLow m core → Keeps (last_made before entry m core)
last_made_keeps before entry made core not low = taken_low entry core low
last_made_keeps before entry (exists other) core not low = absurd not
last_made_keeps before entry failed core not low = tt

pub full_keeps : (b : Bool) (call : Call) (before : ℕ) (act : Act) (core : Core) → IsSettled core → Keeps (last_unless (calls.full_answer b) call before act core)
full_keeps true call before act core s = tt
full_keeps false call before act core s =
    last_made_keeps before (entry_of act core) (create_at_end call (entry_of act core) core).answer (create_at_end call (entry_of act core) core).core
    (made_none (may_fail call core.store_faults) call.effect (entry_of act core) (begun call core) (begun_settled call core s).none)
    (create_low call (entry_of act core) core (settled_low core s))

pub last_by_keeps : (r : Result (Unit {0}) Refusal) (call : Call) (before : ℕ) (act : Act) (core : Core) → IsSettled core → Keeps (last_unless (calls.or_full r core) call before act core)
last_by_keeps (Err refusal) call before act core s = tt
last_by_keeps (Ok done) call before act core s = full_keeps _ call before act core s

pub last_keeps : (call : Call) (before : ℕ) (act : Act) (core : Core) → IsSettled core → Keeps (last_create call before act core)
last_keeps call before act core s = by call.short
  where
    by : (b : Bool) → Keeps (or_short b (troubled no_memory) call core (last_unless (may_append act core) call before act core))
    by true = tt
    by false = last_by_keeps (calls.answer_behind core.history (entry_of act core)) call before act core s

pub settled_then : (r : Result ⊤ Trouble) (core : Core) (again : Call) (before : ℕ) (act : Core → Act) → Gave IsStoreTrouble IsSettled r core →
    Own (and_then (troubled_by r core) (λ c. last_create again before (act c) c))
settled_then (Ok done) core again before act s =
    let given = last_create again before (act core) core in kept_own given.answer given.core (last_keeps again before (act core) core s)
settled_then (Err (faulted (store_fault low high))) core again before act s = tt
settled_then (Err (faulted (is_foreign key))) core again before act s = absurd s
settled_then (Err (faulted is_full)) core again before act s = absurd s
settled_then (Err (faulted (is_expired planned_at now))) core again before act s = absurd s
settled_then (Err no_memory) core again before act s = tt

pub adopted_own : (get again : Call) (before : ℕ) (act : Core → Act) (entry : Entry) (m : Made) (core : Core) → MadeLow m core → Own (adopted_made get again before act entry m core)
adopted_own get again before act entry made core low = tt
adopted_own get again before act entry (exists other) core low =
    settled_then (get_at_end get other before core).answer (get_at_end get other before core).core again before act (get_settles get other before core low)
adopted_own get again before act entry failed core low = tt

pub first_full_own : (b : Bool) (first second third : Call) (act : Core → Act) (core : Core) → AreLow (length core.history) core → Own (first_unless (calls.full_answer b) first second third act core)
first_full_own true first second third act core low = tt
first_full_own false first second third act core low =
    adopted_own second third core.store_faults act (entry_of (act core) core) (create_at_end first (entry_of (act core) core) core).answer
    (create_at_end first (entry_of (act core) core) core).core (create_low first (entry_of (act core) core) core low)

pub first_by_own : (r : Result (Unit {0}) Refusal) (first second third : Call) (act : Core → Act) (core : Core) → AreLow (length core.history) core →
    Own (first_unless (calls.or_full r core) first second third act core)
first_by_own (Err refusal) first second third act core low = tt
first_by_own (Ok done) first second third act core low = first_full_own _ first second third act core low

pub transact_own : (b : Bool) (first second third : Call) (act : Core → Act) (core : Core) → core.unsure ≡ b → AreLow (length core.history) core → Own (transact b first second third act core)
transact_own true first second third act core unsure low =
    settled_then (settled first second core).answer (settled first second core).core third core.store_faults act
    (subst (λ b. Settles (settle_with b first second core)) (sym unsure) (settles first second core low))
transact_own false first second third act core unsure low = by first.short
  where
    by : (b : Bool) → Own (or_short b (troubled no_memory) first core (first_unless (may_append (act core) core) first second third act core))
    by true = tt
    by false = first_by_own (calls.answer_behind core.history (entry_of (act core) core)) first second third act core low

pub appended_own : (fate : Fate) (act : Core → Act) (core : Core) → AreLow (length core.history) core → Own (appended fate act core)
appended_own fate act core low = by fate.unasked
  where
    by : (b : Bool) → Own (asking b (troubled no_memory) core (λ c. transact c.unsure fate.first fate.second fate.third act c))
    by true = tt
    by false = transact_own core.unsure fate.first fate.second fate.third act (asked_clock core) refl low

-- ---- a file

-- nothing stands under the key, and nothing may land there
pub record IsFree (core : Core) (key : List ℕ) : Type 0 where
  pub absent : file_at core.files key ≡ None
  pub not_late : IsNotLateIn core key

pub same_key : (a b : List ℕ) → bytes_eq a b ≡ true → a ≡ b
same_key a b = (bytes_eq-Decides a b).0

pub file_at_more : (files : List File) (file : File) (key : List ℕ) → file_at files key ≡ None → (bytes_eq file.key key ≡ true → ⊥) → file_at (files ++ file ∷ []) key ≡ None
file_at_more [] file key none apart = by (bytes_eq file.key key) apart
  where
    by : (b : Bool) → (b ≡ true → ⊥) → (if b then Some file.bytes else None) ≡ None
    by true not = absurd (not refl)
    by false not = refl
file_at_more (f ∷ files) file key none apart = by (bytes_eq f.key key) none (λ e. file_at_more files file key e apart)
  where
    some_none : (bytes : List ℕ) → Some bytes ≡ None → ⊥
    some_none bytes e = cc

    by : (b : Bool) → (if b then Some f.bytes else file_at files key) ≡ None → (file_at files key ≡ None → file_at (files ++ file ∷ []) key ≡ None) →
        (if b then Some f.bytes else file_at (files ++ file ∷ []) key) ≡ None
    by true e more = absurd (some_none f.bytes e)
    by false e more = more e

pub entry_files : (standing : Option Entry) (b : Bool) (entry : Entry) (core : Core) → (entry_lands standing b entry core).files ≡ core.files
entry_files None true entry core = refl
entry_files None false entry core = refl
entry_files (Some standing) b entry core = refl

pub file_lands_free : (b : Bool) (other bytes key : List ℕ) (core : Core) → file_at core.files key ≡ None → (other ≡ key → ⊥) → file_at (file_lands b other bytes core).files key ≡ None
file_lands_free true other bytes key core none apart = none
file_lands_free false other bytes key core none apart =
    file_at_more core.files (record { key = other; bytes = bytes }) key none (λ e. apart (same_key other key e))

pub lands_free : (late : Late) (key : List ℕ) (core : Core) → file_at core.files key ≡ None → (late_key late ≡ key → ⊥) → file_at (late_lands late core).files key ≡ None
lands_free (late_entry number entry bytes) key core none apart =
    subst (λ files. file_at files key ≡ None) (sym (entry_files core.standing (number == length core.history) entry core)) none
lands_free (late_dead other bytes) key core none apart = none
lands_free (late_file other bytes) key core none apart = file_lands_free (is_some (file_at core.files other)) other bytes key core none apart

pub land_free : (late : Option Late) (place : ℕ) (key : List ℕ) (core : Core) → slice_get core.late place ≡ late → IsFree core key → file_at (land_at late place core).files key ≡ None
land_free None place key core at f = f.absent
land_free (Some late) place key core at f = lands_free late key core f.absent (All-get (λ l. late_key l ≡ key → ⊥) core.late place late f.not_late at)

pub landed_free : (places : List ℕ) (key : List ℕ) (core : Core) → IsFree core key → file_at (all_landed places core).files key ≡ None
landed_free [] key core f = f.absent
landed_free (place ∷ places) key core f =
    landed_free places key (land_at (slice_get core.late place) place core)
    (record { absent = land_free (slice_get core.late place) place key core refl f; not_late = land_all (λ l. late_key l ≡ key → ⊥) (slice_get core.late place) place core f.not_late })

abbrev pub OwnTrouble : Gives Trouble ⊤ → Type 0
OwnTrouble given = IfErr IsStoreTrouble given.answer

pub file_by_own : (a : Bool) (effect : Effect) (o : Option (List ℕ)) (before : ℕ) (key bytes : List ℕ) (core : Core) → o ≡ None → OwnTrouble (file_by a effect (is_some o) before key bytes core)
file_by_own true done_at_once None before key bytes core e = tt
file_by_own true done_late None before key bytes core e = tt
file_by_own true done_never None before key bytes core e = tt
file_by_own false effect None before key bytes core e = tt
file_by_own a effect (Some x) before key bytes core e = cc

pub file_own : (call : Call) (key bytes : List ℕ) (core : Core) → IsFree core key → OwnTrouble (file_made call key bytes core)
file_own call key bytes core f = by call.short
  where
    by : (b : Bool) → OwnTrouble (or_short b no_memory call core
        (file_by (may_fail call core.store_faults) call.effect (is_some (file_at (begun call core).files key)) core.store_faults key bytes (begun call core)))
    by true = tt
    by false =
        file_by_own (may_fail call core.store_faults) call.effect (file_at (begun call core).files key) core.store_faults key bytes (begun call core)
        (landed_free call.lands key (record core { store_faults = risen core.store_faults call.rises }) (record { absent = f.absent; not_late = f.not_late }))

-- ---- the other calls fail by the store alone

pub taken_own : (b unsure : Bool) (entry : Entry) (core : Core) → OwnTrouble (taken_unless b unsure entry core)
taken_own true unsure entry core = tt
taken_own false unsure entry core = tt

pub got_own : (b : Bool) (call : Call) (before : ℕ) (entry : Entry) (core : Core) → OwnTrouble (got_at b call before entry core)
got_own true call before entry core = tt
got_own false call before entry core = taken_own call.short (core.unsure || is_at_once call.effect) entry core

pub settle_made_own : (get : Call) (before : ℕ) (fence : Entry) (m : Made) (core : Core) → OwnTrouble (settle_made get before fence m core)
settle_made_own get before fence made core = taken_own get.short true fence core
settle_made_own get before fence (exists entry) core = got_own (may_fail get core.store_faults) get before entry (begun get core)
settle_made_own get before fence failed core = tt

pub unless_own : (b : Bool) (core : Core) → OwnTrouble (unless_short b core)
unless_own true core = tt
unless_own false core = tt

pub or_short_own : (b : Bool) (call : Call) (core : Core) (given : Gives Trouble ⊤) → OwnTrouble given → OwnTrouble (or_short b no_memory call core given)
or_short_own true call core given g = tt
or_short_own false call core given g = g

pub settle_own : (b : Bool) (first second : Call) (core : Core) → OwnTrouble (settle_with b first second core)
settle_own false first second core = unless_own first.short core
settle_own true first second core =
    or_short_own first.short first core _ (settle_made_own second core.store_faults (fence_of core) (create_at_end first (fence_of core) core).answer (create_at_end first (fence_of core) core).core)

pub then_own : (r : Result ⊤ Trouble) (core : Core) (next : Core → Gives Trouble ⊤) → IfErr IsStoreTrouble r → ((c : Core) → OwnTrouble (next c)) → OwnTrouble (and_then_by r core next)
then_own (Ok done) core next g n = n core
then_own (Err trouble) core next g n = g

pub copied_own : (fate : Fate) (core : Core) → OwnTrouble (settled_and_copied fate core)
copied_own fate core =
    then_own (settled fate.first fate.second core).answer (settled fate.first fate.second core).core (λ c. unless_short fate.third.short c)
    (settle_own core.unsure fate.first fate.second core) (λ c. unless_own fate.third.short c)

pub asking_own : (b : Bool) (core : Core) (next : Core → Gives Trouble ⊤) → OwnTrouble (next (asked_clock core)) → OwnTrouble (asking b no_memory core next)
asking_own true core next g = tt
asking_own false core next g = g

pub asked_and_looked_own : (fate : Fate) (core : Core) → OwnTrouble (asked_and_looked fate core)
asked_and_looked_own fate core = asking_own fate.unasked core (λ c. settled_and_copied fate c) (copied_own fate (asked_clock core))

pub asked_own : (fate : Fate) (core : Core) → OwnTrouble (asked fate core)
asked_own fate core = asking_own fate.unasked core (λ c. gives (Ok tt) c) tt

pub got_file_own : (b : Bool) (before : ℕ) (core : Core) → OwnTrouble (got_file b before core)
got_file_own true before core = tt
got_file_own false before core = tt

-- the store failed, or it comes too late
abbrev pub IsFetchTrouble : Trouble → Type 0
IsFetchTrouble (faulted (store_fault before after)) = Unit {0}
IsFetchTrouble (faulted (is_foreign key)) = ⊥
IsFetchTrouble (faulted is_full) = ⊥
IsFetchTrouble (faulted (is_expired planned_at now)) = Unit {0}
IsFetchTrouble no_memory = Unit {0}

abbrev pub FetchTrouble : Gives Trouble ⊤ → Type 0
FetchTrouble given = IfErr IsFetchTrouble given.answer

pub store_fetch : (given : Gives Trouble ⊤) → OwnTrouble given → FetchTrouble given
store_fetch given own = by given.answer own
  where
    by_trouble : (trouble : Trouble) → IsStoreTrouble trouble → IsFetchTrouble trouble
    by_trouble (faulted (store_fault before after)) h = tt
    by_trouble (faulted (is_foreign key)) h = h
    by_trouble (faulted is_full) h = h
    by_trouble (faulted (is_expired planned_at now)) h = tt
    by_trouble no_memory h = tt

    by : (r : Result ⊤ Trouble) → IfErr IsStoreTrouble r → IfErr IsFetchTrouble r
    by (Ok done) h = tt
    by (Err trouble) h = by_trouble trouble h

pub fetched_own : (grace : Grace) (fate : Fate) (core : Core) → FetchTrouble (fetched grace fate core)
fetched_own grace fate core = by fate.unasked
  where
    got : FetchTrouble (file_got fate.first (asked_clock core))
    got = store_fetch (file_got fate.first (asked_clock core)) (or_short_own fate.first.short fate.first (asked_clock core) _ (got_file_own (may_fail fate.first core.store_faults) core.store_faults (begun fate.first (asked_clock core))))

    unless : (over : Bool) → FetchTrouble (unless_over over grace.planned_at (asked_clock core) (file_got fate.first (asked_clock core)))
    unless true = tt
    unless false = got

    by : (unasked : Bool) → FetchTrouble (asking unasked no_memory core (λ c. unless_over (nat_le grace.until c.moment) grace.planned_at c (file_got fate.first c)))
    by true = tt
    by false = unless (nat_le grace.until (asked_clock core).moment)

abbrev pub IsStoreUnread : Unread → Type 0
IsStoreUnread (not_read trouble) = IsStoreTrouble trouble
IsStoreUnread calls.no_index = Unit {0}

pub empty_own : (b : Bool) (core : Core) → IfErr IsStoreUnread (unless_empty b core).answer
empty_own true core = tt
empty_own false core = tt

pub load_own : (b c : Bool) (second : Call) (before : ℕ) (core : Core) → IfErr IsStoreUnread (load_by b c second before core).answer
load_own true c second before core = tt
load_own false true second before core = tt
load_own false false second before core = empty_own _ (begun second (read_journal core))
