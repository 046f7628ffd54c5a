-- Whatever lands and fails, a core goes on: its history only grows, its store's count never falls, and no call sets its clock.
use Rattle.std.proofs.Common.{◌≡◌, ℕ, ◌≤◌, min, List, [], ◌∷◌, ◌++◌, refl, sym, ap, ◌∙◌, Bool, true, false, append_assoc, arith}
use Rattle.std.proofs.lemmas.List.{append-nil}
use Rattle.std.specs.Prelude.{Option, Some, None, Result, Ok, Err, ⊤, ◌==◌, ◌||◌, slice_get, length, is_some, nat_le}
use Rattle.meta_journal.specs.declared.entry.Act.{Act}
use Rattle.meta_journal.specs.declared.entry.Entry.{Entry}
use Rattle.index_world.specs.Calls.{Effect, done_at_once, done_late, done_never, is_at_once, Fate, Call, Trouble, Unmade, Gives, Made, made, exists, failed, risen, may_fail, entry_lands, file_lands, land_at, all_landed, begun, tried, made_behind, made_at, create_at_end, taken_in, or_short, unless_short, asked_clock, asking, and_then_by, taken_unless, got_at, get_at_end, settle_made, settle_with, settled, fence_of, entry_of, may_append, last_made, last_unless, last_create, troubled_by, as_unmade, adopted_made, first_unless, transact, appended, looked, asked_and_looked, asked, file_by, file_made, got_file, file_got, Grace, unless_over, fetched, with_standing, read_journal, unless_empty, load_by, loaded}
use Rattle.index_world.specs.Core.{Core, Late, late_entry, late_dead, late_file, file_at, last_count}

abbrev pub Grows : Core → Core → Type 0
Grows a b = (more : List Entry) × (b.history ≡ a.history ++ more)

pub same_grows : (a b : Core) → b.history ≡ a.history → Grows a b
same_grows a b e = ([], e ∙ sym (append-nil a.history))

pub grows_on : (a b c : Core) → Grows a b → Grows b c → Grows a c
grows_on a b c g h = (g.0 ++ h.0, h.1 ∙ ap (λ l. l ++ h.0) g.1 ∙ append_assoc a.history g.0 h.0)

-- a count stands still at its type's end
abbrev pub Rises : Core → Core → Type 0
Rises a b = min a.store_faults last_count ≤ b.store_faults

pub same_rises : (a b : Core) → b.store_faults ≡ a.store_faults → Rises a b
same_rises a b e = omega (arith, e)

pub rises_on : (a b c : Core) → Rises a b → Rises b c → Rises a c
rises_on a b c g h = omega (arith, g, h)

abbrev pub Ticks : Core → Core → Type 0
Ticks a b = b.clock ≡ a.clock

-- a core, and the core behind lines
pub record Later (a b : Core) : Type 0 where
  pub grows : Grows a b
  pub rises : Rises a b

-- a core, and the core behind calls of the world
pub record Moves (a b : Core) : Type 0 where
  pub later : Later a b
  pub ticks : Ticks a b

-- what changes where an entry is taken in, the count rises or the clock is set, and else stays
abbrev pub kept : Core → List Entry × ℕ × ℕ
kept core = (core.history, core.store_faults, core.clock)

pub later_same : {a b : Core} → b.history ≡ a.history → b.store_faults ≡ a.store_faults → Later a b
later_same {a} {b} h n = record { grows = same_grows a b h; rises = same_rises a b n }

pub later_on : {a b c : Core} → Later a b → Later b c → Later a c
later_on {a} {b} {c} g h = record { grows = grows_on a b c g.grows h.grows; rises = rises_on a b c g.rises h.rises }

pub stays : {a b : Core} → kept b ≡ kept a → Moves a b
stays e = record { later = later_same (ap (λ k. k.0) e) (ap (λ k. k.1) e); ticks = ap (λ k. k.2) e }

pub same : {a b : Core} → b ≡ a → Moves a b
same e = stays (ap kept e)

pub moves_on : {a b c : Core} → Moves a b → Moves b c → Moves a c
moves_on g h = record { later = later_on g.later h.later; ticks = h.ticks ∙ g.ticks }

-- ---- what lands

pub entry_kept : (standing : Option Entry) (b : Bool) (entry : Entry) (core : Core) → kept (entry_lands standing b entry core) ≡ kept core
entry_kept None true entry core = refl
entry_kept None false entry core = refl
entry_kept (Some standing) b entry core = refl

pub file_kept : (b : Bool) (key bytes : List ℕ) (core : Core) → kept (file_lands b key bytes core) ≡ kept core
file_kept true key bytes core = refl
file_kept false key bytes core = refl

pub land_kept : (late : Option Late) (place : ℕ) (core : Core) → kept (land_at late place core) ≡ kept core
land_kept None place core = refl
land_kept (Some (late_entry number entry bytes)) place core = entry_kept core.standing (number == length core.history) entry core
land_kept (Some (late_dead key bytes)) place core = refl
land_kept (Some (late_file key bytes)) place core = file_kept (is_some (file_at core.files key)) key bytes core

pub landed_kept : (places : List ℕ) (core : Core) → kept (all_landed places core) ≡ kept core
landed_kept [] core = refl
landed_kept (place ∷ places) core =
    landed_kept places (land_at (slice_get core.late place) place core) ∙ land_kept (slice_get core.late place) place core

pub risen_moves : (call : Call) (core : Core) → Moves core (record core { store_faults = risen core.store_faults call.rises })
risen_moves call core =
    record { later = record { grows = same_grows core (record core { store_faults = risen core.store_faults call.rises }) refl; rises = omega arith }; ticks = refl }

pub begun_moves : (call : Call) (core : Core) → Moves core (begun call core)
begun_moves call core =
    moves_on (risen_moves call core) (stays (landed_kept call.lands (record core { store_faults = risen core.store_faults call.rises })))

-- ---- creates and gets at the end

pub tried_kept : (effect : Effect) (standing : Option Entry) (entry : Entry) (core : Core) → kept (tried effect standing entry core) ≡ kept core
tried_kept done_at_once None entry core = refl
tried_kept done_at_once (Some other) entry core = refl
tried_kept done_late standing entry core = refl
tried_kept done_never standing entry core = refl

pub behind_kept : (standing : Option Entry) (entry : Entry) (core : Core) → kept (made_behind standing entry core).core ≡ kept core
behind_kept None entry core = refl
behind_kept (Some other) entry core = refl

pub made_kept : (b : Bool) (effect : Effect) (entry : Entry) (core : Core) → kept (made_at b effect entry core).core ≡ kept core
made_kept true effect entry core = tried_kept effect core.standing entry core
made_kept false effect entry core = behind_kept core.standing entry core

pub create_moves : (call : Call) (entry : Entry) (core : Core) → Moves core (create_at_end call entry core).core
create_moves call entry core =
    moves_on (begun_moves call core) (stays (made_kept (may_fail call core.store_faults) call.effect entry (begun call core)))

pub taken_moves : (entry : Entry) (core : Core) → Moves core (taken_in entry core)
taken_moves entry core =
    record { later = record { grows = (entry ∷ [], refl); rises = same_rises core (taken_in entry core) refl }; ticks = refl }

pub taken_unless_moves : (b unsure : Bool) (entry : Entry) (core : Core) → Moves core (taken_unless b unsure entry core).core
taken_unless_moves true unsure entry core = stays refl
taken_unless_moves false unsure entry core = taken_moves entry core

pub or_short_moves : {E A : Type 0} (b : Bool) (e : E) (call : Call) {core : Core} (given : Gives E A) → Moves core given.core →
    Moves core (or_short b e call core given).core
or_short_moves true e call given m = begun_moves call _
or_short_moves false e call given m = m

pub asking_moves : {E A : Type 0} (b : Bool) (e : E) {core : Core} (next : Core → Gives E A) → ((c : Core) → Moves c (next c).core) →
    Moves core (asking b e core next).core
asking_moves true e next m = stays refl
asking_moves false e {core} next m = moves_on (stays refl) (m (asked_clock core))

pub then_moves : {E A B : Type 0} {start core : Core} (r : Result A E) (next : Core → Gives E B) → Moves start core → ((c : Core) → Moves c (next c).core) →
    Moves start (and_then_by r core next).core
then_moves (Ok a) next m n = moves_on m (n _)
then_moves (Err e) next m n = m

pub got_moves : (b : Bool) (call : Call) (before : ℕ) (entry : Entry) (core : Core) → Moves core (got_at b call before entry core).core
got_moves true call before entry core = stays refl
got_moves false call before entry core = taken_unless_moves call.short (core.unsure || is_at_once call.effect) entry core

pub get_moves : (call : Call) (entry : Entry) (before : ℕ) (core : Core) → Moves core (get_at_end call entry before core).core
get_moves call entry before core =
    moves_on (begun_moves call core) (got_moves (may_fail call core.store_faults) call before entry (begun call core))

-- ---- settling and appending

pub settle_made_moves : (get : Call) (before : ℕ) (fence : Entry) (m : Made) (core : Core) → Moves core (settle_made get before fence m core).core
settle_made_moves get before fence made core = taken_unless_moves get.short true fence core
settle_made_moves get before fence (exists entry) core = get_moves get entry before core
settle_made_moves get before fence failed core = stays refl

pub unless_short_moves : (b : Bool) (core : Core) → Moves core (unless_short b core).core
unless_short_moves true core = stays refl
unless_short_moves false core = stays refl

pub settle_moves : (b : Bool) (first second : Call) (core : Core) → Moves core (settle_with b first second core).core
settle_moves false first second core = unless_short_moves first.short core
settle_moves true first second core =
    or_short_moves first.short _ _ _ (moves_on (create_moves first (fence_of core) core) (settle_made_moves second _ _ _ _))

pub settled_moves : (first second : Call) (core : Core) → Moves core (settled first second core).core
settled_moves first second core = settle_moves core.unsure first second core

pub last_made_moves : (before : ℕ) (entry : Entry) (m : Made) (core : Core) → Moves core (last_made before entry m core).core
last_made_moves before entry made core = taken_moves entry core
last_made_moves before entry (exists other) core = stays refl
last_made_moves before entry failed core = stays refl

pub last_unless_moves : (r : Result ⊤ Unmade) (call : Call) (before : ℕ) (act : Act) (core : Core) → Moves core (last_unless r call before act core).core
last_unless_moves (Err e) call before act core = stays refl
last_unless_moves (Ok done) call before act core =
    moves_on (create_moves call (entry_of act core) core) (last_made_moves before _ _ _)

pub last_moves : (call : Call) (before : ℕ) (act : Act) (core : Core) → Moves core (last_create call before act core).core
last_moves call before act core =
    or_short_moves call.short _ _ _ (last_unless_moves (may_append act core) call before act core)

pub troubled_moves : {A : Type 0} (r : Result A Trouble) (core : Core) → Moves core (troubled_by r core).core
troubled_moves (Ok a) core = stays refl
troubled_moves (Err e) core = stays refl

pub adopted_moves : (get again : Call) (before : ℕ) (act : Core → Act) (entry : Entry) (m : Made) (core : Core) →
    Moves core (adopted_made get again before act entry m core).core
adopted_moves get again before act entry made core = taken_moves entry core
adopted_moves get again before act entry (exists other) core =
    then_moves (as_unmade (get_at_end get other before core)).answer _ (moves_on (get_moves get other before core) (troubled_moves _ _)) (λ c. last_moves again before (act c) c)
adopted_moves get again before act entry failed core = stays refl

pub first_moves : (r : Result ⊤ Unmade) (first second third : Call) (act : Core → Act) (core : Core) → Moves core (first_unless r first second third act core).core
first_moves (Err e) first second third act core = stays refl
first_moves (Ok done) first second third act core =
    moves_on (create_moves first (entry_of (act core) core) core) (adopted_moves second third _ act _ _ _)

pub transact_moves : (b : Bool) (first second third : Call) (act : Core → Act) (core : Core) → Moves core (transact b first second third act core).core
transact_moves true first second third act core =
    then_moves (as_unmade (settled first second core)).answer _ (moves_on (settled_moves first second core) (troubled_moves _ _)) (λ c. last_moves third core.store_faults (act c) c)
transact_moves false first second third act core =
    or_short_moves first.short _ _ _ (first_moves (may_append (act core) core) first second third act core)

pub appended_moves : (fate : Fate) (act : Core → Act) (core : Core) → Moves core (appended fate act core).core
appended_moves fate act core =
    asking_moves fate.unasked _ _ (λ c. transact_moves c.unsure fate.first fate.second fate.third act c)

-- ---- the other calls

pub looked_moves : (fate : Fate) (core : Core) → Moves core (looked fate core).core
looked_moves fate core =
    then_moves (settled fate.first fate.second core).answer _ (settled_moves fate.first fate.second core) (λ c. unless_short_moves fate.third.short c)

pub asked_and_looked_moves : (fate : Fate) (core : Core) → Moves core (asked_and_looked fate core).core
asked_and_looked_moves fate core = asking_moves fate.unasked _ _ (λ c. looked_moves fate c)

pub asked_moves : (fate : Fate) (core : Core) → Moves core (asked fate core).core
asked_moves fate core = asking_moves fate.unasked _ _ (λ c. stays refl)

pub file_by_kept : (b : Bool) (effect : Effect) (d : Bool) (before : ℕ) (key bytes : List ℕ) (core : Core) → kept (file_by b effect d before key bytes core).core ≡ kept core
file_by_kept true done_at_once true before key bytes core = refl
file_by_kept true done_at_once false before key bytes core = refl
file_by_kept true done_late d before key bytes core = refl
file_by_kept true done_never d before key bytes core = refl
file_by_kept false effect true before key bytes core = refl
file_by_kept false effect false before key bytes core = refl

pub file_made_moves : (call : Call) (key bytes : List ℕ) (core : Core) → Moves core (file_made call key bytes core).core
file_made_moves call key bytes core =
    or_short_moves call.short _ _ _
    (moves_on (begun_moves call core) (stays (file_by_kept (may_fail call core.store_faults) call.effect _ core.store_faults key bytes (begun call core))))

pub got_file_same : (b : Bool) (before : ℕ) (core : Core) → (got_file b before core).core ≡ core
got_file_same true before core = refl
got_file_same false before core = refl

pub file_got_moves : (call : Call) (core : Core) → Moves core (file_got call core).core
file_got_moves call core =
    or_short_moves call.short _ _ _
    (moves_on (begun_moves call core) (same (got_file_same (may_fail call core.store_faults) core.store_faults (begun call core))))

pub unless_over_moves : (over : Bool) (planned_at : ℕ) (core : Core) (otherwise : Gives Trouble ⊤) → Moves core otherwise.core → Moves core (unless_over over planned_at core otherwise).core
unless_over_moves true planned_at core otherwise m = stays refl
unless_over_moves false planned_at core otherwise m = m

pub fetched_moves : (grace : Grace) (fate : Fate) (core : Core) → Moves core (fetched grace fate core).core
fetched_moves grace fate core =
    asking_moves fate.unasked _ _ (λ c. unless_over_moves (nat_le grace.until c.moment) grace.planned_at c (file_got fate.first c) (file_got_moves fate.first c))

pub standing_moves : (standing : Option Entry) (core : Core) → Moves core (with_standing standing core)
standing_moves None core = stays refl
standing_moves (Some entry) core = taken_moves entry core

pub journal_moves : (core : Core) → Moves core (read_journal core)
journal_moves core = moves_on (standing_moves core.standing core) (stays refl)

pub unless_empty_moves : (b : Bool) (core : Core) → Moves core (unless_empty b core).core
unless_empty_moves true core = stays refl
unless_empty_moves false core = stays refl

pub load_moves : (b c : Bool) (second : Call) (before : ℕ) (core : Core) → Moves core (load_by b c second before core).core
load_moves true c second before core = begun_moves second core
load_moves false true second before core = begun_moves second core
load_moves false false second before core =
    moves_on (journal_moves core) (moves_on (begun_moves second (read_journal core)) (unless_empty_moves _ (begun second (read_journal core))))

pub loaded_moves : (fate : Fate) (core : Core) → Moves core (loaded fate core).core
loaded_moves fate core =
    moves_on (begun_moves fate.first core) (load_moves (fate.first.short || fate.second.short) _ fate.second _ (begun fate.first core))
