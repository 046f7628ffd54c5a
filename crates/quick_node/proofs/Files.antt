-- Whatever lands and fails, a call of the world takes in at most an entry that stood there and one of its own, and no step of an indexer or
-- of a client deletes a file.
use Rattle.std.proofs.Common.{◌≡◌, ◌⊎◌, ℕ, ◌≤◌, max, List, [], ◌∷◌, ◌++◌, refl, sym, ap, ap₂, ◌∙◌, Bool, true, false, append_assoc, subst, inl, inr, arith}
use Rattle.std.proofs.lemmas.List.{append-nil}
use Rattle.std.specs.Prelude.{Option, Some, None, Result, Ok, Err, ⊤, if◌then◌else◌, ◌==◌, ◌||◌, slice_get, length, is_some, nat_le, bytes_eq}
use Rattle.index_config.specs.Answer.{config_answer}
use Rattle.index_config.specs.declared.config.IndexConfig.{IndexConfig}
use Rattle.index_config.specs.declared.config_error.ConfigError.{ConfigError}
use Rattle.meta_journal.specs.declared.entry.Act.{Act}
use Rattle.meta_journal.specs.declared.entry.Act.TheVariants.{Fence, Create, Stage, Publish, Replace, Raise, Task, MarkStaged, Remove, Retire}
use Rattle.meta_journal.specs.declared.entry.Entry.{Entry}
use Rattle.meta_journal.specs.Places.{split_key}
use Rattle.meta_store.proofs.Numbers.{history-snoc}
use Rattle.meta_store.specs.History.{history, moment_of}
use Rattle.meta_store.specs.Numbers.{IsGivenUp}
use Rattle.meta_store.specs.Rows.{rows}
use Rattle.split_states.specs.Rows.{row_at}
use Rattle.split_states.specs.declared.rows.Row.{Row}
use Rattle.split_states.specs.declared.rows.RowState.TheVariants.{Published}
use Rattle.source_checkpoint.specs.declared.ledger.Checkpoint.{Checkpoint}
use Rattle.source_log.specs.Log.{Log}
use Rattle.index_world.specs.Calls.{Effect, done_at_once, done_late, done_never, is_at_once, Fate, Call, Trouble, no_memory, Unmade, Unread, not_read, Gives, Made, made, exists, failed, risen, may_fail, entry_lands, file_lands, land_at, all_landed, begun, tried, made_behind, made_at, create_at_end, taken_in, or_short, unless_short, asked_clock, asked_moment, asking, and_then_by, taken_unless, got_at, get_at_end, settle_made, settle_with, settled, fence_of, entry_of, may_append, last_made, last_unless, last_create, troubled_by, as_unmade, adopted_made, first_unless, transact, appended, looked, asked_and_looked, asked, file_by, file_made, got_file, file_got, Grace, unless_over, fetched, with_standing, reborn, read_journal, unless_empty, load_by, loaded}
use Rattle.index_world.specs.Calls as calls
use Rattle.index_world.specs.Created.{first_made, created_by, created_behind, created}
use Rattle.index_world.specs.Core.{Core, clock_of, File, Late, late_entry, late_dead, late_file, file_at, with_unread, journal_of}
use Rattle.index_world.specs.Gate.{stage_act, task_act, task_call}
use Rattle.index_world.specs.SplitFile.{file_of}
use Rattle.index_world.proofs.StoreKeys.{none_some}
use Rattle.indexing_run.specs.Places.{Batch, IndexerHeld, IndexerPlace, idle, reading, staged, uploaded, Indexer}
use Rattle.indexing_run.specs.Steps.{Stepped, log_may_fail, log_called, take_checkpoints, idle_by, step_read, step_stage, batch_facts, step_upload, step_publish, step_batch, step_place, step_indexer}
use Rattle.indexing_run.specs.Steps as indexing
use Rattle.root_search.specs.Requests.{ask_of, asked_of}
use Rattle.root_search.specs.Steps.{Request, no_request, opened, planned, Plan, Client, fetched_each, unless_fault, config_in, next_step, opened_by, plan_given, step_request, step_client}
use Rattle.root_search.specs.Steps as searching
use Rattle.root_search.proofs.Steps.{delete_core}
use Rattle.search_api.specs.Resolved.{Asked, IsDelete, IsSearch, Search}
use Rattle.search_api.specs.declared.unanswered.Unanswered.{Unanswered}
use Rattle.call_laws.proofs.CallMoves.{got_file_same}
use Rattle.node_run.proofs.Moving.{checkpoints_same, stage_same, upload_same, publish_same, given_same, plan_same, fetch_same}

-- ---- files that stay

-- what stands under a key stays there
abbrev pub Stay : List File → List File → Type 0
Stay xs ys = (key bytes : List ℕ) → file_at xs key ≡ Some bytes → file_at ys key ≡ Some bytes

stay_more : (xs ys : List File) → Stay xs (xs ++ ys)
stay_more [] ys key bytes e = absurd (none_some bytes e)
stay_more (x ∷ xs) ys key bytes e = by (bytes_eq x.key key) (stay_more xs ys key bytes) e
  where
    by : (b : Bool) → (file_at xs key ≡ Some bytes → file_at (xs ++ ys) key ≡ Some bytes) → (if b then Some x.bytes else file_at xs key) ≡ Some bytes → (if b then Some x.bytes else file_at (xs ++ ys) key) ≡ Some bytes
    by true more f = f
    by false more f = more f

-- ---- entries that are taken in

-- an entry that marks no published row and changes what none holds
abbrev pub IsOwn : Act → Type 0
IsOwn Fence = ⊥
IsOwn (Create config) = ⊤
IsOwn (Stage number delta facts) = ⊤
IsOwn (Publish number) = ⊤
IsOwn (Replace new old upto) = ⊥
IsOwn (Raise number upto) = ⊥
IsOwn (Task opstamp text fields times) = ⊤
IsOwn (MarkStaged numbers) = ⊤
IsOwn (Remove numbers) = ⊤
IsOwn (Retire numbers) = ⊥

-- at most one entry
abbrev pub One : List Entry → Type 0
One [] = ⊤
One (entry ∷ []) = ⊤
One (entry ∷ other ∷ entries) = ⊥

-- at most one of one's own
abbrev pub Own : List Entry → Type 0
Own [] = ⊤
Own (entry ∷ []) = IsOwn entry.act
Own (entry ∷ other ∷ entries) = ⊥

-- at most one, and one of one's own behind it
abbrev pub Few : List Entry → Type 0
Few [] = ⊤
Few (entry ∷ entries) = Own entries

pub one_few : (es : List Entry) → One es → Few es
one_few [] o = tt
one_few (x ∷ []) o = tt
one_few (x ∷ y ∷ es) o = absurd o

own_few : (es : List Entry) → Own es → Few es
own_few [] w = tt
own_few (x ∷ []) w = tt
own_few (x ∷ y ∷ es) w = absurd w

joined : (xs ys : List Entry) → One xs → Own ys → Few (xs ++ ys)
joined [] ys o w = own_few ys w
joined (x ∷ []) ys o w = w
joined (x ∷ y ∷ xs) ys o w = absurd o

-- ---- moments

-- its moment is what its clock tells or the greatest of its entries, whichever is later, or was so once
pub record IsTimed (core : Core) : Type 0 where
  pub asks : core.frozen ≡ false
  pub least : moment_of (history core.history) ≤ core.moment
  pub most : core.moment ≤ max core.clock (moment_of (history core.history))

-- what its moment is told by, beside its entries
abbrev pub time_of : Core → ℕ × (ℕ × Bool)
time_of core = (core.moment, clock_of core)

pub timed_same : (a b : Core) → b.history ≡ a.history → time_of b ≡ time_of a → IsTimed a → IsTimed b
timed_same a b es e t =
    let m = ap (λ k. k.0) e in
    let c = ap (λ k. k.1.0) e in
    let h = ap (λ (xs : List Entry). moment_of (history xs)) es in
    let low = t.least in
    let high = t.most in
    record { asks = ap (λ k. k.1.1) e ∙ t.asks; least = omega (arith, m, h, low); most = omega (arith, m, c, h, high) }

pub timed_asked : (core : Core) → IsTimed core → IsTimed (asked_clock core)
timed_asked core t =
    let e = ap (λ b. asked_moment b core.moment core.clock) t.asks in
    let low = t.least in
    let high = t.most in
    record { asks = t.asks; least = omega (arith, e, low); most = omega (arith, e, high) }

-- behind an entry the greatest moment is its own, or as before
pub moment_more : (es : List Entry) (entry : Entry) → moment_of (history (es ++ entry ∷ [])) ≡ max (moment_of (history es)) entry.moment
moment_more es entry = ap moment_of (history-snoc es entry)

pub timed_taken : (entry : Entry) (core : Core) → IsTimed core → IsTimed (taken_in entry core)
timed_taken entry core t =
    let e = moment_more core.history entry in
    let low = t.least in
    let high = t.most in
    record { asks = t.asks; least = omega (arith, e, low); most = omega (arith, e, high) }

timed_reborn : (core : Core) → IsTimed core → IsTimed (reborn core)
timed_reborn core t = record { asks = t.asks; least = omega arith; most = omega arith }

-- ---- from one core to another

-- the journal goes on
abbrev pub Grown : Core → Core → Type 0
Grown a b = (more : List Entry) × (journal_of b ≡ journal_of a ++ more)

pub same_journal : (a b : Core) → journal_of b ≡ journal_of a → Grown a b
same_journal a b e = ([], e ∙ sym (append-nil (journal_of a)))

pub grown_on : (a b c : Core) → Grown a b → Grown b c → Grown a c
grown_on a b c g h = (g.0 ++ h.0, h.1 ∙ ap (λ l. l ++ h.0) g.1 ∙ append_assoc (journal_of a) g.0 h.0)

-- the files stay, and nothing is taken in
pub record Still (a b : Core) : Type 0 where
  pub files : Stay a.files b.files
  pub history : b.history ≡ a.history
  pub journal : Grown a b
  pub timed : IsTimed a → IsTimed b

-- the files stay, and these entries are taken in
pub record Takes (P : List Entry → Type 0) (a b : Core) : Type 0 where
  pub files : Stay a.files b.files
  pub more : List Entry
  pub grown : b.history ≡ a.history ++ more
  pub few : P more
  pub journal : Grown a b
  pub timed : IsTimed a → IsTimed b

-- ---- where a file may be deleted

-- From one core to another a number was freed: its row is marked or gone behind it, and was not published before.
pub record Freed (a b : Core) (number : ℕ) : Type 0 where
  pub unpublished : (row : Row) → row_at (rows (history a.history)) number ≡ Some row → row.state ≡ Published → ⊥
  pub given_up : IsGivenUp b.history number

-- one of a list
abbrev pub Among : {X : Type 0} → X → List X → Type 0
Among x [] = ⊥
Among x (y ∷ ys) = (y ≡ x) ⊎ Among x ys

-- an entry stands unread, or it is late and would land at the end
abbrev pub Comes : Core → Entry → Type 0
Comes core entry = (core.standing ≡ Some entry) ⊎ ((core.standing ≡ None) × ((number : ℕ) × (bytes : List ℕ) × (number ≡ length core.history) × Among (late_entry number entry bytes) core.late))

-- or a step makes it to close a number
abbrev pub Came : Core → Entry → Type 0
Came core entry = Comes core entry ⊎ (entry.act ≡ Fence)

abbrev pub CameOne : Core → List Entry → Type 0
CameOne core [] = ⊤
CameOne core (entry ∷ []) = Came core entry
CameOne core (entry ∷ other ∷ entries) = ⊥

-- at most one, and one of one's own behind one that came from somewhere
abbrev pub CameFew : Core → List Entry → Type 0
CameFew core [] = ⊤
CameFew core (entry ∷ []) = ⊤
CameFew core (entry ∷ own ∷ []) = Came core entry
CameFew core (entry ∷ own ∷ other ∷ entries) = ⊥

-- these entries are taken in, and the files stay, but for those of numbers that were freed
pub record Leaves (a b : Core) : Type 0 where
  pub files : (key bytes : List ℕ) → file_at a.files key ≡ Some bytes → (file_at b.files key ≡ Some bytes) ⊎ ((number : ℕ) × (key ≡ split_key number) × Freed a b number)
  pub more : List Entry
  pub grown : b.history ≡ a.history ++ more
  pub few : Few more ⊎ (CameFew a more × Stay a.files b.files)
  pub journal : Grown a b

pub leaves_of : {a b : Core} → Takes Few a b → Leaves a b
leaves_of t = record { files = λ key bytes e. inl (t.files key bytes e); more = t.more; grown = t.grown; few = inl t.few; journal = t.journal }

-- where an entry of any kind is made, the one before it came from somewhere
pub leaves_came : {a b : Core} → Takes (CameFew a) a b → Leaves a b
leaves_came t = record { files = λ key bytes e. inl (t.files key bytes e); more = t.more; grown = t.grown; few = inr (t.few, t.files); journal = t.journal }

-- what a call changes beside the files, the history and what stands unread
pub unmoved : (a b : Core) → b.files ≡ a.files → b.history ≡ a.history → b.standing ≡ a.standing → time_of b ≡ time_of a → Still a b
unmoved a b files history standing time =
    record {
      files = λ key bytes e. subst (λ (fs : List File). file_at fs key ≡ Some bytes) (sym files) e;
      history = history;
      journal = same_journal a b (ap₂ with_unread history standing);
      timed = timed_same a b history time;
    }

pub still : (core : Core) → Still core core
still core = unmoved core core refl refl refl refl

-- the clock is asked
pub asked_still : (core : Core) → Still core (asked_clock core)
asked_still core = record { files = λ key bytes e. e; history = refl; journal = same_journal core (asked_clock core) refl; timed = timed_asked core }

still_on : {a b c : Core} → Still a b → Still b c → Still a c
still_on {a} {b} {c} s t = record { files = λ key bytes e. t.files key bytes (s.files key bytes e); history = t.history ∙ s.history; journal = grown_on a b c s.journal t.journal; timed = λ k. t.timed (s.timed k) }

pub none : (P : List Entry → Type 0) {a b : Core} → P [] → Still a b → Takes P a b
none P {a} nil s = record { files = s.files; more = []; grown = s.history ∙ sym (append-nil a.history); few = nil; journal = s.journal; timed = s.timed }

pub takes_none : (core : Core) → Takes Few core core
takes_none core = none Few tt (still core)

pub behind : {P : List Entry → Type 0} {a b c : Core} → Still a b → Takes P b c → Takes P a c
behind {P} {a} {b} {c} s t =
    record {
      files = λ key bytes e. t.files key bytes (s.files key bytes e);
      more = t.more;
      grown = t.grown ∙ ap (λ l. l ++ t.more) s.history;
      few = t.few;
      journal = grown_on a b c s.journal t.journal;
      timed = λ k. t.timed (s.timed k);
    }

pub before : {P : List Entry → Type 0} {a b c : Core} → Takes P a b → Still b c → Takes P a c
before {P} {a} {b} {c} t s =
    record { files = λ key bytes e. s.files key bytes (t.files key bytes e); more = t.more; grown = s.history ∙ t.grown; few = t.few; journal = grown_on a b c t.journal s.journal; timed = λ k. s.timed (t.timed k) }

pub same : {P : List Entry → Type 0} {a b c : Core} → Takes P a b → c ≡ b → Takes P a c
same {P} {a} t e = subst (Takes P a) (sym e) t

pub weaker : (P Q : List Entry → Type 0) {a b : Core} → ((es : List Entry) → P es → Q es) → Takes P a b → Takes Q a b
weaker P Q f t = record { files = t.files; more = t.more; grown = t.grown; few = f t.more t.few; journal = t.journal; timed = t.timed }

-- one behind the other
pub both : (P Q R : List Entry → Type 0) {a b c : Core} → ((xs ys : List Entry) → P xs → Q ys → R (xs ++ ys)) → Takes P a b → Takes Q b c → Takes R a c
both P Q R {a} {b} {c} join t u =
    record {
      files = λ key bytes e. u.files key bytes (t.files key bytes e);
      more = t.more ++ u.more;
      grown = u.grown ∙ ap (λ l. l ++ u.more) t.grown ∙ append_assoc a.history t.more u.more;
      few = join t.more u.more t.few u.few;
      journal = grown_on a b c t.journal u.journal;
      timed = λ k. u.timed (t.timed k);
    }

pub and_own : {a b c : Core} → Takes One a b → Takes Own b c → Takes Few a c
and_own t u = both One Own Few joined t u

came_joined : (core : Core) (xs ys : List Entry) → CameOne core xs → One ys → CameFew core (xs ++ ys)
came_joined core [] [] c o = tt
came_joined core [] (y ∷ []) c o = tt
came_joined core [] (y ∷ z ∷ ys) c o = absurd o
came_joined core (x ∷ []) [] c o = tt
came_joined core (x ∷ []) (y ∷ []) c o = c
came_joined core (x ∷ []) (y ∷ z ∷ ys) c o = absurd o
came_joined core (x ∷ w ∷ xs) ys c o = absurd c

pub and_any : {start a b : Core} → Takes (CameOne start) start a → Takes One a b → Takes (CameFew start) start b
and_any {start} t u = both (CameOne start) One (CameFew start) (came_joined start) t u

pub one_came : (core : Core) (es : List Entry) → One es → CameFew core es
one_came core [] o = tt
one_came core (x ∷ []) o = tt
one_came core (x ∷ y ∷ es) o = absurd o

pub came_few : (core : Core) (es : List Entry) → CameOne core es → CameFew core es
came_few core [] c = tt
came_few core (x ∷ []) c = tt
came_few core (x ∷ y ∷ es) c = absurd c

-- an entry came to stand unread where none did
pub comes : (core : Core) (entry : Entry) → core.standing ≡ None → (after : Core) → after.files ≡ core.files → after.history ≡ core.history → after.standing ≡ Some entry → time_of after ≡ time_of core → Still core after
comes core entry none after files history standing time =
    record {
      files = λ key bytes e. subst (λ (fs : List File). file_at fs key ≡ Some bytes) (sym files) e;
      history = history;
      journal = (entry ∷ [], ap₂ with_unread history standing ∙ ap (λ l. l ++ entry ∷ []) (sym (ap (with_unread core.history) none)));
      timed = timed_same core after history time;
    }

-- ---- what lands

entry_still : (standing : Option Entry) (b : Bool) (entry : Entry) (core : Core) → core.standing ≡ standing → Still core (entry_lands standing b entry core)
entry_still None true entry core q = comes core entry q _ refl refl refl refl
entry_still None false entry core q = still core
entry_still (Some standing) b entry core q = still core

file_still : (b : Bool) (key bytes : List ℕ) (core : Core) → Still core (file_lands b key bytes core)
file_still true key bytes core = still core
file_still false key bytes core = record { files = stay_more core.files (record { key = key; bytes = bytes } ∷ []); history = refl; journal = same_journal core (file_lands false key bytes core) refl; timed = timed_same core (file_lands false key bytes core) refl refl }

pub land_still : (late : Option Late) (place : ℕ) (core : Core) → Still core (land_at late place core)
land_still None place core = still core
land_still (Some (late_entry number entry bytes)) place core = still_on (entry_still core.standing (number == length core.history) entry core refl) (unmoved _ _ refl refl refl refl)
land_still (Some (late_dead key bytes)) place core = unmoved _ _ refl refl refl refl
land_still (Some (late_file key bytes)) place core = still_on (file_still (is_some (file_at core.files key)) key bytes core) (unmoved _ _ refl refl refl refl)

landed_still : (places : List ℕ) (core : Core) → Still core (all_landed places core)
landed_still [] core = still core
landed_still (place ∷ places) core =
    still_on (land_still (slice_get core.late place) place core) (landed_still places (land_at (slice_get core.late place) place core))

pub begun_still : (call : Call) (core : Core) → Still core (begun call core)
begun_still call core =
    still_on (unmoved core (record core { store_faults = risen core.store_faults call.rises }) refl refl refl refl) (landed_still call.lands (record core { store_faults = risen core.store_faults call.rises }))

-- what stands unread stays
entry_some : (standing : Option Entry) (b : Bool) (entry one : Entry) (core : Core) → core.standing ≡ standing → core.standing ≡ Some one → (entry_lands standing b entry core).standing ≡ Some one
entry_some None b entry one core q s = absurd (none_some one (sym q ∙ s))
entry_some (Some standing) b entry one core q s = s

file_some : (b : Bool) (key bytes : List ℕ) (one : Entry) (core : Core) → core.standing ≡ Some one → (file_lands b key bytes core).standing ≡ Some one
file_some true key bytes one core s = s
file_some false key bytes one core s = s

pub land_some : (late : Option Late) (place : ℕ) (one : Entry) (core : Core) → core.standing ≡ Some one → (land_at late place core).standing ≡ Some one
land_some None place one core s = s
land_some (Some (late_entry number entry bytes)) place one core s = entry_some core.standing (number == length core.history) entry one core refl s
land_some (Some (late_dead key bytes)) place one core s = s
land_some (Some (late_file key bytes)) place one core s = file_some (is_some (file_at core.files key)) key bytes one core s

landed_some : (places : List ℕ) (one : Entry) (core : Core) → core.standing ≡ Some one → (all_landed places core).standing ≡ Some one
landed_some [] one core s = s
landed_some (place ∷ places) one core s =
    landed_some places one (land_at (slice_get core.late place) place core) (land_some (slice_get core.late place) place one core s)

pub begun_some : (call : Call) (one : Entry) (core : Core) → core.standing ≡ Some one → (begun call core).standing ≡ Some one
begun_some call one core s = landed_some call.lands one (record core { store_faults = risen core.store_faults call.rises }) s

-- ---- creates and gets at the end

tried_still : (b : Effect) (standing : Option Entry) (entry : Entry) (core : Core) → core.standing ≡ standing → Still core (tried b standing entry core)
tried_still done_at_once None entry core q = comes core entry q _ refl refl refl refl
tried_still done_at_once (Some other) entry core q = unmoved _ _ refl refl refl refl
tried_still done_late standing entry core q = unmoved _ _ refl refl refl refl
tried_still done_never standing entry core q = unmoved _ _ refl refl refl refl

behind_still : (standing : Option Entry) (entry : Entry) (core : Core) → core.standing ≡ standing → Still core (made_behind standing entry core).core
behind_still None entry core q = comes core entry q _ refl refl refl refl
behind_still (Some other) entry core q = still core

made_still : (b : Bool) (c : Effect) (entry : Entry) (core : Core) → Still core (made_at b c entry core).core
made_still true c entry core = tried_still c core.standing entry core refl
made_still false c entry core = behind_still core.standing entry core refl

pub create_still : (call : Call) (entry : Entry) (core : Core) → Still core (create_at_end call entry core).core
create_still call entry core = still_on (begun_still call core) (made_still (may_fail call core.store_faults) call.effect entry (begun call core))

-- what stands behind a create: this entry where it was made, and else the one that it met
abbrev pub Fits : Made → Entry → Core → Type 0
Fits made entry core = core.standing ≡ Some entry
Fits (exists other) entry core = core.standing ≡ Some other
Fits failed entry core = ⊤

behind_fits : (standing : Option Entry) (entry : Entry) (core : Core) → core.standing ≡ standing → Fits (made_behind standing entry core).answer entry (made_behind standing entry core).core
behind_fits None entry core q = refl
behind_fits (Some other) entry core q = q

made_fits : (b : Bool) (c : Effect) (entry : Entry) (core : Core) → Fits (made_at b c entry core).answer entry (made_at b c entry core).core
made_fits true c entry core = tt
made_fits false c entry core = behind_fits core.standing entry core refl

pub create_fits : (call : Call) (entry : Entry) (core : Core) → Fits (create_at_end call entry core).answer entry (create_at_end call entry core).core
create_fits call entry core = made_fits (may_fail call core.store_faults) call.effect entry (begun call core)

pub taken_journal : (entry : Entry) (core : Core) → core.standing ≡ Some entry → Grown core (taken_in entry core)
taken_journal entry core s = same_journal core (taken_in entry core) (sym (ap (with_unread core.history) s))

pub taken_by : (P : List Entry → Type 0) (entry : Entry) (core : Core) → core.standing ≡ Some entry → P (entry ∷ []) → Takes P core (taken_in entry core)
taken_by P entry core s p = record { files = λ key bytes e. e; more = entry ∷ []; grown = refl; few = p; journal = taken_journal entry core s; timed = timed_taken entry core }

pub taken_one : (entry : Entry) (core : Core) → core.standing ≡ Some entry → Takes One core (taken_in entry core)
taken_one entry core s = taken_by One entry core s tt

pub taken_own : (entry : Entry) (core : Core) → core.standing ≡ Some entry → IsOwn entry.act → Takes Own core (taken_in entry core)
taken_own entry core s own = taken_by Own entry core s own

pub taken_unless_by : (P : List Entry → Type 0) → P [] → (b unsure : Bool) (entry : Entry) (core : Core) → core.standing ≡ Some entry → P (entry ∷ []) → Takes P core (taken_unless b unsure entry core).core
taken_unless_by P nil true unsure entry core s p = none P nil (unmoved _ _ refl refl refl refl)
taken_unless_by P nil false unsure entry core s p = taken_by P entry core s p

pub or_short_takes : {E A : Type 0} (P : List Entry → Type 0) → P [] → (b : Bool) (e : E) (call : Call) (core : Core) (given : Gives E A) → Takes P core given.core →
    Takes P core (or_short b e call core given).core
or_short_takes P nil true e call core given t = none P nil (begun_still call core)
or_short_takes P nil false e call core given t = t

asking_takes : {E A : Type 0} (P : List Entry → Type 0) → P [] → (b : Bool) (e : E) (core : Core) (next : Core → Gives E A) → ((c : Core) → Takes P c (next c).core) →
    Takes P core (asking b e core next).core
asking_takes P nil true e core next t = none P nil (still core)
asking_takes P nil false e core next t = behind (asked_still core) (t (asked_clock core))

then_own : {E A B : Type 0} {start core : Core} (r : Result A E) (next : Core → Gives E B) → Takes One start core → ((c : Core) → Takes Own c (next c).core) →
    Takes Few start (and_then_by r core next).core
then_own (Ok a) next t u = and_own t (u _)
then_own (Err e) next t u = weaker One Few one_few t

got_by : (P : List Entry → Type 0) → P [] → (b : Bool) (call : Call) (count : ℕ) (entry : Entry) (core : Core) → core.standing ≡ Some entry → P (entry ∷ []) → Takes P core (got_at b call count entry core).core
got_by P nil true call count entry core s p = none P nil (unmoved _ _ refl refl refl refl)
got_by P nil false call count entry core s p = taken_unless_by P nil call.short (core.unsure || is_at_once call.effect) entry core s p

pub get_by : (P : List Entry → Type 0) → P [] → (call : Call) (entry : Entry) (count : ℕ) (core : Core) → core.standing ≡ Some entry → P (entry ∷ []) → Takes P core (get_at_end call entry count core).core
get_by P nil call entry count core s p = behind (begun_still call core) (got_by P nil (may_fail call core.store_faults) call count entry (begun call core) (begun_some call entry core s) p)

pub get_one : (call : Call) (entry : Entry) (count : ℕ) (core : Core) → core.standing ≡ Some entry → Takes One core (get_at_end call entry count core).core
get_one call entry count core s = get_by One tt call entry count core s tt

-- ---- settling and appending

settle_made_one : (get : Call) (count : ℕ) (fence : Entry) (m : Made) (core : Core) → Fits m fence core → Takes One core (settle_made get count fence m core).core
settle_made_one get count fence made core f = taken_unless_by One tt get.short true fence core f tt
settle_made_one get count fence (exists entry) core f = get_one get entry count core f
settle_made_one get count fence failed core f = none One tt (still core)

pub unless_short_still : (b : Bool) (core : Core) → Still core (unless_short b core).core
unless_short_still true core = still core
unless_short_still false core = still core

settle_one : (b : Bool) (first second : Call) (core : Core) → Takes One core (settle_with b first second core).core
settle_one false first second core = none One tt (unless_short_still first.short core)
settle_one true first second core =
    or_short_takes One tt first.short _ _ core _ (behind (create_still first (fence_of core) core) (settle_made_one second _ _ _ _ (create_fits first (fence_of core) core)))

pub settled_one : (first second : Call) (core : Core) → Takes One core (settled first second core).core
settled_one first second core = settle_one core.unsure first second core

module _ (P : List Entry → Type 0) (nil : P []) where
  last_made_by : (count : ℕ) (entry : Entry) (m : Made) (core : Core) → P (entry ∷ []) → Fits m entry core → Takes P core (last_made count entry m core).core
  last_made_by count entry made core p f = taken_by P entry core f p
  last_made_by count entry (exists other) core p f = none P nil (still core)
  last_made_by count entry failed core p f = none P nil (still core)

  last_unless_by : (r : Result ⊤ Unmade) (call : Call) (count : ℕ) (act : Act) (core : Core) → P (entry_of act core ∷ []) → Takes P core (last_unless r call count act core).core
  last_unless_by (Err e) call count act core p = none P nil (still core)
  last_unless_by (Ok done) call count act core p = behind (create_still call (entry_of act core) core) (last_made_by count _ _ _ p (create_fits call (entry_of act core) core))

  pub last_by : (call : Call) (count : ℕ) (act : Act) (core : Core) → P (entry_of act core ∷ []) → Takes P core (last_create call count act core).core
  last_by call count act core p = or_short_takes P nil call.short _ _ core _ (last_unless_by (may_append act core) call count act core p)

pub last_own : (call : Call) (count : ℕ) (act : Act) (core : Core) → IsOwn act → Takes Own core (last_create call count act core).core
last_own call count act core own = last_by Own tt call count act core own

pub troubled_still : {A : Type 0} (r : Result A Trouble) (core : Core) → Still core (troubled_by r core).core
troubled_still (Ok a) core = still core
troubled_still (Err e) core = still core

module _ (act : Core → Act) (own : (c : Core) → IsOwn (act c)) where
  adopted_few : (get again : Call) (count : ℕ) (entry : Entry) (m : Made) (core : Core) → IsOwn entry.act → Fits m entry core → Takes Few core (adopted_made get again count act entry m core).core
  adopted_few get again count entry made core is f = weaker Own Few own_few (taken_own entry core f is)
  adopted_few get again count entry (exists other) core is f =
      then_own (as_unmade (get_at_end get other count core)).answer _ (before (get_one get other count core f) (troubled_still _ _)) (λ c. last_own again count (act c) c (own c))
  adopted_few get again count entry failed core is f = none Few tt (still core)

  first_few : (r : Result ⊤ Unmade) (first second third : Call) (core : Core) → Takes Few core (first_unless r first second third act core).core
  first_few (Err e) first second third core = none Few tt (still core)
  first_few (Ok done) first second third core = behind (create_still first (entry_of (act core) core) core) (adopted_few second third _ _ _ _ (own core) (create_fits first (entry_of (act core) core) core))

  transact_few : (b : Bool) (first second third : Call) (core : Core) → Takes Few core (transact b first second third act core).core
  transact_few true first second third core =
      then_own (as_unmade (settled first second core)).answer _ (before (settled_one first second core) (troubled_still _ _)) (λ c. last_own third core.store_faults (act c) c (own c))
  transact_few false first second third core = or_short_takes Few tt first.short _ _ core _ (first_few (may_append (act core) core) first second third core)

  pub appended_few : (fate : Fate) (core : Core) → Takes Few core (appended fate act core).core
  appended_few fate core = asking_takes Few tt fate.unasked _ core _ (λ c. transact_few c.unsure fate.first fate.second fate.third c)

-- ---- the other calls

then_still : {E A B : Type 0} {P : List Entry → Type 0} {start core : Core} (r : Result A E) (next : Core → Gives E B) → Takes P start core → ((c : Core) → Still c (next c).core) →
    Takes P start (and_then_by r core next).core
then_still (Ok a) next t s = before t (s _)
then_still (Err e) next t s = t

looked_one : (fate : Fate) (core : Core) → Takes One core (looked fate core).core
looked_one fate core = then_still (settled fate.first fate.second core).answer _ (settled_one fate.first fate.second core) (λ c. unless_short_still fate.third.short c)

pub asked_and_looked_one : (fate : Fate) (core : Core) → Takes One core (asked_and_looked fate core).core
asked_and_looked_one fate core = asking_takes One tt fate.unasked _ core _ (λ c. looked_one fate c)

asked_few : (fate : Fate) (core : Core) → Takes Few core (asked fate core).core
asked_few fate core = asking_takes Few tt fate.unasked _ core _ (λ c. none Few tt (still c))

file_by_still : (b : Bool) (c : Effect) (d : Bool) (count : ℕ) (key bytes : List ℕ) (core : Core) → Still core (file_by b c d count key bytes core).core
file_by_still true done_at_once true count key bytes core = still core
file_by_still true done_at_once false count key bytes core = file_still false key bytes core
file_by_still true done_late d count key bytes core = unmoved _ _ refl refl refl refl
file_by_still true done_never d count key bytes core = still core
file_by_still false c true count key bytes core = still core
file_by_still false c false count key bytes core = file_still false key bytes core

pub file_made_few : (call : Call) (key bytes : List ℕ) (core : Core) → Takes Few core (file_made call key bytes core).core
file_made_few call key bytes core =
    or_short_takes Few tt call.short _ _ core _
    (none Few tt (still_on (begun_still call core) (file_by_still (may_fail call core.store_faults) call.effect _ core.store_faults key bytes (begun call core))))

-- a fetch takes nothing in
asking_still : {E A : Type 0} (b : Bool) (e : E) (core : Core) (next : Core → Gives E A) → ((c : Core) → Still c (next c).core) → Still core (asking b e core next).core
asking_still true e core next t = still core
asking_still false e core next t = still_on (asked_still core) (t (asked_clock core))

pub got_still : (b : Bool) (count : ℕ) (call : Call) (core : Core) → Still core (or_short b no_memory call core (got_file (may_fail call core.store_faults) count (begun call core))).core
got_still true count call core = begun_still call core
got_still false count call core = still_same (begun_still call core) (got_file_same (may_fail call core.store_faults) count (begun call core))
  where
    still_same : {a b c : Core} → Still a b → c ≡ b → Still a c
    still_same {a} s e = subst (Still a) (sym e) s

over_still : (over : Bool) (planned_at : ℕ) (core : Core) (otherwise : Gives Trouble ⊤) → Still core otherwise.core → Still core (unless_over over planned_at core otherwise).core
over_still true planned_at core otherwise t = still core
over_still false planned_at core otherwise t = t

pub fetched_still : (grace : Grace) (fate : Fate) (core : Core) → Still core (fetched grace fate core).core
fetched_still grace fate core =
    asking_still fate.unasked _ core _ (λ c. over_still (nat_le grace.until c.moment) grace.planned_at c (file_got fate.first c) (got_still fate.first.short c.store_faults fate.first c))

fault_still : {core : Core} (answer : Result ⊤ Trouble) (mid : Core) (next : Core → Gives Trouble ⊤) → Still core mid → Still mid (next mid).core → Still core (unless_fault answer mid next).core
fault_still (Ok done) mid next s t = still_on s t
fault_still (Err trouble) mid next s t = s

each_still : (grace : Grace) (more : List Fate) (fate : Fate) (core : Core) → Still core (fetched_each grace fate more core).core
each_still grace [] fate core = fetched_still grace fate core
each_still grace (next ∷ more) fate core =
    let given = fetched grace fate core in
    fault_still given.answer given.core (fetched_each grace next more) (fetched_still grace fate core) (each_still grace more next given.core)

-- ---- opening

standing_one : (standing : Option Entry) (core : Core) → core.standing ≡ standing → Takes One core (with_standing standing core)
standing_one None core q = none One tt (still core)
standing_one (Some entry) core q = taken_one entry core q

reborn_still : (core : Core) → Still core (reborn core)
reborn_still core = record { files = λ key bytes e. e; history = refl; journal = same_journal core (reborn core) refl; timed = timed_reborn core }

journal_one : (core : Core) → Takes One core (read_journal core)
journal_one core = before (standing_one core.standing core refl) (reborn_still (with_standing core.standing core))

unless_empty_still : (b : Bool) (core : Core) → Still core (unless_empty b core).core
unless_empty_still true core = still core
unless_empty_still false core = still core

load_one : (b c : Bool) (second : Call) (count : ℕ) (core : Core) → Takes One core (load_by b c second count core).core
load_one true c second count core = none One tt (begun_still second core)
load_one false true second count core = none One tt (begun_still second core)
load_one false false second count core =
    before (journal_one core) (still_on (begun_still second (read_journal core)) (unless_empty_still _ (begun second (read_journal core))))

loaded_one : (fate : Fate) (core : Core) → Takes One core (loaded fate core).core
loaded_one fate core = behind (begun_still fate.first core) (load_one (fate.first.short || fate.second.short) _ fate.second _ (begun fate.first core))

pub loaded_few : (fate : Fate) (core : Core) → Takes Few core (loaded fate core).core
loaded_few fate core = weaker One Few one_few (loaded_one fate core)

-- ---- making an index

first_own : (count : ℕ) (entry : Entry) (m : Made) (core : Core) → IsOwn entry.act → Fits m entry core → Takes Own core (first_made count entry m core).core
first_own count entry made core own f = taken_own entry core f own
first_own count entry (exists other) core own f = none Own tt (still core)
first_own count entry failed core own f = none Own tt (still core)

created_by_own : (answer : Result IndexConfig ConfigError) (call : Call) (count : ℕ) (text : List ℕ) (core : Core) → Takes Own core (created_by answer call count text core).core
created_by_own (Err error) call count text core = none Own tt (still core)
created_by_own (Ok config) call count text core =
    behind (asked_still core)
    (behind (create_still call (entry_of (Create text) (asked_clock core)) (asked_clock core)) (first_own count (entry_of (Create text) (asked_clock core)) _ _ tt (create_fits call (entry_of (Create text) (asked_clock core)) (asked_clock core))))

created_own : (answer : Result ⊤ Unread) (call : Call) (count : ℕ) (text : List ℕ) (core : Core) → Takes Own core (created_behind answer call count text core).core
created_own (Ok done) call count text core = none Own tt (still core)
created_own (Err (not_read trouble)) call count text core = none Own tt (still core)
created_own (Err calls.no_index) call count text core = or_short_takes Own tt call.short _ call core _ (created_by_own (config_answer text) call count text core)

pub created_few : (fate : Fate) (text : List ℕ) (core : Core) → Takes Few core (created fate text core).core
created_few fate text core = and_own (loaded_one fate core) (created_own (loaded fate core).answer fate.third core.store_faults text (loaded fate core).core)

-- ---- an indexer's step

choice_few : {core : Core} (b : Bool) (x y : Stepped) → Takes Few core x.core → Takes Few core y.core → Takes Few core (if b then x else y).core
choice_few true x y t u = t
choice_few false x y t u = u

indexer_short_same : (b : Bool) (step : Stepped) → (indexing.or_short b step).core ≡ step.core
indexer_short_same true step = refl
indexer_short_same false step = refl

module _ (luck : indexing.IndexerLuck) (log : Log) (core : Core) where
  take_few : (indexer : Indexer) → Takes Few core (take_checkpoints luck log indexer core).core
  take_few indexer = same (weaker One Few one_few (looked_one luck.world core)) (checkpoints_same _ log indexer _)

  idle_few : (indexer : Indexer) (b : Bool) (names : Option (List (List ℕ))) → Takes Few core (idle_by b names luck log indexer core).core
  idle_few indexer true None = none Few tt (still core)
  idle_few indexer false None = take_few (log_called luck.log indexer)
  idle_few indexer true (Some names) = take_few indexer
  idle_few indexer false (Some names) = take_few indexer

  unless_few : (indexer : Indexer) (b : Bool) → Takes Few core (indexing.idle_unless b luck log indexer core).core
  unless_few indexer true = none Few tt (still core)
  unless_few indexer false = idle_few indexer (log_may_fail luck.log indexer.log_faults) indexer.assignment

  read_few : (indexer : Indexer) (batch : Batch) (queue : List Checkpoint) → Takes Few core (step_read luck log batch queue indexer core).core
  read_few indexer batch [] = none Few tt (still core)
  read_few indexer batch (mark ∷ rest) = same (asked_few luck.world core) (given_same luck log batch mark rest indexer _ _)

  stage_few : (indexer : Indexer) (batch : Batch) → Takes Few core (step_stage luck batch indexer core).core
  stage_few indexer batch = same (appended_few (stage_act batch.parts (batch_facts batch)) (λ c. tt) luck.world core) (stage_same _ batch indexer _)

  upload_few : (indexer : Indexer) (held : IndexerHeld) → Takes Few core (step_upload luck held indexer core).core
  upload_few indexer held = same (file_made_few luck.world.first (split_key held.number) (file_of held.config held.documents) core) (upload_same _ held indexer _)

  publish_few : (indexer : Indexer) (held : IndexerHeld) → Takes Few core (step_publish luck held indexer core).core
  publish_few indexer held = same (appended_few (λ c. Publish held.number) (λ c. tt) luck.world core) (publish_same _ held indexer _)

  batch_few : (indexer : Indexer) (batch : Batch) → Takes Few core (step_batch luck log batch indexer core).core
  batch_few indexer batch =
      choice_few batch.closed _ _ (choice_few (batch.count == 0) _ _ (none Few tt (still core)) (stage_few indexer batch)) (read_few indexer batch batch.queue)

  place_few : (indexer : Indexer) (place : IndexerPlace) → Takes Few core (step_place place luck log indexer core).core
  place_few indexer idle = unless_few indexer luck.log.short
  place_few indexer (reading batch) = batch_few indexer batch
  place_few indexer (staged held) = upload_few indexer held
  place_few indexer (uploaded held) = publish_few indexer held

  pub indexer_few : (indexer : Indexer) → Takes Few core (step_indexer luck log indexer core).core
  indexer_few indexer = same (place_few indexer indexer.place) (indexer_short_same luck.short _)

-- ---- a client's step

client_short_same : (b : Bool) (client : Client) (step : searching.Searched) → (searching.or_short b client step).core ≡ step.core
client_short_same true client step = refl
client_short_same false client step = refl

module _ (luck : searching.ClientLuck) (log : Log) (client : Client) (core : Core) where
  next_few : (plan : Plan) (unfetched : List ℕ) → Takes Few core (next_step luck log plan unfetched client core).core
  next_few plan [] = none Few tt (still core)
  next_few plan (number ∷ more) = same (none Few tt (each_still plan.grace luck.more luck.world core)) (fetch_same _ plan number more client _)

  plans_few : (asked : Result Search Unanswered) → Takes Few core (plan_given asked client (asked_and_looked luck.world core)).core
  plans_few asked =
      let given = asked_and_looked luck.world core in same (weaker One Few one_few (asked_and_looked_one luck.world core)) (plan_same given.answer asked client given.core)

  opened_few : (asked : Result Asked Unanswered) → Takes Few core (opened_by asked luck.world client core).core
  opened_few (Ok (IsSearch search)) = plans_few (Ok search)
  opened_few (Ok (IsDelete deletion)) =
      let given = task_call (ask_of deletion) luck.world core in
      same (appended_few (task_act (ask_of deletion)) (λ c. tt) luck.world core) (delete_core given.answer client given.core)
  opened_few (Err reason) = plans_few (Err reason)

  request_few : (request : Request) → Takes Few core (step_request request luck log client core).core
  request_few no_request = none Few tt (still core)
  request_few (opened text) = opened_few (asked_of (config_in core) text)
  request_few (planned plan) = next_few plan plan.unfetched

  pub client_few : Takes Few core (step_client luck log client core).core
  client_few = same (request_few client.request) (client_short_same luck.short client _)
