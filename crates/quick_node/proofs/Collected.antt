-- What a step of the collector leaves: it deletes the file of one number at most, whose row was not published and is marked or gone. And what its
-- outcome comes from.
use Rattle.std.proofs.Common.{◌≡◌, ◌⊎◌, ℕ, zero, suc, ◌+◌, ◌<◌, ◌≤◌, ◌==◌, Bool, true, false, List, [], ◌∷◌, ◌++◌, length, refl, sym, ap, ◌∙◌, subst, inl, inr, arith, eqb-true}
use Rattle.std.proofs.lemmas.Bool.{eqb-false, leb-true, and_parts}
use Rattle.std.proofs.lemmas.List.{append-nil, length-append}
use Rattle.std.proofs.lemmas.Slice.Eq.{bytes_eq-Decides}
use Rattle.std.proofs.Math.Seq.{take-length}
use Rattle.std.specs.List.{AllByRecursion}
use Rattle.std.specs.Prelude.{Option, Some, None, Result, Ok, Err, ⊤, bytes_eq, filter, find, if◌then◌else◌, is_some, nat_lt, not, slice_get}
use Rattle.index_config.specs.declared.config.IndexConfig.{IndexConfig}
use Rattle.index_config.proofs.Ranges.{accepted-ranges}
use Rattle.meta_journal.specs.Places.{split_key}
use Rattle.meta_journal.specs.declared.entry.Act.{Act}
use Rattle.meta_journal.specs.declared.entry.Entry.{Entry}
use Rattle.meta_store.proofs.Numbers.{each_found, history-snoc, published_marked}
use Rattle.meta_store.proofs.Sound.{sound}
use Rattle.meta_store.specs.History.{History, history, last_number}
use Rattle.meta_store.specs.History.History.{◌▸◌}
use Rattle.meta_store.specs.Numbers.{IsGivenUp, has_staged}
use Rattle.meta_store.specs.Rows.{rows}
use Rattle.meta_store.specs.State.{Legal}
use Rattle.split_states.specs.Answers.{Repeats}
use Rattle.split_states.specs.Due.{is_marked}
use Rattle.split_states.specs.Rows.{row_at}
use Rattle.split_states.specs.declared.rows.Row.{Row}
use Rattle.split_states.specs.declared.rows.RowState.{RowState}
use Rattle.split_states.specs.declared.rows.RowState.TheVariants.{Staged, Published, Marked}
use Rattle.index_world.specs.Calls.{is_at_once, Call, Fate, Gives, Trouble, faulted, no_memory, Unmade, refused, troubled, asked_clock, asking, begun, deleted_by, file_deleted, got_file, marked_by, may_fail, or_short, troubled_by, without_file}
use Rattle.index_world.specs.Collecting.{answered_by, config_taken, doom_call, doom_next, doomed_by, is_swept, list_call, mark_stale_call, may_go, next_doomed, remove_call, removal_offer, stale_offer, sweep_if, swept_unless, with_doomed}
use Rattle.index_world.specs.Config.{reads}
use Rattle.index_world.specs.Configuration.{configuration, config_or, index_of}
use Rattle.index_world.specs.Core.{Core, File, file_at, is_in, release_of, taken_at}
use Rattle.index_world.proofs.Asking.{Begun, begun_history}
use Rattle.index_world.proofs.Configured.{configured_read}
use Rattle.index_world.proofs.Dooming.{doomed_is_free, swept_is_free}
use Rattle.index_world.proofs.Numbers.{revision_is}
use Rattle.index_world.proofs.StoreKeys.{none_some, true_is_false}
use Rattle.split_collector.specs.Outcomes.{Outcome, MarkedStale, Doomed, Removed}
use Rattle.split_collector.specs.Steps.{CallLuck, CollectorLuck, Stand, alone, end_at, ends_behind, failed_with, first_fate, least_left, max_calls, other_fates, outcome_at, outcome_unless, outcomes, page_by, step_collector, turned}
use Rattle.split_collector.specs.Turns.{Turn, behind_delete, behind_doom, behind_list, counted, ended, next_behind, page_turn, paging, to_doom, to_list, to_mark, to_remove, to_sweep}
use Rattle.call_laws.proofs.CallTells.{AreLow}
use Rattle.quick_node.specs.Collects.{DidBetween}
use Rattle.quick_node.proofs.CollectorKeeps.{Appended, Counts, Idle, IsMarks, IsRemovals, Ready, begins_tried, begun_idle, idle_tried, removal_fits, same_asked, stale_fits, takes_few, takes_one}
use Rattle.quick_node.proofs.Files.{Few, Freed, Grown, Leaves, One, Still, Takes, before, begun_still, grown_on, leaves_of, one_few, same_journal, takes_none, weaker}
use Rattle.quick_node.proofs.EntryRows.{still_there}

-- ---- the file of one key is deleted

-- the files stay, but for the one under this key, and nothing is taken in
record Cleared (key : List ℕ) (core after : Core) : Type 0 where
  files : (other bytes : List ℕ) → file_at core.files other ≡ Some bytes → (file_at after.files other ≡ Some bytes) ⊎ (other ≡ key)
  history : after.history ≡ core.history
  journal : Grown core after

left_file : (files : List File) (key other bytes : List ℕ) → file_at files other ≡ Some bytes → (file_at (filter (λ file. not (bytes_eq file.key key)) files) other ≡ Some bytes) ⊎ (other ≡ key)
left_file [] key other bytes e = absurd (none_some bytes e)
left_file (file ∷ files) key other bytes e = by (bytes_eq file.key other) refl (bytes_eq file.key key) refl (left_file files key other bytes)
  where
    by : (a : Bool) → bytes_eq file.key other ≡ a → (b : Bool) → bytes_eq file.key key ≡ b → (file_at files other ≡ Some bytes → (file_at (filter (λ file. not (bytes_eq file.key key)) files) other ≡ Some bytes) ⊎ (other ≡ key)) →
        (file_at (filter (λ file. not (bytes_eq file.key key)) (file ∷ files)) other ≡ Some bytes) ⊎ (other ≡ key)
    by true ea true eb more = inr (sym ((bytes_eq-Decides file.key other).0 ea) ∙ (bytes_eq-Decides file.key key).0 eb)
    by true ea false eb more = let here : Some file.bytes ≡ Some bytes = rw ea at e in inl (rw (eb, ea) here)
    by false ea true eb more = let there : file_at files other ≡ Some bytes = rw ea at e in rw eb (more there)
    by false ea false eb more = let there : file_at files other ≡ Some bytes = rw ea at e in rw (eb, ea) (more there)

cleared_still : (key : List ℕ) (core after : Core) → Still core after → Cleared key core after
cleared_still key core after s = record { files = λ other bytes e. inl (s.files other bytes e); history = s.history; journal = s.journal }

cleared_on : (key : List ℕ) (core mid after : Core) → Still core mid → Cleared key mid after → Cleared key core after
cleared_on key core mid after s c =
    record { files = λ other bytes e. c.files other bytes (s.files other bytes e); history = c.history ∙ s.history; journal = grown_on core mid after s.journal c.journal }

without_cleared : (key : List ℕ) (core : Core) → Cleared key core (without_file key core)
without_cleared key core = record { files = left_file core.files key; history = refl; journal = same_journal core (without_file key core) refl }

itself_cleared : (key : List ℕ) (core : Core) → Cleared key core core
itself_cleared key core = record { files = λ other bytes e. inl e; history = refl; journal = same_journal core core refl }

deleted_cleared : (fails at_once : Bool) (count : ℕ) (key : List ℕ) (core : Core) → Cleared key core (deleted_by fails at_once count key core).core
deleted_cleared true true count key core = without_cleared key core
deleted_cleared true false count key core = itself_cleared key core
deleted_cleared false at_once count key core = without_cleared key core

file_cleared : (call : Call) (key : List ℕ) (core : Core) → Cleared key core (file_deleted call key core).core
file_cleared call key core =
    cleared_on key core (begun call core) (file_deleted call key core).core (begun_still call core) (deleted_cleared (may_fail call core.store_faults) (is_at_once call.effect) core.store_faults key (begun call core))

-- ---- which row it was

-- the first row that passes
found_row : (P : Row → Type 0) (test : Row → Bool) (list : List Row) (row : Row) → find test list ≡ Some row → AllByRecursion P list → (test row ≡ true) × P row
found_row P test [] row e all = absurd (none_some row e)
found_row P test (x ∷ list) row e all = by (test x) refl (found_row P test list row)
  where
    by : (b : Bool) → test x ≡ b → (find test list ≡ Some row → AllByRecursion P list → (test row ≡ true) × P row) → (test row ≡ true) × P row
    by true t more = let here : Some x ≡ Some row = rw t at e in let is : x ≡ row = cc here in (ap test (sym is) ∙ t, subst P is all.0)
    by false t more = let there : find test list ≡ Some row = rw t at e in more there all.1

state_marked : (state : RowState) → is_marked state ≡ true → state ≡ Marked
state_marked Staged e = absurd (true_is_false (sym e))
state_marked Published e = absurd (true_is_false (sym e))
state_marked Marked e = refl

none_is : (o : Option Row) → not (is_some o) ≡ true → o ≡ None
none_is None e = refl
none_is (Some row) e = absurd (true_is_false (sym e))

some_same : (a b : Row) → Some a ≡ Some b → a ≡ b
some_same a b e = cc e

-- a grace is a second at least
grace_some : (entries : List Entry) → 1 ≤ (config_or (configuration entries)).deletion_grace
grace_some entries = by (configuration entries) refl
  where
    by : (o : Option IndexConfig) → configuration entries ≡ o → 1 ≤ (config_or o).deletion_grace
    by None e = omega arith
    by (Some config) e = let r = configured_read entries config e in (accepted-ranges r.0 config r.1).deletion_grace.0

-- the row that is doomed stands, is marked, and is released
record IsDue (core : Core) (row : Row) : Type 0 where
  found : row_at (rows (history core.history)) row.number ≡ Some row
  marked : row.state ≡ Marked
  released : release_of (config_taken core).deletion_grace core.marks row ≤ core.moment

due : (core : Core) (row : Row) → Legal reads (history core.history) → next_doomed core ≡ Some row → IsDue core row
due core row legal e =
    let h = history core.history in
    let f = found_row (λ (x : Row). row_at (rows h) x.number ≡ Some x) (may_go core) (rows h) row e (each_found (rows h) (sound reads h legal).held.apart) in
    let a = and_parts (is_marked row.state) _ f.0 in
    let b = and_parts (not (is_in core.doomed row.number)) _ a.1 in
    record { found = f.1; marked = state_marked row.state a.0; released = leb-true (release_of (config_taken core).deletion_grace core.marks row) core.moment b.1 }

-- a number that was staged and has no row
record IsGone (core : Core) (number : ℕ) : Type 0 where
  staged : has_staged core.history number ≡ true
  gone : row_at (rows (history core.history)) number ≡ None

module _ (core : Core) (legal : Legal reads (history core.history)) (some : 0 < length core.history) where
  begun_here : Begun (history core.history)
  begun_here = begun_history (history core.history) legal (let r = revision_is core.history in omega (arith, r, some))

  abbrev config : IndexConfig
  config = begun_here.config.settings.index

  config_is : configuration core.history ≡ Some config
  config_is = ap index_of begun_here.is

  gone_of : (number : ℕ) → is_swept core number ≡ true → IsGone core number
  gone_of number e =
      let a = and_parts (nat_lt 0 number) _ e in
      let b = and_parts (nat_lt number (last_number (history core.history) + 1)) _ a.1 in
      record { staged = (swept_is_free core config config_is legal number e).staged; gone = none_is (row_at (rows (history core.history)) number) b.1 }

  due_given_up : (row : Row) → next_doomed core ≡ Some row → IsGivenUp core.history row.number
  due_given_up row e =
      let d = due core row legal e in
      record {
        staged = (doomed_is_free core config config_is legal row e).staged;
        row = λ other found. ap (λ (x : Row). x.state) (some_same other row (sym found ∙ d.found)) ∙ d.marked;
      }

  gone_given_up : (number : ℕ) → IsGone core number → IsGivenUp core.history number
  gone_given_up number g = record { staged = g.staged; row = λ other found. absurd (none_some other (sym g.gone ∙ found)) }

-- ---- no published row is freed

-- what a published row has become behind the entries that a step took in: it is published still, or was marked at the step's own moment
abbrev Became : Core → List Entry → ℕ → Row → Type 0
Became core more number row = (row.state ≡ Published) ⊎ ((row.state ≡ Marked) × (core.moment ≤ taken_at core.marks number))

module _ (start core : Core) (number : ℕ) (row : Row) (found : row_at (rows (history start.history)) number ≡ Some row) (is : row.state ≡ Published) where
  became : (more : List Entry) → Ready start core more → Legal reads (history core.history) → (other : Row) × (row_at (rows (history core.history)) number ≡ Some other) × Became core more number other
  became [] r legal = (row, ap (λ (es : List Entry). row_at (rows (history es)) number) (r.grown ∙ append-nil start.history) ∙ found, inl is)
  became (entry ∷ []) r legal =
      let whole : history core.history ≡ history start.history ▸ entry = ap history r.grown ∙ history-snoc start.history entry in
      let next : Legal reads (history start.history ▸ entry) = subst (Legal reads) whole legal in
      let t = still_there (history start.history) entry.moment number row next.0 found is entry.act next.1.1 in
      (t.0, ap (λ (h : History). row_at (rows h) number) whole ∙ t.1, by t.0 t.2)
    where
      by : (other : Row) → (other.state ≡ Published) ⊎ ((other.state ≡ Marked) × (Repeats (marked_by entry.act) number ≡ true)) → Became core (entry ∷ []) number other
      by other (inl p) = inl p
      by other (inr m) = inr (m.0, r.noted number m.1)
  became (entry ∷ next ∷ more) r legal = absurd r.one

module _ (start core : Core) (i : Idle start core) (legal : Legal reads (history core.history)) where
  due_unpublished : (doomed : Row) → IsDue core doomed → (row : Row) → row_at (rows (history start.history)) doomed.number ≡ Some row → row.state ≡ Published → ⊥
  due_unpublished doomed d row found is =
      let b = became start core doomed.number row found is i.more i.ready legal in
      by b.0 (some_same b.0 doomed (sym b.1 ∙ d.found)) b.2
    where
      by : (other : Row) → other ≡ doomed → Became core i.more doomed.number other → ⊥
      by other same (inl p) = published_marked (sym p ∙ ap (λ (x : Row). x.state) same ∙ d.marked)
      by other same (inr m) =
          let low = m.1 in
          let free = d.released in
          let some = grace_some core.history in
          omega (arith, low, free, some)

  gone_unpublished : (number : ℕ) → IsGone core number → (row : Row) → row_at (rows (history start.history)) number ≡ Some row → row.state ≡ Published → ⊥
  gone_unpublished number g row found is = let b = became start core number row found is i.more i.ready legal in none_some b.0 (sym g.gone ∙ b.1)

-- a step that deleted one file of a number that was freed
freed_leaves : (start core after : Core) (number : ℕ) → Idle start core → Cleared (split_key number) core after → Freed start core number → Leaves start after
freed_leaves start core after number i c f =
    record {
      files = λ key bytes e. by key bytes (c.files key bytes (i.ready.files key bytes e));
      more = i.more;
      grown = c.history ∙ i.ready.grown;
      few = inl (one_few i.more i.ready.one);
      journal = grown_on start core after i.ready.journal c.journal;
    }
  where
    freed : Freed start after number
    freed = record { unpublished = f.unpublished; given_up = subst (λ (es : List Entry). IsGivenUp es number) (sym c.history) f.given_up }

    by : (key bytes : List ℕ) → (file_at after.files key ≡ Some bytes) ⊎ (key ≡ split_key number) → (file_at after.files key ≡ Some bytes) ⊎ ((n : ℕ) × (key ≡ split_key n) × Freed start after n)
    by key bytes (inl e) = inl e
    by key bytes (inr same) = inr (number, same, freed)

-- ---- what an outcome comes from

-- what the step answered is what it did, by the journal behind it
abbrev pub Did : Core → Core → Option Outcome → Type 0
Did start after None = Unit {0}
Did start after (Some outcome) = DidBetween after.history (length start.history) (length after.history) outcome

last_at : (entries : List Entry) (entry : Entry) → slice_get (entries ++ entry ∷ []) (length entries) ≡ Some entry
last_at [] entry = refl
last_at (x ∷ entries) entry = last_at entries entry

-- an entry of one's own is the last one, behind those that there were
record IsLast (start after : Core) (entry : Entry) : Type 0 where
  place : ℕ
  least : length start.history ≤ place
  below : place < length after.history
  at : slice_get after.history place ≡ Some entry

is_last : (IsOf : Act → ℕ → Type 0) (start after : Core) (count : ℕ) (a : Appended start after IsOf count) → IsLast start after a.entry
is_last IsOf start after count a =
    let l : length a.earlier ≡ length start.history + length a.more = ap length a.longer ∙ length-append start.history a.more in
    let k : length after.history ≡ length a.earlier + length (a.entry ∷ []) = ap length a.whole ∙ length-append a.earlier (a.entry ∷ []) in
    record {
      place = length a.earlier;
      least = omega (arith, l);
      below = omega (arith, k);
      at = ap (λ (es : List Entry). slice_get es (length a.earlier)) a.whole ∙ last_at a.earlier a.entry;
    }

marked_did : (start after : Core) (count : ℕ) → Appended start after IsMarks count → Did start after (Some (MarkedStale count))
marked_did start after count a = let l = is_last IsMarks start after count a in (l.place, l.least, l.below, (a.entry, a.is.0, l.at, a.is.1, a.is.2))

removed_did : (start after : Core) (count : ℕ) → Appended start after IsRemovals count → Did start after (Some (Removed count))
removed_did start after count a = let l = is_last IsRemovals start after count a in (l.place, l.least, l.below, (a.entry, a.is.0, l.at, a.is.1, a.is.2))

doomed_did : (start after : Core) (row : Row) → length start.history ≤ length after.history → row_at (rows (history after.history)) row.number ≡ Some row → row.state ≡ Marked → Did start after (Some (Doomed row.number))
doomed_did start after row least found is =
    (length after.history, least, omega arith, (row, ap (λ (es : List Entry). row_at (rows (history es)) row.number) (take-length after.history) ∙ found, is))

pub record Steps (start after : Core) (outcome : Option Outcome) : Type 0 where
  pub leaves : Leaves start after
  pub did : Did start after outcome

failed_steps : (start after : Core) (e : Unmade) → Leaves start after → Steps start after (failed_with e)
failed_steps start after (refused refusal) l = record { leaves = l; did = tt }
failed_steps start after (troubled (faulted fault)) l = record { leaves = l; did = tt }
failed_steps start after (troubled no_memory) l = record { leaves = l; did = tt }

-- what a doom and a listing give back, by whether there is no memory for the first thing they do
abbrev doom_given : Fate → Core → Bool → Gives Trouble (Option ℕ)
doom_given fate core b = asking b no_memory core (λ c. doom_next (next_doomed c) fate.first c)

abbrev list_given : Fate → Core → Bool → Gives Trouble ⊤
list_given fate core b = or_short b no_memory fate.first core (got_file (may_fail fate.first core.store_faults) core.store_faults (begun fate.first core))

module _ (start : Core) (low : AreLow (length start.history) start) (some : 0 < length start.history) where
  -- where a step is at a turn: idle, or it ended
  abbrev Goes : Turn (Option Outcome) → Core → Type 0
  Goes to_mark core = core ≡ start
  Goes to_doom core = Idle start core
  Goes to_remove core = Idle start core
  Goes (to_list behind) core = Idle start core
  Goes (to_sweep number next) core = Idle start core
  Goes (ended outcome) core = Legal reads (history core.history) → Steps start core outcome

  longer : (core : Core) → Idle start core → length start.history ≤ length core.history
  longer core i = let l : length core.history ≡ length start.history + length i.more = ap length i.ready.grown ∙ length-append start.history i.more in omega (arith, l)

  long : (core : Core) → Idle start core → 0 < length core.history
  long core i = let l = longer core i in omega (arith, l, some)

  counted_goes : (IsOf : Act → ℕ → Type 0) (did : ℕ → Option Outcome) (other : Turn (Option Outcome)) (r : Result ℕ Unmade) (core : Core) → (Idle start core → Goes other core) →
      ((count : ℕ) → Appended start core IsOf count → (count ≡ 0 → ⊥) × Did start core (did count)) → Takes Few start core → Counts start IsOf r core → Goes (counted outcomes did other r) core
  counted_goes IsOf did other (Ok count) core next says t c = by (count == 0) refl c
    where
      by : (b : Bool) → (count == 0) ≡ b → (Idle start core × (count ≡ 0)) ⊎ Appended start core IsOf count → Goes (if b then other else ended (did count)) core
      by true e (inl i) = next i.0
      by true e (inr a) = absurd ((says count a).0 (eqb-true count 0 e))
      by false e (inl i) = absurd (eqb-false count 0 e i.1)
      by false e (inr a) = λ legal. record { leaves = leaves_of t; did = (says count a).1 }
  counted_goes IsOf did other (Err e) core next says t c = λ legal. failed_steps start core e (leaves_of t)

  mark_goes : (fate : Fate) → Goes (counted outcomes (λ n. Some (MarkedStale n)) to_doom (mark_stale_call fate start).answer) (mark_stale_call fate start).core
  mark_goes fate =
      let given = mark_stale_call fate start in
      let t = begins_tried start IsMarks stale_offer stale_fits fate low in
      counted_goes IsMarks (λ n. Some (MarkedStale n)) to_doom given.answer given.core (λ i. i) (λ count a. (a.is.3, marked_did start given.core count a)) t.few t.says

  remove_goes : (fate : Fate) (core : Core) → Idle start core → Goes (counted outcomes (λ n. Some (Removed n)) (to_list None) (remove_call fate core).answer) (remove_call fate core).core
  remove_goes fate core i =
      let given = remove_call fate core in
      let t = idle_tried start IsRemovals removal_offer removal_fits fate core i in
      counted_goes IsRemovals (λ n. Some (Removed n)) (to_list None) given.answer given.core (λ j. j) (λ count a. (a.is.3, removed_did start given.core count a)) t.few t.says

  -- ---- a doom

  doomed_goes : (row : Row) (core mid : Core) (r : Result ⊤ Trouble) → Idle start core → next_doomed core ≡ Some row → Cleared (split_key row.number) core mid →
      Goes (behind_doom outcomes (troubled_by (doomed_by row.number r mid).answer (doomed_by row.number r mid).core).answer) (troubled_by (doomed_by row.number r mid).answer (doomed_by row.number r mid).core).core
  doomed_goes row core mid (Ok done) i e c = λ legal.
      let was : Legal reads (history core.history) = subst (λ (es : List Entry). Legal reads (history es)) c.history legal in
      let d = due core row was e in
      record {
        leaves = leaves was d;
        did = doomed_did start (with_doomed row.number mid) row (let l = ap length c.history in let g = longer core i in omega (arith, l, g))
            (ap (λ (es : List Entry). row_at (rows (history es)) row.number) c.history ∙ d.found) d.marked;
      }
    where
      freed : Legal reads (history core.history) → IsDue core row → Freed start core row.number
      freed was d = record { unpublished = due_unpublished start core i was row d; given_up = due_given_up core was (long core i) row e }

      leaves : Legal reads (history core.history) → IsDue core row → Leaves start (with_doomed row.number mid)
      leaves was d =
          let l = freed_leaves start core mid row.number i c (freed was d) in
          record { files = λ key bytes k. by key bytes (l.files key bytes k); more = l.more; grown = l.grown; few = l.few; journal = l.journal }
        where
          by : (key bytes : List ℕ) → (file_at mid.files key ≡ Some bytes) ⊎ ((n : ℕ) × (key ≡ split_key n) × Freed start mid n) →
              (file_at mid.files key ≡ Some bytes) ⊎ ((n : ℕ) × (key ≡ split_key n) × Freed start (with_doomed row.number mid) n)
          by key bytes (inl k) = inl k
          by key bytes (inr f) = inr (f.0, f.1, record { unpublished = f.2.unpublished; given_up = f.2.given_up })
  doomed_goes row core mid (Err trouble) i e c = λ legal.
      let was : Legal reads (history core.history) = subst (λ (es : List Entry). Legal reads (history es)) c.history legal in
      let d = due core row was e in
      failed_steps start mid (troubled trouble)
      (freed_leaves start core mid row.number i c (record { unpublished = due_unpublished start core i was row d; given_up = due_given_up core was (long core i) row e }))

  doom_next_goes : (row : Option Row) (call : Call) (core : Core) → Idle start core → next_doomed core ≡ row →
      Goes (behind_doom outcomes (troubled_by (doom_next row call core).answer (doom_next row call core).core).answer) (troubled_by (doom_next row call core).answer (doom_next row call core).core).core
  doom_next_goes None call core i e = i
  doom_next_goes (Some row) call core i e =
      let given = file_deleted call (split_key row.number) core in doomed_goes row core given.core given.answer i e (file_cleared call (split_key row.number) core)

  doom_goes : (fate : Fate) (core : Core) → Idle start core →
      Goes (behind_doom outcomes (troubled_by (doom_call fate core).answer (doom_call fate core).core).answer) (troubled_by (doom_call fate core).answer (doom_call fate core).core).core
  doom_goes fate core i = by fate.unasked
    where
      asked : Idle start (asked_clock core)
      asked = subst (Idle start) (sym (same_asked i.ready)) i

      by : (b : Bool) → Goes (behind_doom outcomes (troubled_by (doom_given fate core b).answer (doom_given fate core b).core).answer) (troubled_by (doom_given fate core b).answer (doom_given fate core b).core).core
      by true = λ legal. record { leaves = leaves_of (takes_few i.ready); did = tt }
      by false = doom_next_goes (next_doomed (asked_clock core)) fate.first (asked_clock core) asked refl

  -- ---- a sweep

  paging_goes : (next : Option (List ℕ)) (core : Core) → Idle start core → Goes (paging outcomes next) core
  paging_goes None core i = λ legal. record { leaves = leaves_of (takes_few i.ready); did = tt }
  paging_goes (Some key) core i = i

  page_goes : (least : Option ℕ) (next : Option (List ℕ)) (core : Core) → Idle start core → Goes (page_turn outcomes least next) core
  page_goes None next core i = paging_goes next core i
  page_goes (Some number) next core i = i

  -- where a listing is answered the step is idle, and else it took in what it had taken in
  abbrev Lists : Result ⊤ Trouble → Core → Type 0
  Lists (Ok done) core = Idle start core
  Lists (Err trouble) core = Takes Few start core

  list_goes : (behind next : Option (List ℕ)) (r : Result ⊤ Trouble) (core : Core) → Lists r core →
      Goes (behind_list outcomes (page_by behind next (troubled_by r core).core (troubled_by r core).answer)) (troubled_by r core).core
  list_goes behind next (Ok done) core i = page_goes (least_left behind next core) next core i
  list_goes behind next (Err trouble) core t = λ legal. failed_steps start core (troubled trouble) (leaves_of t)

  got_lists : (b : Bool) (count : ℕ) (core : Core) → Idle start core → Lists (got_file b count core).answer (got_file b count core).core
  got_lists true count core i = takes_few i.ready
  got_lists false count core i = i

  listed : (fate : Fate) (core : Core) → Idle start core → Lists (list_call fate core).answer (list_call fate core).core
  listed fate core i = by fate.first.short
    where
      by : (b : Bool) → Lists (list_given fate core b).answer (list_given fate core b).core
      by true = weaker One Few one_few (before (takes_one i.ready) (begun_still fate.first core))
      by false = got_lists (may_fail fate.first core.store_faults) core.store_faults (begun fate.first core) (begun_idle start fate.first core i)

  swept_goes : (number : ℕ) (next : Option (List ℕ)) (core mid : Core) (r : Result ⊤ Trouble) → Idle start core → is_swept core number ≡ true → Cleared (split_key number) core mid →
      Goes (behind_delete outcomes number next (troubled_by (answered_by true r mid).answer (answered_by true r mid).core).answer) (troubled_by (answered_by true r mid).answer (answered_by true r mid).core).core
  swept_goes number next core mid (Ok done) i e c = λ legal.
      let was : Legal reads (history core.history) = subst (λ (es : List Entry). Legal reads (history es)) c.history legal in
      let g = gone_of core was (long core i) number e in
      record {
        leaves = freed_leaves start core mid number i c (record { unpublished = gone_unpublished start core i was number g; given_up = gone_given_up core was (long core i) number g });
        did = (
          ap (λ (es : List Entry). has_staged es number) c.history ∙ g.staged,
          ap (λ (es : List Entry). row_at (rows (history es)) number) c.history ∙ g.gone,
        );
      }
  swept_goes number next core mid (Err trouble) i e c = λ legal.
      let was : Legal reads (history core.history) = subst (λ (es : List Entry). Legal reads (history es)) c.history legal in
      let g = gone_of core was (long core i) number e in
      failed_steps start mid (troubled trouble)
      (freed_leaves start core mid number i c (record { unpublished = gone_unpublished start core i was number g; given_up = gone_given_up core was (long core i) number g }))

  sweep_goes : (b : Bool) (call : Call) (number : ℕ) (next : Option (List ℕ)) (core : Core) → Idle start core → is_swept core number ≡ b →
      Goes (behind_delete outcomes number next (troubled_by (sweep_if b call number core).answer (sweep_if b call number core).core).answer) (troubled_by (sweep_if b call number core).answer (sweep_if b call number core).core).core
  sweep_goes false call number next core i e = paging_goes next core i
  sweep_goes true call number next core i e =
      let given = file_deleted call (split_key number) core in swept_goes number next core given.core given.answer i e (file_cleared call (split_key number) core)

  unless_goes : (unasked : Bool) (fate : Fate) (number : ℕ) (next : Option (List ℕ)) (core : Core) → Idle start core →
      let given = swept_unless unasked number fate core in Goes (behind_delete outcomes number next (troubled_by given.answer given.core).answer) (troubled_by given.answer given.core).core
  unless_goes true fate number next core i = λ legal. failed_steps start core (troubled no_memory) (leaves_of (takes_few i.ready))
  unless_goes false fate number next core i = sweep_goes (is_swept core number) fate.first number next core i refl

  -- ---- a step

  called_goes : (turn : Turn (Option Outcome)) (luck : CallLuck) (core : Core) → Goes turn core → Goes (turned turn luck core).turn (turned turn luck core).core
  called_goes to_mark luck core e = subst (λ (c : Core). Goes (turned to_mark luck c).turn (turned to_mark luck c).core) (sym e) (mark_goes luck.fate)
  called_goes to_doom luck core i = doom_goes luck.fate core i
  called_goes to_remove luck core i = remove_goes luck.fate core i
  called_goes (to_list behind) luck core i =
      let given = list_call luck.fate core in list_goes behind (next_behind behind luck.end) given.answer given.core (listed luck.fate core i)
  called_goes (to_sweep number next) luck core i = unless_goes luck.fate.unasked luck.fate number next core i
  called_goes (ended outcome) luck core g = g

  alone_goes : (count : ℕ) (turn : Turn (Option Outcome)) (fates : List Fate) (ends : List (List ℕ)) (core : Core) → Goes turn core →
      Goes (alone count turn fates ends core).turn (alone count turn fates ends core).core
  alone_goes zero turn fates ends core g = g
  alone_goes (suc count) turn fates ends core g =
      let luck : CallLuck = record { fate = first_fate fates; end = end_at turn ends } in
      let left = turned turn luck core in
      alone_goes count left.turn (other_fates fates) (ends_behind turn ends) left.core (called_goes turn luck core g)

  idle_steps : (core : Core) → Idle start core → Steps start core None
  idle_steps core i = record { leaves = leaves_of (takes_few i.ready); did = tt }

  at_end : (turn : Turn (Option Outcome)) (core : Core) → Goes turn core → Legal reads (history core.history) → Steps start core (outcome_at turn)
  at_end to_mark core e legal = subst (λ (c : Core). Steps start c None) (sym e) (record { leaves = leaves_of (takes_none start); did = tt })
  at_end to_doom core i legal = idle_steps core i
  at_end to_remove core i legal = idle_steps core i
  at_end (to_list behind) core i legal = idle_steps core i
  at_end (to_sweep number next) core i legal = idle_steps core i
  at_end (ended outcome) core g legal = g legal

  unless_steps : (short : Bool) (outcome : Option Outcome) (core : Core) → Steps start core outcome → Steps start core (outcome_unless short outcome)
  unless_steps true outcome core s = record { leaves = s.leaves; did = tt }
  unless_steps false outcome core s = s

  pub collector_steps : (luck : CollectorLuck) → Legal reads (history (step_collector luck start).core.history) → Steps start (step_collector luck start).core (step_collector luck start).outcome
  collector_steps luck legal =
      let stand : Stand = alone (max_calls luck) to_mark (luck.world ∷ luck.more) luck.ends start in
      unless_steps luck.short (outcome_at stand.turn) stand.core (at_end stand.turn stand.core (alone_goes (max_calls luck) to_mark (luck.world ∷ luck.more) luck.ends start refl) legal)
