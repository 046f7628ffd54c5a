-- A number that was staged and has no row gets none again, so it is still to be swept when its delete comes.
use Rattle.std.proofs.Common.{◌≡◌, ℕ, ◌+◌, ◌≤◌, Bool, true, false, List, [], ◌∷◌, fold, map, refl, sym, ap, ◌∙◌, subst, arith}
use Rattle.std.proofs.lemmas.Bool.{and_parts}
use Rattle.std.proofs.lemmas.Bool.Decides.{nat_tests}
use Rattle.std.proofs.lemmas.List.Sums.{fold-append}
use Rattle.std.specs.Prelude.{Option, Some, None, Result, Ok, Err, ◌==◌, ◌&&◌, not, is_some, nat_lt}
use Rattle.meta_journal.specs.declared.entry.Act.{Act}
use Rattle.meta_journal.specs.declared.entry.Act.TheVariants.{Fence, Create, Stage, Publish, Replace, Raise, Task, MarkStaged, Remove, Retire}
use Rattle.meta_journal.specs.declared.entry.Entry.{Entry}
use Rattle.meta_store.proofs.Numbers.{stage_next}
use Rattle.meta_store.proofs.RowLists.{KeepsNumber, absent-change, absent-push, absent-without}
use Rattle.meta_store.specs.History.{History, history, last_number, last_opstamp}
use Rattle.meta_store.specs.History.History.{Start, ◌▸◌}
use Rattle.meta_store.specs.Numbers.{Comes}
use Rattle.meta_store.specs.Rows.{rows}
use Rattle.meta_store.specs.State.{Legal}
use Rattle.source_checkpoint.specs.Deltas.{raised, spans_of}
use Rattle.source_log.specs.Log.{Log}
use Rattle.split_states.specs.Rows.{change, change_each, joined_spans, marked, merged_ops, published, raised_row, replacing, row_at, staged, without, without_each}
use Rattle.split_states.specs.declared.rows.Row.{Row}
use Rattle.index_world.proofs.Configured.{legal_front}
use Rattle.index_world.proofs.JournalLaws.{legal_history}
use Rattle.index_world.proofs.Worlds.{same-landed}
use Rattle.index_world.specs.Calls.{Call, Fate, begun, deleted_by, file_deleted, is_at_once, may_fail, risen}
use Rattle.index_world.specs.Collecting.{answered_by, is_swept, is_swept_by, sweep_call, sweep_if, swept_unless}
use Rattle.index_world.specs.Config.{reads}
use Rattle.index_world.specs.Core.{Core, Nobody}
use Rattle.index_world.specs.Gate.{IsSoundCore}
use Rattle.index_world.specs.World.{GoesFor}
use Rattle.meta_journal.specs.Places.{split_key}

-- ---- behind each kind of entry

none_changed : (numbers : List ℕ) (list : List Row) (f : Row → Row) (n : ℕ) → KeepsNumber f → row_at list n ≡ None → row_at (change_each numbers f list) n ≡ None
none_changed [] list f n keeps none = none
none_changed (k ∷ numbers) list f n keeps none = none_changed numbers (change k f list) f n keeps (absent-change list k n f keeps none)

none_without : (numbers : List ℕ) (list : List Row) (n : ℕ) → row_at list n ≡ None → row_at (without_each numbers list) n ≡ None
none_without [] list n none = none
none_without (k ∷ numbers) list n none = none_without numbers (without k list) n (absent-without list k n none)

apart_from : (number n last : ℕ) → number ≡ last + 1 → n ≤ last → (number == n) ≡ false
apart_from number n last next low = grind (arith, nat_tests)

gone_on : (h : History) (m : ℕ) (act : Act) (n : ℕ) → Comes reads h m act → n ≤ last_number h → row_at (rows h) n ≡ None → row_at (rows (h ▸ record { moment = m; act = act })) n ≡ None
gone_on h m Fence n may low none = none
gone_on h m (Create text) n may low none = none
gone_on h m (Stage number delta facts) n may low none =
    absent-push (rows h) (staged number (spans_of (last_opstamp h) delta) facts m) n none (apart_from number n (last_number h) (stage_next reads h m number delta facts may) low)
gone_on h m (Publish number) n may low none = absent-change (rows h) number n published (λ x. refl) none
gone_on h m (Replace new old upto) n may low none =
    absent-change (change_each old (marked m) (rows h)) new n (replacing (map (raised upto) (joined_spans (rows h) old)) (merged_ops (rows h) old)) (λ x. refl) (none_changed old (rows h) (marked m) n (λ x. refl) none)
gone_on h m (Raise number upto) n may low none = absent-change (rows h) number n (raised_row upto) (λ x. refl) none
gone_on h m (Task opstamp text fields times) n may low none = none
gone_on h m (MarkStaged numbers) n may low none = none_changed numbers (rows h) (marked m) n (λ x. refl) none
gone_on h m (Remove numbers) n may low none = none_without numbers (rows h) n none
gone_on h m (Retire numbers) n may low none = none_changed numbers (rows h) (marked m) n (λ x. refl) none

still_low : (h : History) (m : ℕ) (act : Act) (n : ℕ) → n ≤ last_number h → n ≤ last_number (h ▸ record { moment = m; act = act })
still_low h m Fence n low = low
still_low h m (Create text) n low = low
still_low h m (Stage number delta facts) n low = omega arith
still_low h m (Publish number) n low = low
still_low h m (Replace new old upto) n low = low
still_low h m (Raise number upto) n low = low
still_low h m (Task opstamp text fields times) n low = low
still_low h m (MarkStaged numbers) n low = low
still_low h m (Remove numbers) n low = low
still_low h m (Retire numbers) n low = low

-- a number up to the last has no row
record IsGone (h : History) (n : ℕ) : Type 0 where
  low : n ≤ last_number h
  gone : row_at (rows h) n ≡ None

gone_fold : (h : History) (es : List Entry) (n : ℕ) → Legal reads (fold ◌▸◌ h es) → IsGone h n → IsGone (fold ◌▸◌ h es) n
gone_fold h [] n legal g = g
gone_fold h (e ∷ es) n legal g =
    gone_fold (h ▸ e) es n legal (record { low = still_low h e.moment e.act n g.low; gone = gone_on h e.moment e.act n (legal_front (h ▸ e) es legal).1.1 g.low g.gone })

-- ---- in the words of the core

none_is : (o : Option Row) → not (is_some o) ≡ true → o ≡ None
none_is None e = refl
none_is (Some row) e = absurd (cc)

gone_of : (h : History) (n : ℕ) → is_swept_by (last_number h) (rows h) n ≡ true → (nat_lt 0 n ≡ true) × IsGone h n
gone_of h n e =
    let first = and_parts (nat_lt 0 n) (nat_lt n (last_number h + 1) && not (is_some (row_at (rows h) n))) e in
    let second = and_parts (nat_lt n (last_number h + 1)) (not (is_some (row_at (rows h) n))) first.1 in
    (first.0, record { low = (let below = second.0 in grind (arith, nat_tests)); gone = none_is (row_at (rows h) n) second.1 })

swept_of : (h : History) (n : ℕ) → nat_lt 0 n ≡ true → IsGone h n → is_swept_by (last_number h) (rows h) n ≡ true
swept_of h n some g =
    let low : nat_lt n (last_number h + 1) ≡ true = (let le = g.low in grind (arith, nat_tests)) in
    ap (λ (b : Bool). b && (nat_lt n (last_number h + 1) && not (is_some (row_at (rows h) n)))) some
    ∙ ap (λ (b : Bool). b && not (is_some (row_at (rows h) n))) low
    ∙ ap (λ (o : Option Row). not (is_some o)) g.gone

swept_goes : (core mid : Core) (n : ℕ) → GoesFor Nobody core mid → Legal reads (history mid.history) → is_swept core n ≡ true → is_swept mid n ≡ true
swept_goes core mid n goes legal swept =
    let whole : history mid.history ≡ fold ◌▸◌ (history core.history) goes.grown.0 = ap history goes.grown.1 ∙ fold-append ◌▸◌ Start core.history goes.grown.0 in
    let before = gone_of (history core.history) n swept in
    subst (λ (h : History). is_swept_by (last_number h) (rows h) n ≡ true) (sym whole)
    (swept_of (fold ◌▸◌ (history core.history) goes.grown.0) n before.0 (gone_fold (history core.history) goes.grown.0 n (subst (Legal reads) whole legal) before.1))

-- ---- a delete of a file leaves the history

begun_history : (call : Call) (core : Core) → (begun call core).history ≡ core.history
begun_history call core = (same-landed call.lands (record core { store_faults = risen core.store_faults call.rises })).history

deleted_history : (fails at_once : Bool) (before : ℕ) (key : List ℕ) (core : Core) → (deleted_by fails at_once before key core).core.history ≡ core.history
deleted_history true true before key core = refl
deleted_history true false before key core = refl
deleted_history false at_once before key core = refl

answered_core : {E A B : Type 0} (b : B) (answer : Result A E) (core : Core) → (answered_by b answer core).core ≡ core
answered_core b (Ok a) core = refl
answered_core b (Err e) core = refl

pub swept_history : (swept : Bool) (call : Call) (number : ℕ) (core : Core) → (sweep_if swept call number core).core.history ≡ core.history
swept_history false call number core = refl
swept_history true call number core =
    let given = file_deleted call (split_key number) core in
    ap (λ (c : Core). c.history) (answered_core true given.answer given.core)
    ∙ deleted_history (may_fail call core.store_faults) (is_at_once call.effect) core.store_faults (split_key number) (begun call core)
    ∙ begun_history call core

call_history : (unasked : Bool) (number : ℕ) (fate : Fate) (core : Core) → (swept_unless unasked number fate core).core.history ≡ core.history
call_history true number fate core = refl
call_history false number fate core = swept_history (is_swept core number) fate.first number core

-- a number that was to be swept is so where its delete comes to its turn, if a sound index stands behind that
pub still_swept : (core mid after : Core) (log : Log) (number : ℕ) (fate : Fate) → GoesFor Nobody core mid → (sweep_call number fate mid).core ≡ after → IsSoundCore after log → is_swept core number ≡ true → is_swept mid number ≡ true
still_swept core mid after log number fate goes did sound swept =
    let same : after.history ≡ mid.history = ap (λ (c : Core). c.history) (sym did) ∙ call_history fate.unasked number fate mid in
    swept_goes core mid number goes (subst (λ (es : List Entry). Legal reads (history es)) same (legal_history sound.kept after log sound.world)) swept
