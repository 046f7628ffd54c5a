-- The counters of the state, and the numbers that are given, of every legal history.
use Rattle.std.proofs.Common.{◌≡◌, ◌≢◌, ℕ, ◌+◌, ◌<◌, ◌≤◌, ◌==◌, true, false, cond, not, max, List, [], ◌∷◌, ◌++◌, length, map, filter, flat_map, Option, Some, None, IsPermutation, refl, ap, sym, ◌∙◌, arith, eq-eqb, ne_eqb, append-nil}
use Rattle.std.proofs.lemmas.Bool.{or_parts}
use Rattle.std.proofs.lemmas.List.{length-map, length-append}
use Rattle.std.proofs.lemmas.Grind.{flat_map-append}
use Rattle.std.proofs.lemmas.List.Sorted.{length_permutation, IsPermutation-refl, IsPermutation-trans, IsPermutation-append_left}
use Rattle.doc_value.specs.declared.facts.TimeRange.{TimeRange}
use Rattle.delete_tasks.proofs.Last.{last_push}
use Rattle.meta_store.proofs.RowLists.{AllOf, AllOf-append, AllOf-weaker, the_row, row_stands, HoldRows, held, HoldRows-push, HoldRows-to, HoldRows-change_each, HoldRows-without_each}
use Rattle.meta_store.proofs.Moves.{spans_retired, spans_taken}
use Rattle.meta_store.proofs.Distinct.{AtMostOnce, covering_apart, IsPermutation-taken}
use Rattle.meta_store.proofs.Sound.{IsSound, sound, staged_ranges, joined_reach, published_of, apart_rising, ranges_admitted, ranges_kept, ranges_retired}
use Rattle.delete_tasks.specs.Ledger.{last_of, is_among, raised_among}
use Rattle.delete_tasks.specs.Removes.{DeleteTask}
use Rattle.meta_journal.specs.declared.entry.Act.{Act}
use Rattle.meta_journal.specs.declared.entry.Act.TheVariants.{Fence, Create, Stage, Publish, Replace, Raise, MarkStaged, Remove, Retire, Task as AddTask}
use Rattle.meta_store.specs.Tasks.{task_of, tasks_of}
use Rattle.meta_store.specs.History.{stamp_of, History, at, last_number, delta_of, reach, staged_numbers, published_numbers, last_opstamp}
use Rattle.meta_store.specs.History.History.{Start, ◌▸◌}
use Rattle.meta_store.specs.Laws.{NumberedFrom, all_ranges, published_spans}
use Rattle.meta_store.specs.Ledgers.{ledger}
use Rattle.meta_store.specs.Rows.{rows}
use Rattle.meta_store.specs.Readings.{query_said, Reads, reading_of, config_of}
use Rattle.meta_store.specs.State.{state_of, Follows, Begins, MayCome, Legal, span_count_of}
use Rattle.meta_store.specs.declared.config.Config.{Config}
use Rattle.meta_store.specs.Said.{Said}
use Rattle.meta_store.specs.declared.config.Settings.{Settings}
use Rattle.source_checkpoint.specs.Deltas.{span_of, raised, spans_of, range_of}
use Rattle.source_checkpoint.specs.declared.delta.Part.{Part}
use Rattle.source_checkpoint.specs.declared.span.Span.{Span}
use Rattle.split_states.specs.Answers.{AreApart, Repeats, IsIn, MayRetire}
use Rattle.split_states.specs.Rows.{row_at, joined_spans, marked, published, staged, replacing, raised_row, merged_ops, change_each}
use Rattle.split_states.specs.declared.facts.RowFacts.{RowFacts}
use Rattle.split_states.specs.declared.rows.Row.{Row}
use Rattle.split_states.specs.declared.rows.RowState.TheVariants.{Staged, Published, Marked}

-- the counters, and what the Publishes took in
pub record IsTallied (reads : Reads) (h : History) : Type 0 where
  pub spans : span_count_of h ≡ length (ledger reads h).spans
  pub last : last_opstamp h ≡ length (tasks_of reads h)
  pub numbered : NumberedFrom 1 (tasks_of reads h)
  pub staged_low : AllOf (λ n. n ≤ last_number h) (staged_numbers h)
  pub staged_apart : AreApart (staged_numbers h)
  pub published_low : AllOf (λ n. n ≤ last_number h) (published_numbers h)
  pub published_apart : AreApart (published_numbers h)
  -- no Staged row was published
  pub waiting : HoldRows (λ row. row.state ≡ Staged → Repeats (published_numbers h) row.number ≡ false) (last_number h) (rows h)
  pub taken : IsPermutation (flat_map (delta_of h) (published_numbers h)) (all_ranges (ledger reads h))

numbered_push : (first : ℕ) (tasks : List DeleteTask) (task : DeleteTask) → NumberedFrom first tasks → task.opstamp ≡ first + length tasks → NumberedFrom first (tasks ++ task ∷ [])
numbered_push first [] task h e = (omega (arith, e), tt)
numbered_push first (t ∷ tasks) task h e = (h.0, numbered_push (first + 1) tasks task h.1 (omega (arith, e)))

repeats_push : (numbers : List ℕ) (n k : ℕ) → Repeats numbers k ≡ false → (n == k) ≡ false → Repeats (numbers ++ n ∷ []) k ≡ false
repeats_push [] n k h other = rw other refl
repeats_push (m ∷ numbers) n k h other =
    let parts = or_parts (m == k) (Repeats numbers k) h in
    rw (parts.0, repeats_push numbers n k parts.1 other) refl

apart_push : (numbers : List ℕ) (n : ℕ) → AreApart numbers → Repeats numbers n ≡ false → AreApart (numbers ++ n ∷ [])
apart_push [] n h r = (refl, tt)
apart_push (m ∷ numbers) n h r =
    let parts = or_parts (m == n) (Repeats numbers n) r in
    let other : (n == m) ≡ false = ne_eqb n m (λ e. differ e parts.0) in
    (repeats_push numbers n m h.0 other, apart_push numbers n h.1 parts.1)
  where
    differ : n ≡ m → (m == n) ≡ false → ⊥
    differ e f = let t : (m == n) ≡ true = eq-eqb m n (sym e) in let g : true ≡ false = sym t ∙ f in cc g

low_apart : (last : ℕ) (numbers : List ℕ) (n : ℕ) → AllOf (λ k. k ≤ last) numbers → last < n → Repeats numbers n ≡ false
low_apart last [] n h lt = refl
low_apart last (m ∷ numbers) n h lt =
    let low : m ≤ last = h.0 in
    let other : (m == n) ≡ false = ne_eqb m n (λ e. omega arith) in
    rw (other, low_apart last numbers n h.1 lt) refl

-- a delta of a new number changes none that was published
deltas_stay : (last number : ℕ) (delta : List Part) (so_far : ℕ → List Part) (numbers : List ℕ) → AllOf (λ k. k ≤ last) numbers → last < number → flat_map (λ n. cond (n == number) delta (so_far n)) numbers ≡ flat_map so_far numbers
deltas_stay last number delta so_far [] h lt = refl
deltas_stay last number delta so_far (n ∷ numbers) h lt =
    let low : n ≤ last = h.0 in
    let other : (n == number) ≡ false = ne_eqb n number (λ e. omega arith) in
    rw other (ap (λ l. so_far n ++ l) (deltas_stay last number delta so_far numbers h.1 lt))

tallied_start : (reads : Reads) → IsTallied reads Start
tallied_start reads = record {
  spans = refl;
  last = refl;
  numbered = tt;
  staged_low = tt;
  staged_apart = tt;
  published_low = tt;
  published_apart = tt;
  waiting = record { apart = tt; below = tt; each = tt };
  taken = IsPermutation-refl [];
}

tallied_fence : (reads : Reads) (h : History) (m : ℕ) → IsTallied reads h → IsTallied reads (h ▸ at m Fence)
tallied_fence reads h m t = record {
  spans = t.spans;
  last = t.last;
  numbered = t.numbered;
  staged_low = t.staged_low;
  staged_apart = t.staged_apart;
  published_low = t.published_low;
  published_apart = t.published_apart;
  waiting = t.waiting;
  taken = t.taken;
}

tallied_create : (reads : Reads) (h : History) (m : ℕ) (config : List ℕ) → IsTallied reads h → IsTallied reads (h ▸ at m (Create config))
tallied_create reads h m config t = record {
  spans = t.spans;
  last = t.last;
  numbered = t.numbered;
  staged_low = t.staged_low;
  staged_apart = t.staged_apart;
  published_low = t.published_low;
  published_apart = t.published_apart;
  waiting = t.waiting;
  taken = t.taken;
}

tallied_task : (reads : Reads) (h : History) (m opstamp : ℕ) (text : List ℕ) (fields : List (List ℕ)) (times : TimeRange) → IsTallied reads h → opstamp ≡ last_opstamp h + 1 → IsTallied reads (h ▸ at m (AddTask opstamp text fields times))
tallied_task reads h m opstamp text fields times t next =
    let task : DeleteTask = task_of opstamp (query_said reads (config_of reads h) (AddTask opstamp text fields times)) times in
    let count = length-append (tasks_of reads h) (task ∷ []) in
    record {
      spans = t.spans;
      last = omega (arith, next, count, t.last);
      numbered = numbered_push 1 (tasks_of reads h) task t.numbered (omega (arith, next, t.last));
      staged_low = t.staged_low;
      staged_apart = t.staged_apart;
      published_low = t.published_low;
      published_apart = t.published_apart;
      waiting = t.waiting;
      taken = t.taken;
    }

tallied_stage : (reads : Reads) (h : History) (m number : ℕ) (delta : List Part) (facts : RowFacts) → IsTallied reads h → number ≡ last_number h + 1 → IsTallied reads (h ▸ at m (Stage number delta facts))
tallied_stage reads h m number delta facts t next =
    let last : last_number h + 1 ≡ max (last_number h) number = omega arith in
    let waits : Row → Type 0 = λ row. row.state ≡ Staged → Repeats (published_numbers h) row.number ≡ false in
    let new : Row = staged number (spans_of (last_opstamp h) delta) facts m in
    let fresh : Repeats (published_numbers h) number ≡ false = low_apart (last_number h) (published_numbers h) number t.published_low (omega arith) in
    let pushed : HoldRows waits (last_number h + 1) (rows h ++ new ∷ []) = HoldRows-push waits (last_number h) (rows h) new next t.waiting (λ e. fresh) in
    record {
      spans = t.spans;
      last = t.last;
      numbered = t.numbered;
      staged_low = AllOf-append (λ n. n ≤ max (last_number h) number) (staged_numbers h) (number ∷ []) (AllOf-weaker (λ n. n ≤ last_number h) (λ n. n ≤ max (last_number h) number) (staged_numbers h) (λ n le. omega arith) t.staged_low) (omega arith, tt);
      staged_apart = apart_push (staged_numbers h) number t.staged_apart (low_apart (last_number h) (staged_numbers h) number t.staged_low (omega arith));
      published_low = AllOf-weaker (λ n. n ≤ last_number h) (λ n. n ≤ max (last_number h) number) (published_numbers h) (λ n le. omega arith) t.published_low;
      published_apart = t.published_apart;
      waiting = rw last at pushed;
      taken = rw (deltas_stay (last_number h) number delta (delta_of h) (published_numbers h) t.published_low (omega arith)) t.taken;
    }

tallied_publish : (reads : Reads) (h : History) (m number : ℕ) (row : Row) → IsSound reads h → IsTallied reads h → row_at (rows h) number ≡ Some row → row.state ≡ Staged → IsTallied reads (h ▸ at m (Publish number))
tallied_publish reads h m number row s t found still =
    let ranges = staged_ranges reads h number row s found still in
    let waits : Row → Type 0 = λ r. r.state ≡ Staged → Repeats (published_numbers h) r.number ≡ false in
    let waits_more : Row → Type 0 = λ r. r.state ≡ Staged → Repeats (published_numbers h ++ number ∷ []) r.number ≡ false in
    let r = row_stands (rows h) number row s.held.apart found in
    let low : row.number ≤ last_number h = held (λ x. x.number ≤ last_number h) (last_number h) (rows h) number row r (record { apart = t.waiting.apart; below = t.waiting.below; each = t.waiting.below }) in
    let here : number ≤ last_number h = rw r.number at low in
    let waited : Repeats (published_numbers h) row.number ≡ false = held waits (last_number h) (rows h) number row r t.waiting still in
    let alone : Repeats (published_numbers h) number ≡ false = rw r.number at waited in
    let delta : List Part = delta_of h number in
    let live = length-append (ledger reads h).spans (spans_of (stamp_of h number) delta) in
    let count = length-map delta (span_of (stamp_of h number)) in
    let listed = ap length ranges in
    record {
      spans = omega (arith, t.spans, live, count, listed);
      last = t.last;
      numbered = t.numbered;
      staged_low = t.staged_low;
      staged_apart = t.staged_apart;
      published_low = AllOf-append (λ n. n ≤ last_number h) (published_numbers h) (number ∷ []) t.published_low (here, tt);
      published_apart = apart_push (published_numbers h) number t.published_apart alone;
      waiting = HoldRows-to waits waits_more (last_number h) (last_number h) (rows h) number published (λ x. refl) (omega arith)
          (λ x other w e. repeats_push (published_numbers h) number x.number (w e) (ne_eqb number x.number (λ f. differ x f other)))
          (λ x same w e. absurd (not_staged e)) t.waiting;
      taken = rw (flat_map-append (delta_of h) (published_numbers h) (number ∷ []), append-nil) (IsPermutation-trans _ _ _ (IsPermutation-append_left delta (flat_map (delta_of h) (published_numbers h)) (all_ranges (ledger reads h)) t.taken) (ranges_admitted (ledger reads h) (stamp_of h number) delta));
    }
  where
    differ : (x : Row) → number ≡ x.number → (x.number == number) ≡ false → ⊥
    differ x f other = let t' : (x.number == number) ≡ true = eq-eqb x.number number (sym f) in let g : true ≡ false = sym t' ∙ other in cc g

    not_staged : Published ≡ Staged → ⊥
    not_staged e = cc e

-- where no row becomes Staged and no number is given
waiting_each : (reads : Reads) (h : History) (m : ℕ) (numbers : List ℕ) → IsTallied reads h → HoldRows (λ row. row.state ≡ Staged → Repeats (published_numbers h) row.number ≡ false) (last_number h) (change_each numbers (marked m) (rows h))
waiting_each reads h m numbers t = HoldRows-change_each _ (last_number h) numbers (rows h) (marked m) (λ x. refl) (λ x w e. absurd (not_staged e)) t.waiting
  where
    not_staged : Marked ≡ Staged → ⊥
    not_staged e = cc e

tallied_raise : (reads : Reads) (h : History) (m number upto : ℕ) → IsTallied reads h → IsTallied reads (h ▸ at m (Raise number upto))
tallied_raise reads h m number upto t =
    let count = length-map (ledger reads h).spans (raised_among (reach h number) upto) in
    record {
      spans = omega (arith, t.spans, count);
      last = t.last;
      numbered = t.numbered;
      staged_low = t.staged_low;
      staged_apart = t.staged_apart;
      published_low = t.published_low;
      published_apart = t.published_apart;
      waiting = HoldRows-to _ _ (last_number h) (last_number h) (rows h) number (raised_row upto) (λ x. refl) (omega arith) (λ x other w. w) (λ x same w. w) t.waiting;
      taken = rw (ranges_kept (reach h number) upto (ledger reads h).spans) t.taken;
    }

tallied_replace : (reads : Reads) (h : History) (m new upto : ℕ) (old : List ℕ) → IsTallied reads h → IsTallied reads (h ▸ at m (Replace new old upto))
tallied_replace reads h m new upto old t =
    let count = length-map (ledger reads h).spans (raised_among (flat_map (reach h) old) upto) in
    record {
      spans = omega (arith, t.spans, count);
      last = t.last;
      numbered = t.numbered;
      staged_low = t.staged_low;
      staged_apart = t.staged_apart;
      published_low = t.published_low;
      published_apart = t.published_apart;
      waiting = HoldRows-to _ _ (last_number h) (last_number h) (change_each old (marked m) (rows h)) new (replacing (map (raised upto) (joined_spans (rows h) old)) (merged_ops (rows h) old)) (λ x. refl) (omega arith) (λ x other w. w) (λ x same w e. absurd (not_staged e)) (waiting_each reads h m old t);
      taken = rw (ranges_kept (flat_map (reach h) old) upto (ledger reads h).spans) t.taken;
    }
  where
    not_staged : Published ≡ Staged → ⊥
    not_staged e = cc e

tallied_mark : (reads : Reads) (h : History) (m : ℕ) (numbers : List ℕ) → IsTallied reads h → IsTallied reads (h ▸ at m (MarkStaged numbers))
tallied_mark reads h m numbers t = record {
  spans = t.spans;
  last = t.last;
  numbered = t.numbered;
  staged_low = t.staged_low;
  staged_apart = t.staged_apart;
  published_low = t.published_low;
  published_apart = t.published_apart;
  waiting = waiting_each reads h m numbers t;
  taken = t.taken;
}

tallied_remove : (reads : Reads) (h : History) (m : ℕ) (numbers : List ℕ) → IsTallied reads h → IsTallied reads (h ▸ at m (Remove numbers))
tallied_remove reads h m numbers t = record {
  spans = t.spans;
  last = t.last;
  numbered = t.numbered;
  staged_low = t.staged_low;
  staged_apart = t.staged_apart;
  published_low = t.published_low;
  published_apart = t.published_apart;
  waiting = HoldRows-without_each _ (last_number h) numbers (rows h) t.waiting;
  taken = t.taken;
}

tallied_retire : (reads : Reads) (h : History) (m : ℕ) (numbers : List ℕ) → IsSound reads h → IsTallied reads h → AreApart numbers → AllOf (IsIn Published (rows h)) numbers → IsTallied reads (h ▸ at m (Retire numbers))
tallied_retire reads h m numbers s t apart i =
    let joined : List Span = joined_spans (rows h) numbers in
    let ranges : map range_of joined ≡ flat_map (reach h) numbers = joined_reach h numbers s.held i in
    let none : AtMostOnce (ledger reads h).spans = covering_apart (ledger reads h) s.once.covers in
    let hidden : List Span = published_spans (change_each numbers (marked m) (rows h)) in
    let all : IsPermutation (joined ++ hidden) (ledger reads h).spans = IsPermutation-trans _ _ _ (spans_taken numbers (rows h) m s.held.apart apart i) s.once.each_once in
    let left = spans_retired numbers (rows h) m (ledger reads h).spans s.held.apart apart i none s.once.each_once in
    let whole = length_permutation (joined ++ hidden) (ledger reads h).spans all in
    let split = length-append joined hidden in
    let rest = length_permutation hidden (filter (λ x. not (is_among (map range_of joined) x)) (ledger reads h).spans) left in
    let gone : IsPermutation joined (filter (is_among (map range_of joined)) (ledger reads h).spans) = IsPermutation-taken joined hidden (ledger reads h).spans none all in
    record {
      spans = rw (← ranges) (omega (arith, t.spans, whole, split, rest));
      last = t.last;
      numbered = t.numbered;
      staged_low = t.staged_low;
      staged_apart = t.staged_apart;
      published_low = t.published_low;
      published_apart = t.published_apart;
      waiting = waiting_each reads h m numbers t;
      taken = IsPermutation-trans _ _ _ t.taken (ranges_retired (flat_map (reach h) numbers) (ledger reads h));
    }

tallied_after : (reads : Reads) (reading : Said) (settings : Settings) (h : History) (m : ℕ) (act : Act) → IsSound reads h → IsTallied reads h → Follows reading settings (state_of reads h) m act → IsTallied reads (h ▸ at m act)
tallied_after reads reading settings h m Fence s t f = tallied_fence reads h m t
tallied_after reads reading settings h m (Create config) s t f = absurd f
tallied_after reads reading settings h m (Stage number delta facts) s t f = tallied_stage reads h m number delta facts t f.0
tallied_after reads reading settings h m (Publish number) s t f =
    let w = the_row (row_at (rows h) number) (λ row. (row.state ≡ Staged) × (row.spans ≢ [])) f.0 in
    tallied_publish reads h m number w.0 s t w.1 w.2.0
tallied_after reads reading settings h m (Replace new old upto) s t f = tallied_replace reads h m new upto old t
tallied_after reads reading settings h m (Raise number upto) s t f = tallied_raise reads h m number upto t
tallied_after reads reading settings h m (AddTask opstamp text fields times) s t f = tallied_task reads h m opstamp text fields times t f.0
tallied_after reads reading settings h m (MarkStaged numbers) s t f = tallied_mark reads h m numbers t
tallied_after reads reading settings h m (Remove numbers) s t f = tallied_remove reads h m numbers t
tallied_after reads reading settings h m (Retire numbers) s t f =
    tallied_retire reads h m numbers s t (apart_rising numbers f.1)
    (AllOf-weaker (MayRetire m settings.period (rows h)) (IsIn Published (rows h)) numbers (λ n i. published_of settings.period m (rows h) n i) f.2)

tallied_first : (reads : Reads) (reading : Said) (h : History) (m : ℕ) (act : Act) → IsTallied reads h → Begins reading act → IsTallied reads (h ▸ at m act)
tallied_first reads reading h m (Create config) t b = tallied_create reads h m config t
tallied_first reads reading h m Fence t b = absurd b
tallied_first reads reading h m (Stage number delta facts) t b = absurd b
tallied_first reads reading h m (Publish number) t b = absurd b
tallied_first reads reading h m (Replace new old upto) t b = absurd b
tallied_first reads reading h m (Raise number upto) t b = absurd b
tallied_first reads reading h m (AddTask opstamp text fields times) t b = absurd b
tallied_first reads reading h m (MarkStaged numbers) t b = absurd b
tallied_first reads reading h m (Remove numbers) t b = absurd b
tallied_first reads reading h m (Retire numbers) t b = absurd b

tallied_next : (reads : Reads) (reading : Said) (c : Option Config) (h : History) (m : ℕ) (act : Act) → IsSound reads h → IsTallied reads h → MayCome reading c (state_of reads h) m act → IsTallied reads (h ▸ at m act)
tallied_next reads reading None h m act s t f = tallied_first reads reading h m act t f
tallied_next reads reading (Some config) h m act s t f = tallied_after reads reading config.settings h m act s t f

pub tallied : (reads : Reads) (h : History) → Legal reads h → IsTallied reads h
tallied reads Start l = tallied_start reads
tallied reads (h ▸ e) l = tallied_next reads (reading_of reads (config_of reads h) e.act) (config_of reads h) h e.moment e.act (sound reads h l.0) (tallied reads h l.0) l.1.1
