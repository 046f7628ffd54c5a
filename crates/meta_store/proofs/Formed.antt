-- Rows rise by number, and each span has its form, in every legal history.
use Rattle.std.proofs.Common.{◌≡◌, ℕ, ◌+◌, ◌<◌, ◌≤◌, ◌==◌, true, false, cond, List, [], ◌∷◌, ◌++◌, map, Option, Some, None, refl, arith, inl, inr}
use Rattle.std.proofs.lemmas.Bool.{cases_Bool}
use Rattle.std.proofs.lemmas.List.Elements.{All-from_recursion, recursion_from_All}
use Rattle.std.proofs.lemmas.List.Sorted.{All-permutation}
use Rattle.delete_tasks.proofs.Last.{last_push}
use Rattle.meta_store.proofs.RowLists.{AllOf, AllOf-append, AllOf-weaker, AllOf-without}
use Rattle.meta_store.proofs.Current.{AllOf-change, AllOf-change_each, AllOf-without_each, tasks_agree, opstamps_agree}
use Rattle.meta_store.proofs.Sound.{IsSound, sound}
use Rattle.delete_tasks.specs.Ledger.{last_of}
use Rattle.meta_journal.specs.declared.entry.Act.{Act}
use Rattle.meta_journal.specs.declared.entry.Act.TheVariants.{Fence, Create, Stage, Publish, Replace, Raise, MarkStaged, Remove, Retire, Task as AddTask}
use Rattle.meta_store.specs.Tasks.{task_of, tasks_of}
use Rattle.meta_store.specs.History.{History, at, last_number, last_opstamp}
use Rattle.meta_store.specs.History.History.{Start, ◌▸◌}
use Rattle.meta_store.specs.Laws.{shown, published_spans, RowsRise, IsFormed}
use Rattle.meta_store.specs.Ledgers.{ledger}
use Rattle.meta_store.specs.Rows.{rows}
use Rattle.meta_store.specs.Readings.{Reads, reading_of, config_of}
use Rattle.meta_store.specs.State.{state_of, Follows, Begins, MayCome, Legal}
use Rattle.meta_store.specs.declared.config.Config.{Config}
use Rattle.meta_store.specs.Said.{Said}
use Rattle.meta_store.specs.declared.config.Settings.{Settings}
use Rattle.source_checkpoint.specs.Deltas.{raised, spans_of, IsDelta, IsSpan}
use Rattle.source_checkpoint.specs.declared.delta.Part.{Part}
use Rattle.source_checkpoint.specs.declared.span.Span.{Span}
use Rattle.split_states.specs.Rows.{row_at, row_spans, joined_spans, change, change_each, without, without_each, marked, published, staged, replacing, raised_row, merged_ops, is_published}
use Rattle.split_states.specs.declared.rows.Row.{Row}

abbrev IsBehind : ℕ → Row → Type 0
IsBehind n row = n < row.number

rise_push : (rows : List Row) (row : Row) → RowsRise rows → AllOf (λ r. r.number < row.number) rows → RowsRise (rows ++ row ∷ [])
rise_push [] row h low = (tt, tt)
rise_push (r ∷ rows) row h low = (AllOf-append (IsBehind r.number) rows (row ∷ []) h.0 (low.0, tt), rise_push rows row h.1 low.1)

rise_change : (rows : List Row) (n : ℕ) (f : Row → Row) → ((row : Row) → (f row).number ≡ row.number) → RowsRise rows → RowsRise (change n f rows)
rise_change [] n f keeps h = tt
rise_change (r ∷ rows) n f keeps h =
    let rest = rise_change rows n f keeps h.1 in
    let still = AllOf-change (IsBehind r.number) rows n f (λ row lt. let same = keeps row in omega arith) h.0 in
    let same = keeps r in
    elim (r.number == n) as (λ b. RowsRise (cond b (f r ∷ rows) (r ∷ change n f rows))) [
      | true ↦ (AllOf-weaker (IsBehind r.number) (IsBehind (f r).number) rows (λ row lt. omega (arith, same, lt)) h.0, h.1)
      | false ↦ (still, rest)
    ]

rise_each : (numbers : List ℕ) (rows : List Row) (f : Row → Row) → ((row : Row) → (f row).number ≡ row.number) → RowsRise rows → RowsRise (change_each numbers f rows)
rise_each [] rows f keeps h = h
rise_each (n ∷ numbers) rows f keeps h = rise_each numbers (change n f rows) f keeps (rise_change rows n f keeps h)

rise_without : (rows : List Row) (n : ℕ) → RowsRise rows → RowsRise (without n rows)
rise_without [] n h = tt
rise_without (r ∷ rows) n h =
    elim (cases_Bool (r.number == n)) [
      | inl here ↦ rw here (rise_without rows n h.1)
      | inr there ↦ rw there (AllOf-without (IsBehind r.number) rows n h.0, rise_without rows n h.1)
    ]

rise_without_each : (numbers : List ℕ) (rows : List Row) → RowsRise rows → RowsRise (without_each numbers rows)
rise_without_each [] rows h = h
rise_without_each (n ∷ numbers) rows h = rise_without_each numbers (without n rows) (rise_without rows n h)

-- each span of a row has its form
abbrev pub IsGood : ℕ → Row → Type 0
IsGood last row = AllOf (IsSpan last) row.spans

good_staged : (k : ℕ) (delta : List Part) → IsDelta delta → AllOf (IsSpan k) (spans_of k delta)
good_staged k [] d = tt
good_staged k (part ∷ parts) d = (record { forward = d.0; marks = omega arith; applied = omega arith }, good_staged k parts d.2)

good_raised : (upto last : ℕ) (spans : List Span) → upto ≤ last → AllOf (IsSpan last) spans → AllOf (IsSpan last) (map (raised upto) spans)
good_raised upto last [] le h = tt
good_raised upto last (s ∷ spans) le h =
    let marks : s.admitted ≤ s.applied = h.0.marks in
    let low : s.applied ≤ last = h.0.applied in
    (record { forward = h.0.forward; marks = omega arith; applied = omega arith }, good_raised upto last spans le h.1)

good_found : (last n : ℕ) (rows : List Row) → AllOf (IsGood last) rows → AllOf (IsSpan last) (row_spans (row_at rows n))
good_found last n [] h = tt
good_found last n (r ∷ rows) h =
    let rest = good_found last n rows h.1 in
    elim (r.number == n) as (λ b. AllOf (IsSpan last) (row_spans (cond b (Some r) (row_at rows n)))) [ true ↦ h.0 | false ↦ rest ]

pub good_joined : (last : ℕ) (numbers : List ℕ) (rows : List Row) → AllOf (IsGood last) rows → AllOf (IsSpan last) (joined_spans rows numbers)
good_joined last [] rows h = tt
good_joined last (n ∷ numbers) rows h = AllOf-append (IsSpan last) (row_spans (row_at rows n)) (joined_spans rows numbers) (good_found last n rows h) (good_joined last numbers rows h)

good_later : (last next : ℕ) (rows : List Row) → last ≤ next → AllOf (IsGood last) rows → AllOf (IsGood next) rows
good_later last next rows le h =
    AllOf-weaker (IsGood last) (IsGood next) rows
    (λ row w. AllOf-weaker (IsSpan last) (IsSpan next) row.spans (λ s g. record { forward = g.forward; marks = g.marks; applied = let low = g.applied in omega arith }) w) h

-- the spans of Published rows are among all
good_shown : (last : ℕ) (rows : List Row) → AllOf (IsGood last) rows → AllOf (IsSpan last) (published_spans rows)
good_shown last [] h = tt
good_shown last (r ∷ rows) h =
    AllOf-append (IsSpan last) (shown r) (published_spans rows)
    (elim (is_published r.state) as (λ b. AllOf (IsSpan last) (cond b r.spans [])) [ true ↦ h.0 | false ↦ tt ])
    (good_shown last rows h.1)

pub record IsShaped (h : History) : Type 0 where
  pub rise : RowsRise (rows h)
  pub good : AllOf (IsGood (last_opstamp h)) (rows h)

shaped_after : (reads : Reads) (reading : Said) (settings : Settings) (h : History) (m : ℕ) (act : Act) → IsSound reads h → IsShaped h → Follows reading settings (state_of reads h) m act → IsShaped (h ▸ at m act)
shaped_after reads reading settings h m Fence s t f = record { rise = t.rise; good = t.good }
shaped_after reads reading settings h m (Create config) s t f = absurd f
shaped_after reads reading settings h m (Stage number delta facts) s t f =
    let next : number ≡ last_number h + 1 = f.0 in
    record {
      rise = rise_push (rows h) (staged number (spans_of (last_opstamp h) delta) facts m) t.rise (AllOf-weaker (λ row. row.number ≤ last_number h) (λ row. row.number < number) (rows h) (λ row le. omega (arith, next, le)) s.held.below);
      good = AllOf-append (IsGood (last_opstamp h)) (rows h) _ t.good (good_staged (last_opstamp h) delta f.1, tt);
    }
shaped_after reads reading settings h m (Publish number) s t f = record {
  rise = rise_change (rows h) number published (λ row. refl) t.rise;
  good = AllOf-change (IsGood (last_opstamp h)) (rows h) number published (λ row w. w) t.good;
}
shaped_after reads reading settings h m (Replace new old upto) s t f = record {
  rise = rise_change (change_each old (marked m) (rows h)) new (replacing (map (raised upto) (joined_spans (rows h) old)) (merged_ops (rows h) old)) (λ row. refl) (rise_each old (rows h) (marked m) (λ row. refl) t.rise);
  good = AllOf-change (IsGood (last_opstamp h)) (change_each old (marked m) (rows h)) new (replacing (map (raised upto) (joined_spans (rows h) old)) (merged_ops (rows h) old))
      (λ row w. good_raised upto (last_opstamp h) (joined_spans (rows h) old) f.1 (good_joined (last_opstamp h) old (rows h) t.good))
      (AllOf-change_each (IsGood (last_opstamp h)) old (rows h) (marked m) (λ row w. w) t.good);
}
shaped_after reads reading settings h m (Raise number upto) s t f = record {
  rise = rise_change (rows h) number (raised_row upto) (λ row. refl) t.rise;
  good = AllOf-change (IsGood (last_opstamp h)) (rows h) number (raised_row upto) (λ row w. good_raised upto (last_opstamp h) row.spans f.1 w) t.good;
}
shaped_after reads reading settings h m (AddTask opstamp text fields times) s t f =
    let next : opstamp ≡ last_opstamp h + 1 = f.0 in
    record {
      rise = t.rise;
      good = good_later (last_opstamp h) opstamp (rows h) (omega (arith, next)) t.good;
    }
shaped_after reads reading settings h m (MarkStaged numbers) s t f = record {
  rise = rise_each numbers (rows h) (marked m) (λ row. refl) t.rise;
  good = AllOf-change_each (IsGood (last_opstamp h)) numbers (rows h) (marked m) (λ row w. w) t.good;
}
shaped_after reads reading settings h m (Remove numbers) s t f = record {
  rise = rise_without_each numbers (rows h) t.rise;
  good = AllOf-without_each (IsGood (last_opstamp h)) numbers (rows h) t.good;
}
shaped_after reads reading settings h m (Retire numbers) s t f = record {
  rise = rise_each numbers (rows h) (marked m) (λ row. refl) t.rise;
  good = AllOf-change_each (IsGood (last_opstamp h)) numbers (rows h) (marked m) (λ row w. w) t.good;
}

shaped_first : (reading : Said) (h : History) (m : ℕ) (act : Act) → IsShaped h → Begins reading act → IsShaped (h ▸ at m act)
shaped_first reading h m (Create config) t b = record { rise = t.rise; good = t.good }
shaped_first reading h m Fence t b = absurd b
shaped_first reading h m (Stage number delta facts) t b = absurd b
shaped_first reading h m (Publish number) t b = absurd b
shaped_first reading h m (Replace new old upto) t b = absurd b
shaped_first reading h m (Raise number upto) t b = absurd b
shaped_first reading h m (AddTask opstamp text fields times) t b = absurd b
shaped_first reading h m (MarkStaged numbers) t b = absurd b
shaped_first reading h m (Remove numbers) t b = absurd b
shaped_first reading h m (Retire numbers) t b = absurd b

shaped_next : (reads : Reads) (reading : Said) (c : Option Config) (h : History) (m : ℕ) (act : Act) → IsSound reads h → IsShaped h → MayCome reading c (state_of reads h) m act → IsShaped (h ▸ at m act)
shaped_next reads reading None h m act s t f = shaped_first reading h m act t f
shaped_next reads reading (Some config) h m act s t f = shaped_after reads reading config.settings h m act s t f

pub shaped : (reads : Reads) (h : History) → Legal reads h → IsShaped h
shaped reads Start l = record { rise = tt; good = tt }
shaped reads (h ▸ e) l = shaped_next reads (reading_of reads (config_of reads h) e.act) (config_of reads h) h e.moment e.act (sound reads h l.0) (shaped reads h l.0) l.1.1

pub formed : (reads : Reads) (h : History) → Legal reads h → IsFormed reads h
formed reads h l = by_parts (sound reads h l) (shaped reads h l)
  where
    by_parts : IsSound reads h → IsShaped h → IsFormed reads h
    by_parts s t = record {
      rows_rise = t.rise;
      row_spans = rw (tasks_agree reads h, opstamps_agree reads h) t.good;
      ledger_spans = rw (tasks_agree reads h, opstamps_agree reads h) (recursion_from_All (IsSpan (last_opstamp h)) (ledger reads h).spans
          (All-permutation (IsSpan (last_opstamp h)) (published_spans (rows h)) (ledger reads h).spans s.once.each_once
          (All-from_recursion (IsSpan (last_opstamp h)) (published_spans (rows h)) (good_shown (last_opstamp h) (rows h) t.good))));
    }
