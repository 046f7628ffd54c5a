-- No span is applied beyond the last task, so a new task changes no row's contents.
use Rattle.std.proofs.Common.{◌≡◌, ℕ, ◌+◌, ◌<◌, ◌≤◌, ◌==◌, ◌&&◌, ◌||◌, Bool, true, false, cond, not, List, [], ◌∷◌, ◌++◌, map, filter, flat_map, Option, Some, None, nat_lt, nat_le, refl, ap, ap₂, arith}
use Rattle.std.proofs.lemmas.List.Elements.{filter_agree}
use Rattle.std.proofs.lemmas.Bool.{lt-leb}
use Rattle.delete_tasks.proofs.Last.{last_push}
use Rattle.meta_store.proofs.RowLists.{AllOf, AllOf-append, AllOf-weaker, AllOf-without}
use Rattle.delete_tasks.specs.Ledger.{last_of, MayAdd}
use Rattle.delete_tasks.specs.Removed.{lies_in, erased_by}
use Rattle.delete_tasks.specs.Removes.{DeleteTask}
use Rattle.meta_journal.specs.declared.entry.Act.{Act}
use Rattle.meta_journal.specs.declared.entry.Act.TheVariants.{Fence, Create, Stage, Publish, Replace, Raise, MarkStaged, Remove, Retire, Task as AddTask}
use Rattle.meta_store.specs.Contents.{Meaning, is_kept, contents}
use Rattle.meta_store.specs.Tasks.{task_of, tasks_of}
use Rattle.meta_store.specs.History.{History, at, last_opstamp}
use Rattle.meta_store.specs.History.History.{Start, ◌▸◌}
use Rattle.meta_store.specs.Ledgers.{ledger}
use Rattle.meta_store.specs.Rows.{rows}
use Rattle.meta_store.specs.Readings.{query_said, config_of, Reads, reading_of}
use Rattle.meta_store.specs.State.{Follows, Begins, MayCome, Legal, state_of}
use Rattle.meta_store.specs.declared.config.Config.{Config}
use Rattle.meta_store.specs.Said.{Said}
use Rattle.meta_store.specs.declared.config.Settings.{Settings}
use Rattle.source_checkpoint.specs.Deltas.{range_of, spans_of, raised}
use Rattle.source_checkpoint.specs.declared.delta.Part.{Part}
use Rattle.source_checkpoint.specs.declared.span.Span.{Span}
use Rattle.split_states.specs.Rows.{row_at, row_spans, joined_spans, change, change_each, without, without_each, marked, published, raised_row}
use Rattle.split_states.specs.declared.rows.Row.{Row}

-- the ledger's tasks are those of the history
tasks_next : (reads : Reads) (h : History) (m : ℕ) (act : Act) → (ledger reads h).tasks ≡ tasks_of reads h → (ledger reads (h ▸ at m act)).tasks ≡ tasks_of reads (h ▸ at m act)
tasks_next reads h m Fence e = e
tasks_next reads h m (Create config) e = e
tasks_next reads h m (Stage number delta facts) e = e
tasks_next reads h m (Publish number) e = e
tasks_next reads h m (Replace new old upto) e = e
tasks_next reads h m (Raise number upto) e = e
tasks_next reads h m (AddTask opstamp text fields times) e = ap (λ l. l ++ task_of opstamp (query_said reads (config_of reads h) (AddTask opstamp text fields times)) times ∷ []) e
tasks_next reads h m (MarkStaged numbers) e = e
tasks_next reads h m (Remove numbers) e = e
tasks_next reads h m (Retire numbers) e = e

pub tasks_agree : (reads : Reads) (h : History) → (ledger reads h).tasks ≡ tasks_of reads h
tasks_agree reads Start = refl
tasks_agree reads (h ▸ e) = tasks_next reads h e.moment e.act (tasks_agree reads h)

-- the last opstamp is that of the last task
opstamps_next : (reads : Reads) (h : History) (m : ℕ) (act : Act) → last_of (tasks_of reads h) ≡ last_opstamp h → last_of (tasks_of reads (h ▸ at m act)) ≡ last_opstamp (h ▸ at m act)
opstamps_next reads h m Fence e = e
opstamps_next reads h m (Create config) e = e
opstamps_next reads h m (Stage number delta facts) e = e
opstamps_next reads h m (Publish number) e = e
opstamps_next reads h m (Replace new old upto) e = e
opstamps_next reads h m (Raise number upto) e = e
opstamps_next reads h m (AddTask opstamp text fields times) e =
    last_push (tasks_of reads h) (task_of opstamp (query_said reads (config_of reads h) (AddTask opstamp text fields times)) times)
opstamps_next reads h m (MarkStaged numbers) e = e
opstamps_next reads h m (Remove numbers) e = e
opstamps_next reads h m (Retire numbers) e = e

pub opstamps_agree : (reads : Reads) (h : History) → last_of (tasks_of reads h) ≡ last_opstamp h
opstamps_agree reads Start = refl
opstamps_agree reads (h ▸ e) = opstamps_next reads h e.moment e.act (opstamps_agree reads h)

-- no span of the row is applied beyond a task
abbrev pub IsWithin : ℕ → Row → Type 0
IsWithin last row = AllOf (λ s. s.applied ≤ last) row.spans

within_staged : (k : ℕ) (delta : List Part) → AllOf (λ s. s.applied ≤ k) (spans_of k delta)
within_staged k [] = tt
within_staged k (part ∷ parts) = (omega arith, within_staged k parts)

within_raised : (upto last : ℕ) (spans : List Span) → upto ≤ last → AllOf (λ s. s.applied ≤ last) spans → AllOf (λ s. s.applied ≤ last) (map (raised upto) spans)
within_raised upto last [] le h = tt
within_raised upto last (s ∷ spans) le h =
    let low : s.applied ≤ last = h.0 in
    (omega arith, within_raised upto last spans le h.1)

within_found : (last n : ℕ) (rows : List Row) → AllOf (IsWithin last) rows → AllOf (λ s. s.applied ≤ last) (row_spans (row_at rows n))
within_found last n [] h = tt
within_found last n (r ∷ rows) h =
    let rest = within_found last n rows h.1 in
    elim (r.number == n) as (λ b. AllOf (λ s. s.applied ≤ last) (row_spans (cond b (Some r) (row_at rows n)))) [ true ↦ h.0 | false ↦ rest ]

within_joined : (last : ℕ) (numbers : List ℕ) (rows : List Row) → AllOf (IsWithin last) rows → AllOf (λ s. s.applied ≤ last) (joined_spans rows numbers)
within_joined last [] rows h = tt
within_joined last (n ∷ numbers) rows h =
    AllOf-append (λ s. s.applied ≤ last) (row_spans (row_at rows n)) (joined_spans rows numbers) (within_found last n rows h) (within_joined last numbers rows h)

pub AllOf-change : (P : Row → Type 0) (rows : List Row) (n : ℕ) (f : Row → Row) → ((row : Row) → P row → P (f row)) → AllOf P rows → AllOf P (change n f rows)
AllOf-change P [] n f stays h = tt
AllOf-change P (r ∷ rows) n f stays h =
    elim (r.number == n) as (λ b. AllOf P (cond b (f r ∷ rows) (r ∷ change n f rows))) [ true ↦ (stays r h.0, h.1) | false ↦ (h.0, AllOf-change P rows n f stays h.1) ]

pub AllOf-change_each : (P : Row → Type 0) (numbers : List ℕ) (rows : List Row) (f : Row → Row) → ((row : Row) → P row → P (f row)) → AllOf P rows → AllOf P (change_each numbers f rows)
AllOf-change_each P [] rows f stays h = h
AllOf-change_each P (n ∷ numbers) rows f stays h = AllOf-change_each P numbers (change n f rows) f stays (AllOf-change P rows n f stays h)

pub AllOf-without_each : (P : Row → Type 0) (numbers : List ℕ) (rows : List Row) → AllOf P rows → AllOf P (without_each numbers rows)
AllOf-without_each P [] rows h = h
AllOf-without_each P (n ∷ numbers) rows h = AllOf-without_each P numbers (without n rows) (AllOf-without P rows n h)

abbrev pub IsCurrent : History → Type 0
IsCurrent h = AllOf (IsWithin (last_opstamp h)) (rows h)

current_after : (reading : Said) (settings : Settings) (reads : Reads) (h : History) (m : ℕ) (act : Act) → IsCurrent h → Follows reading settings (state_of reads h) m act → IsCurrent (h ▸ at m act)
current_after reading settings reads h m Fence s f = s
current_after reading settings reads h m (Create config) s f = absurd f
current_after reading settings reads h m (Stage number delta facts) s f = AllOf-append (IsWithin (last_opstamp h)) (rows h) _ s (within_staged (last_opstamp h) delta, tt)
current_after reading settings reads h m (Publish number) s f = AllOf-change (IsWithin (last_opstamp h)) (rows h) number published (λ row w. w) s
current_after reading settings reads h m (Replace new old upto) s f =
    AllOf-change (IsWithin (last_opstamp h)) (change_each old (marked m) (rows h)) new _
    (λ row w. within_raised upto (last_opstamp h) (joined_spans (rows h) old) f.1 (within_joined (last_opstamp h) old (rows h) s))
    (AllOf-change_each (IsWithin (last_opstamp h)) old (rows h) (marked m) (λ row w. w) s)
current_after reading settings reads h m (Raise number upto) s f =
    AllOf-change (IsWithin (last_opstamp h)) (rows h) number (raised_row upto) (λ row w. within_raised upto (last_opstamp h) row.spans f.1 w) s
current_after reading settings reads h m (AddTask opstamp text fields times) s f =
    let next : opstamp ≡ last_opstamp h + 1 = f.0 in
    AllOf-weaker (IsWithin (last_opstamp h)) (IsWithin opstamp) (rows h)
    (λ row w. AllOf-weaker (λ s. s.applied ≤ last_opstamp h) (λ s. s.applied ≤ opstamp) row.spans (λ s le. omega (arith, next, le)) w) s
current_after reading settings reads h m (MarkStaged numbers) s f = AllOf-change_each (IsWithin (last_opstamp h)) numbers (rows h) (marked m) (λ row w. w) s
current_after reading settings reads h m (Remove numbers) s f = AllOf-without_each (IsWithin (last_opstamp h)) numbers (rows h) s
current_after reading settings reads h m (Retire numbers) s f = AllOf-change_each (IsWithin (last_opstamp h)) numbers (rows h) (marked m) (λ row w. w) s

current_first : (reading : Said) (h : History) (m : ℕ) (act : Act) → IsCurrent h → Begins reading act → IsCurrent (h ▸ at m act)
current_first reading h m Fence s b = absurd b
current_first reading h m (Create config) s b = s
current_first reading h m (Stage number delta facts) s b = absurd b
current_first reading h m (Publish number) s b = absurd b
current_first reading h m (Replace new old upto) s b = absurd b
current_first reading h m (Raise number upto) s b = absurd b
current_first reading h m (AddTask opstamp text fields times) s b = absurd b
current_first reading h m (MarkStaged numbers) s b = absurd b
current_first reading h m (Remove numbers) s b = absurd b
current_first reading h m (Retire numbers) s b = absurd b

current_next : (reads : Reads) (reading : Said) (c : Option Config) (h : History) (m : ℕ) (act : Act) → IsCurrent h → MayCome reading c (state_of reads h) m act → IsCurrent (h ▸ at m act)
current_next reads reading None h m act s f = current_first reading h m act s f
current_next reads reading (Some config) h m act s f = current_after reading config.settings reads h m act s f

pub current : (reads : Reads) (h : History) → Legal reads h → IsCurrent h
current reads Start l = tt
current reads (h ▸ e) l = current_next reads (reading_of reads (config_of reads h) e.act) (config_of reads h) h e.moment e.act (current reads h l.0) l.1.1

-- a task behind a span's applied mark erases nothing there
erased_still : (matches : DeleteTask → Bool) (tasks : List DeleteTask) (task : DeleteTask) (s : Span) → s.applied < task.opstamp → erased_by matches (tasks ++ task ∷ []) s ≡ erased_by matches tasks s
erased_still matches [] task s lt =
    let late : nat_le task.opstamp s.applied ≡ false = lt-leb task.opstamp s.applied lt in
    rw late (none (matches task) (nat_lt s.admitted task.opstamp))
  where
    none : (a b : Bool) → (a && (b && false) || false) ≡ false
    none true true = refl
    none true false = refl
    none false b = refl
erased_still matches (t ∷ tasks) task s lt =
    ap (λ rest. (matches t && (nat_lt s.admitted t.opstamp && nat_le t.opstamp s.applied)) || rest) (erased_still matches tasks task s lt)

module _ {X : Type 0} (meaning : Meaning X) where
  contents_still : (tasks : List DeleteTask) (task : DeleteTask) (records : List X) (spans : List Span) → AllOf (λ s. s.applied < task.opstamp) spans → flat_map (λ s. filter (is_kept meaning (tasks ++ task ∷ []) s) records) spans ≡ flat_map (λ s. filter (is_kept meaning tasks s) records) spans
  contents_still tasks task records [] h = refl
  contents_still tasks task records (s ∷ spans) h =
      ap₂ ◌++◌ (filter_agree (is_kept meaning (tasks ++ task ∷ []) s) (is_kept meaning tasks s)
      (λ x. ap (λ b. lies_in (range_of s) (meaning.place x) && not b) (erased_still (meaning.matches x) tasks task s h.0)) records)
      (contents_still tasks task records spans h.1)

  -- a Task changes the contents of no row
  pub contents_kept : (reads : Reads) (h : History) (task : DeleteTask) → Legal reads h → MayAdd task (ledger reads h).tasks → (records : List X) → AllOf (λ row. contents meaning ((ledger reads h).tasks ++ task ∷ []) records row ≡ contents meaning (ledger reads h).tasks records row) (rows h)
  contents_kept reads h task legal may records =
      let next : task.opstamp ≡ last_opstamp h + 1 = rw (tasks_agree reads h, opstamps_agree reads h) at may in
      AllOf-weaker (IsWithin (last_opstamp h)) (λ row. contents meaning ((ledger reads h).tasks ++ task ∷ []) records row ≡ contents meaning (ledger reads h).tasks records row) (rows h)
      (λ row w. contents_still (ledger reads h).tasks task records row.spans
      (AllOf-weaker (λ s. s.applied ≤ last_opstamp h) (λ s. s.applied < task.opstamp) row.spans (λ s le. omega (arith, next, le)) w))
      (current reads h legal)
