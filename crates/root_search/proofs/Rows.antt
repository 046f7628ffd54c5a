-- What the files of the published rows hold, behind a core of a sound index.
use Rattle.std.proofs.Common.{◌≡◌, ℕ, suc, ◌+◌, ◌<◌, ◌≤◌, ◌==◌, Bool, true, false, not, cond, List, [], ◌∷◌, flat_map, length, map, refl, sym, ap, ◌∙◌, arith, Option, Some, None, IsPermutation}
use Rattle.std.specs.List.{AllByRecursion}
use Rattle.std.proofs.lemmas.List.{length-append}
use Rattle.meta_journal.specs.declared.entry.Act.{Act}
use Rattle.meta_journal.specs.declared.entry.Act.TheVariants.{Fence, Create, Stage, Publish, Replace, Raise, Task, MarkStaged, Remove, Retire}
use Rattle.meta_store.proofs.Numbers.{each_found}
use Rattle.meta_store.proofs.RowLists.{AllOf-both}
use Rattle.meta_store.proofs.Seen.{published_is_visible}
use Rattle.meta_store.proofs.Sound.{sound}
use Rattle.meta_store.specs.Contents.{published_rows}
use Rattle.meta_store.specs.History.{History, history}
use Rattle.meta_store.specs.History.History.{Start, ◌▸◌}
use Rattle.meta_store.specs.Ledgers.{ledger}
use Rattle.meta_store.specs.Rows.{rows}
use Rattle.meta_store.specs.Readings.{reading_of, config_of}
use Rattle.meta_store.specs.State.{Legal, MayCome, state_of}
use Rattle.meta_store.specs.declared.config.Config.{Config}
use Rattle.object_store.specs.Store.{State}
use Rattle.source_log.specs.Log.{Log}
use Rattle.source_checkpoint.specs.declared.delta.Part.{Part}
use Rattle.split_states.specs.declared.facts.RowFacts.{RowFacts}
use Rattle.split_states.specs.declared.rows.Row.{Row}
use Rattle.split_states.specs.declared.rows.RowState.{RowState}
use Rattle.split_states.specs.declared.rows.RowState.TheVariants.{Staged, Published, Marked}
use Rattle.split_states.specs.Rows.{row_at, is_published, published, marked, replacing, raised_row, joined_spans, merged_ops, change, change_each, without, without_each}
use Rattle.source_checkpoint.specs.Deltas.{raised}
use Rattle.index_config.specs.declared.config.IndexConfig.{IndexConfig}
use Rattle.index_world.specs.Config.{reads}
use Rattle.index_world.specs.Configuration.{configuration, index_of}
use Rattle.index_world.specs.Core.{Core, IsPlannedIn, IsShownIn, IsStoredIn}
use Rattle.index_world.specs.Index.{IsRowKept, IsRowSound}
use Rattle.index_world.specs.Seen.{contents, meaning, accepted_records, visible}
use Rattle.index_world.specs.SplitFile.{AreSplit, file_of}
use Rattle.root_search.specs.RowFacts.{HasFactsOf}
use Rattle.index_world.specs.World.{IsWorld}
use Rattle.index_world.proofs.Asking.{begun_history}
use Rattle.index_world.proofs.InCore.{plan_begins}
use Rattle.index_world.proofs.Numbers.{revision_is}
use Rattle.index_world.proofs.StoreKeys.{true_is_false}
use Rattle.index_world.proofs.Taken.{legal_unread}

-- ---- published rows

published_state : (state : RowState) → is_published state ≡ true → state ≡ Published
published_state Staged e = absurd (true_is_false (sym e))
published_state Published e = refl
published_state Marked e = absurd (true_is_false (sym e))

published_each : (P Q : Row → Type 0) (list : List Row) → ((row : Row) → row.state ≡ Published → P row → Q row) → AllByRecursion P list → AllByRecursion Q (published_rows list)
published_each P Q [] more all = tt
published_each P Q (row ∷ list) more all = by (is_published row.state) refl (published_each P Q list more all.1)
  where
    by : (b : Bool) → is_published row.state ≡ b → AllByRecursion Q (published_rows list) → AllByRecursion Q (cond b (row ∷ published_rows list) (published_rows list))
    by true e rest = (more row (published_state row.state e) all.0, rest)
    by false e rest = rest

-- ---- the law

-- The row is its number's. Its file stands and is the split of its contents, of which it has the facts; nothing else ever stands there,
-- and it is a planned file up to the deletion grace behind this moment.
pub record IsHeld (config : IndexConfig) (core : Core) (log : Log) (row : Row) : Type 0 where
  pub found : row_at (rows (history core.history)) row.number ≡ Some row
  pub file : IsStoredIn core row.number (file_of config (contents config (ledger reads (history core.history)).tasks row log))
  pub shown : IsShownIn core row.number (file_of config (contents config (ledger reads (history core.history)).tasks row log))
  pub planned : IsPlannedIn core (core.moment + config.deletion_grace) row.number (file_of config (contents config (ledger reads (history core.history)).tasks row log))
  pub split : AreSplit config (contents config (ledger reads (history core.history)).tasks row log)
  pub facts : HasFactsOf config.schema (contents config (ledger reads (history core.history)).tasks row log) row

pub record AreShown (config : IndexConfig) (core : Core) (log : Log) : Type 0 where
  pub each : AllByRecursion (IsHeld config core log) (published_rows (rows (history core.history)))
  pub shown : IsPermutation (flat_map (λ row. contents config (ledger reads (history core.history)).tasks row log) (published_rows (rows (history core.history)))) (visible config (ledger reads (history core.history)) log)

pub world_legal : (kept : State) (core : Core) (log : Log) → IsWorld kept core log → Legal reads (history core.history)
world_legal kept core log w = legal_unread core.history core.standing w.index.stands.legal

module _ (kept : State) (core : Core) (log : Log) (config : IndexConfig) (w : IsWorld kept core log) (is : configuration core.history ≡ Some config) where
  abbrev h : History
  h = history core.history

  abbrev IsFound : Row → Type 0
  IsFound row = row_at (rows h) row.number ≡ Some row

  abbrev IsKept : Row → Type 0
  IsKept row = IsRowKept kept config (ledger reads h).tasks log h row

  held : (row : Row) → row.state ≡ Published → IsFound row × IsKept row → IsHeld config core log row
  held row state b =
      let begun = plan_begins kept core log config row.number row w is b.0 state in
      let s : IsRowSound kept config (ledger reads h).tasks log row = b.1.published state in
      record { found = b.0; file = begun.0; shown = begun.1; planned = begun.2; split = s.split; facts = (_, s.facts) }

  pub world_shown : AreShown config core log
  world_shown =
      let s = sound reads h (world_legal kept core log w) in
      record {
        each = published_each (λ row. IsFound row × IsKept row) (IsHeld config core log) (rows h) held (AllOf-both IsFound IsKept (rows h) (each_found (rows h) s.held.apart) (w.taken config is));
        shown = published_is_visible (meaning config) reads h (accepted_records config log) s.once;
      }

-- ---- how many rows there are

change_length : (n : ℕ) (f : Row → Row) (list : List Row) → length (change n f list) ≡ length list
change_length n f [] = refl
change_length n f (row ∷ list) = by (row.number == n) (change_length n f list)
  where
    by : (b : Bool) → length (change n f list) ≡ length list → length (cond b (f row ∷ list) (row ∷ change n f list)) ≡ suc (length list)
    by true e = refl
    by false e = ap suc e

change_each_length : (numbers : List ℕ) (f : Row → Row) (list : List Row) → length (change_each numbers f list) ≡ length list
change_each_length [] f list = refl
change_each_length (n ∷ numbers) f list = change_each_length numbers f (change n f list) ∙ change_length n f list

without_few : (n : ℕ) (list : List Row) → length (without n list) ≤ length list
without_few n [] = omega arith
without_few n (row ∷ list) = by (not (row.number == n)) (without_few n list)
  where
    by : (b : Bool) → length (without n list) ≤ length list → length (cond b (row ∷ without n list) (without n list)) ≤ length (row ∷ list)
    by true le = omega (arith, le)
    by false le = omega (arith, le)

without_each_few : (numbers : List ℕ) (list : List Row) → length (without_each numbers list) ≤ length list
without_each_few [] list = omega arith
without_each_few (n ∷ numbers) list = let rest = without_each_few numbers (without n list) in let one = without_few n list in omega (arith, rest, one)

stage_room : (h : History) (m n : ℕ) (delta : List Part) (facts : RowFacts) → MayCome (reading_of reads (config_of reads h) (Stage n delta facts)) (config_of reads h) (state_of reads h) m (Stage n delta facts) → length (rows h) < 100000
stage_room h m n delta facts may = by (config_of reads h) may
  where
    by : (c : Option Config) → MayCome (reading_of reads c (Stage n delta facts)) c (state_of reads h) m (Stage n delta facts) → length (rows h) < 100000
    by None f = absurd f
    by (Some config) f = f.2

rows_few : (h : History) → Legal reads h → length (rows h) ≤ 100000
rows_few Start l = omega arith
rows_few (h ▸ entry) l = by entry.act l.1.1 (rows_few h l.0)
  where
    by : (act : Act) → MayCome (reading_of reads (config_of reads h) act) (config_of reads h) (state_of reads h) entry.moment act → length (rows h) ≤ 100000 → length (rows (h ▸ record { moment = entry.moment; act = act })) ≤ 100000
    by Fence may le = le
    by (Create config) may le = le
    by (Stage number delta facts) may le = let room = stage_room h entry.moment number delta facts may in omega (arith, length-append {A = Row}, room)
    by (Publish n) may le = let same = change_length n published (rows h) in omega (arith, same, le)
    by (Replace new old upto) may le =
        let one = change_length new (replacing (map (raised upto) (joined_spans (rows h) old)) (merged_ops (rows h) old)) (change_each old (marked entry.moment) (rows h)) in
        let same = change_each_length old (marked entry.moment) (rows h) in
        omega (arith, one, same, le)
    by (Raise number upto) may le = let same = change_length number (raised_row upto) (rows h) in omega (arith, same, le)
    by (Task opstamp text fields times) may le = le
    by (MarkStaged numbers) may le = let same = change_each_length numbers (marked entry.moment) (rows h) in omega (arith, same, le)
    by (Remove numbers) may le = let fewer = without_each_few numbers (rows h) in omega (arith, fewer, le)
    by (Retire numbers) may le = let same = change_each_length numbers (marked entry.moment) (rows h) in omega (arith, same, le)

pub world_few : (kept : State) (core : Core) (log : Log) → IsWorld kept core log → length (rows (history core.history)) ≤ 100000
world_few kept core log w = rows_few (history core.history) (world_legal kept core log w)

-- ---- the configuration

pub world_configured : (kept : State) (core : Core) (log : Log) → IsWorld kept core log → 0 < length core.history → (config : IndexConfig) × (configuration core.history ≡ Some config)
world_configured kept core log w some =
    let b = begun_history (history core.history) (world_legal kept core log w) (let e = revision_is core.history in omega (arith, some, e)) in
    (b.config.settings.index, ap index_of b.is)
