-- Checkpoints never fall, and in an index none passes the end of its partition.
use Rattle.std.proofs.Common.{◌≡◌, ℕ, ◌+◌, ◌≤◌, ◌<◌, Bool, true, false, List, [], ◌∷◌, ◌++◌, length, refl, sym, ap, ◌∙◌, subst, arith}
use Rattle.std.proofs.lemmas.List.{length-append}
use Rattle.std.proofs.lemmas.List.Sums.{fold-append}
use Rattle.std.specs.Cmp.Lexicographic.{bytes_decides}
use Rattle.std.specs.Prelude.{Option, Some, None, bytes_eq, fold, if◌then◌else◌}
use Rattle.meta_journal.specs.declared.entry.Act.{Act}
use Rattle.meta_journal.specs.declared.entry.Act.TheVariants.{Fence, Create, Stage, Publish, Replace, Raise, Task, MarkStaged, Remove, Retire}
use Rattle.meta_journal.specs.declared.entry.Entry.{Entry}
use Rattle.meta_store.specs.History.{History, history}
use Rattle.meta_store.specs.History.History.{Start, ◌▸◌}
use Rattle.meta_store.specs.Readings.{config_of, reading_of}
use Rattle.meta_store.specs.Rows.{rows}
use Rattle.meta_store.specs.Said.{Said}
use Rattle.meta_store.specs.State.{Legal, MayCome, checkpoints_of, checkpoints_after, state_of}
use Rattle.meta_store.specs.declared.config.Config.{Config}
use Rattle.meta_store.proofs.Sound.{sound}
use Rattle.source_checkpoint.specs.Checkpoints.{checkpoint_at, move_all}
use Rattle.source_checkpoint.specs.declared.ledger.Checkpoint.{Checkpoint}
use Rattle.source_checkpoint.specs.Deltas.{Partition, MayAdmit, moved}
use Rattle.source_checkpoint.specs.declared.delta.Part.{Part}
use Rattle.source_checkpoint.proofs.Covering.{checkpoints_moved}
use Rattle.source_log.specs.Log.{Log, records_of}
use Rattle.split_states.specs.Rows.{row_ranges}
use Rattle.index_world.specs.Config.{reads}
use Rattle.index_world.specs.Core.{Core, journal_of, with_unread}
use Rattle.index_world.specs.Gate.{IsSoundCore}
use Rattle.index_world.specs.Index.{max_entries}
use Rattle.index_world.proofs.Configured.{legal_front}

-- ---- one delta

same_bytes : (p q : Partition) → bytes_eq p q ≡ true → p ≡ q
same_bytes p q e = (bytes_decides p q).0 e

moved_ge : (delta : List Part) (checkpoints : Partition → ℕ) (p : Partition) → MayAdmit delta checkpoints → checkpoints p ≤ moved delta checkpoints p
moved_ge [] checkpoints p may = omega arith
moved_ge (part ∷ delta) checkpoints p may = by (bytes_eq part.partition p) refl (moved_ge delta checkpoints p (may.0.2, may.1.1))
  where
    by : (b : Bool) → bytes_eq part.partition p ≡ b → checkpoints p ≤ moved delta checkpoints p → checkpoints p ≤ (if bytes_eq part.partition p then part.to else moved delta checkpoints p)
    by true e more =
        let from : part.from ≡ checkpoints part.partition = may.1.0 in
        let forward : part.from < part.to = may.0.0 in
        let same : checkpoints part.partition ≡ checkpoints p = ap checkpoints (same_bytes part.partition p e) in
        rw e (omega (arith, from, forward, same))
    by false e more = rw e more

all_moved : (delta : List Part) (checkpoints : List Checkpoint) (p : Partition) → MayAdmit delta (checkpoint_at checkpoints) → checkpoint_at checkpoints p ≤ checkpoint_at (move_all delta checkpoints) p
all_moved delta checkpoints p may =
    let moves = checkpoints_moved delta checkpoints may.0 p in
    let past = moved_ge delta (checkpoint_at checkpoints) p may in
    omega (arith, moves, past)

-- ---- one entry

abbrev Rises : History → Act → Partition → Type 0
Rises h act p = checkpoint_at (checkpoints_of h) p ≤ checkpoint_at (checkpoints_after act (rows h) (checkpoints_of h)) p

act_rises : (reading : Said) (config : Option Config) (h : History) (moment : ℕ) (act : Act) (p : Partition) → MayCome reading config (state_of reads h) moment act → Rises h act p
act_rises reading config h moment Fence p may = omega arith
act_rises reading config h moment (Create text) p may = omega arith
act_rises reading config h moment (Stage number delta facts) p may = omega arith
act_rises reading None h moment (Publish number) p may = absurd may
act_rises reading (Some config) h moment (Publish number) p may = all_moved (row_ranges (rows h) number) (checkpoints_of h) p may.1
act_rises reading config h moment (Replace new old upto) p may = omega arith
act_rises reading config h moment (Raise number upto) p may = omega arith
act_rises reading config h moment (Task opstamp text fields times) p may = omega arith
act_rises reading config h moment (MarkStaged numbers) p may = omega arith
act_rises reading config h moment (Remove numbers) p may = omega arith
act_rises reading config h moment (Retire numbers) p may = omega arith

-- ---- entries

behind_rises : (h : History) (es : List Entry) (p : Partition) → Legal reads (fold ◌▸◌ h es) → checkpoint_at (checkpoints_of h) p ≤ checkpoint_at (checkpoints_of (fold ◌▸◌ h es)) p
behind_rises h [] p l = omega arith
behind_rises h (e ∷ es) p l =
    let here = legal_front (h ▸ e) es l in
    let one : checkpoint_at (checkpoints_of h) p ≤ checkpoint_at (checkpoints_of (h ▸ e)) p = act_rises (reading_of reads (config_of reads h) e.act) (config_of reads h) h e.moment e.act p here.1.1 in
    let more = behind_rises (h ▸ e) es p l in
    omega (arith, one, more)

-- the entries are the first of those
abbrev pub IsFront : (front all : List Entry) → Type 0
IsFront front all = (more : List Entry) × (all ≡ front ++ more)

pub checkpoints_rise : (front all : List Entry) (p : Partition) → IsFront front all → Legal reads (history all) → checkpoint_at (checkpoints_of (history front)) p ≤ checkpoint_at (checkpoints_of (history all)) p
checkpoints_rise front all p f l =
    let whole : history all ≡ fold ◌▸◌ (history front) f.0 = ap history f.1 ∙ fold-append ◌▸◌ Start front f.0 in
    let rise = behind_rises (history front) f.0 p (subst (Legal reads) whole l) in
    subst (λ (h : History). checkpoint_at (checkpoints_of (history front)) p ≤ checkpoint_at (checkpoints_of h) p) (sym whole) rise

-- ---- an index

unread_front : (entries : List Entry) (standing : Option Entry) → IsFront entries (with_unread entries standing)
unread_front entries None = ([], nil entries)
  where
    nil : (es : List Entry) → es ≡ es ++ []
    nil [] = refl
    nil (e ∷ es) = ap (λ l. e ∷ l) (nil es)
unread_front entries (Some entry) = (entry ∷ [], refl)

-- what was taken in is legal
pub taken_legal : (core : Core) (log : Log) → IsSoundCore core log → Legal reads (history core.history)
taken_legal core log s =
    let f = unread_front core.history core.standing in
    let whole : history (journal_of core) ≡ fold ◌▸◌ (history core.history) f.0 = ap history f.1 ∙ fold-append ◌▸◌ Start core.history f.0 in
    legal_front (history core.history) f.0 (subst (Legal reads) whole s.world.index.stands.legal)

-- no checkpoint passes the end of its partition
pub checkpoint_within : (core : Core) (log : Log) (p : Partition) → IsSoundCore core log → checkpoint_at (checkpoints_of (history core.history)) p ≤ length (records_of log p)
checkpoint_within core log p s =
    let legal = s.world.index.stands.legal in
    let rise = checkpoints_rise core.history (journal_of core) p (unread_front core.history core.standing) legal in
    let agree = (sound reads (history (journal_of core)) legal).agree p in
    let low = s.world.index.stands.checkpoints p in
    omega (arith, rise, agree, low)

-- its history is no longer than a journal may be
pub entries_within : (core : Core) (log : Log) → IsSoundCore core log → length core.history ≤ max_entries
entries_within core log s =
    let f = unread_front core.history core.standing in
    let longer : length (journal_of core) ≡ length core.history + length f.0 = ap (λ (l : List Entry). length l) f.1 ∙ length-append core.history f.0 in
    let within = s.world.index.stands.within in
    omega (arith, longer, within)
