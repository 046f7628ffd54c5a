-- The retired ranges that the state keeps hold the places of those of the ledger, in order and joined, in every legal history.
use Rattle.std.proofs.Common.{◌≡◌, ℕ, ◌+◌, ◌≤◌, Bool, true, false, List, [], ◌∷◌, ◌++◌, map, filter, Option, Some, None, IsPermutation, refl, sym, arith, nat_lt}
use Rattle.std.specs.List.{AllByRecursion}
use Rattle.std.proofs.lemmas.List.Sums.{sum_by-append}
use Rattle.std.proofs.lemmas.List.Sorted.{sum_by-IsPermutation, IsPermutation-trans, IsPermutation-map}
use Rattle.delete_tasks.specs.Ledger.{is_among, last_of}
use Rattle.meta_journal.specs.declared.entry.Act.{Act}
use Rattle.meta_journal.specs.declared.entry.Act.TheVariants.{Fence, Create, Stage, Publish, Replace, Raise, MarkStaged, Remove, Retire, Task as AddTask}
use Rattle.meta_store.proofs.Covering.{one_if, once_at}
use Rattle.meta_store.proofs.Distinct.{AtMostOnce, covering_apart, IsPermutation-taken}
use Rattle.meta_store.proofs.Formed.{shaped, good_joined}
use Rattle.meta_store.proofs.Joined.{IsForward, times_all, joined_all, joined_forward}
use Rattle.meta_store.proofs.Moves.{spans_taken}
use Rattle.meta_store.proofs.RowLists.{AllOf, AllOf-weaker}
use Rattle.meta_store.proofs.Sound.{IsSound, sound, joined_reach, published_of, apart_rising}
use Rattle.meta_store.specs.Tasks.{tasks_of}
use Rattle.meta_store.specs.History.{History, at, last_opstamp}
use Rattle.meta_store.specs.History.History.{Start, ◌▸◌}
use Rattle.meta_store.specs.Laws.{all_ranges, published_spans, holds_place, times_at}
use Rattle.meta_store.specs.Ledgers.{ledger}
use Rattle.meta_store.specs.Retired.{with_ranges, AreJoined}
use Rattle.meta_store.specs.Rows.{rows}
use Rattle.meta_store.specs.Readings.{Reads, reading_of, config_of}
use Rattle.meta_store.specs.State.{state_of, Follows, Begins, MayCome, Legal, retired_of}
use Rattle.meta_store.specs.declared.config.Config.{Config}
use Rattle.meta_store.specs.Said.{Said}
use Rattle.meta_store.specs.declared.config.Settings.{Settings}
use Rattle.source_checkpoint.specs.Deltas.{Partition, range_of, IsSpan}
use Rattle.source_checkpoint.specs.declared.delta.Part.{Part}
use Rattle.source_checkpoint.specs.declared.span.Span.{Span}
use Rattle.split_states.specs.Answers.{AreApart, IsIn, MayRetire}
use Rattle.split_states.specs.Rows.{joined_spans, change_each, marked}
use Rattle.split_states.specs.declared.rows.RowState.TheVariants.{Published}

pub record IsKept (reads : Reads) (h : History) : Type 0 where
  pub same : (p : Partition) (offset : ℕ) → times_at p offset (retired_of h) ≡ times_at p offset (ledger reads h).retired
  pub joined : AreJoined (retired_of h)

forward_ranges : (last : ℕ) (spans : List Span) → AllOf (IsSpan last) spans → AllByRecursion IsForward (map range_of spans)
forward_ranges last [] h = tt
forward_ranges last (s ∷ spans) h = (h.0.forward, forward_ranges last spans h.1)

at_most_one : (b : Bool) → one_if b ≤ 1
at_most_one true = omega arith
at_most_one false = omega arith

-- each place is held by one range at most
held_once : (reads : Reads) (h : History) → IsSound reads h → (p : Partition) (offset : ℕ) → times_at p offset (ledger reads h).retired ≤ 1
held_once reads h s p offset =
    let once = once_at p offset ((ledger reads h).checkpoints p) (all_ranges (ledger reads h)) (s.once.covers p) in
    let low = at_most_one (nat_lt offset ((ledger reads h).checkpoints p)) in
    let split = sum_by-append (λ r. one_if (holds_place p offset r)) (map range_of (ledger reads h).spans) (ledger reads h).retired in
    omega (arith, once, low, split)

kept_retire : (reads : Reads) (h : History) (m last : ℕ) (numbers : List ℕ) → IsSound reads h → IsSound reads (h ▸ at m (Retire numbers)) → IsKept reads h → AllOf (IsSpan last) (joined_spans (rows h) numbers) →
    AreApart numbers → AllOf (IsIn Published (rows h)) numbers → IsKept reads (h ▸ at m (Retire numbers))
kept_retire reads h m last numbers s next k good apart i =
    record {
      same = same;
      joined = joined_all (map range_of joined) (retired_of h) forward k.joined (λ p o. let one = held_once reads (h ▸ at m (Retire numbers)) next p o in let now = ledger_now p o in let was = k.same p o in omega (arith, one, now, was));
    }
  where
    joined : List Span
    joined = joined_spans (rows h) numbers

    forward : AllByRecursion IsForward (map range_of joined)
    forward = forward_ranges last joined good

    gone : IsPermutation joined (filter (is_among (map range_of joined)) (ledger reads h).spans)
    gone =
        let none : AtMostOnce (ledger reads h).spans = covering_apart (ledger reads h) s.once.covers in
        let hidden : List Span = published_spans (change_each numbers (marked m) (rows h)) in
        IsPermutation-taken joined hidden (ledger reads h).spans none (IsPermutation-trans _ _ _ (spans_taken numbers (rows h) m s.held.apart apart i) s.once.each_once)

    ledger_now : (p : Partition) (o : ℕ) → times_at p o (ledger reads (h ▸ at m (Retire numbers))).retired ≡ times_at p o (ledger reads h).retired + times_at p o (map range_of joined)
    ledger_now p o =
        let taken : List Part = map range_of (filter (is_among (map range_of joined)) (ledger reads h).spans) in
        let split : times_at p o ((ledger reads h).retired ++ taken) ≡ times_at p o (ledger reads h).retired + times_at p o taken = sum_by-append (λ r. one_if (holds_place p o r)) (ledger reads h).retired taken in
        let moved : times_at p o (map range_of joined) ≡ times_at p o taken = sym (sum_by-IsPermutation (λ r. one_if (holds_place p o r)) (map range_of joined) taken (IsPermutation-map range_of _ _ gone)) in
        rw (← joined_reach h numbers s.held i) (omega (arith, split, moved))

    same : (p : Partition) (o : ℕ) → times_at p o (with_ranges (map range_of joined) (retired_of h)) ≡ times_at p o (ledger reads (h ▸ at m (Retire numbers))).retired
    same p o =
        let new = times_all p o (map range_of joined) (retired_of h) forward (joined_forward (retired_of h) k.joined) in
        let was = k.same p o in
        let now = ledger_now p o in
        omega (arith, new, was, now)

kept_after : (reads : Reads) (reading : Said) (settings : Settings) (h : History) (m : ℕ) (act : Act) → Legal reads h → IsSound reads (h ▸ at m act) → IsKept reads h → Follows reading settings (state_of reads h) m act → IsKept reads (h ▸ at m act)
kept_after reads reading settings h m Fence l next k f = record { same = k.same; joined = k.joined }
kept_after reads reading settings h m (Create config) l next k f = absurd f
kept_after reads reading settings h m (Stage number delta facts) l next k f = record { same = k.same; joined = k.joined }
kept_after reads reading settings h m (Publish number) l next k f = record { same = k.same; joined = k.joined }
kept_after reads reading settings h m (Replace new old upto) l next k f = record { same = k.same; joined = k.joined }
kept_after reads reading settings h m (Raise number upto) l next k f = record { same = k.same; joined = k.joined }
kept_after reads reading settings h m (AddTask opstamp text fields times) l next k f = record { same = k.same; joined = k.joined }
kept_after reads reading settings h m (MarkStaged numbers) l next k f = record { same = k.same; joined = k.joined }
kept_after reads reading settings h m (Remove numbers) l next k f = record { same = k.same; joined = k.joined }
kept_after reads reading settings h m (Retire numbers) l next k f =
    kept_retire reads h m (last_opstamp h) numbers (sound reads h l) next k (good_joined (last_opstamp h) numbers (rows h) (shaped reads h l).good) (apart_rising numbers f.1)
    (AllOf-weaker (MayRetire m settings.period (rows h)) (IsIn Published (rows h)) numbers (λ n i. published_of settings.period m (rows h) n i) f.2)

kept_first : (reads : Reads) (reading : Said) (h : History) (m : ℕ) (act : Act) → IsKept reads h → Begins reading act → IsKept reads (h ▸ at m act)
kept_first reads reading h m (Create config) k b = record { same = k.same; joined = k.joined }
kept_first reads reading h m Fence k b = absurd b
kept_first reads reading h m (Stage number delta facts) k b = absurd b
kept_first reads reading h m (Publish number) k b = absurd b
kept_first reads reading h m (Replace new old upto) k b = absurd b
kept_first reads reading h m (Raise number upto) k b = absurd b
kept_first reads reading h m (AddTask opstamp text fields times) k b = absurd b
kept_first reads reading h m (MarkStaged numbers) k b = absurd b
kept_first reads reading h m (Remove numbers) k b = absurd b
kept_first reads reading h m (Retire numbers) k b = absurd b

kept_next : (reads : Reads) (reading : Said) (c : Option Config) (h : History) (m : ℕ) (act : Act) → Legal reads h → IsSound reads (h ▸ at m act) → IsKept reads h → MayCome reading c (state_of reads h) m act → IsKept reads (h ▸ at m act)
kept_next reads reading None h m act l next k f = kept_first reads reading h m act k f
kept_next reads reading (Some config) h m act l next k f = kept_after reads reading config.settings h m act l next k f

pub kept : (reads : Reads) (h : History) → Legal reads h → IsKept reads h
kept reads Start l = record { same = λ p o. refl; joined = tt }
kept reads (h ▸ e) l = kept_next reads (reading_of reads (config_of reads h) e.act) (config_of reads h) h e.moment e.act l.0 (sound reads (h ▸ e) l) (kept reads h l.0) l.1.1
