-- Each entry that may follow keeps what holds of every legal history.
use Rattle.std.proofs.Common.{◌≡◌, ◌≢◌, ℕ, ◌+◌, ◌≤◌, ◌==◌, max, true, false, List, [], ◌∷◌, ◌++◌, map, flat_map, take, fold, Option, Some, None, IsPermutation, refl, ap, ap₂, sym, ◌∙◌, append-nil, eq-eqb, ne_eqb, arith, zero, suc, ◌<◌, subst, append_assoc, not, filter, Bool}
use Rattle.std.specs.Prelude.{⊤}
use Rattle.doc_value.specs.declared.facts.TimeRange.{TimeRange}
use Rattle.std.proofs.lemmas.Grind.{flat_map-append}
use Rattle.std.proofs.lemmas.List.Sorted.{IsPermutation-refl, IsPermutation-trans, IsPermutation-append_left, IsPermutation-append_right, IsPermutation-append_comm, IsPermutation-map, IsPermutation-filter_both}
use Rattle.meta_store.proofs.Lists.{IsPermutation-same}
use Rattle.meta_store.proofs.RowLists.{AllOf, AllOf-weaker, the_row, row_stands, StandsIn, HoldRows, held, HoldRows-change, HoldRows-weaker, HoldRows-push, HoldRows-to, HoldRows-change_each, HoldRows-without_each}
use Rattle.meta_store.proofs.Covering.{covers_more, covers_permuted}
use Rattle.source_checkpoint.proofs.Covering.{checkpoints_moved, moved_by}
use Rattle.meta_store.proofs.Moves.{spans_retired, in_from, spans_shown, spans_raised, spans_replaced, spans_all_marked, spans_all_gone, IsHidden, hidden_from}
use Rattle.meta_store.proofs.Distinct.{AtMostOnce, covering_apart, map_append}
use Rattle.delete_tasks.specs.Ledger.{Ledger, admit, retire, is_among, raised_among, last_of}
use Rattle.meta_journal.specs.declared.entry.Act.{Act}
use Rattle.meta_journal.specs.declared.entry.Act.TheVariants.{Fence, Create, Stage, Publish, Replace, Raise, MarkStaged, Remove, Retire, Task as AddTask}
use Rattle.meta_journal.specs.declared.entry.Entry.{Entry}
use Rattle.meta_store.specs.Tasks.{tasks_of}
use Rattle.meta_store.specs.History.{History, history, delta_of, stamp_of, reach, last_number, at, last_opstamp}
use Rattle.meta_store.specs.History.History.{Start, ◌▸◌}
use Rattle.meta_store.specs.Laws.{Once, shown, all_ranges}
use Rattle.meta_store.specs.Ledgers.{ledger}
use Rattle.meta_store.specs.Rows.{rows}
use Rattle.meta_store.specs.Readings.{config_of, Reads, reading_of}
use Rattle.meta_store.specs.State.{Follows, Begins, MayCome, Legal, state_of, checkpoints_of, Rises}
use Rattle.meta_store.specs.declared.config.Config.{Config}
use Rattle.meta_store.specs.Said.{Said}
use Rattle.meta_store.specs.declared.config.Settings.{Settings}
use Rattle.source_checkpoint.specs.Checkpoints.{checkpoint_at, move_all}
use Rattle.source_checkpoint.specs.Deltas.{range_of, spans_of, raised, MayAdmit, Partition}
use Rattle.source_checkpoint.specs.declared.delta.Part.{Part}
use Rattle.source_checkpoint.specs.declared.span.Span.{Span}
use Rattle.split_states.specs.Answers.{IsIn, AreApart, MayMark, MayRemove, MayRetire, Repeats}
use Rattle.split_states.specs.Rows.{row_at, staged, published, marked, raised_row, replacing, joined_spans, merged_ops, change_each, row_ranges, row_spans}
use Rattle.split_states.specs.declared.facts.RowFacts.{RowFacts}
use Rattle.split_states.specs.declared.rows.Row.{Row}
use Rattle.split_states.specs.declared.rows.RowState.TheVariants.{Staged, Published, Marked}

-- a row that isn't Marked has the ranges of its number, and a Staged one the spans of its Stage
pub record IsTraced (ranges delta : ℕ → List Part) (stamp : ℕ → ℕ) (row : Row) : Type 0 where
  pub reaches : row.state ≢ Marked → map range_of row.spans ≡ ranges row.number
  pub fresh : row.state ≡ Staged → row.spans ≡ spans_of (stamp row.number) (delta row.number)

abbrev pub Traced : History → Row → Type 0
Traced h = IsTraced (reach h) (delta_of h) (stamp_of h)

pub record IsSound (reads : Reads) (h : History) : Type 0 where
  pub held : HoldRows (Traced h) (last_number h) (rows h)
  pub once : Once reads h
  -- the listed checkpoints are the ledger's
  pub agree : (p : Partition) → checkpoint_at (checkpoints_of h) p ≡ (ledger reads h).checkpoints p

pub AllOf-ranges : (f g : Partition → ℕ) (delta : List Part) → ((p : Partition) → f p ≡ g p) → AllOf (λ part. part.from ≡ f part.partition) delta → AllOf (λ part. part.from ≡ g part.partition) delta
AllOf-ranges f g [] e h = tt
AllOf-ranges f g (part ∷ parts) e h = (h.0 ∙ e part.partition, AllOf-ranges f g parts e h.1)

-- rising numbers are apart
above : (n : ℕ) (numbers : List ℕ) (k : ℕ) → Rises (n ∷ numbers) → k ≤ n → Repeats numbers k ≡ false
above n [] k r le = refl
above n (m ∷ numbers) k r le =
    let lt : n < m = r.0 in
    let other : (m == k) ≡ false = ne_eqb m k (λ e. omega arith) in
    let rest = above m numbers k r.1 (omega arith) in
    rw (other, rest) refl

rises_behind : (n : ℕ) (numbers : List ℕ) → Rises (n ∷ numbers) → Rises numbers
rises_behind n [] r = tt
rises_behind n (m ∷ numbers) r = r.1

pub apart_rising : (numbers : List ℕ) → Rises numbers → AreApart numbers
apart_rising [] r = tt
apart_rising (n ∷ numbers) r = (above n numbers n r (omega arith), apart_rising numbers (rises_behind n numbers r))

ranges_of_spans : (k : ℕ) (delta : List Part) → map range_of (spans_of k delta) ≡ delta
ranges_of_spans k [] = refl
ranges_of_spans k (part ∷ parts) = ap (λ rest. part ∷ rest) (ranges_of_spans k parts)

-- what the moves do to all ranges
pub ranges_admitted : (l : Ledger) (k : ℕ) (delta : List Part) → IsPermutation (all_ranges l ++ delta) (all_ranges (admit delta k l))
ranges_admitted l k delta =
    let live : List Part = map range_of l.spans in
    rw (map_append range_of l.spans (spans_of k delta), ranges_of_spans k delta)
    (IsPermutation-trans _ _ _ (IsPermutation-same _ _ (append_assoc live l.retired delta))
    (IsPermutation-trans _ _ _ (IsPermutation-append_right live _ _ (IsPermutation-append_comm l.retired delta))
    (IsPermutation-same _ _ (sym (append_assoc live delta l.retired)))))

pub ranges_kept : (ranges : List Part) (upto : ℕ) (spans : List Span) → map range_of (map (raised_among ranges upto) spans) ≡ map range_of spans
ranges_kept ranges upto [] = refl
ranges_kept ranges upto (s ∷ spans) = ap (λ rest. range_of s ∷ rest) (ranges_kept ranges upto spans)

pub ranges_retired : (ranges : List Part) (l : Ledger) → IsPermutation (all_ranges l) (all_ranges (retire ranges l))
ranges_retired ranges l =
    let gone : Span → Bool = is_among ranges in
    let kept : Span → Bool = λ s. not (is_among ranges s) in
    let left : List Part = map range_of (filter kept l.spans) in
    let taken : List Part = map range_of (filter gone l.spans) in
    let both = IsPermutation-map range_of l.spans (filter kept l.spans ++ filter gone l.spans) (IsPermutation-filter_both kept gone (λ s. twice (is_among ranges s)) l.spans) in
    let split : IsPermutation (map range_of l.spans) (left ++ taken) = rw (map_append range_of (filter kept l.spans) (filter gone l.spans)) at both in
    IsPermutation-trans _ _ _ (IsPermutation-append_left l.retired (map range_of l.spans) (left ++ taken) split)
    (IsPermutation-trans _ _ _ (IsPermutation-same _ _ (append_assoc left taken l.retired))
    (IsPermutation-append_right left _ _ (IsPermutation-append_comm taken l.retired)))
  where
    twice : (b : Bool) → b ≡ not (not b)
    twice true = refl
    twice false = refl

sound_start : (reads : Reads) → IsSound reads Start
sound_start reads = record {
  held = record { apart = tt; below = tt; each = tt };
  once = record { each_once = IsPermutation-refl []; covers = λ p. record { in_order = []; same = IsPermutation-refl []; covers = refl } };
  agree = λ p. refl;
}

-- what neither moves a span nor changes a row
sound_create : (reads : Reads) (h : History) (m : ℕ) (config : List ℕ) → IsSound reads h → IsSound reads (h ▸ at m (Create config))
sound_create reads h m config s = record { held = s.held; once = record { each_once = s.once.each_once; covers = s.once.covers }; agree = s.agree }

sound_task : (reads : Reads) (h : History) (m opstamp : ℕ) (text : List ℕ) (fields : List (List ℕ)) (times : TimeRange) → IsSound reads h → IsSound reads (h ▸ at m (AddTask opstamp text fields times))
sound_task reads h m opstamp text fields times s = record { held = s.held; once = record { each_once = s.once.each_once; covers = s.once.covers }; agree = s.agree }

sound_fence : (reads : Reads) (h : History) (m : ℕ) → IsSound reads h → IsSound reads (h ▸ at m Fence)
sound_fence reads h m s = record { held = s.held; once = record { each_once = s.once.each_once; covers = s.once.covers }; agree = s.agree }

-- an earlier row is traced as before where another number is staged, and the new one by its Stage
traced_staged : (h : History) (m number : ℕ) (delta : List Part) (facts : RowFacts) (row : Row) → (row.number == number) ≡ false → Traced h row → Traced (h ▸ at m (Stage number delta facts)) row
traced_staged h m number delta facts row other t = record { reaches = λ alive. rw other (t.reaches alive); fresh = λ still. rw other (t.fresh still) }

traced_new : (h : History) (m number : ℕ) (delta : List Part) (facts : RowFacts) → Traced (h ▸ at m (Stage number delta facts)) (staged number (spans_of (last_opstamp h) delta) facts m)
traced_new h m number delta facts =
    let same : (number == number) ≡ true = eq-eqb number number refl in
    record {
      reaches = λ alive. rw same (ranges_of_spans (last_opstamp h) delta);
      fresh = λ still. rw same refl;
    }

sound_stage : (reads : Reads) (h : History) (m number : ℕ) (delta : List Part) (facts : RowFacts) → IsSound reads h → number ≡ last_number h + 1 → IsSound reads (h ▸ at m (Stage number delta facts))
sound_stage reads h m number delta facts s next =
    let new : Row = staged number (spans_of (last_opstamp h) delta) facts m in
    let after : Row → Type 0 = Traced (h ▸ at m (Stage number delta facts)) in
    let last : last_number h + 1 ≡ max (last_number h) number = omega arith in
    let pushed : HoldRows after (last_number h + 1) (rows h ++ new ∷ []) =
    HoldRows-push after (last_number h) (rows h) new next
    (HoldRows-weaker (Traced h) after (last_number h) (last_number h) (rows h) (omega arith)
    (λ row le t. traced_staged h m number delta facts row (ne_eqb row.number number (λ e. omega arith)) t) s.held)
    (traced_new h m number delta facts) in
    record {
      held = rw last at pushed;
      once = record {
        each_once = rw (flat_map-append shown (rows h) (new ∷ []), append-nil) s.once.each_once;
        covers = s.once.covers;
      };
      agree = s.agree;
    }

-- a row that stands, as itself or as changed, where the history's traces are the same
traced_published : (h : History) (row : Row) → row.state ≡ Staged → Traced h row → Traced h (published row)
traced_published h row still t = record {
  reaches = λ alive. t.reaches (λ dead. cc (still, dead));
  fresh = λ was. cc was;
}

sound_publish : (reads : Reads) (h : History) (m number : ℕ) (row : Row) → IsSound reads h → row_at (rows h) number ≡ Some row → row.state ≡ Staged → MayAdmit (row_ranges (rows h) number) (checkpoint_at (checkpoints_of h)) → IsSound reads (h ▸ at m (Publish number))
sound_publish reads h m number row s found still may =
    publish_row h m number row s (row_stands (rows h) number row s.held.apart found) still (ap (λ o. map range_of (row_spans o)) found) may
  where
    publish_row : (h : History) (m number : ℕ) (row : Row) → IsSound reads h → StandsIn (rows h) number row → row.state ≡ Staged → row_ranges (rows h) number ≡ map range_of row.spans → MayAdmit (row_ranges (rows h) number) (checkpoint_at (checkpoints_of h)) → IsSound reads (h ▸ at m (Publish number))
    publish_row h m number row s r still listed may =
        let t : Traced h row = held (Traced h) (last_number h) (rows h) number row r s.held in
        let delta : List Part = delta_of h number in
        let k : ℕ = stamp_of h number in
        let spans : row.spans ≡ spans_of k delta = rw r.number at (t.fresh still) in
        let ranges : row_ranges (rows h) number ≡ delta = listed ∙ (ap (map range_of) spans ∙ ranges_of_spans k delta) in
        let allowed : MayAdmit delta (checkpoint_at (checkpoints_of h)) = subst (λ d. MayAdmit d (checkpoint_at (checkpoints_of h))) ranges may in
        record {
          held = HoldRows-change (Traced h) (last_number h) (rows h) number row published (λ x. refl) r s.held (traced_published h row still t);
          once = record {
            each_once = rw (r.changed published, ← spans) (spans_shown r.before r.behind row (published row) (ledger reads h).spans (rw still refl) refl (rw r.is at s.once.each_once));
            covers = λ p. covers_permuted p _ (all_ranges (ledger reads h) ++ delta) (all_ranges (ledger reads (h ▸ at m (Publish number))))
                (ranges_admitted (ledger reads h) k delta)
                (covers_more delta (ledger reads h).checkpoints p (all_ranges (ledger reads h)) allowed.0 (AllOf-ranges (checkpoint_at (checkpoints_of h)) (ledger reads h).checkpoints delta s.agree allowed.1) (s.once.covers p));
          };
          agree = λ p. ap (λ d. checkpoint_at (move_all d (checkpoints_of h)) p) ranges
              ∙ (checkpoints_moved delta (checkpoints_of h) allowed.0 p
              ∙ moved_by delta (checkpoint_at (checkpoints_of h)) (ledger reads h).checkpoints p (s.agree p));
        }

-- a Staged row's ranges are those of its Stage's delta
pub staged_ranges : (reads : Reads) (h : History) (number : ℕ) (row : Row) → IsSound reads h → row_at (rows h) number ≡ Some row → row.state ≡ Staged → row_ranges (rows h) number ≡ delta_of h number
staged_ranges reads h number row s found still = by_row (row_stands (rows h) number row s.held.apart found)
  where
    by_row : StandsIn (rows h) number row → row_ranges (rows h) number ≡ delta_of h number
    by_row r =
        let t : Traced h row = held (Traced h) (last_number h) (rows h) number row r s.held in
        let spans : row.spans ≡ spans_of (stamp_of h number) (delta_of h number) = rw r.number at (t.fresh still) in
        ap (λ o. map range_of (row_spans o)) found ∙ (ap (map range_of) spans ∙ ranges_of_spans (stamp_of h number) (delta_of h number))

-- a Marked row is traced whatever it has
traced_marked : (h : History) (m : ℕ) (row : Row) → Traced h row → Traced h (marked m row)
traced_marked h m row t = record { reaches = λ alive. absurd (alive refl); fresh = λ still. cc still }

ranges_raised : (upto : ℕ) (spans : List Span) → map range_of (map (raised upto) spans) ≡ map range_of spans
ranges_raised upto [] = refl
ranges_raised upto (s ∷ spans) = ap (λ rest. range_of s ∷ rest) (ranges_raised upto spans)

sound_raise : (reads : Reads) (h : History) (m number upto : ℕ) (row : Row) → IsSound reads h → StandsIn (rows h) number row → row.state ≡ Published → IsSound reads (h ▸ at m (Raise number upto))
sound_raise reads h m number upto row s r open' =
    let t : Traced h row = held (Traced h) (last_number h) (rows h) number row r s.held in
    let ranges : map range_of row.spans ≡ reach h number = rw r.number at (t.reaches (λ dead. let e : Published ≡ Marked = sym open' ∙ dead in cc e)) in
    let apart : AtMostOnce (ledger reads h).spans = covering_apart (ledger reads h) s.once.covers in
    record {
      held = HoldRows-change (Traced h) (last_number h) (rows h) number row (raised_row upto) (λ x. refl) r s.held
          (record { reaches = λ alive. ranges_raised upto row.spans ∙ t.reaches alive; fresh = λ still. let e : Published ≡ Staged = sym open' ∙ still in cc e });
      once = record {
        each_once = rw (← ranges) (spans_raised (rows h) number upto row (ledger reads h).spans r open' apart s.once.each_once);
        covers = λ p. rw (ranges_kept (reach h number) upto (ledger reads h).spans) (s.once.covers p);
      };
      agree = s.agree;
    }

-- the joined spans of Published rows are of the joined ranges of their numbers
pub joined_reach : (h : History) (old : List ℕ) → HoldRows (Traced h) (last_number h) (rows h) → AllOf (IsIn Published (rows h)) old → map range_of (joined_spans (rows h) old) ≡ flat_map (reach h) old
joined_reach h [] s i = refl
joined_reach h (n ∷ old) s i =
    let w = the_row (row_at (rows h) n) (λ row. (row.state ≡ Published) × ⊤) i.0 in
    joined_one h n old w.0 s (row_stands (rows h) n w.0 s.apart w.1) w.1 w.2.0 (joined_reach h old s i.1)
  where
    joined_one : (h : History) (n : ℕ) (old : List ℕ) (row : Row) → HoldRows (Traced h) (last_number h) (rows h) → StandsIn (rows h) n row → row_at (rows h) n ≡ Some row → row.state ≡ Published → map range_of (joined_spans (rows h) old) ≡ flat_map (reach h) old → map range_of (joined_spans (rows h) (n ∷ old)) ≡ flat_map (reach h) (n ∷ old)
    joined_one h n old row s r found open' rest =
        let t : Traced h row = held (Traced h) (last_number h) (rows h) n row r s in
        let ranges : map range_of row.spans ≡ reach h n = rw r.number at (t.reaches (λ dead. let e : Published ≡ Marked = sym open' ∙ dead in cc e)) in
        rw found (map_append range_of row.spans (joined_spans (rows h) old) ∙ ap₂ ◌++◌ ranges rest)

traced_aside : (h : History) (m new upto : ℕ) (old : List ℕ) (row : Row) → (row.number == new) ≡ false → Traced h row → Traced (h ▸ at m (Replace new old upto)) row
traced_aside h m new upto old row other t = record { reaches = λ alive. rw other (t.reaches alive); fresh = t.fresh }

traced_replacing : (h : History) (m new upto ops : ℕ) (old : List ℕ) (spans : List Span) (row : Row) → map range_of spans ≡ flat_map (reach h) old → row.number ≡ new → Traced (h ▸ at m (Replace new old upto)) (replacing (map (raised upto) spans) ops row)
traced_replacing h m new upto ops old spans row ranges number =
    let same : (row.number == new) ≡ true = eq-eqb row.number new number in
    record { reaches = λ alive. rw same (ranges_raised upto spans ∙ ranges); fresh = λ still. cc still }

sound_replace : (reads : Reads) (h : History) (m new upto : ℕ) (old : List ℕ) (row : Row) → IsSound reads h → row_at (rows h) new ≡ Some row → row.state ≡ Staged → AreApart old → AllOf (IsIn Published (rows h)) old → IsSound reads (h ▸ at m (Replace new old upto))
sound_replace reads h m new upto old row s found still apart i =
    let joined : List Span = joined_spans (rows h) old in
    let ops : ℕ = merged_ops (rows h) old in
    let ranges : map range_of joined ≡ flat_map (reach h) old = joined_reach h old s.held i in
    let none : AtMostOnce (ledger reads h).spans = covering_apart (ledger reads h) s.once.covers in
    record {
      held = HoldRows-to (Traced h) (Traced (h ▸ at m (Replace new old upto))) (last_number h) (last_number h) (change_each old (marked m) (rows h)) new
          (replacing (map (raised upto) joined) ops) (λ x. refl) (omega arith)
          (λ x other t. traced_aside h m new upto old x other t)
          (λ x number t. traced_replacing h m new upto ops old joined x ranges number)
          (HoldRows-change_each (Traced h) (last_number h) old (rows h) (marked m) (λ x. refl) (λ x t. traced_marked h m x t) s.held);
      once = record {
        each_once = rw (← ranges) (spans_replaced old (rows h) m new upto ops row (ledger reads h).spans s.held.apart apart i found still none s.once.each_once);
        covers = λ p. rw (ranges_kept (flat_map (reach h) old) upto (ledger reads h).spans) (s.once.covers p);
      };
      agree = s.agree;
    }

sound_mark : (reads : Reads) (h : History) (m : ℕ) (numbers : List ℕ) → IsSound reads h → AllOf (IsHidden (rows h)) numbers → IsSound reads (h ▸ at m (MarkStaged numbers))
sound_mark reads h m numbers s i = record {
  held = HoldRows-change_each (Traced h) (last_number h) numbers (rows h) (marked m) (λ x. refl) (λ x t. traced_marked h m x t) s.held;
  once = record { each_once = rw (spans_all_marked numbers (rows h) m s.held.apart i) s.once.each_once; covers = s.once.covers };
  agree = s.agree;
}

sound_remove : (reads : Reads) (h : History) (m : ℕ) (numbers : List ℕ) → IsSound reads h → AllOf (IsHidden (rows h)) numbers → IsSound reads (h ▸ at m (Remove numbers))
sound_remove reads h m numbers s i = record {
  held = HoldRows-without_each (Traced h) (last_number h) numbers (rows h) s.held;
  once = record { each_once = rw (spans_all_gone numbers (rows h) s.held.apart i) s.once.each_once; covers = s.once.covers };
  agree = s.agree;
}

sound_retire : (reads : Reads) (h : History) (m : ℕ) (numbers : List ℕ) → IsSound reads h → AreApart numbers → AllOf (IsIn Published (rows h)) numbers → IsSound reads (h ▸ at m (Retire numbers))
sound_retire reads h m numbers s apart i =
    let ranges : map range_of (joined_spans (rows h) numbers) ≡ flat_map (reach h) numbers = joined_reach h numbers s.held i in
    let none : AtMostOnce (ledger reads h).spans = covering_apart (ledger reads h) s.once.covers in
    record {
      held = HoldRows-change_each (Traced h) (last_number h) numbers (rows h) (marked m) (λ x. refl) (λ x t. traced_marked h m x t) s.held;
      once = record {
        each_once = rw (← ranges) (spans_retired numbers (rows h) m (ledger reads h).spans s.held.apart apart i none s.once.each_once);
        covers = λ p. covers_permuted p _ (all_ranges (ledger reads h)) (all_ranges (ledger reads (h ▸ at m (Retire numbers))))
            (ranges_retired (flat_map (reach h) numbers) (ledger reads h)) (s.once.covers p);
      };
      agree = s.agree;
    }

-- a row that may be retired is Published
pub published_of : (period : Option ℕ) (m : ℕ) (rows : List Row) (n : ℕ) → MayRetire m period rows n → IsIn Published rows n
published_of None m rows n f = absurd f
published_of (Some period) m rows n f = in_from Published _ rows n f

-- every act that may follow
sound_after : (reads : Reads) (reading : Said) (settings : Settings) (h : History) (m : ℕ) (act : Act) → IsSound reads h → Follows reading settings (state_of reads h) m act → IsSound reads (h ▸ at m act)
sound_after reads reading settings h m Fence s f = sound_fence reads h m s
sound_after reads reading settings h m (Create config) s f = absurd f
sound_after reads reading settings h m (Stage number delta facts) s f = sound_stage reads h m number delta facts s f.0
sound_after reads reading settings h m (Publish number) s f =
    let w = the_row (row_at (rows h) number) (λ row. (row.state ≡ Staged) × (row.spans ≢ [])) f.0 in
    sound_publish reads h m number w.0 s w.1 w.2.0 f.1
sound_after reads reading settings h m (Replace new old upto) s f =
    let w = the_row (row_at (rows h) new) (λ row. (row.state ≡ Staged) × (row.spans ≡ [])) f.0.0 in
    sound_replace reads h m new upto old w.0 s w.1 w.2.0 f.0.1.1 f.0.1.2
sound_after reads reading settings h m (Raise number upto) s f =
    let w = the_row (row_at (rows h) number) (λ row. (row.state ≡ Published) × ⊤) f.0 in
    sound_raise reads h m number upto w.0 s (row_stands (rows h) number w.0 s.held.apart w.1) w.2.0
sound_after reads reading settings h m (AddTask opstamp text fields times) s f = sound_task reads h m opstamp text fields times s
sound_after reads reading settings h m (MarkStaged numbers) s f =
    sound_mark reads h m numbers s (AllOf-weaker (MayMark m settings.index.staged_grace (rows h)) (IsHidden (rows h)) numbers
    (λ n i. hidden_from Staged (λ row. row.staged_at + settings.index.staged_grace ≤ m) (rows h) n refl i) f)
sound_after reads reading settings h m (Remove numbers) s f =
    sound_remove reads h m numbers s (AllOf-weaker (MayRemove m settings.index.deletion_grace (rows h)) (IsHidden (rows h)) numbers
    (λ n i. hidden_from Marked (λ row. row.marked_at + settings.index.deletion_grace ≤ m) (rows h) n refl i) f)
sound_after reads reading settings h m (Retire numbers) s f =
    sound_retire reads h m numbers s (apart_rising numbers f.1)
    (AllOf-weaker (MayRetire m settings.period (rows h)) (IsIn Published (rows h)) numbers (λ n i. published_of settings.period m (rows h) n i) f.2)

sound_first : (reads : Reads) (reading : Said) (h : History) (m : ℕ) (act : Act) → IsSound reads h → Begins reading act → IsSound reads (h ▸ at m act)
sound_first reads reading h m Fence s b = absurd b
sound_first reads reading h m (Create config) s b = sound_create reads h m config s
sound_first reads reading h m (Stage number delta facts) s b = absurd b
sound_first reads reading h m (Publish number) s b = absurd b
sound_first reads reading h m (Replace new old upto) s b = absurd b
sound_first reads reading h m (Raise number upto) s b = absurd b
sound_first reads reading h m (AddTask opstamp text fields times) s b = absurd b
sound_first reads reading h m (MarkStaged numbers) s b = absurd b
sound_first reads reading h m (Remove numbers) s b = absurd b
sound_first reads reading h m (Retire numbers) s b = absurd b

sound_next : (reads : Reads) (reading : Said) (c : Option Config) (h : History) (m : ℕ) (act : Act) → IsSound reads h → MayCome reading c (state_of reads h) m act → IsSound reads (h ▸ at m act)
sound_next reads reading None h m act s f = sound_first reads reading h m act s f
sound_next reads reading (Some config) h m act s f = sound_after reads reading config.settings h m act s f

pub sound : (reads : Reads) (h : History) → Legal reads h → IsSound reads h
sound reads Start l = sound_start reads
sound reads (h ▸ e) l = sound_next reads (reading_of reads (config_of reads h) e.act) (config_of reads h) h e.moment e.act (sound reads h l.0) l.1.1

-- a revision of a legal history is legal
legal_before : (reads : Reads) (h : History) (es : List Entry) → Legal reads (fold ◌▸◌ h es) → Legal reads h
legal_before reads h [] l = l
legal_before reads h (e ∷ es) l = (legal_before reads (h ▸ e) es l).0

pub legal_take : (reads : Reads) (h : History) (es : List Entry) (n : ℕ) → Legal reads (fold ◌▸◌ h es) → Legal reads (fold ◌▸◌ h (take n es))
legal_take reads h es zero l = legal_before reads h es l
legal_take reads h [] (suc n) l = l
legal_take reads h (e ∷ es) (suc n) l = legal_take reads (h ▸ e) es n l

pub once_always : (reads : Reads) (es : List Entry) → Legal reads (history es) → (revision : ℕ) → Once reads (history (take revision es))
once_always reads es l revision = (sound reads (history (take revision es)) (legal_take reads Start es revision l)).once
