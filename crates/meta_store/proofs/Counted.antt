-- The state's counters are those of the ledger, and each number is given once.
use Rattle.std.proofs.Common.{◌≡◌, ℕ, ◌+◌, ◌≤◌, Bool, true, false, List, [], ◌∷◌, length, flat_map, fold, nat_lt, refl, sym, ap, ◌∙◌, arith}
use Rattle.std.proofs.lemmas.List.{length_push}
use Rattle.std.specs.List.{AllByRecursion}
use Rattle.std.proofs.lemmas.List.Sorted.{sum_by-IsPermutation}
use Rattle.meta_journal.specs.declared.entry.Act.{Act}
use Rattle.meta_journal.specs.declared.entry.Act.TheVariants.{Fence, Create, Stage, Publish, Replace, Raise, Task, MarkStaged, Remove, Retire}
use Rattle.meta_journal.specs.declared.entry.Entry.{Entry}
use Rattle.meta_store.specs.History.{History, history, revision_of, moment_of, delta_of, published_numbers}
use Rattle.meta_store.specs.History.History.{Start, ◌▸◌}
use Rattle.meta_store.specs.Ledgers.{ledger}
use Rattle.meta_store.specs.Readings.{Reads, reading_of, config_of}
use Rattle.meta_store.specs.Tasks.{tasks_of, tasks_after, asks_of, asks_after}
use Rattle.meta_store.specs.State.{Legal}
use Rattle.meta_store.specs.Laws.{IsCounted, IsNumbered, holds_place, all_ranges}
use Rattle.meta_store.proofs.Kept.{kept}
use Rattle.meta_store.proofs.Covering.{one_if, once_at}
use Rattle.meta_store.proofs.Current.{tasks_agree, opstamps_agree}
use Rattle.meta_store.proofs.Sound.{IsSound, sound}
use Rattle.meta_store.proofs.Tallied.{IsTallied, tallied}

revisions : (h : History) (es : List Entry) → revision_of (fold ◌▸◌ h es) ≡ revision_of h + length es
revisions h [] = omega arith
revisions h (e ∷ es) = let rest = revisions (h ▸ e) es in omega (arith, rest)

moment_grows : (h : History) (es : List Entry) → moment_of h ≤ moment_of (fold ◌▸◌ h es)
moment_grows h [] = omega arith
moment_grows h (e ∷ es) = let rest = moment_grows (h ▸ e) es in omega (arith, rest)

moments : (h : History) (es : List Entry) → AllByRecursion (λ e. e.moment ≤ moment_of (fold ◌▸◌ h es)) es
moments h [] = tt
moments h (e ∷ es) = (let rest = moment_grows (h ▸ e) es in omega (arith, rest), moments (h ▸ e) es)

-- one is kept of each task as it was asked for
asks_agree : (reads : Reads) (h : History) → length (asks_of h) ≡ length (tasks_of reads h)
asks_agree reads Start = refl
asks_agree reads (h ▸ e) = by e.act (asks_agree reads h)
  where
    by : (act : Act) → length (asks_of h) ≡ length (tasks_of reads h) → length (asks_after act (asks_of h)) ≡ length (tasks_after (reading_of reads (config_of reads h) act) act (tasks_of reads h))
    by Fence same = same
    by (Create config) same = same
    by (Stage number delta facts) same = same
    by (Publish number) same = same
    by (Replace new old upto) same = same
    by (Raise number upto) same = same
    by (Task opstamp text fields times) same = length_push (asks_of h) _ ∙ ap (λ (n : ℕ). n + 1) same ∙ sym (length_push (tasks_of reads h) _)
    by (MarkStaged numbers) same = same
    by (Remove numbers) same = same
    by (Retire numbers) same = same

pub counted : (reads : Reads) (es : List Entry) → Legal reads (history es) → IsCounted reads es
counted reads es l = by_parts (sound reads (history es) l) (tallied reads (history es) l)
  where
    by_parts : IsSound reads (history es) → IsTallied reads (history es) → IsCounted reads es
    by_parts s t = record {
      revision = revisions Start es ∙ omega arith;
      moment = moments Start es;
      tasks = sym (tasks_agree reads (history es));
      asks = asks_agree reads (history es) ∙ ap length (sym (tasks_agree reads (history es)));
      last_opstamp = rw (tasks_agree reads (history es)) (opstamps_agree reads (history es) ∙ t.last);
      spans = t.spans;
      checkpoints = s.agree;
      retired = (kept reads (history es) l).same;
      joined = (kept reads (history es) l).joined;
    }

at_most_one : (b : Bool) → one_if b ≤ 1
at_most_one true = omega arith
at_most_one false = omega arith

pub numbered : (reads : Reads) (h : History) → Legal reads h → IsNumbered reads h
numbered reads h l = by_parts (sound reads h l) (tallied reads h l)
  where
    by_parts : IsSound reads h → IsTallied reads h → IsNumbered reads h
    by_parts s t = record {
      staged = t.staged_apart;
      tasks = rw (tasks_agree reads h) t.numbered;
      published = t.published_apart;
      taken_once = λ p offset.
          let same = sum_by-IsPermutation (λ r. one_if (holds_place p offset r)) (flat_map (delta_of h) (published_numbers h)) (all_ranges (ledger reads h)) t.taken in
          let once = once_at p offset ((ledger reads h).checkpoints p) (all_ranges (ledger reads h)) (s.once.covers p) in
          let low = at_most_one (nat_lt offset ((ledger reads h).checkpoints p)) in
          omega (arith, same, once, low);
    }
