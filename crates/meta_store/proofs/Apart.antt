-- The spans of rows that are replaced lie apart, and what a plan knew of them stays.
use Rattle.std.proofs.Common.{◌≡◌, ℕ, ◌+◌, ◌≤◌, ◌<◌, ◌&&◌, ◌||◌, Bool, true, false, List, [], ◌∷◌, ◌++◌, map, Some, nat_lt, nat_le, refl, sym, ap, ◌∙◌, subst, inl, inr, arith}
use Rattle.std.proofs.lemmas.Bool.{cases_Bool, lt-leb}
use Rattle.std.proofs.lemmas.List.Sums.{sum_by-cons, sum_by-append}
use Rattle.std.proofs.lemmas.List.Sorted.{sum_by-IsPermutation, IsPermutation-trans, IsPermutation-map}
use Rattle.std.specs.List.{AllByRecursion, list_any}
use Rattle.std.specs.Prelude.{if◌then◌else◌}
use Rattle.delete_tasks.specs.Removed.{Place, lies_in, covered_by}
use Rattle.delete_tasks.specs.Removes.{DeleteTask}
use Rattle.meta_journal.specs.declared.entry.Act.{Act}
use Rattle.meta_journal.specs.declared.entry.Act.TheVariants.{Fence, Create, Stage, Publish, Replace, Raise, Task, MarkStaged, Remove, Retire}
use Rattle.meta_journal.specs.declared.entry.Entry.{Entry}
use Rattle.meta_store.proofs.Covering.{once_at}
use Rattle.meta_store.proofs.Distinct.{map_append}
use Rattle.meta_store.proofs.Moves.{spans_taken}
use Rattle.meta_store.proofs.RowLists.{AllOf, AllOf-append, AllOf-weaker, HoldRows, HoldRows-to, HoldRows-change_each, HoldRows-without_each}
use Rattle.meta_store.proofs.Sound.{sound}
use Rattle.meta_store.specs.History.{History, history, last_number, last_opstamp}
use Rattle.meta_store.specs.History.History.{◌▸◌}
use Rattle.meta_store.specs.Laws.{times_at, all_ranges, published_spans}
use Rattle.meta_store.specs.Ledgers.{ledger}
use Rattle.meta_store.specs.Rows.{rows}
use Rattle.meta_store.specs.State.{Legal}
use Rattle.source_checkpoint.specs.Deltas.{range_of, raised, spans_of}
use Rattle.source_checkpoint.specs.declared.delta.Part.{Part}
use Rattle.source_checkpoint.specs.declared.span.Span.{Span}
use Rattle.split_states.specs.Answers.{IsIn, AreApart as NoneTwice}
use Rattle.split_states.specs.Rows.{row_at, joined_spans, change_each, marked, published, raised_row, replacing, merged_ops, staged}
use Rattle.split_states.specs.declared.rows.Row.{Row}
use Rattle.split_states.specs.declared.rows.RowState.TheVariants.{Staged, Published}
use Rattle.meta_store.specs.Contents.{Meaning}
use Rattle.meta_store.proofs.Numbers.{each_found, found_of, history-snoc, new_row, published_marked, shown_more, staged_published, staged_row, task_next, true_false}
use Rattle.meta_store.specs.Numbers.{AreFresh, Comes, IsAllowed, is_shown}
use Rattle.meta_store.specs.Left.{HasMarks, LieApart, is_dropped, mark_of}
use Rattle.meta_store.specs.Readings.{Reads}

-- ---- apart

abbrev one_of : Bool → ℕ
one_of true = 1
one_of false = 0

one_if : (b : Bool) → one_of b ≡ (if b then 1 else 0)
one_if true = refl
one_if false = refl

times_cons : (x : Place) (s : Span) (spans : List Span) → times_at x.partition x.offset (map range_of (s ∷ spans)) ≡ one_of (lies_in (range_of s) x) + times_at x.partition x.offset (map range_of spans)
times_cons x s spans =
    sum_by-cons (λ r. if lies_in r x then 1 else 0) (range_of s) (map range_of spans)
    ∙ ap (λ (n : ℕ). n + times_at x.partition x.offset (map range_of spans)) (sym (one_if (lies_in (range_of s) x)))

none_of : (spans : List Span) (x : Place) → times_at x.partition x.offset (map range_of spans) ≤ 0 → list_any (λ t. lies_in (range_of t) x) spans ≡ false
none_of [] x le = refl
none_of (s ∷ spans) x le =
    let split = times_cons x s spans in
    elim (cases_Bool (lies_in (range_of s) x)) [
      | inl a ↦ let head : one_of (lies_in (range_of s) x) ≡ 1 = ap one_of a in absurd (omega (arith, split, head, le))
      | inr a ↦ let rest = none_of spans x (omega (arith, split, le)) in rw a rest
    ]

pub apart_of : (spans : List Span) → ((x : Place) → times_at x.partition x.offset (map range_of spans) ≤ 1) → LieApart spans
apart_of [] h = tt
apart_of (s ∷ spans) h = (
  λ x a.
      let split = times_cons x s spans in
      let head : one_of (lies_in (range_of s) x) ≡ 1 = ap one_of a in
      let all = h x in
      none_of spans x (omega (arith, split, head, all)),
  apart_of spans (λ x. let split = times_cons x s spans in let all = h x in omega (arith, split, all)),
)

-- ---- what a plan knew of spans

marks_raised : (upto : ℕ) (spans : List Span) → map mark_of (map (raised upto) spans) ≡ map mark_of spans
marks_raised upto [] = refl
marks_raised upto (s ∷ spans) = ap (λ l. mark_of s ∷ l) (marks_raised upto spans)

-- each row of this number has these marks while it is published
abbrev Has : ℕ → List (Part × ℕ) → Row → Type 0
Has n marks x = x.number ≡ n → x.state ≡ Published → map mark_of x.spans ≡ marks

back : (list : List Row) (n : ℕ) (marks : List (Part × ℕ)) → AllOf (Has n marks) list → (row : Row) → row_at list n ≡ Some row → row.state ≡ Published → map mark_of row.spans ≡ marks
back list n marks all row e p = let f = found_of (Has n marks) list n row e all in f.0 f.1 p

-- a row that was shown is no staged one
shown_apart : (h : History) (k n : ℕ) (r : Row) → AreFresh h → row_at (rows h) k ≡ Some r → r.state ≡ Staged → is_shown h n ≡ true → k ≡ n → ⊥
shown_apart h k n r fresh found is shown same =
    let f = found_of (λ x. x.state ≡ Staged → is_shown h x.number ≡ false) (rows h) k r found fresh in
    true_false (sym shown ∙ ap (is_shown h) (sym (f.1 ∙ same)) ∙ f.0 is)

-- ---- what is covered up to a task stays

-- a task behind `upto` covers nothing up to there
covered_past : (matches : DeleteTask → Bool) (tasks : List DeleteTask) (task : DeleteTask) (k upto : ℕ) → upto < task.opstamp → covered_by matches (tasks ++ task ∷ []) k upto ≡ covered_by matches tasks k upto
covered_past matches [] task k upto lt =
    let late : nat_le task.opstamp upto ≡ false = lt-leb task.opstamp upto lt in
    rw late (none (matches task) (nat_lt k task.opstamp))
  where
    none : (a b : Bool) → (a && (b && false) || false) ≡ false
    none true true = refl
    none true false = refl
    none false b = refl
covered_past matches (t ∷ tasks) task k upto lt =
    ap (λ rest. (matches t && (nat_lt k t.opstamp && nat_le t.opstamp upto)) || rest) (covered_past matches tasks task k upto lt)

-- WHAT IS DROPPED is a matter of the marks of the spans alone
pub dropped_marks : {X : Type 0} (meaning : Meaning X) (tasks : List DeleteTask) (upto : ℕ) (spans : List Span) (x : X) →
    is_dropped meaning tasks upto spans x ≡ list_any (λ m. lies_in m.0 (meaning.place x) && covered_by (meaning.matches x) tasks m.1 upto) (map mark_of spans)
dropped_marks meaning tasks upto [] x = refl
dropped_marks meaning tasks upto (s ∷ spans) x =
    ap (λ rest. (lies_in (range_of s) (meaning.place x) && covered_by (meaning.matches x) tasks s.admitted upto) || rest) (dropped_marks meaning tasks upto spans x)

module _ (reads : Reads) where
  -- THE SPANS OF PUBLISHED ROWS, none of which is named twice, lie apart
  pub joined_apart : (h : History) (old : List ℕ) → Legal reads h → NoneTwice old → AllByRecursion (IsIn Published (rows h)) old → LieApart (joined_spans (rows h) old)
  joined_apart h old legal twice shown = apart_of (joined_spans (rows h) old) (λ x. few x)
    where
      few : (x : Place) → times_at x.partition x.offset (map range_of (joined_spans (rows h) old)) ≤ 1
      few x =
          let s = sound reads h legal in
          let others : List Span = published_spans (change_each old (marked 0) (rows h)) in
          let f : Part → ℕ = λ r. if lies_in r x then 1 else 0 in
          let same = IsPermutation-trans _ _ _ (spans_taken old (rows h) 0 s.held.apart twice shown) s.once.each_once in
          let counted : times_at x.partition x.offset (map range_of (joined_spans (rows h) old ++ others)) ≡ times_at x.partition x.offset (map range_of (ledger reads h).spans) =
          sym (sum_by-IsPermutation f _ _ (IsPermutation-map range_of _ _ same)) in
          let split : times_at x.partition x.offset (map range_of (joined_spans (rows h) old ++ others)) ≡ times_at x.partition x.offset (map range_of (joined_spans (rows h) old)) + times_at x.partition x.offset (map range_of others) =
          ap (times_at x.partition x.offset) (map_append range_of (joined_spans (rows h) old) others) ∙ sum_by-append f (map range_of (joined_spans (rows h) old)) (map range_of others) in
          let whole : times_at x.partition x.offset (all_ranges (ledger reads h)) ≡ times_at x.partition x.offset (map range_of (ledger reads h).spans) + times_at x.partition x.offset (ledger reads h).retired =
          sum_by-append f (map range_of (ledger reads h).spans) (ledger reads h).retired in
          let once = once_at x.partition x.offset ((ledger reads h).checkpoints x.partition) (all_ranges (ledger reads h)) (s.once.covers x.partition) in
          at_most (nat_lt x.offset ((ledger reads h).checkpoints x.partition)) _ _ _ _ _ (once ∙ sym (one_if (nat_lt x.offset ((ledger reads h).checkpoints x.partition)))) (sym split ∙ counted) whole
        where
          at_most : (b : Bool) (all spans retired joined others : ℕ) → all ≡ one_of b → joined + others ≡ spans → all ≡ spans + retired → joined ≤ 1
          at_most true all spans retired joined others a c w = let one : one_of true ≡ 1 = refl in omega (arith, a, c, w, one)
          at_most false all spans retired joined others a c w = let none : one_of false ≡ 0 = refl in omega (arith, a, c, w, none)

  marks_on : (h : History) (m : ℕ) (act : Act) (n : ℕ) (marks : List (Part × ℕ)) → Legal reads h → Comes reads h m act → AreFresh h → is_shown h n ≡ true →
      ((row : Row) → row_at (rows h) n ≡ Some row → row.state ≡ Published → map mark_of row.spans ≡ marks) →
      (row : Row) → row_at (rows (h ▸ record { moment = m; act = act })) n ≡ Some row → row.state ≡ Published → map mark_of row.spans ≡ marks
  marks_on h m act n marks legal may fresh shown k = by act may
    where
      each : HoldRows (Has n marks) (last_number h) (rows h)
      each =
          let s = (sound reads h legal).held in
          record {
            apart = s.apart;
            below = s.below;
            each = AllOf-weaker (λ x. row_at (rows h) x.number ≡ Some x) (Has n marks) (rows h) (λ x own same. k x (ap (row_at (rows h)) (sym same) ∙ own)) (each_found (rows h) s.apart);
          }

      by : (act : Act) → Comes reads h m act → (row : Row) → row_at (rows (h ▸ record { moment = m; act = act })) n ≡ Some row → row.state ≡ Published → map mark_of row.spans ≡ marks
      by Fence may = k
      by (Create text) may = k
      by (Stage number delta facts) may =
          back (rows (h ▸ record { moment = m; act = Stage number delta facts })) n marks
          (AllOf-append (Has n marks) (rows h) (staged number (spans_of (last_opstamp h) delta) facts m ∷ []) each.each ((λ same e. absurd (staged_published e)), tt))
      by (Publish number) may =
          let r = staged_row reads h m number may in
          back (rows (h ▸ record { moment = m; act = Publish number })) n marks
          (HoldRows-to (Has n marks) (Has n marks) (last_number h) (last_number h) (rows h) number published (λ x. refl) (omega arith) (λ x other p. p)
          (λ x same p is e. absurd (shown_apart h number n r.0 fresh r.1 r.2 shown (sym same ∙ is))) each).each
      by (Replace new old upto) may =
          let r = new_row reads h m new old upto may in
          back (rows (h ▸ record { moment = m; act = Replace new old upto })) n marks
          (HoldRows-to (Has n marks) (Has n marks) (last_number h) (last_number h) (change_each old (marked m) (rows h)) new (replacing (map (raised upto) (joined_spans (rows h) old)) (merged_ops (rows h) old)) (λ x. refl) (omega arith)
          (λ x other p. p) (λ x same p is e. absurd (shown_apart h new n r.0 fresh r.1 r.2 shown (sym same ∙ is)))
          (HoldRows-change_each (Has n marks) (last_number h) old (rows h) (marked m) (λ x. refl) (λ x p is e. absurd (published_marked (sym e))) each)).each
      by (Raise number upto) may =
          back (rows (h ▸ record { moment = m; act = Raise number upto })) n marks
          (HoldRows-to (Has n marks) (Has n marks) (last_number h) (last_number h) (rows h) number (raised_row upto) (λ x. refl) (omega arith) (λ x other p. p)
          (λ x same p is e. marks_raised upto x.spans ∙ p is e) each).each
      by (Task opstamp text fields times) may = k
      by (MarkStaged numbers) may =
          back (rows (h ▸ record { moment = m; act = MarkStaged numbers })) n marks
          (HoldRows-change_each (Has n marks) (last_number h) numbers (rows h) (marked m) (λ x. refl) (λ x p is e. absurd (published_marked (sym e))) each).each
      by (Remove numbers) may =
          back (rows (h ▸ record { moment = m; act = Remove numbers })) n marks (HoldRows-without_each (Has n marks) (last_number h) numbers (rows h) each).each
      by (Retire numbers) may =
          back (rows (h ▸ record { moment = m; act = Retire numbers })) n marks
          (HoldRows-change_each (Has n marks) (last_number h) numbers (rows h) (marked m) (λ x. refl) (λ x p is e. absurd (published_marked (sym e))) each).each

  -- A PLANNED ROW'S SPANS stay through each kind of entry
  pub HasMarks-more : (entries : List Entry) (entry : Entry) (n : ℕ) (marks : List (Part × ℕ)) → Legal reads (history entries) → IsAllowed reads entries entry → AreFresh (history entries) → HasMarks entries n marks → HasMarks (entries ++ entry ∷ []) n marks
  HasMarks-more entries entry n marks legal allowed fresh k =
      record {
        shown = shown_more entries entry n k.shown;
        kept = subst (λ h. (row : Row) → row_at (rows h) n ≡ Some row → row.state ≡ Published → map mark_of row.spans ≡ marks) (sym (history-snoc entries entry))
            (marks_on (history entries) entry.moment entry.act n marks legal allowed.1 fresh k.shown k.kept);
      }

  covered_on : (h : History) (m : ℕ) (act : Act) (matches : DeleteTask → Bool) (k upto : ℕ) → Comes reads h m act → upto ≤ last_opstamp h →
      covered_by matches (ledger reads (h ▸ record { moment = m; act = act })).tasks k upto ≡ covered_by matches (ledger reads h).tasks k upto
  covered_on h m Fence matches k upto may le = refl
  covered_on h m (Create text) matches k upto may le = refl
  covered_on h m (Stage number delta facts) matches k upto may le = refl
  covered_on h m (Publish number) matches k upto may le = refl
  covered_on h m (Replace new old up) matches k upto may le = refl
  covered_on h m (Raise number up) matches k upto may le = refl
  covered_on h m (Task opstamp text fields times) matches k upto may le =
      let next = task_next reads h m opstamp text fields times may in
      covered_past matches (ledger reads h).tasks _ k upto (omega (arith, le, next))
  covered_on h m (MarkStaged numbers) matches k upto may le = refl
  covered_on h m (Remove numbers) matches k upto may le = refl
  covered_on h m (Retire numbers) matches k upto may le = refl

  -- WHAT TASKS UP TO A PLAN'S LAST ONE COVER stays covered, and nothing more is, through each kind of entry
  pub covered-more : (entries : List Entry) (entry : Entry) (matches : DeleteTask → Bool) (k upto : ℕ) → IsAllowed reads entries entry → upto ≤ last_opstamp (history entries) →
      covered_by matches (ledger reads (history (entries ++ entry ∷ []))).tasks k upto ≡ covered_by matches (ledger reads (history entries)).tasks k upto
  covered-more entries entry matches k upto allowed le =
      subst (λ h. covered_by matches (ledger reads h).tasks k upto ≡ covered_by matches (ledger reads (history entries)).tasks k upto) (sym (history-snoc entries entry))
      (covered_on (history entries) entry.moment entry.act matches k upto allowed.1 le)
