-- What a Retire takes out is old, in every legal history.
use Rattle.std.proofs.Common.{◌≡◌, ◌≢◌, ℕ, ◌==◌, ◌&&◌, ◌||◌, Bool, true, false, eqb-true, eq-eqb, List, [], ◌∷◌, map, filter, flat_map, Option, Some, None, IsPermutation, refl, ap, sym, subst, ◌∙◌, inl, inr}
use Rattle.std.specs.List.{AllByRecursion, list_any}
use Rattle.std.proofs.lemmas.Bool.{and_parts, or_cases}
use Rattle.std.proofs.lemmas.List.Folds.{list_any-append}
use Rattle.std.proofs.lemmas.List.Sorted.{list_any-IsPermutation, IsPermutation-trans}
use Rattle.delete_tasks.specs.Ledger.{is_among}
use Rattle.meta_journal.specs.declared.entry.Entry.{Entry}
use Rattle.meta_store.proofs.Distinct.{AtMostOnce, covering_apart, IsPermutation-taken}
use Rattle.meta_store.proofs.Moves.{spans_taken}
use Rattle.meta_store.proofs.RowLists.{AllOf, AllOf-weaker, the_row}
use Rattle.meta_store.proofs.Sound.{IsSound, sound, joined_reach, published_of, apart_rising}
use Rattle.meta_store.specs.Contents.{Meaning, is_kept, is_taken_out, taken_out, IsTakenFrom}
use Rattle.meta_store.specs.History.{History, history, reach}
use Rattle.meta_store.specs.Laws.{published_spans}
use Rattle.meta_store.specs.Ledgers.{ledger}
use Rattle.meta_store.specs.Rows.{rows}
use Rattle.meta_store.specs.Readings.{Reads}
use Rattle.meta_store.specs.State.{Rises, Legal}
use Rattle.meta_store.specs.declared.config.Settings.{Settings}
use Rattle.source_checkpoint.specs.Deltas.{range_of}
use Rattle.source_checkpoint.specs.declared.span.Span.{Span}
use Rattle.split_states.specs.Answers.{AreApart, IsIn, IsOld, MayRetire}
use Rattle.split_states.specs.Rows.{row_at, row_spans, joined_spans, change_each, marked}
use Rattle.split_states.specs.declared.rows.Row.{Row}
use Rattle.split_states.specs.declared.rows.RowState.TheVariants.{Published}

or_true : (a b : Bool) → b ≡ true → (a || b) ≡ true
or_true true b h = refl
or_true false b h = h

-- a test of the elements that pass another
any_filtered : {X : Type 0} (p q : X → Bool) (xs : List X) → list_any (λ x. p x && q x) xs ≡ true → list_any q (filter p xs) ≡ true
any_filtered p q [] e = e
any_filtered p q (x ∷ xs) e = by (any_filtered p q xs) (p x) refl
  where
    by : (list_any (λ y. p y && q y) xs ≡ true → list_any q (filter p xs) ≡ true) → (b : Bool) → p x ≡ b → list_any q (filter p (x ∷ xs)) ≡ true
    by rest true f = rw f (elim (or_cases (p x && q x) (list_any (λ y. p y && q y) xs) e) [ inl here ↦ rw ((and_parts (p x) (q x) here).1) refl | inr later ↦ or_true (q x) (list_any q (filter p xs)) (rest later) ])
    by rest false f = rw f (rest (subst (λ c. ((c && q x) || list_any (λ y. p y && q y) xs) ≡ true) f e))

-- the row that holds the record
pub record Holder (reads : Reads) {X : Type 0} (meaning : Meaning X) (h : History) (numbers : List ℕ) (x : X) : Type 0 where
  pub number : ℕ
  pub among : list_any (λ n. n == number) numbers ≡ true
  pub holds : list_any (λ s. is_kept meaning (ledger reads h).tasks s x) (row_spans (row_at (rows h) number)) ≡ true

holder : (reads : Reads) {X : Type 0} (meaning : Meaning X) (h : History) (numbers : List ℕ) (x : X) → list_any (λ s. is_kept meaning (ledger reads h).tasks s x) (joined_spans (rows h) numbers) ≡ true → Holder reads meaning h numbers x
holder reads meaning h [] x e = absurd (let g : false ≡ true = e in cc g)
holder reads meaning h (n ∷ numbers) x e =
    elim (or_cases (list_any kept (row_spans (row_at (rows h) n))) (list_any kept (joined_spans (rows h) numbers)) (sym (list_any-append kept (row_spans (row_at (rows h) n)) (joined_spans (rows h) numbers)) ∙ e)) [
      | inl here ↦ record { number = n; among = rw (same n) refl; holds = here }
      | inr later ↦ let rest = holder reads meaning h numbers x later in record { number = rest.number; among = or_true (n == rest.number) (list_any (λ m. m == rest.number) numbers) rest.among; holds = rest.holds }
    ]
  where
    kept : Span → Bool
    kept s = is_kept meaning (ledger reads h).tasks s x

    same : (n : ℕ) → (n == n) ≡ true
    same n = eq-eqb n n refl

named : (P : ℕ → Type 0) (numbers : List ℕ) (n : ℕ) → AllByRecursion P numbers → list_any (λ m. m == n) numbers ≡ true → P n
named P [] n all e = absurd (let g : false ≡ true = e in cc g)
named P (m ∷ numbers) n all e =
    elim (or_cases (m == n) (list_any (λ k. k == n) numbers) e) [ inl here ↦ subst P (eqb-true m n here) all.0 | inr later ↦ named P numbers n all.1 later ]

taken_from : (reads : Reads) {X : Type 0} (meaning : Meaning X) (h : History) (moment period : ℕ) (numbers : List ℕ) (x : X) → IsSound reads h → AreApart numbers → AllByRecursion (MayRetire moment (Some period) (rows h)) numbers →
    is_taken_out meaning (ledger reads h) (flat_map (reach h) numbers) x ≡ true → IsTakenFrom meaning reads h moment period numbers x
taken_from reads meaning h moment period numbers x s apart old e =
    let w = holder reads meaning h numbers x held in
    let at = the_row (row_at (rows h) w.number) (λ row. (row.state ≡ Published) × IsOld moment period row.facts) (named (MayRetire moment (Some period) (rows h)) numbers w.number old w.among) in
    record {
      number = w.number;
      among = w.among;
      row = at.0;
      found = at.1;
      published = at.2.0;
      old = at.2.1;
      holds = ap (λ r. list_any kept (row_spans r)) (sym at.1) ∙ w.holds;
    }
  where
    kept : Span → Bool
    kept s = is_kept meaning (ledger reads h).tasks s x

    i : AllOf (IsIn Published (rows h)) numbers
    i = AllOf-weaker (MayRetire moment (Some period) (rows h)) (IsIn Published (rows h)) numbers (λ n r. published_of (Some period) moment (rows h) n r) old

    joined : List Span
    joined = joined_spans (rows h) numbers

    gone : IsPermutation joined (filter (is_among (map range_of joined)) (ledger reads h).spans)
    gone =
        let none : AtMostOnce (ledger reads h).spans = covering_apart (ledger reads h) s.once.covers in
        let hidden : List Span = published_spans (change_each numbers (marked moment) (rows h)) in
        IsPermutation-taken joined hidden (ledger reads h).spans none (IsPermutation-trans _ _ _ (spans_taken numbers (rows h) moment s.held.apart apart i) s.once.each_once)

    held : list_any kept joined ≡ true
    held =
        list_any-IsPermutation kept joined (filter (is_among (map range_of joined)) (ledger reads h).spans) gone
        ∙ any_filtered (is_among (map range_of joined)) kept (ledger reads h).spans
        (subst (λ ranges. list_any (λ t. is_among ranges t && kept t) (ledger reads h).spans ≡ true) (sym (joined_reach h numbers s.held i)) e)

all_taken : (reads : Reads) {X : Type 0} (meaning : Meaning X) (h : History) (moment period : ℕ) (numbers : List ℕ) → IsSound reads h → AreApart numbers → AllByRecursion (MayRetire moment (Some period) (rows h)) numbers →
    (records : List X) → AllByRecursion (IsTakenFrom meaning reads h moment period numbers) (taken_out meaning reads h numbers records)
all_taken reads meaning h moment period numbers s apart old [] = tt
all_taken reads meaning h moment period numbers s apart old (x ∷ records) = by (all_taken reads meaning h moment period numbers s apart old records) (is_taken_out meaning (ledger reads h) (flat_map (reach h) numbers) x) refl
  where
    by : AllByRecursion (IsTakenFrom meaning reads h moment period numbers) (taken_out meaning reads h numbers records) → (b : Bool) → is_taken_out meaning (ledger reads h) (flat_map (reach h) numbers) x ≡ b → AllByRecursion (IsTakenFrom meaning reads h moment period numbers) (taken_out meaning reads h numbers (x ∷ records))
    by rest true f = rw f (taken_from reads meaning h moment period numbers x s apart old f, rest)
    by rest false f = rw f rest

none_retired : (moment : ℕ) (rows : List Row) (numbers : List ℕ) → numbers ≢ [] → AllByRecursion (MayRetire moment None rows) numbers → ⊥
none_retired moment rows [] some all = some refl
none_retired moment rows (n ∷ numbers) some all = all.0

pub only_old : {X : Type 0} (reads : Reads) (entries : List Entry) → Legal reads (history entries) → (settings : Settings) (moment : ℕ) (numbers : List ℕ) →
    (numbers ≢ []) × Rises numbers × AllByRecursion (MayRetire moment settings.period (rows (history entries))) numbers →
    (period : ℕ) × (settings.period ≡ Some period) × ((meaning : Meaning X) (records : List X) → AllByRecursion (IsTakenFrom meaning reads (history entries) moment period numbers) (taken_out meaning reads (history entries) numbers records))
only_old {X = X} reads entries l settings moment numbers f = by settings.period refl f.2
  where
    by : (p : Option ℕ) → settings.period ≡ p → AllByRecursion (MayRetire moment p (rows (history entries))) numbers →
        (period : ℕ) × (settings.period ≡ Some period) × ((meaning : Meaning X) (records : List X) → AllByRecursion (IsTakenFrom meaning reads (history entries) moment period numbers) (taken_out meaning reads (history entries) numbers records))
    by None e all = absurd (none_retired moment (rows (history entries)) numbers f.0 all)
    by (Some period) e all = (period, e, λ meaning records. all_taken reads meaning (history entries) moment period numbers (sound reads (history entries) l) (apart_rising numbers f.1) all records)
