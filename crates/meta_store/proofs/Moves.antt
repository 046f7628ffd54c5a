-- What the changes of rows do to the spans of the Published ones.
use Rattle.std.proofs.Common.{◌≡◌, ℕ, true, false, cond, not, filter, List, [], ◌∷◌, ◌++◌, map, IsPermutation, refl, ap, ap₂, subst, sym, ◌∙◌, append_assoc, inl, inr, ◌==◌, Option, Some, None, IsSomeAnd, IfSome, option_map, eqb-true, ne_eqb}
use Rattle.std.proofs.lemmas.Grind.{flat_map-append}
use Rattle.std.proofs.lemmas.List.Sorted.{IsPermutation-append_left, IsPermutation-append_right, IsPermutation-append_comm, IsPermutation-trans, IsPermutation-refl, IsPermutation-sym}
use Rattle.std.specs.Prelude.{⊤}
use Rattle.std.proofs.lemmas.Bool.{eqb-false, cases_Bool, or_parts}
use Rattle.meta_store.proofs.Distinct.{AtMostOnce, IsPermutation-raised, IsPermutation-retired}
use Rattle.meta_store.proofs.RowLists.{AllOf, AllOf-weaker, EachNumberOnce, StandsIn, row_stands, once-change, once-change_each, once-without, row_at-change, row_at-without, row_at-gone, changed_at, without_absent, change_absent, the_row}
use Rattle.delete_tasks.specs.Ledger.{raised_among, is_among}
use Rattle.meta_store.specs.Laws.{shown, published_spans}
use Rattle.source_checkpoint.specs.Deltas.{range_of, raised}
use Rattle.source_checkpoint.specs.declared.span.Span.{Span}
use Rattle.split_states.specs.Answers.{IsIn, AreApart, Repeats}
use Rattle.split_states.specs.Rows.{is_published, row_at, row_spans, joined_spans, change, change_each, marked, without, without_each, raised_row, replacing}
use Rattle.split_states.specs.declared.rows.Row.{Row}
use Rattle.split_states.specs.declared.rows.RowState.{RowState}
use Rattle.split_states.specs.declared.rows.RowState.TheVariants.{Staged, Published}

-- a part in the middle goes to the end
pub IsPermutation-to_end : {X : Type 0} (xs ys zs : List X) → IsPermutation (xs ++ (ys ++ zs)) ((xs ++ zs) ++ ys)
IsPermutation-to_end xs ys zs = rw append_assoc (IsPermutation-append_right xs (ys ++ zs) (zs ++ ys) (IsPermutation-append_comm ys zs))

pub spans_around : (before : List Row) (row : Row) (behind : List Row) → published_spans (before ++ (row ∷ behind)) ≡ published_spans before ++ (shown row ++ published_spans behind)
spans_around before row behind = flat_map-append shown before (row ∷ behind)

pub shown_not : (row : Row) → is_published row.state ≡ false → shown row ≡ []
shown_not row h = rw h

-- a Published row in the place of one that wasn't adds its spans
pub spans_shown : (before behind : List Row) (row new : Row) (all : List Span) → is_published row.state ≡ false → new.state ≡ Published → IsPermutation (published_spans (before ++ (row ∷ behind))) all → IsPermutation (published_spans (before ++ (new ∷ behind))) (all ++ new.spans)
spans_shown before behind row new all hidden open' h =
    let was : published_spans (before ++ (row ∷ behind)) ≡ published_spans before ++ published_spans behind =
    spans_around before row behind ∙ ap (λ s. published_spans before ++ (s ++ published_spans behind)) (shown_not row hidden) in
    let now : published_spans (before ++ (new ∷ behind)) ≡ published_spans before ++ (new.spans ++ published_spans behind) =
    spans_around before new behind ∙ ap (λ st. published_spans before ++ (cond (is_published st) new.spans [] ++ published_spans behind)) open' in
    rw now (IsPermutation-trans _ _ _ (IsPermutation-to_end (published_spans before) new.spans (published_spans behind))
    (IsPermutation-append_left new.spans (published_spans before ++ published_spans behind) all (rw was at h)))

-- a row in the place of another that is not Published either
pub spans_hidden : (before behind : List Row) (row new : Row) → is_published row.state ≡ false → is_published new.state ≡ false → published_spans (before ++ (new ∷ behind)) ≡ published_spans (before ++ (row ∷ behind))
spans_hidden before behind row new was now =
    spans_around before new behind
    ∙ (ap (λ s. published_spans before ++ (s ++ published_spans behind)) (shown_not new now ∙ sym (shown_not row was))
    ∙ sym (spans_around before row behind))

-- a part in the middle goes to the front
IsPermutation-to_start : {X : Type 0} (xs ys zs : List X) → IsPermutation (xs ++ (ys ++ zs)) (ys ++ (xs ++ zs))
IsPermutation-to_start xs ys zs =
    let moved = IsPermutation-append_left zs (xs ++ ys) (ys ++ xs) (IsPermutation-append_comm xs ys) in
    rw (append_assoc, append_assoc) at moved

-- the spans of a Published row, and then those of the others once it is Marked
pub spans_marked : (rows : List Row) (n m : ℕ) (row : Row) → StandsIn rows n row → row.state ≡ Published → IsPermutation (published_spans rows) (row.spans ++ published_spans (change n (marked m) rows))
spans_marked rows n m row r open' =
    let was : published_spans rows ≡ published_spans r.before ++ (row.spans ++ published_spans r.behind) =
    ap published_spans r.is ∙ (spans_around r.before row r.behind
    ∙ ap (λ st. published_spans r.before ++ (cond (is_published st) row.spans [] ++ published_spans r.behind)) open') in
    let now : published_spans (change n (marked m) rows) ≡ published_spans r.before ++ published_spans r.behind =
    ap published_spans (r.changed (marked m)) ∙ spans_around r.before (marked m row) r.behind in
    rw (was, now) (IsPermutation-to_start (published_spans r.before) row.spans (published_spans r.behind))

-- a mark keeps the spans of each number
spans_kept : (rows : List Row) (n m k : ℕ) → EachNumberOnce rows → row_spans (row_at (change n (marked m) rows) k) ≡ row_spans (row_at rows k)
spans_kept rows n m k once = rw (row_at-change rows n k (marked m) (λ row. refl) once) (by_cases (row_at rows k))
  where
    one : (row : Row) → (changed_at n (marked m) row).spans ≡ row.spans
    one row = elim (row.number == n) as (λ b. (cond b (marked m row) row).spans ≡ row.spans) [ true ↦ refl | false ↦ refl ]

    by_cases : (o : Option Row) → row_spans (option_map (changed_at n (marked m)) o) ≡ row_spans o
    by_cases None = refl
    by_cases (Some row) = one row

pub joined_kept : (rows : List Row) (n m : ℕ) (numbers : List ℕ) → EachNumberOnce rows → joined_spans (change n (marked m) rows) numbers ≡ joined_spans rows numbers
joined_kept rows n m [] once = refl
joined_kept rows n m (k ∷ numbers) once = ap₂ ◌++◌ (spans_kept rows n m k once) (joined_kept rows n m numbers once)

-- another number's row stays as it is
pub row_at-other : (rows : List Row) (n k : ℕ) (f : Row → Row) → ((row : Row) → (f row).number ≡ row.number) → (k == n) ≡ false → row_at (change n f rows) k ≡ row_at rows k
row_at-other [] n k f keeps other = refl
row_at-other (r ∷ rows) n k f keeps other =
    let rest = row_at-other rows n k f keeps other in
    elim (cases_Bool (r.number == n)) [
      | inl here ↦
          let e : r.number ≡ n = eqb-true r.number n here in
          let away : (r.number == k) ≡ false = ne_eqb r.number k (λ x. eqb-false k n other (sym x ∙ e)) in
          let as_before : ((f r).number == k) ≡ false = rw (keeps r) away in
          rw (here, as_before, away) refl
      | inr there ↦ rw there (elim (r.number == k) as (λ b. cond b (Some r) (row_at (change n f rows) k) ≡ cond b (Some r) (row_at rows k)) [ true ↦ refl | false ↦ rest ])
    ]

-- Published rows of other numbers are Published still
pub others_in : (state : RowState) (rows : List Row) (n m : ℕ) (numbers : List ℕ) → Repeats numbers n ≡ false → AllOf (IsIn state rows) numbers → AllOf (IsIn state (change n (marked m) rows)) numbers
others_in state rows n m [] apart h = tt
others_in state rows n m (k ∷ numbers) apart h =
    let parts = or_parts (k == n) (Repeats numbers n) apart in
    (rw (row_at-other rows n k (marked m) (λ row. refl) parts.0) h.0, others_in state rows n m numbers parts.1 h.1)

-- the spans of some Published rows, and then those of the others once these are Marked
pub spans_taken : (old : List ℕ) (rows : List Row) (m : ℕ) → EachNumberOnce rows → AreApart old → AllOf (IsIn Published rows) old → IsPermutation (joined_spans rows old ++ published_spans (change_each old (marked m) rows)) (published_spans rows)
spans_taken [] rows m once apart h = IsPermutation-refl (published_spans rows)
spans_taken (n ∷ old) rows m once apart h =
    let w = the_row (row_at rows n) (λ row. (row.state ≡ Published) × ⊤) h.0 in
    let after : List Row = change n (marked m) rows in
    let first = spans_marked rows n m w.0 (row_stands rows n w.0 once w.1) w.2.0 in
    let rest = spans_taken old after m (once-change rows n (marked m) (λ row. refl) once) apart.1 (others_in Published rows n m old apart.0 h.1) in
    let same : joined_spans after old ≡ joined_spans rows old = joined_kept rows n m old once in
    rw (w.1, append_assoc, ← same) (IsPermutation-trans _ _ _
    (IsPermutation-append_right w.0.spans _ (published_spans after) rest)
    (IsPermutation-sym (published_spans rows) _ first))

-- a Staged row is not among those that are marked so
pub staged_stays : (old : List ℕ) (rows : List Row) (m k : ℕ) (row : Row) → AreApart old → AllOf (IsIn Published rows) old → row_at rows k ≡ Some row → row.state ≡ Staged → row_at (change_each old (marked m) rows) k ≡ Some row
staged_stays [] rows m k row apart h found still = found
staged_stays (n ∷ old) rows m k row apart h found still =
    let w = the_row (row_at rows n) (λ x. (x.state ≡ Published) × ⊤) h.0 in
    let away : (k == n) ≡ false = ne_eqb k n (λ e.
    let there : Some row ≡ Some w.0 = sym found ∙ (ap (λ x. row_at rows x) e ∙ w.1) in
    let one : row ≡ w.0 = cc there in
    let states : Staged ≡ Published = sym still ∙ (ap (λ x. x.state) one ∙ w.2.0) in
    cc states) in
    staged_stays old (change n (marked m) rows) m k row apart.1 (others_in Published rows n m old apart.0 h.1)
    (row_at-other rows n k (marked m) (λ x. refl) away ∙ found) still

-- a number whose row, if it has one, is not Published
abbrev pub IsHidden : List Row → ℕ → Type 0
IsHidden rows n = IfSome (row_at rows n) (λ row. is_published row.state ≡ false)

hidden_marked : (rows : List Row) (n m k : ℕ) → EachNumberOnce rows → IsHidden rows k → IsHidden (change n (marked m) rows) k
hidden_marked rows n m k once h = rw (row_at-change rows n k (marked m) (λ row. refl) once) (by_cases (row_at rows k) h)
  where
    one : (row : Row) → is_published row.state ≡ false → is_published (changed_at n (marked m) row).state ≡ false
    one row e = elim (row.number == n) as (λ b. is_published (cond b (marked m row) row).state ≡ false) [ true ↦ refl | false ↦ e ]

    by_cases : (o : Option Row) → IfSome o (λ row. is_published row.state ≡ false) → IfSome (option_map (changed_at n (marked m)) o) (λ row. is_published row.state ≡ false)
    by_cases None h' = tt
    by_cases (Some row) h' = one row h'

hidden_without : (rows : List Row) (n k : ℕ) → IsHidden rows k → IsHidden (without n rows) k
hidden_without rows n k h = elim (cases_Bool (k == n)) [
  | inl same ↦ rw (eqb-true k n same, row_at-gone rows n) tt
  | inr other ↦ rw (row_at-without rows n k other) h
]

spans_still : (rows : List Row) (n m : ℕ) (o : Option Row) → row_at rows n ≡ o → EachNumberOnce rows → IfSome o (λ row. is_published row.state ≡ false) → published_spans (change n (marked m) rows) ≡ published_spans rows
spans_still rows n m None found once h = ap published_spans (change_absent rows n (marked m) found)
spans_still rows n m (Some row) found once h =
    let r = row_stands rows n row once found in
    ap published_spans (r.changed (marked m)) ∙ (spans_hidden r.before r.behind row (marked m row) h refl ∙ sym (ap published_spans r.is))

spans_gone : (rows : List Row) (n : ℕ) (o : Option Row) → row_at rows n ≡ o → EachNumberOnce rows → IfSome o (λ row. is_published row.state ≡ false) → published_spans (without n rows) ≡ published_spans rows
spans_gone rows n None found once h = ap published_spans (without_absent rows n found)
spans_gone rows n (Some row) found once h =
    let r = row_stands rows n row once found in
    ap published_spans r.gone ∙ (flat_map-append shown r.before r.behind
    ∙ (ap (λ s. published_spans r.before ++ (s ++ published_spans r.behind)) (sym (shown_not row h))
    ∙ (sym (spans_around r.before row r.behind) ∙ sym (ap published_spans r.is))))

pub spans_all_marked : (numbers : List ℕ) (rows : List Row) (m : ℕ) → EachNumberOnce rows → AllOf (IsHidden rows) numbers → published_spans (change_each numbers (marked m) rows) ≡ published_spans rows
spans_all_marked [] rows m once h = refl
spans_all_marked (n ∷ numbers) rows m once h =
    spans_all_marked numbers (change n (marked m) rows) m (once-change rows n (marked m) (λ row. refl) once)
    (AllOf-weaker (IsHidden rows) (IsHidden (change n (marked m) rows)) numbers (λ k. hidden_marked rows n m k once) h.1)
    ∙ spans_still rows n m (row_at rows n) refl once h.0

pub spans_all_gone : (numbers : List ℕ) (rows : List Row) → EachNumberOnce rows → AllOf (IsHidden rows) numbers → published_spans (without_each numbers rows) ≡ published_spans rows
spans_all_gone [] rows once h = refl
spans_all_gone (n ∷ numbers) rows once h =
    spans_all_gone numbers (without n rows) (once-without rows n once)
    (AllOf-weaker (IsHidden rows) (IsHidden (without n rows)) numbers (λ k. hidden_without rows n k) h.1)
    ∙ spans_gone rows n (row_at rows n) refl once h.0

pub hidden_from : (state : RowState) (P : Row → Type 0) (rows : List Row) (n : ℕ) → is_published state ≡ false → IsSomeAnd (row_at rows n) (λ row. (row.state ≡ state) × P row) → IsHidden rows n
hidden_from state P rows n hides h = by_cases (row_at rows n) h
  where
    by_cases : (o : Option Row) → IsSomeAnd o (λ row. (row.state ≡ state) × P row) → IfSome o (λ row. is_published row.state ≡ false)
    by_cases None h' = absurd h'
    by_cases (Some row) h' = rw h'.0 hides

-- a Published row that is raised in its place
pub spans_raised : (rows : List Row) (n upto : ℕ) (row : Row) (all : List Span) → StandsIn rows n row → row.state ≡ Published → AtMostOnce all → IsPermutation (published_spans rows) all → IsPermutation (published_spans (change n (raised_row upto) rows)) (map (raised_among (map range_of row.spans) upto) all)
spans_raised rows n upto row all r open' once p =
    let others : List Span = published_spans r.before ++ published_spans r.behind in
    let show : (new : Row) → new.state ≡ Published → published_spans (r.before ++ (new ∷ r.behind)) ≡ published_spans r.before ++ (new.spans ++ published_spans r.behind) =
    (λ new e. spans_around r.before new r.behind ∙ ap (λ st. published_spans r.before ++ (cond (is_published st) new.spans [] ++ published_spans r.behind)) e) in
    let was : published_spans rows ≡ published_spans r.before ++ (row.spans ++ published_spans r.behind) = ap published_spans r.is ∙ show row open' in
    let now : published_spans (change n (raised_row upto) rows) ≡ published_spans r.before ++ (map (raised upto) row.spans ++ published_spans r.behind) =
    ap published_spans (r.changed (raised_row upto)) ∙ show (raised_row upto row) open' in
    let front = IsPermutation-to_start (published_spans r.before) row.spans (published_spans r.behind) in
    let before : IsPermutation (row.spans ++ others) all =
    IsPermutation-trans _ _ _ (IsPermutation-sym _ _ front) (rw was at p) in
    rw now (IsPermutation-trans _ _ _ (IsPermutation-to_start (published_spans r.before) (map (raised upto) row.spans) (published_spans r.behind))
    (IsPermutation-raised row.spans others all upto once before))

-- the new row of a Replace shows the old rows' spans, raised
pub spans_replaced : (old : List ℕ) (rows : List Row) (m new upto ops : ℕ) (row : Row) (all : List Span) → EachNumberOnce rows → AreApart old → AllOf (IsIn Published rows) old → row_at rows new ≡ Some row → row.state ≡ Staged → AtMostOnce all → IsPermutation (published_spans rows) all
    → IsPermutation (published_spans (change new (replacing (map (raised upto) (joined_spans rows old)) ops) (change_each old (marked m) rows))) (map (raised_among (map range_of (joined_spans rows old)) upto) all)
spans_replaced old rows m new upto ops row all once apart h found still none p =
    let marked_rows : List Row = change_each old (marked m) rows in
    let joined : List Span = joined_spans rows old in
    let f : Row → Row = replacing (map (raised upto) joined) ops in
    let r = row_stands marked_rows new row (once-change_each old rows (marked m) (λ x. refl) once) (staged_stays old rows m new row apart h found still) in
    let taken : IsPermutation (joined ++ published_spans marked_rows) all = IsPermutation-trans _ _ _ (spans_taken old rows m once apart h) p in
    let shown_now = spans_shown r.before r.behind row (f row) (published_spans marked_rows) (rw still refl) refl
    (subst (λ xs. IsPermutation (published_spans xs) (published_spans marked_rows)) r.is (IsPermutation-refl (published_spans marked_rows))) in
    rw (r.changed f) (IsPermutation-trans _ _ _ shown_now
    (IsPermutation-trans _ _ _ (IsPermutation-append_comm (published_spans marked_rows) (map (raised upto) joined))
    (IsPermutation-raised joined (published_spans marked_rows) all upto none taken)))

-- some Published rows are Marked, and their spans leave
pub spans_retired : (numbers : List ℕ) (rows : List Row) (m : ℕ) (all : List Span) → EachNumberOnce rows → AreApart numbers → AllOf (IsIn Published rows) numbers → AtMostOnce all → IsPermutation (published_spans rows) all
    → IsPermutation (published_spans (change_each numbers (marked m) rows)) (filter (λ s. not (is_among (map range_of (joined_spans rows numbers)) s)) all)
spans_retired numbers rows m all once apart h none p =
    IsPermutation-retired (joined_spans rows numbers) (published_spans (change_each numbers (marked m) rows)) all none
    (IsPermutation-trans _ _ _ (spans_taken numbers rows m once apart h) p)

pub in_from : (state : RowState) (P : Row → Type 0) (rows : List Row) (n : ℕ) → IsSomeAnd (row_at rows n) (λ row. (row.state ≡ state) × P row) → IsIn state rows n
in_from state P rows n h = by_cases (row_at rows n) h
  where
    by_cases : (o : Option Row) → IsSomeAnd o (λ row. (row.state ≡ state) × P row) → IsSomeAnd o (λ row. (row.state ≡ state) × ⊤)
    by_cases None h' = absurd h'
    by_cases (Some row) h' = (h'.0, tt)
