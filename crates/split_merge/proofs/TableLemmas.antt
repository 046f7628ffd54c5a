-- Tables of numbers that are made one number after the other.
use Rattle.std.proofs.Common.{◌≡◌, ℕ, zero, suc, ◌+◌, ◌<◌, ◌≤◌, Bool, true, false, List, [], ◌∷◌, ◌++◌, refl, sym, ap, ◌∙◌, arith, append_assoc}
use Rattle.std.specs.Prelude.{if◌then◌else◌}
use Rattle.split_bundle.specs.declared.split_view.SplitView.{SplitView}
use Rattle.split_merge.specs.Keeping.{is_named}
use Rattle.split_merge.specs.Numbering.{kept_count, kept_in, no_number, table_of, tables_of}

-- ---- the same places from one on

pub table_same : (a b : List ℕ) (place next left : ℕ) → ((m : ℕ) → place ≤ m → is_named m a ≡ is_named m b) → table_of a place next left ≡ table_of b place next left
table_same a b place next zero same = refl
table_same a b place next (suc left) same =
    rw (same place (omega arith), table_same a b (suc place) next left (λ m le. same m (omega arith)), table_same a b (suc place) (suc next) left (λ m le. same m (omega arith))) refl

pub count_same : (a b : List ℕ) (place left : ℕ) → ((m : ℕ) → place ≤ m → is_named m a ≡ is_named m b) → kept_count a place left ≡ kept_count b place left
count_same a b place zero same = refl
count_same a b place (suc left) same = rw (same place (omega arith), count_same a b (suc place) left (λ m le. same m (omega arith))) refl

-- ---- one document more

module _ (rest behind : List ℕ) (place next left more : ℕ) (left_is : left ≡ suc more) (same : (m : ℕ) → place < m → is_named m behind ≡ is_named m rest) where
  later : (m : ℕ) → place + 1 ≤ m → is_named m behind ≡ is_named m rest
  later m le = same m (omega arith)

  table_dropped : (before now whole : List ℕ) → true ≡ is_named place rest → now ≡ before ++ no_number ∷ [] → before ++ table_of rest place next left ≡ whole → now ++ table_of behind (place + 1) next more ≡ whole
  table_dropped before now whole named now_is so_far =
      let up : place + 1 ≡ suc place = omega arith in
      let here : table_of rest place next left ≡ no_number ∷ table_of rest (place + 1) next more = rw (left_is, sym named, up) refl in
      ap (λ (l : List ℕ). l ++ table_of behind (place + 1) next more) now_is ∙ ap (λ (l : List ℕ). (before ++ no_number ∷ []) ++ l) (table_same behind rest (place + 1) next more later)
      ∙ append_assoc before (no_number ∷ []) (table_of rest (place + 1) next more) ∙ ap (λ (l : List ℕ). before ++ l) (sym here) ∙ so_far

  table_kept : (before now whole : List ℕ) → false ≡ is_named place rest → now ≡ before ++ next ∷ [] → before ++ table_of rest place next left ≡ whole → now ++ table_of behind (place + 1) (next + 1) more ≡ whole
  table_kept before now whole named now_is so_far =
      let up : place + 1 ≡ suc place = omega arith in
      let above : next + 1 ≡ suc next = omega arith in
      let here : table_of rest place next left ≡ next ∷ table_of rest (place + 1) (next + 1) more = rw (left_is, sym named, up, above) refl in
      ap (λ (l : List ℕ). l ++ table_of behind (place + 1) (next + 1) more) now_is ∙ ap (λ (l : List ℕ). (before ++ next ∷ []) ++ l) (table_same behind rest (place + 1) (next + 1) more later)
      ∙ append_assoc before (next ∷ []) (table_of rest (place + 1) (next + 1) more) ∙ ap (λ (l : List ℕ). before ++ l) (sym here) ∙ so_far

  pub table_step : (named : Bool) (entry above : ℕ) (before now whole : List ℕ) → named ≡ is_named place rest → entry ≡ (if named then no_number else next) → above ≡ (if named then next else next + 1)
      → now ≡ before ++ entry ∷ [] → before ++ table_of rest place next left ≡ whole → now ++ table_of behind (place + 1) above more ≡ whole
  table_step true entry above before now whole is entry_is above_is now_is so_far =
      ap (λ (n : ℕ). now ++ table_of behind (place + 1) n more) above_is ∙ table_dropped before now whole is (now_is ∙ ap (λ (n : ℕ). before ++ n ∷ []) entry_is) so_far
  table_step false entry above before now whole is entry_is above_is now_is so_far =
      ap (λ (n : ℕ). now ++ table_of behind (place + 1) n more) above_is ∙ table_kept before now whole is (now_is ∙ ap (λ (n : ℕ). before ++ n ∷ []) entry_is) so_far

  pub count_step : (named : Bool) (above whole : ℕ) → named ≡ is_named place rest → above ≡ (if named then next else next + 1) → next + kept_count rest place left ≡ whole → above + kept_count behind (place + 1) more ≡ whole
  count_step true above whole is above_is so_far =
      let up : place + 1 ≡ suc place = omega arith in
      let here : kept_count rest place left ≡ kept_count rest (place + 1) more = rw (left_is, sym is, up) refl in
      omega (arith, here, so_far, above_is, count_same behind rest (place + 1) more later)
  count_step false above whole is above_is so_far =
      let up : place + 1 ≡ suc place = omega arith in
      let here : kept_count rest place left ≡ suc (kept_count rest (place + 1) more) = rw (left_is, sym is, up) refl in
      omega (arith, here, so_far, above_is, count_same behind rest (place + 1) more later)

-- ---- one view more

pub tables_same : (a b : List ℕ) (place next : ℕ) (vs : List SplitView) → ((m : ℕ) → place ≤ m → is_named m a ≡ is_named m b) → tables_of a place next vs ≡ tables_of b place next vs
tables_same a b place next [] same = refl
tables_same a b place next (v ∷ vs) same =
    rw (table_same a b place next v.layout.docs same, count_same a b place v.layout.docs same, tables_same a b (place + v.layout.docs) (next + kept_count b place v.layout.docs) vs (λ m le. same m (omega arith))) refl

pub tables_step : (rest behind : List ℕ) (place after next above : ℕ) (left : List SplitView) (v : SplitView) (vs : List SplitView) (before now whole : List (List ℕ)) (table : List ℕ) → left ≡ v ∷ vs → after ≡ place + v.layout.docs
    → above ≡ next + kept_count rest place v.layout.docs → table ≡ table_of rest place next v.layout.docs → ((m : ℕ) → after < m + 1 → is_named m behind ≡ is_named m rest)
    → now ≡ before ++ table ∷ [] → before ++ tables_of rest place next left ≡ whole → now ++ tables_of behind after above vs ≡ whole
tables_step rest behind place after next above left v vs before now whole table left_is after_is above_is table_is same now_is so_far =
    ap (λ (l : List (List ℕ)). l ++ tables_of behind after above vs) now_is
    ∙ append_assoc before (table ∷ []) (tables_of behind after above vs)
    ∙ ap (λ (l : List (List ℕ)). before ++ (table ∷ l)) (tables_same behind rest after above vs (λ m le. same m (omega arith)))
    ∙ ap (λ (t : List ℕ). before ++ (t ∷ tables_of rest after above vs)) table_is
    ∙ ap (λ (n : ℕ). before ++ (table_of rest place next v.layout.docs ∷ tables_of rest n above vs)) after_is
    ∙ ap (λ (n : ℕ). before ++ (table_of rest place next v.layout.docs ∷ tables_of rest (place + v.layout.docs) n vs)) above_is
    ∙ ap (λ (l : List SplitView). before ++ tables_of rest place next l) (sym left_is) ∙ so_far

pub kept_in_same : (a b : List ℕ) (place : ℕ) (vs : List SplitView) → ((m : ℕ) → place ≤ m → is_named m a ≡ is_named m b) → kept_in a place vs ≡ kept_in b place vs
kept_in_same a b place [] same = refl
kept_in_same a b place (v ∷ vs) same = rw (count_same a b place v.layout.docs same, kept_in_same a b (place + v.layout.docs) vs (λ m le. same m (omega arith))) refl

pub kept_step : (rest behind : List ℕ) (place after next above : ℕ) (left : List SplitView) (v : SplitView) (vs : List SplitView) (whole : ℕ) → left ≡ v ∷ vs → after ≡ place + v.layout.docs → above ≡ next + kept_count rest place v.layout.docs
    → ((m : ℕ) → after < m + 1 → is_named m behind ≡ is_named m rest) → next + kept_in rest place left ≡ whole → above + kept_in behind after vs ≡ whole
kept_step rest behind place after next above left v vs whole left_is after_is above_is same so_far =
    let here : kept_in rest place left ≡ kept_count rest place v.layout.docs + kept_in rest after vs =
    ap (λ (l : List SplitView). kept_in rest place l) left_is ∙ ap (λ (n : ℕ). kept_count rest place v.layout.docs + kept_in rest n vs) (sym after_is) in
    omega (arith, here, so_far, above_is, kept_in_same behind rest after vs (λ m le. same m (omega arith)))
