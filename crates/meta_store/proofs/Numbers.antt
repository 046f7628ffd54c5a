-- What the entries of a history say of numbers, and what the conditions of an entry say of rows.
use Rattle.std.proofs.Common.{◌≡◌, ◌⊎◌, ℕ, ◌+◌, ◌≤◌, ◌==◌, ◌||◌, Bool, true, false, List, [], ◌∷◌, ◌++◌, Option, Some, None, refl, sym, ap, ◌∙◌, subst, inl, inr, arith, eq-eqb, eqb-true, max, fold}
use Rattle.std.proofs.lemmas.Bool.{cases_Bool, eqb-false}
use Rattle.std.proofs.lemmas.List.Folds.{list_any-append}
use Rattle.std.proofs.lemmas.List.Sums.{fold-append}
use Rattle.std.specs.List.{list_any, AllByRecursion}
use Rattle.doc_value.specs.declared.facts.TimeRange.{TimeRange}
use Rattle.meta_journal.specs.declared.entry.Act.{Act}
use Rattle.meta_journal.specs.declared.entry.Act.TheVariants.{Fence, Create, Stage, Publish, Replace, Raise, Task, MarkStaged, Remove, Retire}
use Rattle.meta_journal.specs.declared.entry.Entry.{Entry}
use Rattle.meta_store.proofs.ByWords.{in_words}
use Rattle.meta_store.proofs.RowLists.{EachNumberOnce, AllOf, AllOf-at, AllOf-weaker, the_row, row_stands, held}
use Rattle.meta_store.proofs.Sound.{sound, Traced}
use Rattle.meta_store.specs.History.{History, history, delta_of, stamp_of, last_number, last_opstamp, staged_numbers, shown_numbers}
use Rattle.meta_store.specs.History.History.{Start, ◌▸◌}
use Rattle.meta_store.specs.Ledgers.{ledger}
use Rattle.meta_store.specs.Numbers.{Comes, has_staged, is_shown}
use Rattle.meta_store.specs.Readings.{Reads, reading_of, config_of}
use Rattle.meta_store.specs.Rows.{rows}
use Rattle.meta_store.specs.State.{Legal, MayCome, state_of}
use Rattle.meta_store.specs.declared.config.Config.{Config}
use Rattle.source_checkpoint.specs.Deltas.{MayAdmit, spans_of}
use Rattle.source_checkpoint.specs.declared.delta.Part.{Part}
use Rattle.split_states.specs.Answers.{IsIn}
use Rattle.split_states.specs.Rows.{row_at}
use Rattle.split_states.specs.declared.facts.RowFacts.{RowFacts}
use Rattle.split_states.specs.declared.rows.Row.{Row}
use Rattle.split_states.specs.declared.rows.RowState.TheVariants.{Staged, Published, Marked}

pub history-snoc : (es : List Entry) (e : Entry) → history (es ++ e ∷ []) ≡ history es ▸ e
history-snoc es e = fold-append ◌▸◌ Start es (e ∷ [])

-- ---- states

pub staged_published : Staged ≡ Published → ⊥
staged_published e = cc

pub staged_marked : Staged ≡ Marked → ⊥
staged_marked e = cc

pub published_marked : Published ≡ Marked → ⊥
published_marked e = cc

pub true_false : true ≡ false → ⊥
true_false e = cc

-- ---- the row of a number

pub each_found : (list : List Row) → EachNumberOnce list → AllOf (λ x. row_at list x.number ≡ Some x) list
each_found [] once = tt
each_found (r ∷ list) once = (
  rw (eq-eqb r.number r.number refl) refl,
  AllOf-weaker (λ x. row_at list x.number ≡ Some x) (λ x. row_at (r ∷ list) x.number ≡ Some x) list (λ x e. later x e) (each_found list once.1),
)
  where
    later : (x : Row) → row_at list x.number ≡ Some x → row_at (r ∷ list) x.number ≡ Some x
    later x e = elim (cases_Bool (r.number == x.number)) [
      | inl same ↦ let there : ◌≡◌ {A = Option Row} None (Some x) = sym once.0 ∙ ap (row_at list) (eqb-true r.number x.number same) ∙ e in cc
      | inr other ↦ rw other e
    ]

pub is_row : (list : List Row) (n : ℕ) (r x : Row) → row_at list n ≡ Some r → row_at list x.number ≡ Some x → x.number ≡ n → x ≡ r
is_row list n r x found own same = let both : ◌≡◌ {A = Option Row} (Some x) (Some r) = sym own ∙ ap (row_at list) same ∙ found in cc both

pub found_of : (P : Row → Type 0) (list : List Row) (n : ℕ) (row : Row) → row_at list n ≡ Some row → AllOf P list → P row × (row.number ≡ n)
found_of P [] n row e h = cc
found_of P (x ∷ list) n row e h = elim (cases_Bool (x.number == n)) [
  | inl same ↦ let here : Some x ≡ Some row = rw same at e in let is : x ≡ row = cc here in (subst P is h.0, ap (λ (r : Row). r.number) (sym is) ∙ eqb-true x.number n same)
  | inr other ↦ found_of P list n row (rw other at e) h.1
]

-- ---- what was shown and staged

pub number_apart : (m n : ℕ) → (m ≡ n → ⊥) → (m == n) ≡ false
number_apart m n h = by (m == n) refl
  where
    by : (b : Bool) → (m == n) ≡ b → (m == n) ≡ false
    by true e = absurd (h (eqb-true m n e))
    by false e = e

or_false : (b : Bool) → (b || (false || false)) ≡ b
or_false true = refl
or_false false = refl

pub shown_same : (xs : List ℕ) (n k : ℕ) → (k == n) ≡ false → list_any (λ m. m == k) (xs ++ n ∷ []) ≡ list_any (λ m. m == k) xs
shown_same xs n k other =
    let away : (n == k) ≡ false = number_apart n k (λ e. eqb-false k n other (sym e)) in
    list_any-append (λ m. m == k) xs (n ∷ []) ∙ rw away (or_false (list_any (λ m. m == k) xs))

pub last_shown : (xs : List ℕ) (n k : ℕ) → k ≡ n → list_any (λ m. m == k) (xs ++ n ∷ []) ≡ true
last_shown xs n k same = list_any-append (λ m. m == k) xs (n ∷ []) ∙ or_last (list_any (λ m. m == k) xs) (n == k) (eq-eqb n k (sym same))
  where
    or_last : (a b : Bool) → b ≡ true → (a || (b || false)) ≡ true
    or_last true b e = refl
    or_last false true e = refl
    or_last false false e = absurd (true_false (sym e))

pub any_last : (numbers : List ℕ) (m n : ℕ) → list_any (λ k. k == n) (numbers ++ m ∷ []) ≡ true → (list_any (λ k. k == n) numbers ≡ true) ⊎ (m ≡ n)
any_last numbers m n h = by (list_any (λ k. k == n) numbers) (m == n) refl refl (sym (list_any-append (λ k. k == n) numbers (m ∷ [])) ∙ h)
  where
    by : (a b : Bool) → list_any (λ k. k == n) numbers ≡ a → (m == n) ≡ b → (a || (b || false)) ≡ true → (list_any (λ k. k == n) numbers ≡ true) ⊎ (m ≡ n)
    by true b ea eb e = inl ea
    by false true ea eb e = inr (eqb-true m n eb)
    by false false ea eb e = absurd (true_false (sym e))

pub staged_le : (h : History) (n : ℕ) → list_any (λ k. k == n) (staged_numbers h) ≡ true → n ≤ last_number h
staged_le Start n e = absurd (true_false (sym e))
staged_le (h ▸ entry) n e = by entry.act (staged_le h n) e
  where
    by : (act : Act) → (list_any (λ k. k == n) (staged_numbers h) ≡ true → n ≤ last_number h) → list_any (λ k. k == n) (staged_numbers (h ▸ record { moment = entry.moment; act = act })) ≡ true →
        n ≤ last_number (h ▸ record { moment = entry.moment; act = act })
    by Fence more e = more e
    by (Create config) more e = more e
    by (Stage number delta facts) more e = last (any_last (staged_numbers h) number n e)
      where
        last : (list_any (λ k. k == n) (staged_numbers h) ≡ true) ⊎ (number ≡ n) → n ≤ max (last_number h) number
        last (inl old) = let le : n ≤ last_number h = more old in omega (arith, le)
        last (inr same) = omega (arith, same)
    by (Publish number) more e = more e
    by (Replace new old upto) more e = more e
    by (Raise number upto) more e = more e
    by (Task opstamp text fields times) more e = more e
    by (MarkStaged numbers) more e = more e
    by (Remove numbers) more e = more e
    by (Retire numbers) more e = more e

first_or : (a b : Bool) → a ≡ true → (a || b) ≡ true
first_or true b e = refl
first_or false b e = absurd (true_false (sym e))

shown_on : (h : History) (moment : ℕ) (act : Act) (n : ℕ) → is_shown h n ≡ true → is_shown (h ▸ record { moment = moment; act = act }) n ≡ true
shown_on h moment Fence n e = e
shown_on h moment (Create config) n e = e
shown_on h moment (Stage number delta facts) n e = e
shown_on h moment (Publish number) n e = list_any-append (λ k. k == n) (shown_numbers h) (number ∷ []) ∙ first_or (list_any (λ k. k == n) (shown_numbers h)) _ e
shown_on h moment (Replace new old upto) n e = list_any-append (λ k. k == n) (shown_numbers h) (new ∷ []) ∙ first_or (list_any (λ k. k == n) (shown_numbers h)) _ e
shown_on h moment (Raise number upto) n e = e
shown_on h moment (Task opstamp text fields times) n e = e
shown_on h moment (MarkStaged numbers) n e = e
shown_on h moment (Remove numbers) n e = e
shown_on h moment (Retire numbers) n e = e

pub shown_more : (entries : List Entry) (entry : Entry) (n : ℕ) → is_shown (history entries) n ≡ true → is_shown (history (entries ++ entry ∷ [])) n ≡ true
shown_more entries entry n e = ap (λ h. is_shown h n) (history-snoc entries entry) ∙ shown_on (history entries) entry.moment entry.act n e

staged_on : (h : History) (moment : ℕ) (act : Act) (n : ℕ) → list_any (λ k. k == n) (staged_numbers h) ≡ true →
    list_any (λ k. k == n) (staged_numbers (h ▸ record { moment = moment; act = act })) ≡ true
staged_on h moment Fence n e = e
staged_on h moment (Create config) n e = e
staged_on h moment (Stage number delta facts) n e = list_any-append (λ k. k == n) (staged_numbers h) (number ∷ []) ∙ first_or (list_any (λ k. k == n) (staged_numbers h)) (list_any (λ k. k == n) (number ∷ [])) e
staged_on h moment (Publish number) n e = e
staged_on h moment (Replace new old upto) n e = e
staged_on h moment (Raise number upto) n e = e
staged_on h moment (Task opstamp text fields times) n e = e
staged_on h moment (MarkStaged numbers) n e = e
staged_on h moment (Remove numbers) n e = e
staged_on h moment (Retire numbers) n e = e

pub staged_more : (entries : List Entry) (entry : Entry) (n : ℕ) → has_staged entries n ≡ true → has_staged (entries ++ entry ∷ []) n ≡ true
staged_more entries entry n e =
    ap (λ h. list_any (λ k. k == n) (staged_numbers h)) (history-snoc entries entry) ∙ staged_on (history entries) entry.moment entry.act n e

-- ---- what the conditions say

module _ (reads : Reads) where
  pub stage_next : (h : History) (m n : ℕ) (delta : List Part) (facts : RowFacts) → MayCome (reading_of reads (config_of reads h) (Stage n delta facts)) (config_of reads h) (state_of reads h) m (Stage n delta facts) →
      n ≡ last_number h + 1
  stage_next h m n delta facts may = by (config_of reads h) may
    where
      by : (c : Option Config) → MayCome (reading_of reads c (Stage n delta facts)) c (state_of reads h) m (Stage n delta facts) → n ≡ last_number h + 1
      by None f = absurd f
      by (Some config) f = f.0

  pub staged_row : (h : History) (m n : ℕ) → Comes reads h m (Publish n) → (row : Row) × (row_at (rows h) n ≡ Some row) × (row.state ≡ Staged)
  staged_row h m n may = by (config_of reads h) may
    where
      by : (c : Option Config) → MayCome (reading_of reads c (Publish n)) c (state_of reads h) m (Publish n) → (row : Row) × (row_at (rows h) n ≡ Some row) × (row.state ≡ Staged)
      by None f = absurd f
      by (Some config) f = let r = the_row (row_at (rows h) n) _ f.0 in (r.0, r.1, r.2.0)

  pub new_row : (h : History) (m new : ℕ) (old : List ℕ) (upto : ℕ) → Comes reads h m (Replace new old upto) → (row : Row) × (row_at (rows h) new ≡ Some row) × (row.state ≡ Staged)
  new_row h m new old upto may = by (config_of reads h) may
    where
      by : (c : Option Config) → MayCome (reading_of reads c (Replace new old upto)) c (state_of reads h) m (Replace new old upto) → (row : Row) × (row_at (rows h) new ≡ Some row) × (row.state ≡ Staged)
      by None f = absurd f
      by (Some config) f = let r = the_row (row_at (rows h) new) _ f.0.0 in (r.0, r.1, r.2.0)

  pub shown_row : (h : History) (m n upto : ℕ) → Comes reads h m (Raise n upto) → (row : Row) × (row_at (rows h) n ≡ Some row) × (row.state ≡ Published)
  shown_row h m n upto may = by (config_of reads h) may
    where
      by : (c : Option Config) → MayCome (reading_of reads c (Raise n upto)) c (state_of reads h) m (Raise n upto) → (row : Row) × (row_at (rows h) n ≡ Some row) × (row.state ≡ Published)
      by None f = absurd f
      by (Some config) f = let r = the_row (row_at (rows h) n) _ f.0 in (r.0, r.1, r.2.0)

  -- the old rows are published
  pub old_rows : (h : History) (m new : ℕ) (old : List ℕ) (upto : ℕ) → Comes reads h m (Replace new old upto) → AllByRecursion (IsIn Published (rows h)) old
  old_rows h m new old upto may = by (config_of reads h) may
    where
      by : (c : Option Config) → MayCome (reading_of reads c (Replace new old upto)) c (state_of reads h) m (Replace new old upto) → AllByRecursion (IsIn Published (rows h)) old
      by None f = absurd f
      by (Some config) f = f.0.1.2

  pub task_next : (h : History) (m opstamp : ℕ) (text : List ℕ) (fields : List (List ℕ)) (times : TimeRange) → Comes reads h m (Task opstamp text fields times) → opstamp ≡ last_opstamp h + 1
  task_next h m opstamp text fields times may = by (config_of reads h) may
    where
      by : (c : Option Config) → MayCome (reading_of reads c (Task opstamp text fields times)) c (state_of reads h) m (Task opstamp text fields times) → opstamp ≡ last_opstamp h + 1
      by None f = absurd f
      by (Some config) f = f.0

  -- the delta of a Publish is allowed over the ledger's checkpoints
  pub admitted : (h : History) (m n : ℕ) → Legal reads h → Comes reads h m (Publish n) → MayAdmit (delta_of h n) (ledger reads h).checkpoints
  admitted h m n legal may = by (config_of reads h) may
    where
      by : (c : Option Config) → MayCome (reading_of reads c (Publish n)) c (state_of reads h) m (Publish n) → MayAdmit (delta_of h n) (ledger reads h).checkpoints
      by None f = absurd f
      by (Some config) f = ((in_words reads h legal (reading_of reads (Some config) (Publish n)) config.settings m (Publish n)).0 f).1

  pub row_below : (h : History) (n : ℕ) (row : Row) → Legal reads h → row_at (rows h) n ≡ Some row → n ≤ last_number h
  row_below h n row l e =
      let s = row_stands (rows h) n row (sound reads h l).held.apart e in
      let low : row.number ≤ last_number h = AllOf-at (λ r. r.number ≤ last_number h) s.before row s.behind (subst (λ rs. AllByRecursion (λ r. r.number ≤ last_number h) rs) s.is (sound reads h l).held.below) in
      subst (λ k. k ≤ last_number h) s.number low

  pub fresh_spans : (h : History) (n : ℕ) (row : Row) → Legal reads h → row_at (rows h) n ≡ Some row → row.state ≡ Staged → row.spans ≡ spans_of (stamp_of h n) (delta_of h n)
  fresh_spans h n row legal found is =
      let at = row_stands (rows h) n row (sound reads h legal).held.apart found in
      subst (λ k. row.spans ≡ spans_of (stamp_of h k) (delta_of h k)) at.number ((held (Traced h) (last_number h) (rows h) n row at (sound reads h legal).held).fresh is)

  pub shown_le : (h : History) (n : ℕ) → Legal reads h → is_shown h n ≡ true → n ≤ last_number h
  shown_le Start n l e = absurd (true_false (sym e))
  shown_le (h ▸ entry) n l e = by entry.act l.1.1 (shown_le h n l.0) e
    where
      by : (act : Act) → Comes reads h entry.moment act → (is_shown h n ≡ true → n ≤ last_number h) → is_shown (h ▸ record { moment = entry.moment; act = act }) n ≡ true →
          n ≤ last_number (h ▸ record { moment = entry.moment; act = act })
      by Fence may more e = more e
      by (Create config) may more e = more e
      by (Stage number delta facts) may more e = let le : n ≤ last_number h = more e in omega (arith, le)
      by (Publish number) may more e = last (any_last (shown_numbers h) number n e)
        where
          last : (is_shown h n ≡ true) ⊎ (number ≡ n) → n ≤ last_number h
          last (inl old) = more old
          last (inr same) = let r = staged_row h entry.moment number may in let low = row_below h number r.0 l.0 r.1 in omega (arith, low, same)
      by (Replace new old upto) may more e = last (any_last (shown_numbers h) new n e)
        where
          last : (is_shown h n ≡ true) ⊎ (new ≡ n) → n ≤ last_number h
          last (inl before) = more before
          last (inr same) = let r = new_row h entry.moment new old upto may in let low = row_below h new r.0 l.0 r.1 in omega (arith, low, same)
      by (Raise number upto) may more e = more e
      by (Task opstamp text fields times) may more e = more e
      by (MarkStaged numbers) may more e = more e
      by (Remove numbers) may more e = more e
      by (Retire numbers) may more e = more e
