-- Each row is planned once.
use Rattle.std.proofs.Common.{◌≡◌, ℕ, zero, suc, ◌==◌, ◌||◌, ◌&&◌, Bool, true, false, cond, List, [], ◌∷◌, filter, find, length, take, min, refl, sym, ap₂, subst, Option, Some, None, is_lt}
use Rattle.std.specs.Prelude.{nat_le, option_to_list}
use Rattle.std.specs.Option.{option_map, option_or}
use Rattle.std.specs.List.{AllByRecursion}
use Rattle.std.proofs.lemmas.Bool.{eqb-false, ne_eqb, or_parts}
use Rattle.index_config.specs.declared.config.Policy.{Policy}
use Rattle.merge_policy.specs.Choice.{is_candidate, is_of_level, level_rows, max_merge_factor, merge_factor, row_order}
use Rattle.merge_policy.specs.Chosen.{chosen, fits_split, fitting, given, in_order, least_given, level_count, merge_of, with_row}
use Rattle.meta_store.proofs.RowLists.{EachNumberOnce}
use Rattle.meta_store.specs.Planning.{config_fits, is_behind, rows_for, rows_of}
use Rattle.meta_store.specs.declared.config.Config.{Config}
use Rattle.meta_store.specs.declared.planning.Choice.TheVariants as choices
use Rattle.split_states.specs.Answers.{AreApart, Repeats}
use Rattle.split_states.specs.Rows.{row_at, row_numbers}
use Rattle.split_states.specs.declared.rows.Row.{Row}
use Rattle.upkeep_run.proofs.PlannedRows.{FitIf, least_fit, named}

abbrev pub Apart : List Row → Type 0
Apart rows = AreApart (row_numbers rows)

abbrev Lacks : List Row → ℕ → Type 0
Lacks rows n = Repeats (row_numbers rows) n ≡ false

or_none : (a b : Bool) → a ≡ false → b ≡ false → (a || b) ≡ false
or_none a b e f = ap₂ ◌||◌ e f

other_way : (m n : ℕ) → (m == n) ≡ false → (n == m) ≡ false
other_way m n e = ne_eqb n m (λ same. eqb-false m n e (sym same))

lacks_none : (rows : List Row) (n : ℕ) → row_at rows n ≡ None → Lacks rows n
lacks_none [] n e = refl
lacks_none (r ∷ rows) n e = by (r.number == n) refl e (lacks_none rows n)
  where
    by : (b : Bool) → (r.number == n) ≡ b → cond b (Some r) (row_at rows n) ≡ None → (row_at rows n ≡ None → Lacks rows n) → Lacks (r ∷ rows) n
    by true t s rest = cc
    by false t s rest = or_none (r.number == n) (Repeats (row_numbers rows) n) t (rest s)

pub rows_apart : (rows : List Row) → EachNumberOnce rows → Apart rows
rows_apart [] h = tt
rows_apart (r ∷ rows) h = (lacks_none rows r.number h.0, rows_apart rows h.1)

-- ---- of rows that are taken of others

lacks_filter : (p : Row → Bool) (rows : List Row) (n : ℕ) → Lacks rows n → Lacks (filter p rows) n
lacks_filter p [] n h = refl
lacks_filter p (r ∷ rows) n h = let both = or_parts (r.number == n) (Repeats (row_numbers rows) n) h in by (p r) both.0 (lacks_filter p rows n both.1)
  where
    by : (b : Bool) → (r.number == n) ≡ false → Lacks (filter p rows) n → Lacks (cond b (r ∷ filter p rows) (filter p rows)) n
    by true away rest = or_none (r.number == n) (Repeats (row_numbers (filter p rows)) n) away rest
    by false away rest = rest

apart_filter : (p : Row → Bool) (rows : List Row) → Apart rows → Apart (filter p rows)
apart_filter p [] h = tt
apart_filter p (r ∷ rows) h = by (p r) (apart_filter p rows h.1)
  where
    by : (b : Bool) → Apart (filter p rows) → Apart (cond b (r ∷ filter p rows) (filter p rows))
    by true rest = (lacks_filter p rows r.number h.0, rest)
    by false rest = rest

lacks_with : (r : Row) (rows : List Row) (n : ℕ) → (r.number == n) ≡ false → Lacks rows n → Lacks (with_row r rows) n
lacks_with r [] n e h = or_none (r.number == n) false e refl
lacks_with r (o ∷ rows) n e h = let both = or_parts (o.number == n) (Repeats (row_numbers rows) n) h in by (is_lt (row_order r o)) both.0 (lacks_with r rows n e both.1)
  where
    by : (b : Bool) → (o.number == n) ≡ false → Lacks (with_row r rows) n → Lacks (cond b (r ∷ o ∷ rows) (o ∷ with_row r rows)) n
    by true away rest = or_none (r.number == n) (Repeats (row_numbers (o ∷ rows)) n) e h
    by false away rest = or_none (o.number == n) (Repeats (row_numbers (with_row r rows)) n) away rest

apart_with : (r : Row) (rows : List Row) → Lacks rows r.number → Apart rows → Apart (with_row r rows)
apart_with r [] e h = (refl, tt)
apart_with r (o ∷ rows) e h = let both = or_parts (o.number == r.number) (Repeats (row_numbers rows) r.number) e in by (is_lt (row_order r o)) both.0 (apart_with r rows both.1 h.1)
  where
    by : (b : Bool) → (o.number == r.number) ≡ false → Apart (with_row r rows) → Apart (cond b (r ∷ o ∷ rows) (o ∷ with_row r rows))
    by true away rest = (e, h)
    by false away rest = (lacks_with r rows o.number (other_way o.number r.number away) h.0, rest)

lacks_in_order : (rows : List Row) (n : ℕ) → Lacks rows n → Lacks (in_order rows) n
lacks_in_order [] n h = refl
lacks_in_order (r ∷ rows) n h = let both = or_parts (r.number == n) (Repeats (row_numbers rows) n) h in lacks_with r (in_order rows) n both.0 (lacks_in_order rows n both.1)

apart_in_order : (rows : List Row) → Apart rows → Apart (in_order rows)
apart_in_order [] h = tt
apart_in_order (r ∷ rows) h = apart_with r (in_order rows) (lacks_in_order rows r.number h.0) (apart_in_order rows h.1)

lacks_take : (k : ℕ) (rows : List Row) (n : ℕ) → Lacks rows n → Lacks (take k rows) n
lacks_take zero [] n h = refl
lacks_take zero (r ∷ rows) n h = refl
lacks_take (suc k) [] n h = refl
lacks_take (suc k) (r ∷ rows) n h = let both = or_parts (r.number == n) (Repeats (row_numbers rows) n) h in or_none (r.number == n) (Repeats (row_numbers (take k rows)) n) both.0 (lacks_take k rows n both.1)

apart_take : (k : ℕ) (rows : List Row) → Apart rows → Apart (take k rows)
apart_take zero [] h = tt
apart_take zero (r ∷ rows) h = tt
apart_take (suc k) [] h = tt
apart_take (suc k) (r ∷ rows) h = (lacks_take k rows r.number h.0, apart_take k rows h.1)

apart_fitting : (n : ℕ) (rows : List Row) → Apart rows → Apart (fitting n rows)
apart_fitting zero rows h = tt
apart_fitting (suc n) rows h = by (fits_split (take (suc n) rows)) (apart_fitting n rows h)
  where
    by : (b : Bool) → Apart (fitting n rows) → Apart (cond b (take (suc n) rows) (fitting n rows))
    by true rest = apart_take (suc n) rows h
    by false rest = rest

-- ---- the choice of a merge

abbrev ApartIf : Option (List Row) → Type 0
ApartIf None = Unit {0}
ApartIf (Some rows) = Apart rows

merge_apart : (factor greatest : ℕ) (level : List Row) → Apart level → ApartIf (merge_of factor greatest level)
merge_apart factor greatest level h = by (nat_le factor (length level) && nat_le 2 (length (fitting (min greatest (length level)) level)))
  where
    by : (b : Bool) → ApartIf (cond b (Some (fitting (min greatest (length level)) level)) None)
    by true = apart_fitting (min greatest (length level)) level h
    by false = tt

module _ (policy : Policy) (target now : ℕ) (rows : List Row) (h : Apart rows) where
  given_apart : (k : ℕ) → ApartIf (given policy target now rows k)
  given_apart k =
      merge_apart (merge_factor policy) (max_merge_factor policy) (in_order (level_rows policy target now rows k))
      (apart_in_order (level_rows policy target now rows k) (apart_filter (is_of_level policy k) (filter (is_candidate policy target now) rows) (apart_filter (is_candidate policy target now) rows h)))

  or_apart : (a b : Option (List Row)) → ApartIf a → ApartIf b → ApartIf (option_or a b)
  or_apart None b p q = q
  or_apart (Some list) b p q = p

  least_apart : (k count : ℕ) → ApartIf (least_given policy target now rows k count)
  least_apart k zero = tt
  least_apart k (suc count) = or_apart (given policy target now rows k) (least_given policy target now rows (suc k) count) (given_apart k) (least_apart (suc k) count)

module _ (rows : List Row) (h : Apart rows) (own : AllByRecursion (λ row. row_at rows row.number ≡ Some row) rows) where
  merged_apart : (most : ℕ) (merged : Option (List Row)) → ApartIf merged → FitIf most (λ row. row_at rows row.number ≡ Some row) merged → Apart (rows_of rows (option_map row_numbers merged))
  merged_apart most None a fit = tt
  merged_apart most (Some merged) a fit = subst Apart (sym (named rows merged fit.0)) a

  -- THE ROWS OF A MERGE are different
  pub merge_once : (config : Option Config) (now last : ℕ) → Apart (rows_for config choices.Merge now last rows)
  merge_once None now last = tt
  merge_once (Some config) now last = by (config_fits config.settings.index)
    where
      by : (b : Bool) → Apart (cond b (rows_of rows (chosen config.settings.index.policy config.settings.index.docs_target now rows)) [])
      by false = tt
      by true =
          let index = config.settings.index in
          merged_apart (max_merge_factor index.policy) (least_given index.policy index.docs_target now rows 0 (level_count rows)) (least_apart index.policy index.docs_target now rows h 0 (level_count rows))
          (least_fit (λ row. row_at rows row.number ≡ Some row) (λ row. row_at rows row.number ≡ Some row) index.policy index.docs_target now rows (λ row shown p. p) own 0 (level_count rows))

pub delete_once : (rows : List Row) (config : Option Config) (now last : ℕ) → Apart (rows_for config choices.Deletes now last rows)
delete_once rows None now last = tt
delete_once rows (Some config) now last = by (find (is_behind last) rows)
  where
    by : (o : Option Row) → Apart (option_to_list o)
    by None = tt
    by (Some row) = (refl, tt)
