-- Which rows are planned: published ones, and those of a merge make one split.
use Rattle.std.proofs.Common.{◌≡◌, ℕ, zero, suc, ◌+◌, ◌≤◌, Bool, true, false, cond, List, [], ◌∷◌, filter, find, length, take, min, refl, sym, ap, subst, arith, Option, Some, None, is_lt}
use Rattle.std.specs.Prelude.{filter_map, nat_le, nat_lt, sum_by, ◌&&◌, option_to_list}
use Rattle.std.specs.Option.{option_map, option_or}
use Rattle.std.specs.List.{AllByRecursion}
use Rattle.std.proofs.lemmas.Bool.{and_parts, leb-true}
use Rattle.index_config.specs.declared.config.Policy.{Policy}
use Rattle.merge_policy.specs.Choice.{FitsSplit, is_candidate, is_immature, is_of_level, is_counted, level_rows, maturation_period, max_docs, max_merge_factor, max_weight, merge_factor, row_order}
use Rattle.merge_policy.specs.Chosen.{chosen, fits_split, fitting, given, in_order, least_given, level_count, merge_of, with_row}
use Rattle.index_config.specs.declared.config.Policy.TheVariants as policies
use Rattle.meta_store.specs.Planning.{config_fits, is_behind, is_within, policy_fits, rows_for, rows_of}
use Rattle.meta_store.specs.declared.config.Config.{Config}
use Rattle.meta_store.specs.declared.planning.Choice.TheVariants as choices
use Rattle.split_states.specs.Rows.{is_published, row_at, row_numbers}
use Rattle.split_states.specs.declared.rows.Row.{Row}

-- ---- what holds of rows holds of those that are taken of them

all_filter : (P Q : Row → Type 0) (p : Row → Bool) (rows : List Row) → ((row : Row) → p row ≡ true → P row → Q row) → AllByRecursion P rows → AllByRecursion Q (filter p rows)
all_filter P Q p [] f h = tt
all_filter P Q p (r ∷ rows) f h = by (p r) refl (all_filter P Q p rows f h.1)
  where
    by : (b : Bool) → p r ≡ b → AllByRecursion Q (filter p rows) → AllByRecursion Q (cond b (r ∷ filter p rows) (filter p rows))
    by true e rest = (f r e h.0, rest)
    by false e rest = rest

all_with_row : (P : Row → Type 0) (r : Row) (rows : List Row) → P r → AllByRecursion P rows → AllByRecursion P (with_row r rows)
all_with_row P r [] p h = (p, tt)
all_with_row P r (o ∷ rows) p h =
    let rest = all_with_row P r rows p h.1 in
    elim (is_lt (row_order r o)) as (λ b. AllByRecursion P (cond b (r ∷ o ∷ rows) (o ∷ with_row r rows))) [ true ↦ (p, h) | false ↦ (h.0, rest) ]

all_in_order : (P : Row → Type 0) (rows : List Row) → AllByRecursion P rows → AllByRecursion P (in_order rows)
all_in_order P [] h = tt
all_in_order P (r ∷ rows) h = all_with_row P r (in_order rows) h.0 (all_in_order P rows h.1)

all_take : (P : Row → Type 0) (n : ℕ) (rows : List Row) → AllByRecursion P rows → AllByRecursion P (take n rows)
all_take P zero [] h = tt
all_take P zero (r ∷ rows) h = tt
all_take P (suc n) [] h = tt
all_take P (suc n) (r ∷ rows) h = (h.0, all_take P n rows h.1)

-- ---- the choice of a merge

-- rows for which a property holds, which one split can hold, and so many at most
abbrev pub Fit : ℕ → (Row → Type 0) → List Row → Type 0
Fit most P rows = AllByRecursion P rows × FitsSplit rows × (length rows ≤ most)

few_taken : (n : ℕ) (rows : List Row) → length (take n rows) ≤ n
few_taken zero rows = omega arith
few_taken (suc n) [] = omega arith
few_taken (suc n) (r ∷ rows) = let rest = few_taken n rows in omega (arith, rest)

fits_none : FitsSplit []
fits_none = record { docs = omega arith; weight = omega arith }

fits_of : (rows : List Row) → fits_split rows ≡ true → FitsSplit rows
fits_of rows e =
    let both = and_parts (nat_le (sum_by (λ (row : Row). row.facts.docs) rows) max_docs) (nat_le (sum_by (λ (row : Row). row.facts.weight) rows) max_weight) e in
    record { docs = leb-true _ _ both.0; weight = leb-true _ _ both.1 }

fitting_fit : (P : Row → Type 0) (n : ℕ) (rows : List Row) → AllByRecursion P rows → Fit n P (fitting n rows)
fitting_fit P zero rows h = (tt, fits_none, omega arith)
fitting_fit P (suc n) rows h = by (fits_split (take (suc n) rows)) refl (fitting_fit P n rows h)
  where
    by : (b : Bool) → fits_split (take (suc n) rows) ≡ b → Fit n P (fitting n rows) → Fit (suc n) P (cond b (take (suc n) rows) (fitting n rows))
    by true e rest = (all_take P (suc n) rows h, fits_of (take (suc n) rows) e, few_taken (suc n) rows)
    by false e rest = let few = rest.2 in (rest.0, rest.1, omega (arith, few))

abbrev pub FitIf : ℕ → (Row → Type 0) → Option (List Row) → Type 0
FitIf most P None = Unit {0}
FitIf most P (Some rows) = Fit most P rows

merge_fit : (P : Row → Type 0) (factor greatest : ℕ) (level : List Row) → AllByRecursion P level → FitIf greatest P (merge_of factor greatest level)
merge_fit P factor greatest level h =
    let fit = fitting_fit P (min greatest (length level)) level h in
    let few = fit.2 in
    elim (nat_le factor (length level) && nat_le 2 (length (fitting (min greatest (length level)) level))) as (λ b. FitIf greatest P (cond b (Some (fitting (min greatest (length level)) level)) None)) [
      | true ↦ (fit.0, fit.1, omega (arith, few))
      | false ↦ tt
    ]

module _ (P Q : Row → Type 0) (policy : Policy) (target now : ℕ) (rows : List Row) (f : (row : Row) → is_published row.state ≡ true → P row → Q row) (h : AllByRecursion P rows) where
  candidate_is : (row : Row) → is_candidate policy target now row ≡ true → P row → Q row
  candidate_is row e p =
      let immature = (and_parts (is_immature policy target now row) (is_counted policy row) e).0 in
      let first = (and_parts (is_published row.state && nat_lt row.facts.docs target) (nat_lt now (row.staged_at + maturation_period policy)) immature).0 in
      f row (and_parts (is_published row.state) (nat_lt row.facts.docs target) first).0 p

  level_all : (k : ℕ) → AllByRecursion Q (level_rows policy target now rows k)
  level_all k = all_filter Q Q (is_of_level policy k) (filter (is_candidate policy target now) rows) (λ row e q. q) (all_filter P Q (is_candidate policy target now) rows candidate_is h)

  abbrev most : ℕ
  most = max_merge_factor policy

  given_fit : (k : ℕ) → FitIf most Q (given policy target now rows k)
  given_fit k = merge_fit Q (merge_factor policy) (max_merge_factor policy) (in_order (level_rows policy target now rows k)) (all_in_order Q (level_rows policy target now rows k) (level_all k))

  or_fit : (a b : Option (List Row)) → FitIf most Q a → FitIf most Q b → FitIf most Q (option_or a b)
  or_fit None b p q = q
  or_fit (Some list) b p q = p

  pub least_fit : (k count : ℕ) → FitIf most Q (least_given policy target now rows k count)
  least_fit k zero = tt
  least_fit k (suc count) = or_fit (given policy target now rows k) (least_given policy target now rows (suc k) count) (given_fit k) (least_fit (suc k) count)

-- a policy whose numbers lie in their ranges merges few rows at once
few_merged : (policy : Policy) → policy_fits policy ≡ true → max_merge_factor policy ≤ 100
few_merged (policies.StableLog least factor greatest period) e =
    let second = (and_parts (is_within 1 16777216 least) _ e).1 in
    let third = (and_parts (is_within 2 100 factor) _ second).1 in
    let here = (and_parts (is_within factor 100 greatest) _ third).0 in
    leb-true greatest 100 (and_parts (nat_le factor greatest) (nat_le greatest 100) here).1
few_merged (policies.LimitMerge factor greatest ops period) e =
    let second = (and_parts (is_within 2 100 factor) _ e).1 in
    let here = (and_parts (is_within factor 100 greatest) _ second).0 in
    leb-true greatest 100 (and_parts (nat_le factor greatest) (nat_le greatest 100) here).1
few_merged policies.NoMerge e = omega arith

-- the rows of the numbers of rows are these
pub named : (rows merged : List Row) → AllByRecursion (λ row. row_at rows row.number ≡ Some row) merged → filter_map (row_at rows) (row_numbers merged) ≡ merged
named rows [] h = refl
named rows (row ∷ merged) h = rw h.0 (ap (λ l. row ∷ l) (named rows merged h.1))

-- A published row with what is known of it.
abbrev Found : List Row → (Row → Type 0) → Row → Type 0
Found rows Q row = (row_at rows row.number ≡ Some row) × Q row

all_first : (rows : List Row) (Q : Row → Type 0) (list : List Row) → AllByRecursion (Found rows Q) list → AllByRecursion (λ row. row_at rows row.number ≡ Some row) list
all_first rows Q [] h = tt
all_first rows Q (row ∷ list) h = (h.0.0, all_first rows Q list h.1)

all_second : (rows : List Row) (Q : Row → Type 0) (list : List Row) → AllByRecursion (Found rows Q) list → AllByRecursion Q list
all_second rows Q [] h = tt
all_second rows Q (row ∷ list) h = (h.0.1, all_second rows Q list h.1)

module _ (Q : Row → Type 0) (rows : List Row) (h : AllByRecursion (λ row. (row_at rows row.number ≡ Some row) × (is_published row.state ≡ true → Q row)) rows) where
  merged_fit : (greatest : ℕ) (merged : Option (List Row)) → FitIf greatest (Found rows Q) merged → Fit greatest Q (rows_of rows (option_map row_numbers merged))
  merged_fit greatest None fit = (tt, fits_none, omega arith)
  merged_fit greatest (Some merged) fit = subst (Fit greatest Q) (sym (named rows merged (all_first rows Q merged fit.0))) (all_second rows Q merged fit.0, fit.1, fit.2)

  -- THE ROWS OF A MERGE: what holds of each published row holds of each of them, one split can hold them, and they are few
  pub merge_rows : (config : Option Config) (now last : ℕ) → Fit 100 Q (rows_for config choices.Merge now last rows)
  merge_rows None now last = (tt, fits_none, omega arith)
  merge_rows (Some config) now last = by (config_fits config.settings.index) refl
    where
      by : (b : Bool) → config_fits config.settings.index ≡ b → Fit 100 Q (cond b (rows_of rows (chosen config.settings.index.policy config.settings.index.docs_target now rows)) [])
      by false e = (tt, fits_none, omega arith)
      by true e =
          let index = config.settings.index in
          let fit = merged_fit (max_merge_factor index.policy) (least_given index.policy index.docs_target now rows 0 (level_count rows))
          (least_fit (λ row. (row_at rows row.number ≡ Some row) × (is_published row.state ≡ true → Q row)) (Found rows Q) index.policy index.docs_target now rows (λ row e p. (p.0, p.1 e)) h 0 (level_count rows)) in
          let few = fit.2 in
          let bound = few_merged index.policy (and_parts (policy_fits index.policy) _ e).0 in
          (fit.0, fit.1, omega (arith, few, bound))

  -- THE ROW OF DELETES: what holds of each published row holds of it
  pub delete_rows : (config : Option Config) (now last : ℕ) → AllByRecursion Q (rows_for config choices.Deletes now last rows) × (length (rows_for config choices.Deletes now last rows) ≤ 1)
  delete_rows None now last = (tt, omega arith)
  delete_rows (Some config) now last = first rows h
    where
      first : (list : List Row) → AllByRecursion (λ row. (row_at rows row.number ≡ Some row) × (is_published row.state ≡ true → Q row)) list →
          AllByRecursion Q (option_to_list (find (is_behind last) list)) × (length (option_to_list (find (is_behind last) list)) ≤ 1)
      first [] all = (tt, omega arith)
      first (r ∷ list) all = by (is_behind last r) refl (first list all.1)
        where
          by : (b : Bool) → is_behind last r ≡ b → AllByRecursion Q (option_to_list (find (is_behind last) list)) × (length (option_to_list (find (is_behind last) list)) ≤ 1) →
              AllByRecursion Q (option_to_list (cond b (Some r) (find (is_behind last) list))) × (length (option_to_list (cond b (Some r) (find (is_behind last) list))) ≤ 1)
          by true e rest = ((all.0.1 (and_parts (is_published r.state) _ e).0, tt), omega arith)
          by false e rest = rest
