-- The walk over the sorted candidates gives the choice.
use Rattle.std.proofs.Common.{◌≡◌, ◌≢◌, ℕ, ◌+◌, ◌<◌, ◌≤◌, ◌==◌, Bool, true, false, cond, List, [], ◌∷◌, map, filter, Some, None, refl, sym, ap, subst, ◌∙◌, arith, Ordering, Less, Equal, Greater, is_gt, true≢false, IsPermutation, IsSorted}
use Rattle.std.specs.Prelude.{All}
use Rattle.std.specs.List.{AllByRecursion, IsDistinct}
use Rattle.std.specs.List.Sorted.{IsStrictlySortedBy}
use Rattle.std.specs.Cmp.{IsTotalOrder, IsEquivalence}
use Rattle.std.specs.Ordering.{ordering_then, nat_cmp, eq_by_cmp, is_eq}
use Rattle.std.proofs.lemmas.Bool.{and_parts, leb-true}
use Rattle.std.proofs.lemmas.Bool.Decides.{nat_tests}
use Rattle.std.proofs.lemmas.Cmp.{nat_cmp_total, on_total, eq_by_cmp_equiv}
use Rattle.std.proofs.lemmas.List.Elements.{recursion_from_All}
use Rattle.std.proofs.lemmas.List.Kept.{IsStrictlySortedBy-filter}
use Rattle.std.proofs.lemmas.List.Sorted.{IsPermutation-trans, IsPermutation-sym}
use Rattle.std.proofs.lemmas.Map.Keys.{IsDistinct-from_sorted, IsDistinct-IsPermutation, IsDistinct-head, IsDistinct-tail}
use Rattle.index_config.specs.declared.config.Policy.{Policy}
use Rattle.split_states.specs.declared.rows.Row.{Row}
use Rattle.split_states.specs.Rows.{rising_from, row_numbers, RowsRise}
use Rattle.merge_policy.specs.declared.candidate.Candidate.{Candidate}
use Rattle.merge_policy.specs.Choice.{is_of_level, is_candidate, level_rows, times_order, row_order, merge_factor, max_merge_factor, IsMerge, Gives, IsChosen}
use Rattle.merge_policy.specs.Walk.{rows_of, IsRanked, candidate_order, of_level, LevelsRise, IsMergeAt, IsFirst, IsWalked}
use Rattle.merge_policy.proofs.Orders.{All-each, Ascends, AtMost, ascends_sorted, sorted_unique, row_order_total, candidate_order_total}
use Rattle.merge_policy.proofs.Permuted.{IsPermutation-filter}

abbrev by_number : Row → Row → Ordering
by_number one other = nat_cmp one.number other.number

less_so : (a b : ℕ) → a < b → nat_cmp a b ≡ Less
less_so a b h = grind (arith, nat_tests)

pub above : (least : ℕ) (rows : List Row) → rising_from least (row_numbers rows) ≡ true → AllByRecursion (λ r. least ≤ r.number) rows
above least [] h = tt
above least (r ∷ rows) h =
    let parts = and_parts _ (rising_from (r.number + 1) (row_numbers rows)) h in
    let le = leb-true least r.number parts.0 in
    (le, All-each (λ s. r.number + 1 ≤ s.number) (λ s. least ≤ s.number) rows (λ s p. omega arith) (above (r.number + 1) rows parts.1))

strict_from : (least : ℕ) (rows : List Row) → rising_from least (row_numbers rows) ≡ true → IsStrictlySortedBy by_number rows
unfolding IsStrictlySortedBy
strict_from least [] h = tt
strict_from least (r ∷ rows) h =
    let parts = and_parts _ (rising_from (r.number + 1) (row_numbers rows)) h in
    (All-each (λ s. r.number + 1 ≤ s.number) (λ s. by_number r s ≡ Less) rows (λ s p. less_so r.number s.number (omega arith)) (above (r.number + 1) rows parts.1), strict_from (r.number + 1) rows parts.1)

-- one of the same level stands behind another by the order of rows
level_le : (a b : ℕ) (o : Ordering) → is_gt (ordering_then (nat_cmp a b) o) ≡ false → a ≤ b
level_le a b o h = grind (arith, nat_tests)

equal_so : (a : ℕ) → nat_cmp a a ≡ Equal
equal_so a = grind (arith, nat_tests)

eq_yes : (a b : ℕ) → (a == b) ≡ true → a ≡ b
eq_yes a b h = grind (arith, nat_tests)

rows_follow : (a b : ℕ) (o : Ordering) → a ≡ b → is_gt (ordering_then (nat_cmp a b) o) ≡ false → is_gt o ≡ false
rows_follow a b o e h = let same : nat_cmp a b ≡ Equal = rw e (equal_so b) in rw same at h

module _ (k : ℕ) where
  follow_all : (c : Candidate) (list : List Candidate) → c.level ≡ k → AllByRecursion (AtMost candidate_order c) list → AllByRecursion (AtMost row_order c.row.now) (rows_of (of_level k list))
  follow_all c [] own h = tt
  follow_all c (d ∷ list) own h = go (d.level == k) refl (follow_all c list own h.1)
    where
      go : (b : Bool) → (d.level == k) ≡ b → AllByRecursion (AtMost row_order c.row.now) (rows_of (of_level k list)) → AllByRecursion (AtMost row_order c.row.now) (rows_of (of_level k (d ∷ list)))
      go true e more = rw e (rows_follow c.level d.level (row_order c.row.now d.row.now) (own ∙ sym (eq_yes d.level k e)) h.0, more)
      go false e more = rw e more

  rows_ascend : (list : List Candidate) → Ascends (AtMost candidate_order) list → Ascends (AtMost row_order) (rows_of (of_level k list))
  rows_ascend [] up = tt
  rows_ascend (c ∷ list) up = go (c.level == k) refl (rows_ascend list up.1)
    where
      go : (b : Bool) → (c.level == k) ≡ b → Ascends (AtMost row_order) (rows_of (of_level k list)) → Ascends (AtMost row_order) (rows_of (of_level k (c ∷ list)))
      go true e more = rw e (follow_all c list (eq_yes c.level k e) up.0, more)
      go false e more = rw e more

levels_so : (list : List Candidate) → Ascends (AtMost candidate_order) list → LevelsRise list
levels_so [] up = tt
levels_so (c ∷ list) up =
    (All-each (AtMost candidate_order c) (λ d. c.level ≤ d.level) list (λ d h. level_le c.level d.level (row_order c.row.now d.row.now) h) up.0, levels_so list up.1)

-- rows in order with different numbers are in strict order
strictly : (o : Ordering) (a b : ℕ) → is_gt (ordering_then o (nat_cmp a b)) ≡ false → nat_cmp a b ≢ Equal → ordering_then o (nat_cmp a b) ≡ Less
strictly Less a b h ne = refl
strictly Equal a b h ne = go (nat_cmp a b) h ne
  where
    go : (p : Ordering) → is_gt p ≡ false → p ≢ Equal → p ≡ Less
    go Less h ne = refl
    go Equal h ne = absurd (ne refl)
    go Greater h ne = absurd (true≢false h)
strictly Greater a b h ne = absurd (true≢false h)

strict_both : (r : Row) (rows : List Row) → AllByRecursion (AtMost row_order r) rows → AllByRecursion (λ s. eq_by_cmp by_number r s ≡ false) rows → AllByRecursion (λ s. row_order r s ≡ Less) rows
strict_both r [] up apart = tt
strict_both r (s ∷ rows) up apart =
    (strictly (times_order r.facts.times s.facts.times) r.number s.number up.0 (λ e. true≢false (sym (ap is_eq e) ∙ apart.0)), strict_both r rows up.1 apart.1)

strict_rows : (rows : List Row) → Ascends (AtMost row_order) rows → IsDistinct (eq_by_cmp by_number) rows → IsStrictlySortedBy row_order rows
unfolding IsStrictlySortedBy
strict_rows [] up apart = tt
strict_rows (r ∷ rows) up apart = (strict_both r rows up.0 (IsDistinct-head _ r rows apart), strict_rows rows up.1 (IsDistinct-tail _ r rows apart))

ranked_rows : (policy : Policy) (k : ℕ) (list : List Candidate) → AllByRecursion (IsRanked policy) list → rows_of (of_level k list) ≡ filter (is_of_level policy k) (rows_of list)
ranked_rows policy k [] ranked = refl
ranked_rows policy k (c ∷ list) ranked = go (c.level == k) (ranked.0 k) (ranked_rows policy k list ranked.1)
  where
    go : (b : Bool) → is_of_level policy k c.row.now ≡ b → rows_of (of_level k list) ≡ filter (is_of_level policy k) (rows_of list)
        → rows_of (cond b (c ∷ of_level k list) (of_level k list)) ≡ filter (is_of_level policy k) (rows_of (c ∷ list))
    go true e more = rw e (ap (λ (rows : List Row). c.row.now ∷ rows) more)
    go false e more = rw e more

module _ (policy : Policy) (target now : ℕ) (rows : List Row) (sorted : List Candidate) (rise : RowsRise rows) (moved : IsPermutation (filter (is_candidate policy target now) rows) (rows_of sorted))
    (ranked : All (IsRanked policy) sorted) (up : IsSorted candidate_order sorted) where
  ascend : Ascends (AtMost candidate_order) sorted
  ascend = ascends_sorted candidate_order candidate_order_total sorted up

  pub levels_rise : LevelsRise sorted
  levels_rise = levels_so sorted ascend

  level_same : (k : ℕ) → IsPermutation (level_rows policy target now rows k) (rows_of (of_level k sorted))
  level_same k =
      let whole = IsPermutation-filter (is_of_level policy k) (filter (is_candidate policy target now) rows) (rows_of sorted) moved in
      subst (IsPermutation (level_rows policy target now rows k)) (sym (ranked_rows policy k sorted (recursion_from_All (IsRanked policy) sorted ranked))) whole

  level_strict : (k : ℕ) → IsStrictlySortedBy row_order (rows_of (of_level k sorted))
  level_strict k =
      let numbers : IsTotalOrder by_number = on_total (λ (r : Row). r.number) nat_cmp_total in
      let equal : IsEquivalence (eq_by_cmp by_number) = eq_by_cmp_equiv numbers in
      let own = IsStrictlySortedBy-filter by_number (is_of_level policy k) _ (IsStrictlySortedBy-filter by_number (is_candidate policy target now) rows (strict_from 0 rows rise)) in
      let apart = IsDistinct-IsPermutation (eq_by_cmp by_number) equal.symm _ _ (level_same k) (IsDistinct-from_sorted by_number _ own) in
      strict_rows _ (rows_ascend k sorted ascend) apart

  at_level : (k : ℕ) (merged : List Row) → Gives policy target now rows k merged → IsMergeAt (merge_factor policy) (max_merge_factor policy) sorted k merged
  at_level k merged g =
      let same = IsPermutation-trans _ _ _ (IsPermutation-sym _ _ (level_same k)) g.same in
      let e = sorted_unique row_order row_order_total (rows_of (of_level k sorted)) g.level (level_strict k) same g.in_order in
      subst (λ (l : List Row). IsMerge (merge_factor policy) (max_merge_factor policy) l merged) e g.is_merge

  gives : (k : ℕ) (merged : List Row) → IsMergeAt (merge_factor policy) (max_merge_factor policy) sorted k merged → Gives policy target now rows k merged
  gives k merged at = record { level = rows_of (of_level k sorted); same = level_same k; in_order = level_strict k; is_merge = at }

  pub chosen_none : IsWalked (merge_factor policy) (max_merge_factor policy) sorted None → IsChosen policy target now rows None
  chosen_none walked = λ k merged g. walked k merged (at_level k merged g)

  pub chosen_some : (merged : List Row) (numbers : List ℕ) → IsFirst (merge_factor policy) (max_merge_factor policy) sorted merged → numbers ≡ map (λ row. row.number) merged → IsChosen policy target now rows (Some numbers)
  chosen_some merged numbers walked e = record {
    level = walked.level;
    merged = merged;
    gives = gives walked.level merged walked.is_merge;
    least = λ k other g. walked.least k other (at_level k other g);
    numbers_are = e;
  }
