-- The function gives the choice.
use Rattle.std.proofs.Common.{◌≡◌, ℕ, zero, suc, ◌+◌, ◌*◌, ◌^◌, ◌<◌, ◌≤◌, ◌==◌, Bool, true, false, cond, List, [], ◌∷◌, length, take, min, filter, Option, Some, None, refl, sym, ap, subst, ◌∙◌, inl, inr, arith, Ordering, Less, Equal, Greater, is_lt, true≢false, IsPermutation}
use Rattle.std.specs.Prelude.{sum_by, nat_le, nat_lt, ◌&&◌}
use Rattle.std.specs.Option.{option_map}
use Rattle.std.specs.List.{AllByRecursion}
use Rattle.std.specs.List.Sorted.{IsStrictlySortedBy}
use Rattle.std.specs.Ordering.{ordering_then, ordering_reverse, nat_cmp}
use Rattle.std.proofs.Math.Nat.{pow-zero}
use Rattle.std.proofs.lemmas.Bool.{and_parts, and_from, leb-true, le-leb, cases_lt}
use Rattle.std.proofs.lemmas.Bool.Decides.{nat_tests}
use Rattle.std.proofs.lemmas.List.{length-take, length-take-le}
use Rattle.std.proofs.lemmas.List.Sums.{sum_by-cons}
use Rattle.std.proofs.lemmas.List.Sorted.{IsPermutation-refl, IsPermutation-trans, IsPermutation-sym, IsPermutation-append_right, length_permutation}
use Rattle.index_config.specs.Accepted.{HasPolicyRanges}
use Rattle.index_config.specs.declared.config.Policy.{Policy}
use Rattle.index_config.specs.declared.config.Policy.TheVariants.{StableLog, LimitMerge, NoMerge}
use Rattle.split_states.specs.declared.rows.Row.{Row}
use Rattle.split_states.specs.Rows.{rising_from, row_numbers, RowsRise}
use Rattle.split_states.proofs.Rising.{rise_filter}
use Rattle.merge_policy.specs.Choice.{is_of_level, is_candidate, level_rows, times_order, row_order, merge_factor, max_merge_factor, FitsSplit, IsMerge, Gives, IsChosen}
use Rattle.merge_policy.specs.Chosen.{with_row, in_order, fits_split, fitting, merge_of, given, least_given, level_count, chosen}
use Rattle.merge_policy.proofs.Chosen.{above}
use Rattle.merge_policy.proofs.Levels.{grows, stepped}
use Rattle.merge_policy.proofs.Orders.{All-each, filter_none, row_order_total, sorted_unique}
use Rattle.merge_policy.proofs.Permuted.{IsPermutation-exchange}

-- ---- rows in their order

all_with_row : (P : Row → Type 0) (r : Row) (rows : List Row) → P r → AllByRecursion P rows → AllByRecursion P (with_row r rows)
all_with_row P r [] p h = (p, tt)
all_with_row P r (o ∷ rows) p h =
    let rest = all_with_row P r rows p h.1 in
    elim (is_lt (row_order r o)) as (λ b. AllByRecursion P (cond b (r ∷ o ∷ rows) (o ∷ with_row r rows))) [ true ↦ (p, h) | false ↦ (h.0, rest) ]

all_in_order : (P : Row → Type 0) (rows : List Row) → AllByRecursion P rows → AllByRecursion P (in_order rows)
all_in_order P [] h = tt
all_in_order P (r ∷ rows) h = all_with_row P r (in_order rows) h.0 (all_in_order P rows h.1)

with_row_same : (r : Row) (rows : List Row) → IsPermutation (r ∷ rows) (with_row r rows)
with_row_same r [] = IsPermutation-refl (r ∷ [])
with_row_same r (o ∷ rows) =
    let rest = IsPermutation-append_right (o ∷ []) (r ∷ rows) (with_row r rows) (with_row_same r rows) in
    elim (is_lt (row_order r o)) as (λ b. IsPermutation (r ∷ o ∷ rows) (cond b (r ∷ o ∷ rows) (o ∷ with_row r rows))) [
      | true ↦ IsPermutation-refl (r ∷ o ∷ rows)
      | false ↦ IsPermutation-trans (r ∷ o ∷ rows) (o ∷ r ∷ rows) (o ∷ with_row r rows) (IsPermutation-exchange (r ∷ []) (o ∷ []) rows) rest
    ]

in_order_same : (rows : List Row) → IsPermutation rows (in_order rows)
in_order_same [] = IsPermutation-refl []
in_order_same (r ∷ rows) =
    IsPermutation-trans (r ∷ rows) (r ∷ in_order rows) (with_row r (in_order rows)) (IsPermutation-append_right (r ∷ []) rows (in_order rows) (in_order_same rows)) (with_row_same r (in_order rows))

equal_numbers : (o : Ordering) (a b : ℕ) → ordering_then o (nat_cmp a b) ≡ Equal → a ≡ b
equal_numbers Less a b e = cc
equal_numbers Equal a b e = grind (arith, nat_tests)
equal_numbers Greater a b e = cc

is_less : (o : Ordering) → is_lt o ≡ true → o ≡ Less
is_less Less e = refl
is_less Equal e = absurd (true≢false (sym e))
is_less Greater e = absurd (true≢false (sym e))

back_less : (o p : Ordering) → is_lt o ≡ false → (o ≡ Equal → ⊥) → p ≡ ordering_reverse o → p ≡ Less
back_less Less p no_less apart e = absurd (true≢false no_less)
back_less Equal p no_less apart e = absurd (apart refl)
back_less Greater p no_less apart e = e

with_row_strict : (r : Row) (rows : List Row) → AllByRecursion (λ s. r.number ≡ s.number → ⊥) rows → IsStrictlySortedBy row_order rows → IsStrictlySortedBy row_order (with_row r rows)
unfolding IsStrictlySortedBy
with_row_strict r [] apart sorted = (tt, tt)
with_row_strict r (o ∷ rows) apart sorted = by (is_lt (row_order r o)) refl (with_row_strict r rows apart.1 sorted.1)
  where
    by : (b : Bool) → is_lt (row_order r o) ≡ b → IsStrictlySortedBy row_order (with_row r rows) → IsStrictlySortedBy row_order (with_row r (o ∷ rows))
    by true e rest =
        let less = is_less (row_order r o) e in
        rw e ((less, All-each (λ s. row_order o s ≡ Less) (λ s. row_order r s ≡ Less) rows (λ s behind. row_order_total.trans r o s less behind) sorted.0), sorted)
    by false e rest =
        let less : row_order o r ≡ Less = back_less (row_order r o) (row_order o r) e (λ equal. apart.0 (equal_numbers (times_order r.facts.times o.facts.times) r.number o.number equal)) (row_order_total.antisymm o r) in
        rw e (all_with_row (λ s. row_order o s ≡ Less) r rows less sorted.0, rest)

in_order_strict : (least : ℕ) (rows : List Row) → rising_from least (row_numbers rows) ≡ true → IsStrictlySortedBy row_order (in_order rows)
unfolding IsStrictlySortedBy
in_order_strict least [] h = tt
in_order_strict least (r ∷ rows) h =
    let parts = and_parts _ (rising_from (r.number + 1) (row_numbers rows)) h in
    with_row_strict r (in_order rows)
    (all_in_order (λ s. r.number ≡ s.number → ⊥) rows (All-each (λ s. r.number + 1 ≤ s.number) (λ s. r.number ≡ s.number → ⊥) rows (λ s up same. omega (arith, up, same)) (above (r.number + 1) rows parts.1)))
    (in_order_strict (r.number + 1) rows parts.1)

-- ---- the longest prefix that fits

fits_so : (rows : List Row) → fits_split rows ≡ true → FitsSplit rows
fits_so rows e =
    let parts = and_parts _ (nat_le (sum_by (λ row. row.facts.weight) rows) 268435456) e in
    record { docs = leb-true _ 16777216 parts.0; weight = leb-true _ 268435456 parts.1 }

fits_true : (rows : List Row) → FitsSplit rows → fits_split rows ≡ true
fits_true rows f = and_from _ (nat_le (sum_by (λ row. row.facts.weight) rows) 268435456) (le-leb _ 16777216 f.docs) (le-leb _ 268435456 f.weight)

record Longest (most : ℕ) (level merged : List Row) : Type 0 where
  pub first : merged ≡ take (length merged) level
  pub bounded : length merged ≤ most
  pub fits : FitsSplit merged
  pub longest : (n : ℕ) → n ≤ most → FitsSplit (take n level) → n ≤ length merged

fitting_is : (most : ℕ) (level : List Row) → most ≤ length level → Longest most level (fitting most level)
fitting_is zero level short = record { first = refl; bounded = omega arith; fits = record { docs = omega arith; weight = omega arith }; longest = λ n le f. le }
fitting_is (suc n) level short = by (fits_split (take (suc n) level)) refl (fitting_is n level (omega arith))
  where
    by : (b : Bool) → fits_split (take (suc n) level) ≡ b → Longest n level (fitting n level) → Longest (suc n) level (fitting (suc n) level)
    by true e less =
        let long : length (take (suc n) level) ≡ suc n = length-take-le (suc n) level short in
        rw e (record {
          first = ap (λ (k : ℕ). take k level) (sym long);
          bounded = omega (arith, long);
          fits = fits_so (take (suc n) level) e;
          longest = λ m le f. omega (arith, long, le);
        })
    by false e less =
        let bound = less.bounded in
        rw e (record {
          first = less.first;
          bounded = omega (arith, bound);
          fits = less.fits;
          longest = λ m le f. longer m le f;
        })
      where
        longer : (m : ℕ) → m ≤ suc n → FitsSplit (take m level) → m ≤ length (fitting n level)
        longer m le f = elim (cases_lt n m) [
          | inl past ↦ let same : m ≡ suc n = omega (arith, past, le) in absurd (true≢false (sym (ap (λ (k : ℕ). fits_split (take k level)) (sym same) ∙ fits_true (take m level) f) ∙ e))
          | inr within ↦ less.longest m within f
        ]

-- ---- what a level gives

merged_some : (factor greatest : ℕ) (level merged : List Row) → merge_of factor greatest level ≡ Some merged → IsMerge factor greatest level merged
merged_some factor greatest level merged e = by (nat_le factor (length level)) (nat_le 2 (length fit)) refl refl
  where
    most : ℕ
    most = min greatest (length level)

    fit : List Row
    fit = fitting (min greatest (length level)) level

    is : Longest (min greatest (length level)) level (fitting (min greatest (length level)) level)
    is = fitting_is (min greatest (length level)) level (omega arith)

    by : (a b : Bool) → nat_le factor (length level) ≡ a → nat_le 2 (length (fitting (min greatest (length level)) level)) ≡ b → IsMerge factor greatest level merged
    by true true ea eb =
        let found : Some (fitting (min greatest (length level)) level) ≡ Some merged = rw (ea, eb) at e in
        let same : fitting (min greatest (length level)) level ≡ merged = cc found in
        subst (IsMerge factor greatest level) same (record {
          enough = leb-true factor (length level) ea;
          first = is.first;
          bounded = let low = is.bounded in omega (arith, low);
          fits = is.fits;
          longest = λ n within below f. is.longest n (omega (arith, within, below)) f;
          several = leb-true 2 (length (fitting (min greatest (length level)) level)) eb;
        })
    by true false ea eb = let none : ◌≡◌ {A = Option (List Row)} None (Some merged) = rw (ea, eb) at e in cc
    by false b ea eb = let none : ◌≡◌ {A = Option (List Row)} None (Some merged) = rw ea at e in cc

merged_none : (factor greatest : ℕ) (level other : List Row) → merge_of factor greatest level ≡ None → IsMerge factor greatest level other → ⊥
merged_none factor greatest level other e m =
    let is = fitting_is (min greatest (length level)) level (omega arith) in
    let cut = length-take (length other) level in
    let same = ap length m.first in
    let within : length other ≤ min greatest (length level) = let bound = m.bounded in omega (arith, cut, same, bound) in
    let long = is.longest (length other) within (subst FitsSplit m.first m.fits) in
    let several = m.several in
    let a : nat_le factor (length level) ≡ true = le-leb factor (length level) m.enough in
    let b : nat_le 2 (length (fitting (min greatest (length level)) level)) ≡ true = le-leb 2 (length (fitting (min greatest (length level)) level)) (omega (arith, long, several)) in
    let found : Some (fitting (min greatest (length level)) level) ≡ None = rw (a, b) at e in
    cc

module _ (policy : Policy) (target now : ℕ) (rows : List Row) (rise : RowsRise rows) where
  abbrev at_level : ℕ → List Row
  at_level k = level_rows policy target now rows k

  strict_level : (k : ℕ) → IsStrictlySortedBy row_order (in_order (level_rows policy target now rows k))
  strict_level k =
      in_order_strict 0 (level_rows policy target now rows k)
      (rise_filter (is_of_level policy k) (filter (is_candidate policy target now) rows) (rise_filter (is_candidate policy target now) rows rise))

  given_some : (k : ℕ) (merged : List Row) → given policy target now rows k ≡ Some merged → Gives policy target now rows k merged
  given_some k merged e =
      record {
        level = in_order (level_rows policy target now rows k);
        same = in_order_same (level_rows policy target now rows k);
        in_order = strict_level k;
        is_merge = merged_some (merge_factor policy) (max_merge_factor policy) (in_order (level_rows policy target now rows k)) merged e;
      }

  given_none : (k : ℕ) (other : List Row) → given policy target now rows k ≡ None → Gives policy target now rows k other → ⊥
  given_none k other e g =
      let moved = IsPermutation-trans _ _ _ (IsPermutation-sym _ _ g.same) (in_order_same (level_rows policy target now rows k)) in
      let same = sorted_unique row_order row_order_total g.level (in_order (level_rows policy target now rows k)) g.in_order moved (strict_level k) in
      merged_none (merge_factor policy) (max_merge_factor policy) (in_order (level_rows policy target now rows k)) other e
      (subst (λ (l : List Row). IsMerge (merge_factor policy) (max_merge_factor policy) l other) (sym same) g.is_merge)

  -- ---- the least level

  least_some : (k count : ℕ) (merged : List Row) → least_given policy target now rows k count ≡ Some merged →
      (level : ℕ) × Gives policy target now rows level merged × ((j : ℕ) (other : List Row) → k ≤ j → Gives policy target now rows j other → level ≤ j)
  least_some k zero merged e = cc
  least_some k (suc count) merged e = by (given policy target now rows k) refl (least_some (suc k) count merged)
    where
      by : (o : Option (List Row)) → given policy target now rows k ≡ o →
          (least_given policy target now rows (suc k) count ≡ Some merged →
          (level : ℕ) × Gives policy target now rows level merged × ((j : ℕ) (other : List Row) → suc k ≤ j → Gives policy target now rows j other → level ≤ j)) →
          (level : ℕ) × Gives policy target now rows level merged × ((j : ℕ) (other : List Row) → k ≤ j → Gives policy target now rows j other → level ≤ j)
      by (Some m) o more =
          let found : Some m ≡ Some merged = rw o at e in
          let same : m ≡ merged = cc found in
          (k, given_some k merged (o ∙ ap Some same), λ j other le g. le)
      by None o more =
          let later : least_given policy target now rows (suc k) count ≡ Some merged = rw o at e in
          let r = more later in (
            r.0,
            r.1,
            λ j other le g. elim (cases_lt k j) [
              | inl past ↦ r.2 j other (omega (arith, past)) g
              | inr most ↦ let same : k ≡ j = omega (arith, le, most) in absurd (given_none k other o (subst (λ (i : ℕ). Gives policy target now rows i other) (sym same) g))
            ],
          )

  least_none : (k count : ℕ) → least_given policy target now rows k count ≡ None → (j : ℕ) (other : List Row) → k ≤ j → j < k + count → Gives policy target now rows j other → ⊥
  least_none k zero e j other le lt g = omega (arith, le, lt)
  least_none k (suc count) e j other le lt g = by (given policy target now rows k) refl (least_none (suc k) count)
    where
      by : (o : Option (List Row)) → given policy target now rows k ≡ o →
          (least_given policy target now rows (suc k) count ≡ None → (i : ℕ) (m : List Row) → suc k ≤ i → i < suc k + count → Gives policy target now rows i m → ⊥) → ⊥
      by (Some m) o more = let found : Some m ≡ None = rw o at e in cc
      by None o more =
          let later : least_given policy target now rows (suc k) count ≡ None = rw o at e in
          elim (cases_lt k j) [
            | inl past ↦ more later j other (omega (arith, past)) (omega (arith, lt)) g
            | inr most ↦ let same : k ≡ j = omega (arith, le, most) in given_none k other o (subst (λ (i : ℕ). Gives policy target now rows i other) (sym same) g)
          ]

-- ---- above all levels

reaches : (least factor k : ℕ) → 1 ≤ least → 2 ≤ factor → k + 1 ≤ least * factor ^ k
reaches least factor zero one two = let e : least * factor ^ zero ≡ least = rw pow-zero (omega arith) in omega (arith, e, one)
reaches least factor (suc k) one two =
    let low = reaches least factor k one two in
    let more = grows (least * factor ^ k) factor two (omega (arith, low)) in
    let e = stepped least factor k (least * factor ^ k) refl in
    let next : least * factor ^ (k + 1) ≡ least * factor ^ suc k = ap (λ (n : ℕ). least * factor ^ n) (omega arith) in
    omega (arith, low, more, e, next)

no_le : (a b : ℕ) (c : Bool) → b < a → (nat_le a b && c) ≡ false
no_le a b true lt = grind (arith, nat_tests)
no_le a b false lt = grind (arith, nat_tests)

no_eq : (a b : ℕ) → a < b → (a == b) ≡ false
no_eq a b lt = grind (arith, nat_tests)

past_level : (policy : Policy) (j : ℕ) (row : Row) → HasPolicyRanges policy → row.facts.docs + (row.merge_ops + 2) ≤ j → is_of_level policy j row ≡ false
past_level (StableLog least factor greatest period) zero row ranges le = absurd (omega arith)
past_level (StableLog least factor greatest period) (suc k) row ranges le =
    let far = reaches least factor k ranges.0.0 ranges.1.0 in
    no_le (least * factor ^ k) row.facts.docs (nat_lt row.facts.docs (least * factor ^ suc k)) (omega (arith, far, le))
past_level (LimitMerge factor greatest ops period) j row ranges le = no_eq row.merge_ops j (omega (arith, le))
past_level NoMerge j row ranges le = refl

past_all : (policy : Policy) (target now j : ℕ) (rows : List Row) → HasPolicyRanges policy → level_count rows ≤ j → AllByRecursion (λ row. is_of_level policy j row ≡ false) (filter (is_candidate policy target now) rows)
past_all policy target now j [] ranges le = tt
past_all policy target now j (r ∷ rows) ranges le =
    let split = sum_by-cons (λ (row : Row). row.facts.docs + (row.merge_ops + 2)) r rows in
    let rest = past_all policy target now j rows ranges (omega (arith, split, le)) in
    let first = past_level policy j r ranges (omega (arith, split, le)) in
    elim (is_candidate policy target now r) as (λ b. AllByRecursion (λ row. is_of_level policy j row ≡ false) (cond b (r ∷ filter (is_candidate policy target now) rows) (filter (is_candidate policy target now) rows))) [
      | true ↦ (first, rest)
      | false ↦ rest
    ]

past_gives : (policy : Policy) (target now j : ℕ) (rows other : List Row) → HasPolicyRanges policy → level_count rows ≤ j → Gives policy target now rows j other → ⊥
past_gives policy target now j rows other ranges le g =
    let none : level_rows policy target now rows j ≡ [] = filter_none (is_of_level policy j) (filter (is_candidate policy target now) rows) (past_all policy target now j rows ranges le) in
    let long = length_permutation (level_rows policy target now rows j) g.level g.same in
    let zero_long : length (level_rows policy target now rows j) ≡ 0 = ap length none in
    let cut = length-take (length other) g.level in
    let same = ap length g.is_merge.first in
    let several = g.is_merge.several in
    omega (arith, long, zero_long, cut, same, several)

-- THE FUNCTION GIVES THE CHOICE
pub chosen_is : (policy : Policy) (target now : ℕ) (rows : List Row) → HasPolicyRanges policy → RowsRise rows → IsChosen policy target now rows (chosen policy target now rows)
chosen_is policy target now rows ranges rise = by (least_given policy target now rows 0 (level_count rows)) refl
  where
    by : (o : Option (List Row)) → least_given policy target now rows 0 (level_count rows) ≡ o → IsChosen policy target now rows (option_map row_numbers o)
    by None e = λ k merged g. elim (cases_lt k (level_count rows)) [
      | inl within ↦ least_none policy target now rows rise 0 (level_count rows) e k merged (omega arith) (omega (arith, within)) g
      | inr past ↦ past_gives policy target now k rows merged ranges past g
    ]
    by (Some merged) e =
        let r = least_some policy target now rows rise 0 (level_count rows) merged e in
        record { level = r.0; merged = merged; gives = r.1; least = λ k other g. r.2 k other (omega arith) g; numbers_are = refl }
