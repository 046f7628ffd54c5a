-- The values of documents, each with its count, are one list.
use Rattle.std.proofs.Common.{◌≡◌, ℕ, zero, suc, ◌<◌, ◌≤◌, Bool, true, false, cond, List, [], ◌∷◌, length, get_or, map, nat_lt, refl, sym, ◌∙◌, ap, ap₂, subst, arith, inl, inr, All, add-one}
use Rattle.std.specs.Prelude.{Contains, count_by}
use Rattle.std.specs.List.{list_any, remove}
use Rattle.std.specs.List.Sorted.{IsPermutation, IsSorted}
use Rattle.std.proofs.lemmas.Bool.{cases_lt, lt-ltb, le-ltb, or_cases, or_left, or_right, false_from_ne_true}
use Rattle.std.proofs.lemmas.List.Elements.{All-contains, All-head, All-tail, All-weaker}
use Rattle.std.proofs.lemmas.List.Edits.{length-remove}
use Rattle.std.proofs.lemmas.List.Sorted.{sorted_far, sum_by-IsPermutation}
use Rattle.std.proofs.lemmas.List.Sums.{sum_by-remove}
use Rattle.doc_value.specs.declared.doc.Value.{Value}
use Rattle.agg_model.specs.Answers.{AreCounted, rank}
use Rattle.agg_model.specs.Counting.{has_value, is_same, value_count}
use Rattle.doc_value.specs.Documents.{values_in}
use Rattle.agg_model.specs.declared.ranking.ValueCount.{ValueCount}
use Rattle.agg_model.proofs.Order.{rank_order}
use Rattle.agg_nested.specs.Terms.{counted, ranks_before, terms_of, values_of}
use Rattle.agg_nested.proofs.Members.{Documents, all_from, each_from, in_map, map_in, in_flat, flat_in, count_more, none_passes, some_passes, passes_some, one_passes}
use Rattle.agg_nested.proofs.Ordered.{IsOrder, Rises, none_in, here, later, first_or, in_ordered, ordered_in, ordered_rises}
use Rattle.agg_nested.proofs.Ranks.{same_is, is_itself, with_count, ranks_order}

-- ---- the values that some document has

has_some : (v : Value) (vs : List Value) → list_any (λ w. is_same w v) vs ≡ true → Contains vs v
has_some v [] h = absurd cc
has_some v (w ∷ ws) h = elim (or_cases (is_same w v) (list_any (λ u. is_same u v) ws) h) [
  | inl this ↦ subst (λ (u : Value). Contains (w ∷ ws) u) (same_is w v this) (here w ws)
  | inr rest ↦ later w ws v (has_some v ws rest)
]

some_has : (v : Value) (vs : List Value) → Contains vs v → list_any (λ w. is_same w v) vs ≡ true
some_has v [] c = absurd (none_in v c)
some_has v (w ∷ ws) c = elim (first_or w ws v c) [
  | inl same ↦ or_left (is_same w v) (list_any (λ u. is_same u v) ws) (subst (λ (u : Value). is_same w u ≡ true) same (is_itself w))
  | inr there ↦ or_right (is_same w v) (list_any (λ u. is_same u v) ws) (some_has v ws there)
]

module _ (field : ℕ) (documents : Documents) where
  abbrev IsRight : ValueCount → Type 0
  IsRight r = r.count ≡ value_count field documents r.value

  counts_value : (v : Value) → 0 < value_count field documents v → Contains (values_of field documents) v
  counts_value v h =
      let m = passes_some (has_value field v) documents h in
      in_flat (λ d. values_in d field) documents m.0 v m.1 (has_some v (values_in m.0 field) m.2)

  value_counts : (v : Value) → Contains (values_of field documents) v → 0 < value_count field documents v
  value_counts v c =
      let m = flat_in (λ d. values_in d field) documents v c in
      some_passes (has_value field v) documents m.0 m.1 (some_has v (values_in m.0 field) m.2)

  -- ---- they are the terms

  term_is : (r : ValueCount) → Contains (terms_of field documents) r → (r ≡ counted field documents r.value) × (0 < value_count field documents r.value)
  unfolding terms_of
  term_is r c =
      let m = map_in (counted field documents) (values_of field documents) r (ordered_in ranks_before (map (counted field documents) (values_of field documents)) r c) in
      subst (λ (s : ValueCount). (s ≡ counted field documents s.value) × (0 < value_count field documents s.value)) m.2 (refl, value_counts m.0 m.1)

  is_term : (v : Value) → 0 < value_count field documents v → Contains (terms_of field documents) (counted field documents v)
  unfolding terms_of
  is_term v h =
      in_ordered ranks_before ranks_order (map (counted field documents) (values_of field documents)) (counted field documents v)
      (in_map (counted field documents) (values_of field documents) v (counts_value v h))

  terms_rise : Rises ranks_before (terms_of field documents)
  unfolding terms_of
  terms_rise = ordered_rises ranks_before ranks_order (map (counted field documents) (values_of field documents))

  terms_once : (v : Value) → count_by (λ r. is_same r.value v) (terms_of field documents) ≡ cond (nat_lt 0 (value_count field documents v)) 1 0
  terms_once v = elim (cases_lt 0 (value_count field documents v)) [
    | inl some ↦
        one_passes (λ (r : ValueCount). is_same r.value v) ranks_before ranks_order (counted field documents v) (terms_of field documents) terms_rise
        (λ r c e. (term_is r c).0 ∙ ap (counted field documents) (same_is r.value v e)) (is_itself v) (is_term v some)
        ∙ ap (λ b. cond b 1 0) (sym (lt-ltb 0 (value_count field documents v) some))
    | inr none ↦
        none_passes (λ (r : ValueCount). is_same r.value v) (terms_of field documents) (all_from (λ r. is_same r.value v ≡ false) (terms_of field documents)
        (λ r c. false_from_ne_true (is_same r.value v) (λ e.
        let some : 0 < value_count field documents v = subst (λ (w : Value). 0 < value_count field documents w) (same_is r.value v e) (term_is r c).1 in
        absurd (omega (arith, none, some)))))
        ∙ ap (λ b. cond b 1 0) (sym (le-ltb 0 (value_count field documents v) none))
  ]

  pub terms_counted : AreCounted field documents (terms_of field documents)
  terms_counted = record {
    right = each_from IsRight (terms_of field documents) (λ r c. ap (λ (s : ValueCount). s.count) (term_is r c).0);
    once = terms_once;
  }

-- ---- they are sorted

rises_at : {X : Type 0} (below : X → X → Bool) → IsOrder below → (xs : List X) → Rises below xs → (k : ℕ) (d : X) → suc k < length xs → below (get_or xs (suc k) d) (get_or xs k d) ≡ false
rises_at below laws [] h k d l = absurd (omega (arith, l))
rises_at below laws (x ∷ []) h k d l = absurd (omega (arith, l))
rises_at below laws (x ∷ y ∷ ys) h zero d l = laws.one_way x y h.0.0
rises_at below laws (x ∷ y ∷ ys) h (suc k) d l = rises_at below laws (y ∷ ys) h.1 k d (omega (arith, l))

pub terms_sorted : (field : ℕ) (documents : Documents) → IsSorted rank (terms_of field documents)
terms_sorted field documents k d low l = rw add-one (rises_at ranks_before ranks_order (terms_of field documents) (terms_rise field documents) k d (omega (arith, l)))

-- ---- and no other list is them

-- no value ranks before one that stands before it
abbrev Falls : List ValueCount → Type 0
Falls xs = (i j : ℕ) (d : ValueCount) → i ≤ j → j < length xs → ranks_before (get_or xs j d) (get_or xs i d) ≡ false

not_first : (x : ValueCount) (xs : List ValueCount) → Falls (x ∷ xs) → (y : ValueCount) → Contains (x ∷ xs) y → ranks_before y x ≡ false
not_first x xs falls y c = subst (λ (z : ValueCount). ranks_before z x ≡ false) c.2 (falls 0 c.0 y (omega arith) c.1)

abbrev once_if : Bool → ℕ
once_if b = cond b 1 0

-- as many of them have each value
abbrev SameCounts : List ValueCount → List ValueCount → Type 0
SameCounts xs ys = (v : Value) → count_by (λ r. is_same r.value v) xs ≡ count_by (λ r. is_same r.value v) ys

module _ (count : Value → ℕ) where
  abbrev Right : ValueCount → Type 0
  Right r = r.count ≡ count r.value

  counted_in : (xs : List ValueCount) (r : ValueCount) → All Right xs → Right r → 0 < count_by (λ s. is_same s.value r.value) xs → Contains xs r
  counted_in xs r rights right h =
      let m = passes_some (λ (s : ValueCount). is_same s.value r.value) xs h in
      let value : m.0.value ≡ r.value = same_is m.0.value r.value m.2 in
      let many : m.0.count ≡ r.count = All-contains Right xs m.0 rights m.1 ∙ ap count value ∙ sym right in
      let same : m.0 ≡ r = ap₂ with_count value many in
      subst (λ (s : ValueCount). Contains xs s) same m.1

  sorted_one : (xs ys : List ValueCount) → Falls xs → Falls ys → All Right xs → All Right ys → SameCounts xs ys → xs ≡ ys
  sorted_one [] [] fx fy rx ry same = refl
  sorted_one [] (y ∷ ys) fx fy rx ry same =
      let some = some_passes (λ (r : ValueCount). is_same r.value y.value) (y ∷ ys) y (here y ys) (is_itself y.value) in
      absurd (omega (arith, some, same y.value))
  sorted_one (x ∷ xs) [] fx fy rx ry same =
      let some = some_passes (λ (r : ValueCount). is_same r.value x.value) (x ∷ xs) x (here x xs) (is_itself x.value) in
      absurd (omega (arith, some, same x.value))
  sorted_one (x ∷ xs) (y ∷ ys) fx fy rx ry same =
      let some_x = some_passes (λ (r : ValueCount). is_same r.value x.value) (x ∷ xs) x (here x xs) (is_itself x.value) in
      let some_y = some_passes (λ (r : ValueCount). is_same r.value y.value) (y ∷ ys) y (here y ys) (is_itself y.value) in
      let x_in : Contains (y ∷ ys) x = counted_in (y ∷ ys) x ry (All-head Right x xs rx) (omega (arith, some_x, same x.value)) in
      let y_in : Contains (x ∷ xs) y = counted_in (x ∷ xs) y rx (All-head Right y ys ry) (omega (arith, some_y, same y.value)) in
      let first : x ≡ y = ranks_order.neither x y (not_first y ys fy x x_in) (not_first x xs fx y y_in) in
      let rest : SameCounts xs ys = λ v.
      let one : once_if (is_same x.value v) ≡ once_if (is_same y.value v) = ap (λ (r : ValueCount). once_if (is_same r.value v)) first in
      omega (arith, same v, count_more (λ (r : ValueCount). is_same r.value v) x xs, count_more (λ (r : ValueCount). is_same r.value v) y ys, one) in
      ap₂ (λ (z : ValueCount) (zs : List ValueCount). z ∷ zs) first (sorted_one xs ys (λ i j d m l. fx (suc i) (suc j) d (omega (arith, m)) (omega (arith, l))) (λ i j d m l. fy (suc i) (suc j) d (omega (arith, m)) (omega (arith, l)))
      (All-tail Right x xs rx) (All-tail Right y ys ry) rest)

pub terms_one : (field : ℕ) (documents : Documents) (all : List ValueCount) → AreCounted field documents all → IsSorted rank all → all ≡ terms_of field documents
terms_one field documents all counted sorted =
    let terms = terms_counted field documents in
    sorted_one (value_count field documents) all (terms_of field documents)
    (λ i j d m l. sorted_far ranks_before rank_order all sorted i j d m l) (λ i j d m l. sorted_far ranks_before rank_order (terms_of field documents) (terms_sorted field documents) i j d m l)
    counted.right terms.right (λ v. counted.once v ∙ sym (terms.once v))

-- ---- lists with the same values are as long

length_one : (xs ys : List ValueCount) → SameCounts xs ys → length xs ≡ length ys
length_one [] [] same = refl
length_one [] (y ∷ ys) same =
    let some = some_passes (λ (r : ValueCount). is_same r.value y.value) (y ∷ ys) y (here y ys) (is_itself y.value) in
    absurd (omega (arith, some, same y.value))
length_one (x ∷ xs) ys same =
    let some = some_passes (λ (r : ValueCount). is_same r.value x.value) (x ∷ xs) x (here x xs) (is_itself x.value) in
    let m = passes_some (λ (r : ValueCount). is_same r.value x.value) ys (omega (arith, some, same x.value)) in
    let value : (get_or ys m.1.0 m.0).value ≡ x.value = ap (λ (r : ValueCount). r.value) m.1.2 ∙ same_is m.0.value x.value m.2 in
    let rest : SameCounts xs (remove ys m.1.0) = λ v.
    let one : once_if (is_same (get_or ys m.1.0 m.0).value v) ≡ once_if (is_same x.value v) = ap (λ (w : Value). once_if (is_same w v)) value in
    omega (arith, same v, count_more (λ (r : ValueCount). is_same r.value v) x xs, sum_by-remove (λ (r : ValueCount). cond (is_same r.value v) 1 0) ys m.1.0 m.0 m.1.1, one) in
    let long = length_one xs (remove ys m.1.0) rest in
    omega (arith, long, length-remove ys m.1.0 m.1.1)

pub terms_length : (field : ℕ) (documents : Documents) (all : List ValueCount) → AreCounted field documents all → length all ≡ length (terms_of field documents)
terms_length field documents all counted =
    let terms = terms_counted field documents in
    length_one all (terms_of field documents) (λ v. counted.once v ∙ sym (terms.once v))

-- ---- the order of the documents

value_count_moved : (field : ℕ) (documents others : Documents) → IsPermutation documents others → (v : Value) → value_count field documents v ≡ value_count field others v
value_count_moved field documents others moved v = sym (sum_by-IsPermutation (λ d. cond (has_value field v d) 1 0) documents others moved)

pub terms_moved : (field : ℕ) (documents others : Documents) → IsPermutation documents others → terms_of field documents ≡ terms_of field others
terms_moved field documents others moved =
    let terms = terms_counted field documents in
    let same = value_count_moved field documents others moved in
    terms_one field others (terms_of field documents) (record {
      right = All-weaker (λ r. r.count ≡ value_count field documents r.value) (λ r. r.count ≡ value_count field others r.value) (λ r h. h ∙ same r.value) (terms_of field documents) terms.right;
      once = λ v. terms.once v ∙ ap (λ n. cond (nat_lt 0 n) 1 0) (same v);
    }) (terms_sorted field documents)
