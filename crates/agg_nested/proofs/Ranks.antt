-- Values with their counts are ordered by rank.
use Rattle.std.proofs.Common.{◌≡◌, ℕ, true, false, List, [], ◌∷◌, refl, sym, ◌∙◌, ap, ap₂, arith, ℤ, pos, Ordering}
use Rattle.std.proofs.lemmas.Bool.{false≢true, true_from_ne_false}
use Rattle.std.proofs.lemmas.Bool.Decides.{Decides-int_eq, nat_tests}
use Rattle.std.proofs.lemmas.Int.{ints}
use Rattle.std.proofs.lemmas.Slice.Eq.{bytes_eq-Decides}
use Rattle.std.specs.Cmp.Lexicographic.{slice_cmp}
use Rattle.std.specs.Ordering.{nat_cmp, int_cmp, is_lt, ordering_then}
use Rattle.std.specs.declared.cmp.Ordering.TheVariants.{Less, Equal, Greater}
use Rattle.doc_value.specs.Terms.{value_cmp}
use Rattle.doc_value.specs.declared.doc.Value.{Value}
use Rattle.doc_value.specs.declared.doc.Value.TheVariants as values
use Rattle.agg_model.specs.Answers.{rank}
use Rattle.agg_model.specs.Counting.{is_same}
use Rattle.agg_model.specs.declared.ranking.ValueCount.{ValueCount}
use Rattle.agg_model.proofs.Order.{rank_order}
use Rattle.agg_nested.specs.Terms.{ranks_before}
use Rattle.agg_nested.proofs.Ordered.{IsOrder}

-- ---- values that are the same are equal

pub same_is : (a b : Value) → is_same a b ≡ true → a ≡ b
same_is (values.Text a) (values.Text b) h = ap values.Text ((bytes_eq-Decides a b).0 h)
same_is (values.I64 a) (values.I64 b) h = ap values.I64 ((Decides-int_eq a b).0 h)
same_is (values.U64 a) (values.U64 b) h = ap values.U64 (let same : pos a ≡ pos b = (Decides-int_eq (pos a) (pos b)).0 h in cc)
same_is (values.Bool true) (values.Bool true) h = refl
same_is (values.Bool false) (values.Bool false) h = refl
same_is (values.Datetime a) (values.Datetime b) h = ap values.Datetime ((Decides-int_eq a b).0 h)
same_is a b h = cc

pub is_itself : (a : Value) → is_same a a ≡ true
is_itself (values.Text a) = (bytes_eq-Decides a a).1 refl
is_itself (values.I64 a) = (Decides-int_eq a a).1 refl
is_itself (values.U64 a) = (Decides-int_eq (pos a) (pos a)).1 refl
is_itself (values.Bool true) = refl
is_itself (values.Bool false) = refl
is_itself (values.Datetime a) = (Decides-int_eq a a).1 refl

-- ---- of two values that differ one is lower

-- neither is less
abbrev Tied : Ordering → Ordering → Type 0
Tied o p = (is_lt o ≡ false) × (is_lt p ≡ false)

nat_tied : (a b : ℕ) → Tied (nat_cmp a b) (nat_cmp b a) → a ≡ b
nat_tied a b h = grind (arith, nat_tests, h.0, h.1)

int_tied : (a b : ℤ) → Tied (int_cmp a b) (int_cmp b a) → a ≡ b
int_tied a b h = grind (arith, ints, h.0, h.1)

then_tied : (o p q r : Ordering) → Tied (ordering_then o q) (ordering_then p r) → Tied o p
then_tied Less p q r h = absurd (false≢true (sym h.0))
then_tied Equal Less q r h = absurd (false≢true (sym h.1))
then_tied Greater Less q r h = absurd (false≢true (sym h.1))
then_tied Equal Equal q r h = (refl, refl)
then_tied Equal Greater q r h = (refl, refl)
then_tied Greater Equal q r h = (refl, refl)
then_tied Greater Greater q r h = (refl, refl)

nat_itself : (a : ℕ) → nat_cmp a a ≡ Equal
nat_itself a = grind (arith, nat_tests)

-- two numbers first, and then what is tied where they are equal
nat_then : (a b : ℕ) (q r : Ordering) → Tied (ordering_then (nat_cmp a b) q) (ordering_then (nat_cmp b a) r) → (a ≡ b) × Tied q r
nat_then a b q r h =
    let same = nat_tied a b (then_tied (nat_cmp a b) (nat_cmp b a) q r h) in
    let one : nat_cmp a b ≡ Equal = ap (λ (n : ℕ). nat_cmp a n) (sym same) ∙ nat_itself a in
    let other : nat_cmp b a ≡ Equal = ap (λ (n : ℕ). nat_cmp n a) (sym same) ∙ nat_itself a in
    (same, (ap (λ (o : Ordering). is_lt (ordering_then o q)) (sym one) ∙ h.0, ap (λ (o : Ordering). is_lt (ordering_then o r)) (sym other) ∙ h.1))

text_tied : (a b : List ℕ) → Tied (slice_cmp nat_cmp a b) (slice_cmp nat_cmp b a) → a ≡ b
text_tied [] [] h = refl
text_tied [] (y ∷ ys) h = absurd (false≢true (sym h.0))
text_tied (x ∷ xs) [] h = absurd (false≢true (sym h.1))
text_tied (x ∷ xs) (y ∷ ys) h =
    let both = nat_then x y (slice_cmp nat_cmp xs ys) (slice_cmp nat_cmp ys xs) h in
    ap₂ (λ (z : ℕ) (zs : List ℕ). z ∷ zs) both.0 (text_tied xs ys both.1)

value_tied : (a b : Value) → Tied (value_cmp a b) (value_cmp b a) → a ≡ b
value_tied (values.Text a) (values.Text b) h = ap values.Text (text_tied a b h)
value_tied (values.I64 a) (values.I64 b) h = ap values.I64 (int_tied a b h)
value_tied (values.U64 a) (values.U64 b) h = ap values.U64 (nat_tied a b h)
value_tied (values.Bool true) (values.Bool true) h = refl
value_tied (values.Bool false) (values.Bool false) h = refl
value_tied (values.Datetime a) (values.Datetime b) h = ap values.Datetime (int_tied a b h)
value_tied a b h = let one = h.0 in let other = h.1 in cc

abbrev pub with_count : Value → ℕ → ValueCount
with_count value count = record { value = value; count = count }

rank_tied : (a b : ValueCount) → Tied (rank a b) (rank b a) → a ≡ b
rank_tied a b h =
    let both = nat_then b.count a.count (value_cmp a.value b.value) (value_cmp b.value a.value) h in
    ap₂ with_count (value_tied a.value b.value both.1) (sym both.0)

pub ranks_order : IsOrder ranks_before
ranks_order = record {
  one_way = rank_order.one_way;
  trans = λ x y z p q. true_from_ne_false (ranks_before x z) (λ r. false≢true (sym (rank_order.chain x z y r (rank_order.one_way y z q)) ∙ p));
  neither = λ x y p q. rank_tied x y (p, q);
}
