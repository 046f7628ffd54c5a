-- The order of values with their counts is a strict one.
use Rattle.std.proofs.Common.{◌≡◌, ℕ, Bool, false, List, [], refl, ap, ℤ, pos, Ordering}
use Rattle.std.proofs.lemmas.Cmp.{on_total, then_total, back_total, nat_cmp_total, int_cmp_total, nat_list_cmp_total}
use Rattle.std.proofs.lemmas.List.Sorted.{ranks_by}
use Rattle.std.specs.Cmp.{IsTotalOrder, IsStrictWeakOrder, bool_cmp_total}
use Rattle.std.specs.Cmp.Lexicographic.{slice_cmp}
use Rattle.std.specs.Ordering.{nat_cmp, int_cmp, bool_cmp, is_lt, ordering_then, on, then_cmp, flip_args}
use Rattle.std.specs.declared.cmp.Ordering.TheVariants.{Less, Equal, Greater}
use Rattle.doc_value.specs.Terms.{kind_place, value_cmp}
use Rattle.doc_value.specs.declared.doc.Value.{Value}
use Rattle.doc_value.specs.declared.doc.Value.TheVariants as values
use Rattle.agg_model.specs.Answers.{rank}
use Rattle.agg_model.specs.declared.ranking.ValueCount.{ValueCount}

abbrev text_in : Value → List ℕ
text_in (values.Text t) = t
text_in _ = []

abbrev nat_in : Value → ℕ
nat_in (values.U64 n) = n
nat_in _ = 0

abbrev bool_in : Value → Bool
bool_in (values.Bool b) = b
bool_in _ = false

abbrev int_in : Value → ℤ
int_in (values.I64 z) = z
int_in (values.Datetime z) = z
int_in _ = pos 0

-- the order of values by their kinds and then by what each kind has
abbrev by_parts : Value → Value → Ordering
by_parts = then_cmp (on kind_place nat_cmp) (then_cmp (on text_in (slice_cmp nat_cmp)) (then_cmp (on nat_in nat_cmp) (then_cmp (on bool_in bool_cmp) (on int_in int_cmp))))

by_parts_total : IsTotalOrder by_parts
by_parts_total = then_total (on_total kind_place nat_cmp_total) (then_total (on_total text_in nat_list_cmp_total)
    (then_total (on_total nat_in nat_cmp_total) (then_total (on_total bool_in bool_cmp_total) (on_total int_in int_cmp_total))))

then_equal : (o : Ordering) → ordering_then o Equal ≡ o
then_equal Less = refl
then_equal Equal = refl
then_equal Greater = refl

same_order : (v w : Value) → by_parts v w ≡ value_cmp v w
same_order (values.Text a) (values.Text b) = then_equal (slice_cmp nat_cmp a b)
same_order (values.I64 a) (values.I64 b) = refl
same_order (values.U64 a) (values.U64 b) = then_equal (nat_cmp a b)
same_order (values.Bool a) (values.Bool b) = then_equal (bool_cmp a b)
same_order (values.Datetime a) (values.Datetime b) = refl
same_order _ _ = refl

abbrev rank_parts : ValueCount → ValueCount → Ordering
rank_parts = then_cmp (flip_args (on (λ (r : ValueCount). r.count) nat_cmp)) (on (λ (r : ValueCount). r.value) by_parts)

rank_parts_total : IsTotalOrder rank_parts
rank_parts_total = then_total (back_total (on_total (λ (r : ValueCount). r.count) nat_cmp_total)) (on_total (λ (r : ValueCount). r.value) by_parts_total)

same_rank : (a b : ValueCount) → rank_parts a b ≡ rank a b
same_rank a b = ap (ordering_then (nat_cmp b.count a.count)) (same_order a.value b.value)

pub rank_order : IsStrictWeakOrder (λ a b. is_lt (rank a b))
rank_order =
    let parts = ranks_by rank_parts_total (λ (r : ValueCount). r) in
    record {
      one_way = λ x y h. rw (← same_rank y x) (parts.one_way x y (rw same_rank h));
      chain = λ x y z h k. rw (← same_rank x z) (parts.chain x y z (rw same_rank h) (rw same_rank k));
    }
