-- The order of hits is a strict one.
use Rattle.std.proofs.Common.{◌≡◌, ℕ, Bool, true, false, List, [], Option, Some, None, refl, ap, sym, ◌∙◌, ℤ, pos, Ordering}
use Rattle.std.proofs.lemmas.Cmp.{on_total, then_total, back_total, nat_cmp_total, int_cmp_total, nat_list_cmp_total}
use Rattle.std.proofs.lemmas.List.Sorted.{ranks_by}
use Rattle.std.specs.Cmp.{IsTotalOrder, IsStrictWeakOrder, bool_cmp_total}
use Rattle.std.specs.Cmp.Lexicographic.{slice_cmp}
use Rattle.std.specs.Ordering.{nat_cmp, int_cmp, bool_cmp, is_lt, ordering_then, on, then_cmp, flip_args}
use Rattle.std.specs.declared.cmp.Ordering.TheVariants.{Less, Equal, Greater}
use Rattle.doc_value.specs.Terms.{kind_place, value_cmp}
use Rattle.doc_value.specs.declared.doc.Value.{Value}
use Rattle.doc_value.specs.declared.doc.Value.TheVariants as values
use Rattle.split_bundle.specs.declared.placed.Placed.{Placed}
use Rattle.doc_tallies.specs.declared.hit_order.HitOrder.{HitOrder}
use Rattle.doc_tallies.specs.Near.{is_ahead}
use Rattle.doc_tallies.specs.Orders.{first_cmp, first_value, sort_cmp, place_cmp, comes_before}

-- ---- values, by their kinds and then by what each kind has

abbrev text_in : Value → List ℕ
text_in (values.Text t) = t
text_in _ = []

abbrev nat_in : Value → ℕ
nat_in (values.U64 n) = n
nat_in _ = 0

abbrev bool_in : Value → Bool
bool_in (values.Bool b) = b
bool_in _ = false

abbrev int_in : Value → ℤ
int_in (values.I64 z) = z
int_in (values.Datetime z) = z
int_in _ = pos 0

abbrev by_parts : Value → Value → Ordering
by_parts = then_cmp (on kind_place nat_cmp) (then_cmp (on text_in (slice_cmp nat_cmp)) (then_cmp (on nat_in nat_cmp) (then_cmp (on bool_in bool_cmp) (on int_in int_cmp))))

by_parts_total : IsTotalOrder by_parts
by_parts_total = then_total (on_total kind_place nat_cmp_total) (then_total (on_total text_in nat_list_cmp_total)
    (then_total (on_total nat_in nat_cmp_total) (then_total (on_total bool_in bool_cmp_total) (on_total int_in int_cmp_total))))

then_equal : (o : Ordering) → ordering_then o Equal ≡ o
then_equal Less = refl
then_equal Equal = refl
then_equal Greater = refl

same_values : (v w : Value) → by_parts v w ≡ value_cmp v w
same_values (values.Text a) (values.Text b) = then_equal (slice_cmp nat_cmp a b)
same_values (values.I64 a) (values.I64 b) = refl
same_values (values.U64 a) (values.U64 b) = then_equal (nat_cmp a b)
same_values (values.Bool a) (values.Bool b) = then_equal (bool_cmp a b)
same_values (values.Datetime a) (values.Datetime b) = refl
same_values _ _ = refl

pub values_order : IsStrictWeakOrder (λ (v w : Value). is_lt (value_cmp v w))
values_order =
    let parts = ranks_by by_parts_total (λ (v : Value). v) in
    record {
      one_way = λ v w h. sym (ap is_lt (same_values w v)) ∙ parts.one_way v w (ap is_lt (same_values v w) ∙ h);
      chain = λ u v w h k. sym (ap is_lt (same_values u w)) ∙ parts.chain u v w (ap is_lt (same_values u v) ∙ h) (ap is_lt (same_values v w) ∙ k);
    }

-- ---- values that may be missing

abbrev is_missing : Option Value → ℕ
is_missing None = 1
is_missing (Some v) = 0

abbrev value_or : Option Value → Value
value_or None = values.Bool false
value_or (Some v) = v

abbrev first_parts : Bool → Option Value → Option Value → Ordering
first_parts false = then_cmp (on is_missing nat_cmp) (on value_or by_parts)
first_parts true = then_cmp (on is_missing nat_cmp) (flip_args (on value_or by_parts))

first_total : (descending : Bool) → IsTotalOrder (first_parts descending)
first_total false = then_total (on_total is_missing nat_cmp_total) (on_total value_or by_parts_total)
first_total true = then_total (on_total is_missing nat_cmp_total) (back_total (on_total value_or by_parts_total))

same_firsts : (descending : Bool) (a b : Option Value) → first_parts descending a b ≡ first_cmp descending a b
same_firsts false None None = refl
same_firsts true None None = refl
same_firsts false None (Some b) = refl
same_firsts true None (Some b) = refl
same_firsts false (Some a) None = refl
same_firsts true (Some a) None = refl
same_firsts false (Some a) (Some b) = same_values a b
same_firsts true (Some a) (Some b) = same_values b a

-- ---- hits

abbrev place_parts : Placed → Placed → Ordering
place_parts = then_cmp (on (λ (d : Placed). d.partition) (slice_cmp nat_cmp)) (on (λ (d : Placed). d.offset) nat_cmp)

place_total : IsTotalOrder place_parts
place_total = then_total (on_total (λ (d : Placed). d.partition) nat_list_cmp_total) (on_total (λ (d : Placed). d.offset) nat_cmp_total)

abbrev hit_parts : Option HitOrder → Placed → Placed → Ordering
hit_parts None = place_parts
hit_parts (Some o) = then_cmp (on (λ (d : Placed). first_value o.field d.doc) (first_parts o.descending)) place_parts

hit_total : (order : Option HitOrder) → IsTotalOrder (hit_parts order)
hit_total None = place_total
hit_total (Some o) = then_total (on_total (λ (d : Placed). first_value o.field d.doc) (first_total o.descending)) place_total

same_hits : (order : Option HitOrder) (a b : Placed) → hit_parts order a b ≡ ordering_then (sort_cmp order a.doc b.doc) (place_cmp a b)
same_hits None a b = refl
same_hits (Some o) a b = ap (λ (x : Ordering). ordering_then x (place_cmp a b)) (same_firsts o.descending (first_value o.field a.doc) (first_value o.field b.doc))

same_before : (order : Option HitOrder) (a b : Placed) → is_lt (hit_parts order a b) ≡ comes_before order a b
same_before order a b = ap is_lt (same_hits order a b)

pub hits_order : (order : Option HitOrder) → IsStrictWeakOrder (comes_before order)
hits_order order =
    let parts = ranks_by (hit_total order) (λ (d : Placed). d) in
    record {
      one_way = λ x y h. sym (same_before order y x) ∙ parts.one_way x y (same_before order x y ∙ h);
      chain = λ x y z h k. sym (same_before order x z) ∙ parts.chain x y z (same_before order x y ∙ h) (same_before order y z ∙ k);
    }

-- by the order's value alone

same_ahead : (order : HitOrder) (a b : Placed) → is_lt (first_parts order.descending (first_value order.field a.doc) (first_value order.field b.doc)) ≡ is_ahead order a b
same_ahead order a b = ap is_lt (same_firsts order.descending (first_value order.field a.doc) (first_value order.field b.doc))

pub ahead_order : (order : HitOrder) → IsStrictWeakOrder (is_ahead order)
ahead_order order =
    let parts = ranks_by (first_total order.descending) (λ (d : Placed). first_value order.field d.doc) in
    record {
      one_way = λ x y h. sym (same_ahead order y x) ∙ parts.one_way x y (same_ahead order x y ∙ h);
      chain = λ x y z h k. sym (same_ahead order x z) ∙ parts.chain x y z (same_ahead order x y ∙ h) (same_ahead order y z ∙ k);
    }
