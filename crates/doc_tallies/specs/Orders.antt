-- The order of hits.
use Rattle.std.specs.Prelude.{ℕ, Bool, true, false, List, Option, Some, None, slice_get, ⊤}
use Rattle.std.specs.Cmp.Lexicographic.{slice_cmp}
use Rattle.std.specs.Ordering.{is_lt, nat_cmp, ordering_then}
use Rattle.std.specs.declared.cmp.Ordering.{Ordering}
use Rattle.std.specs.declared.cmp.Ordering.TheVariants.{Less, Equal, Greater}
use Rattle.doc_value.specs.declared.doc.Value.{Value}
use Rattle.doc_value.specs.declared.doc.DocField.{DocField}
use Rattle.doc_value.specs.Terms.{value_cmp}
use Rattle.doc_value.specs.Documents.{values_in}
use Rattle.split_bundle.specs.declared.placed.Placed.{Placed}
use Rattle.doc_tallies.specs.declared.hit_order.HitOrder.{HitOrder}
use Rattle.doc_value.specs.declared.schema.Schema.{Schema}
use Rattle.doc_tallies.specs.Cells.{IsFast}
use Rattle.doc_tallies.specs.Firsts.{firsts_by}

-- a document's first value of a field
abbrev pub first_value : ℕ → List DocField → Option Value
first_value number doc = slice_get (values_in doc number) 0

-- by value upwards, or downwards; what has no value stands last in both
abbrev pub first_cmp : Bool → Option Value → Option Value → Ordering
first_cmp descending None None = Equal
first_cmp descending None (Some b) = Greater
first_cmp descending (Some a) None = Less
first_cmp false (Some a) (Some b) = value_cmp a b
first_cmp true (Some a) (Some b) = value_cmp b a

-- by the first value of the order's field, if there is an order
abbrev pub sort_cmp : Option HitOrder → List DocField → List DocField → Ordering
sort_cmp None a b = Equal
sort_cmp (Some order) a b = first_cmp order.descending (first_value order.field a) (first_value order.field b)

-- by partition and offset upwards
abbrev pub place_cmp : Placed → Placed → Ordering
place_cmp a b = ordering_then (slice_cmp nat_cmp a.partition b.partition) (nat_cmp a.offset b.offset)

-- one hit comes before another: by the order, and ties by partition and offset
abbrev pub comes_before : Option HitOrder → Placed → Placed → Bool
comes_before order a b = is_lt (ordering_then (sort_cmp order a.doc b.doc) (place_cmp a b))

-- the first so many documents in order
abbrev pub firsts : ℕ → Option HitOrder → List Placed → List Placed
firsts wanted order documents = firsts_by wanted (comes_before order) documents

-- the field of an order, if there is one
abbrev pub sort_field : Option HitOrder → Option ℕ
sort_field None = None
sort_field (Some order) = Some order.field

-- hits can be sorted so: by a fast field, or by their places alone
abbrev pub IsSortable : Schema → Option HitOrder → Type 0
IsSortable s None = ⊤
IsSortable s (Some order) = IsFast s order.field
