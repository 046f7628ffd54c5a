-- The answer over the same documents in another order.
use Rattle.std.proofs.Common.{◌≡◌, inl, inr, Bool, true, false, List, take, Contains, Option, Some, None, IsPermutation, refl, ap, ap₂, sym, ◌∙◌, Ordering}
use Rattle.std.specs.Cmp.{IsTotalOrder, bool_cmp_total}
use Rattle.std.specs.Ordering.{nat_cmp, is_lt, ordering_then, ordering_reverse, on, then_cmp}
use Rattle.std.specs.Cmp.Lexicographic.{slice_cmp}
use Rattle.std.specs.declared.cmp.Ordering.TheVariants.{Less, Equal, Greater}
use Rattle.std.proofs.lemmas.Cmp.{on_total, then_total, nat_cmp_total, int_cmp_total, nat_list_cmp_total}
use Rattle.std.proofs.lemmas.List.Elements.{All-filter, All-contains_itself}
use Rattle.std.proofs.lemmas.List.Sorted.{IsPermutation-map, length_permutation}
use Rattle.meta_store.proofs.Lists.{IsPermutation-filter}
use Rattle.doc_value.specs.Terms.{value_cmp}
use Rattle.doc_value.specs.declared.doc.DocField.{DocField}
use Rattle.doc_value.specs.declared.doc.Value.{Value}
use Rattle.doc_value.specs.declared.doc.Value.TheVariants as values
use Rattle.doc_value.specs.declared.schema.Schema.{Schema}
use Rattle.split_bundle.specs.declared.placed.Placed.{Placed}
use Rattle.doc_tallies.specs.Orders.{first_cmp, first_value, sort_cmp, place_cmp, comes_before}
use Rattle.doc_tallies.specs.declared.hit_order.HitOrder.{HitOrder}
use Rattle.doc_tallies.proofs.HitOrders.{hits_order}
use Rattle.leaf_search.specs.Answers.{IsAnswerOf, found, passes}
use Rattle.leaf_search.specs.declared.request.LeafAnswer.{LeafAnswer}
use Rattle.leaf_search.specs.declared.request.LeafRequest.{LeafRequest}
use Rattle.root_search.specs.Places.{OneAtEach}
use Rattle.root_search.proofs.Moved.{IsTold, sorted_moved}
use Rattle.root_search.proofs.Orderless.{nested_moved}

-- ---- the order the other way round

values_turned : (v w : Value) → value_cmp v w ≡ ordering_reverse (value_cmp w v)
values_turned (values.Text a) (values.Text b) = nat_list_cmp_total.antisymm a b
values_turned (values.I64 a) (values.I64 b) = int_cmp_total.antisymm a b
values_turned (values.U64 a) (values.U64 b) = nat_cmp_total.antisymm a b
values_turned (values.Bool a) (values.Bool b) = bool_cmp_total.antisymm a b
values_turned (values.Datetime a) (values.Datetime b) = int_cmp_total.antisymm a b
values_turned _ _ = refl

firsts_turned : (descending : Bool) (a b : Option Value) → first_cmp descending a b ≡ ordering_reverse (first_cmp descending b a)
firsts_turned false None None = refl
firsts_turned true None None = refl
firsts_turned false None (Some b) = refl
firsts_turned true None (Some b) = refl
firsts_turned false (Some a) None = refl
firsts_turned true (Some a) None = refl
firsts_turned false (Some a) (Some b) = values_turned a b
firsts_turned true (Some a) (Some b) = values_turned b a

sorts_turned : (order : Option HitOrder) (a b : List DocField) → sort_cmp order a b ≡ ordering_reverse (sort_cmp order b a)
sorts_turned None a b = refl
sorts_turned (Some o) a b = firsts_turned o.descending (first_value o.field a) (first_value o.field b)

place_total : IsTotalOrder (then_cmp (on (λ (d : Placed). d.partition) (slice_cmp nat_cmp)) (on (λ (d : Placed). d.offset) nat_cmp))
place_total = then_total (on_total (λ (d : Placed). d.partition) nat_list_cmp_total) (on_total (λ (d : Placed). d.offset) nat_cmp_total)

places_turned : (a b : Placed) → place_cmp a b ≡ ordering_reverse (place_cmp b a)
places_turned a b = place_total.antisymm a b

-- of documents with places of their own the order tells any two apart
told_hits : (order : Option HitOrder) (a b : Placed) → (place_cmp a b ≡ Equal → a ≡ b) → IsTold (comes_before order) a b
told_hits order a b one = go (sort_cmp order a.doc b.doc) refl (place_cmp a b) refl
  where
    go : (u : Ordering) → sort_cmp order a.doc b.doc ≡ u → (v : Ordering) → place_cmp a b ≡ v → IsTold (comes_before order) a b
    go Less e v f = inr (inl (ap (λ (r : Ordering). is_lt (ordering_then r (place_cmp a b))) e))
    go Equal e Less f = inr (inl (ap₂ (λ (r t : Ordering). is_lt (ordering_then r t)) e f))
    go Equal e Equal f = inl (one f)
    go Equal e Greater f =
        inr (inr (ap₂ (λ (r t : Ordering). is_lt (ordering_then r t)) (sorts_turned order b.doc a.doc ∙ ap ordering_reverse e) (places_turned b a ∙ ap ordering_reverse f)))
    go Greater e v f = inr (inr (ap (λ (r : Ordering). is_lt (ordering_then r (place_cmp b a))) (sorts_turned order b.doc a.doc ∙ ap ordering_reverse e)))

-- ---- the answer

pub answer_moved : (s : Schema) (r : LeafRequest) (documents others : List Placed) (a : LeafAnswer) → IsPermutation documents others → OneAtEach documents → IsAnswerOf s r documents a → IsAnswerOf s r others a
answer_moved s r documents others a same own h =
    let kept : IsPermutation (found s r documents) (found s r others) = IsPermutation-filter (λ d. passes s r d.doc) documents others same in
    let all = All-filter (λ (d : Placed). passes s r d.doc) (Contains documents) documents (All-contains_itself documents) in
    let sorted = sorted_moved (comes_before r.order) (hits_order r.order) (Contains documents) (λ x y p q. told_hits r.order x y (own.one x y p q)) (found s r documents) (found s r others) kept all in
    record {
      count = h.count ∙ sym (length_permutation (found s r documents) (found s r others) kept);
      hits = h.hits ∙ ap (take r.wanted) (sym sorted);
      partial = nested_moved r.aggs a.partial _ _ (IsPermutation-map (λ (d : Placed). d.doc) (found s r documents) (found s r others) kept) h.partial;
    }
