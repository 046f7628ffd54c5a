-- Parts that stand for documents by values that these have of some fields.
use Rattle.std.proofs.Common.{◌≡◌, ℕ, ◌+◌, ◌*◌, ◌^◌, ◌≤◌, Bool, true, false, cond, List, [], ◌∷◌, ◌++◌, map, filter, length, count_by, Option, Some, None, slice_get, ℤ, refl, sym, ◌∙◌, ap, ap₂, subst, arith}
use Rattle.std.specs.List.{AllZip, flat_map, list_any, sum_by}
use Rattle.std.specs.Option.{option_map_or, option_map, option_and_then, option_to_list}
use Rattle.std.specs.Ordering.{int_eq}
use Rattle.std.proofs.lemmas.List.Sums.{sum_by-cons}
use Rattle.doc_value.specs.declared.doc.DocField.{DocField}
use Rattle.doc_value.specs.declared.doc.Value.{Value}
use Rattle.agg_model.specs.Counting.{first_whole, has_value, is_same, lies_in, slot_of, step_of, whole}
use Rattle.doc_value.specs.Documents.{values_in}
use Rattle.agg_model.specs.Checking as counted
use Rattle.agg_model.specs.Partials.{CountsFor}
use Rattle.agg_model.specs.declared.counts.Counts.{Counts}
use Rattle.agg_model.specs.declared.request.Agg.{Agg}
use Rattle.agg_model.specs.declared.request.Agg.TheVariants.{Terms, Histogram}
use Rattle.agg_model.specs.declared.request.NamedAgg.{NamedAgg}
use Rattle.agg_metrics.specs.Metrics.{IsMetricOf}
use Rattle.agg_metrics.specs.declared.metric_part.MetricPart.{MetricPart}
use Rattle.agg_nested.specs.Answers.{values_counted, firsts}
use Rattle.agg_nested.specs.Buckets.{PartStands, group_at}
use Rattle.agg_nested.specs.Checking.{field_of}
use Rattle.agg_nested.specs.Groups.{GroupStands, last_of}
use Rattle.agg_nested.specs.Partials.{FlatStands, AreStanding, MetricStands, alone, ranges_counted}
use Rattle.agg_nested.specs.Spots.{Spot, value, step, begin_of, places, holds, lies_within, spots_of, same_spot, has_spot, documents_at}
use Rattle.agg_nested.specs.declared.flat_part.FlatPart.{FlatPart}
use Rattle.agg_nested.specs.declared.flat_part.FlatPart.TheVariants as parts
use Rattle.agg_nested.specs.declared.group.Group.{Group}
use Rattle.agg_nested.specs.declared.nested_partial.NestedPart.{NestedPart}
use Rattle.agg_nested.specs.declared.request.FlatAgg.{FlatAgg}
use Rattle.agg_nested.specs.declared.request.FlatAgg.TheVariants.{Counted, Metric, Ranges}
use Rattle.agg_nested.specs.declared.request.NamedFlat.{NamedFlat}
use Rattle.agg_nested.specs.declared.request.NestedAgg.{NestedAgg}
use Rattle.agg_nested.specs.declared.request.WholeRange.{WholeRange}
use Rattle.doc_tallies.specs.AggColumns.{HasValuesOf, fields_of}

-- ---- pairs of documents and their values

pub zip_wider : {A B : Type 0} (P Q : A → B → Type 0) (xs : List A) (ys : List B) → ((a : A) (b : B) → P a b → Q a b) → AllZip P xs ys → AllZip Q xs ys
zip_wider P Q [] [] wider h = tt
zip_wider P Q [] (y ∷ ys) wider h = absurd h
zip_wider P Q (x ∷ xs) [] wider h = absurd h
zip_wider P Q (x ∷ xs) (y ∷ ys) wider h = (wider x y h.0, zip_wider P Q xs ys wider h.1)

pub zip_long : {A B : Type 0} (P : A → B → Type 0) (xs : List A) (ys : List B) → AllZip P xs ys → length ys ≡ length xs
zip_long P [] [] h = refl
zip_long P [] (y ∷ ys) h = absurd h
zip_long P (x ∷ xs) [] h = absurd h
zip_long P (x ∷ xs) (y ∷ ys) h = let rest = zip_long P xs ys h.1 in omega (arith, rest)

sum_alike : {A : Type 0} (f : A → ℕ) (xs ys : List A) → AllZip (λ x y. f y ≡ f x) xs ys → sum_by f ys ≡ sum_by f xs
sum_alike f [] [] h = refl
sum_alike f [] (y ∷ ys) h = absurd h
sum_alike f (x ∷ xs) [] h = absurd h
sum_alike f (x ∷ xs) (y ∷ ys) h =
    sum_by-cons f y ys ∙ (ap₂ (λ (a b : ℕ). a + b) h.0 (sum_alike f xs ys h.1) ∙ sym (sum_by-cons f x xs))

count_alike : {A : Type 0} (p : A → Bool) (xs ys : List A) → AllZip (λ x y. p y ≡ p x) xs ys → count_by p ys ≡ count_by p xs
count_alike p xs ys h =
    sum_alike (λ x. cond (p x) 1 0) xs ys (zip_wider (λ x y. p y ≡ p x) (λ x y. cond (p y) 1 0 ≡ cond (p x) 1 0) xs ys (λ x y e. ap (λ (b : Bool). cond b 1 0) e) h)

flat_map_alike : {A B : Type 0} (f : A → List B) (xs ys : List A) → AllZip (λ x y. f y ≡ f x) xs ys → flat_map f ys ≡ flat_map f xs
flat_map_alike f [] [] h = refl
flat_map_alike f [] (y ∷ ys) h = absurd h
flat_map_alike f (x ∷ xs) [] h = absurd h
flat_map_alike {A} {B} f (x ∷ xs) (y ∷ ys) h = ap₂ (λ (us vs : List B). us ++ vs) h.0 (flat_map_alike f xs ys h.1)

filter_alike : {A : Type 0} (P : A → A → Type 0) (p : A → Bool) (xs ys : List A) → ((x y : A) → P x y → p y ≡ p x) → AllZip P xs ys → AllZip P (filter p xs) (filter p ys)
filter_alike P p [] [] same h = tt
filter_alike P p [] (y ∷ ys) same h = absurd h
filter_alike P p (x ∷ xs) [] same h = absurd h
filter_alike {A} P p (x ∷ xs) (y ∷ ys) same h = at (p x) (p y) (same x y h.0) (filter_alike P p xs ys same h.1)
  where
    at : (b c : Bool) → c ≡ b → AllZip P (filter p xs) (filter p ys) → AllZip P (cond b (x ∷ filter p xs) (filter p xs)) (cond c (y ∷ filter p ys) (filter p ys))
    at true true e rest = (h.0, rest)
    at false false e rest = rest
    at true false e rest = absurd (cc)
    at false true e rest = absurd (cc)

-- a document and its values of a field
abbrev pub HasField : ℕ → List DocField → List DocField → Type 0
HasField field doc shown = values_in shown field ≡ values_in doc field

whole_alike : (field : ℕ) (doc shown : List DocField) → HasField field doc shown → first_whole field shown ≡ first_whole field doc
whole_alike field doc shown e = ap (λ (vs : List Value). option_and_then whole (slice_get vs 0)) e

-- ---- one aggregation

counts_alike : (agg : Agg) (counts : Counts) (docs shown : List (List DocField)) → AllZip (HasField (counted.field_of agg)) docs shown → CountsFor agg counts shown → CountsFor agg counts docs
counts_alike (Terms field size) counts docs shown same h = λ v.
    h v ∙ count_alike (has_value field v) docs shown
    (zip_wider (HasField field) (λ d x. has_value field v x ≡ has_value field v d) docs shown (λ d x e. ap (λ (vs : List Value). list_any (λ w. is_same w v) vs) e) same)
counts_alike (Histogram field interval offset least dated) counts docs shown same h = λ at.
    h at ∙ count_alike (lies_in field interval offset at) docs shown
    (zip_wider (HasField field) (λ d x. lies_in field interval offset at x ≡ lies_in field interval offset at d) docs shown
    (λ d x e. ap (λ (o : Option ℤ). option_map_or (λ z. int_eq (step_of interval offset z) at) o false) (whole_alike field d x e)) same)

parts_alike : (agg : Agg) (parts : List Counts) (docs shown : List (List DocField)) → AllZip (HasField (counted.field_of agg)) docs shown
    → AllZip (λ (named : NamedAgg) counts. CountsFor named.agg counts shown) (alone agg) parts → AllZip (λ (named : NamedAgg) counts. CountsFor named.agg counts docs) (alone agg) parts
parts_alike agg [] docs shown same h = absurd h
parts_alike agg (c ∷ []) docs shown same h = (counts_alike agg c docs shown same h.0, tt)
parts_alike agg (c ∷ d ∷ cs) docs shown same h = absurd h.1

ranges_alike : (field : ℕ) (ranges : List WholeRange) (docs shown : List (List DocField)) → AllZip (HasField field) docs shown → ranges_counted field ranges shown ≡ ranges_counted field ranges docs
ranges_alike field [] docs shown same = refl
ranges_alike field (r ∷ rs) docs shown same =
    ap₂ (λ (n : ℕ) ns. n ∷ ns)
    (count_alike (lies_within field r) docs shown
    (zip_wider (HasField field) (λ d x. lies_within field r x ≡ lies_within field r d) docs shown (λ d x e. ap (λ (o : Option ℤ). option_map_or (holds r) o false) (whole_alike field d x e)) same))
    (ranges_alike field rs docs shown same)

metric_alike : (field : ℕ) (part : MetricPart) (docs shown : List (List DocField)) → AllZip (HasField field) docs shown → MetricStands field part shown → MetricStands field part docs
metric_alike field part docs shown same h =
    let long = zip_long (HasField field) docs shown same in
    let many : values_counted field shown ≡ values_counted field docs =
    sum_alike (λ (d : List DocField). length (values_in d field)) docs shown (zip_wider (HasField field) (λ d x. length (values_in x field) ≡ length (values_in d field)) docs shown (λ d x e. ap length e) same) in
    let first : firsts field shown ≡ firsts field docs =
    flat_map_alike (λ d. option_to_list (first_whole field d)) docs shown
    (zip_wider (HasField field) (λ d x. option_to_list (first_whole field x) ≡ option_to_list (first_whole field d)) docs shown (λ d x e. ap option_to_list (whole_alike field d x e)) same) in
    record {
      few = subst (λ (n : ℕ). n ≤ length docs * 2 ^ 63) many (subst (λ (n : ℕ). values_counted field shown ≤ n * 2 ^ 63) long h.few);
      stands = subst (λ (n : ℕ). IsMetricOf n (firsts field docs) part) many (subst (λ vs. IsMetricOf (values_counted field shown) vs part) first h.stands);
    }

pub flat_alike : (agg : FlatAgg) (part : FlatPart) (docs shown : List (List DocField)) → AllZip (HasField (field_of agg)) docs shown → FlatStands agg part shown → FlatStands agg part docs
flat_alike (Counted agg) (parts.Counted asked partial) docs shown same h = record {
  is = h.is;
  known = h.known;
  stands = record { many = h.stands.many ∙ zip_long (HasField (counted.field_of agg)) docs shown same; parts = parts_alike agg partial.parts.items docs shown same h.stands.parts };
}
flat_alike (Counted agg) (parts.Metric part) docs shown same h = absurd h
flat_alike (Counted agg) (parts.Ranges counts) docs shown same h = absurd h
flat_alike (Metric kind field) (parts.Counted asked partial) docs shown same h = absurd h
flat_alike (Metric kind field) (parts.Metric part) docs shown same h = metric_alike field part docs shown same h
flat_alike (Metric kind field) (parts.Ranges counts) docs shown same h = absurd h
flat_alike (Ranges field ranges) (parts.Counted asked partial) docs shown same h = absurd h
flat_alike (Ranges field ranges) (parts.Metric part) docs shown same h = absurd h
flat_alike (Ranges field ranges) (parts.Ranges counts) docs shown same h = h ∙ ranges_alike field ranges docs shown same

-- ---- its buckets

spots_alike : (agg : FlatAgg) (doc shown : List DocField) → HasField (field_of agg) doc shown → spots_of agg shown ≡ spots_of agg doc
spots_alike (Counted (Terms field size)) doc shown e = ap (λ (vs : List Value). map (λ (v : Value). value (slot_of v)) vs) e
spots_alike (Counted (Histogram field interval offset least dated)) doc shown e =
    ap (λ (o : Option ℤ). option_to_list (option_map (λ (z : ℤ). step (begin_of interval offset z)) o)) (whole_alike field doc shown e)
spots_alike (Metric kind field) doc shown e = refl
spots_alike (Ranges field ranges) doc shown e = ap (λ (o : Option ℤ). option_map_or (places 0 ranges) o []) (whole_alike field doc shown e)

abbrev nested_fields : List NamedFlat → List ℕ
nested_fields nested = map (λ named. field_of named.agg) nested

flats_alike : (nested : List NamedFlat) (parts : List FlatPart) (docs shown : List (List DocField)) → AllZip (HasValuesOf (nested_fields nested)) docs shown → AreStanding nested parts shown → AreStanding nested parts docs
flats_alike [] [] docs shown same h = tt
flats_alike [] (p ∷ ps) docs shown same h = absurd h
flats_alike (n ∷ ns) [] docs shown same h = absurd h
flats_alike (n ∷ ns) (p ∷ ps) docs shown same h = (
  flat_alike n.agg p docs shown (zip_wider (HasValuesOf (nested_fields (n ∷ ns))) (HasField (field_of n.agg)) docs shown (λ d x e. e.0) same) h.0,
  flats_alike ns ps docs shown (zip_wider (HasValuesOf (nested_fields (n ∷ ns))) (HasValuesOf (nested_fields ns)) docs shown (λ d x e. e.1) same) h.1,
)

none_alike : {A B : Type 0} (P : A → B → Type 0) (xs : List A) (ys : List B) → AllZip P xs ys → ys ≡ [] → xs ≡ []
none_alike P [] ys h e = refl
none_alike P (x ∷ xs) [] h e = absurd h
none_alike P (x ∷ xs) (y ∷ ys) h e = absurd (cc)

group_alike : (nested : List NamedFlat) (o : Option Group) (docs shown : List (List DocField)) → AllZip (HasValuesOf (nested_fields nested)) docs shown → GroupStands nested o shown → GroupStands nested o docs
group_alike nested None docs shown same h = none_alike (HasValuesOf (nested_fields nested)) docs shown same h
group_alike nested (Some group) docs shown same h = flats_alike nested group.parts.items docs shown same h

-- a part of an aggregation stands for documents in the place of their values
pub part_alike : (asked : NestedAgg) (part : NestedPart) (docs shown : List (List DocField)) → AllZip (HasValuesOf (fields_of asked)) docs shown → PartStands asked part shown → PartStands asked part docs
part_alike asked part docs shown same h = record {
  flat = flat_alike asked.agg part.flat docs shown (zip_wider (HasValuesOf (fields_of asked)) (HasField (field_of asked.agg)) docs shown (λ d x e. e.0) same) h.flat;
  groups = λ some. record { each = λ spot. at spot ((h.groups some).each spot); last = λ spot. subst (λ (n : ℕ). last_of (group_at part.groups spot) ≤ n) (zip_long (HasValuesOf (fields_of asked)) docs shown same) ((h.groups some).last spot) };
}
  where
    at : (spot : Spot) → GroupStands asked.nested (group_at part.groups spot) (documents_at asked.agg shown spot) → GroupStands asked.nested (group_at part.groups spot) (documents_at asked.agg docs spot)
    at spot h =
        group_alike asked.nested (group_at part.groups spot) (documents_at asked.agg docs spot) (documents_at asked.agg shown spot)
        (zip_wider (HasValuesOf (fields_of asked)) (HasValuesOf (nested_fields asked.nested)) (documents_at asked.agg docs spot) (documents_at asked.agg shown spot) (λ d x e. e.1)
        (filter_alike (HasValuesOf (fields_of asked)) (has_spot asked.agg spot) docs shown (λ d x e. ap (λ (ss : List Spot). list_any (same_spot spot) ss) (spots_alike asked.agg d x e.0)) same)) h
