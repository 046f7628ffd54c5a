-- What is counted of documents in another order.
use Rattle.std.proofs.Common.{◌≡◌, ℕ, ◌+◌, ◌*◌, ◌-◌, ◌<◌, ◌≤◌, ◌^◌, List, [], ◌∷◌, length, filter, sum_by, count_by, Option, Some, None, IsPermutation, refl, ap, ap₂, sym, subst, ◌∙◌, arith, ℤ, pos, negsuc, ◌+ℤ◌, ◌≤ℤ◌}
use Rattle.std.specs.Int.{int_min, int_max}
use Rattle.std.specs.Int.RustNames.{unsigned_abs}
use Rattle.std.specs.List.{All, AllByRecursion, AllZip}
use Rattle.std.proofs.lemmas.Int.{ints, clamps}
use Rattle.std.proofs.lemmas.List.Elements.{All-from_recursion, recursion_from_All}
use Rattle.std.proofs.lemmas.List.Sorted.{All-permutation, IsPermutation-sym, length_permutation, sum_by-IsPermutation}
use Rattle.std.proofs.lemmas.List.Sums.{length-filter, sum_by-cons}
use Rattle.std.specs.Option.{option_to_list}
use Rattle.meta_store.proofs.Lists.{IsPermutation-filter, IsPermutation-flat_map}
use Rattle.doc_value.specs.declared.doc.DocField.{DocField}
use Rattle.agg_metrics.specs.Metrics.{IsMetricOf, IsWhole, total, lowest, highest}
use Rattle.agg_metrics.specs.declared.metric_part.MetricPart.{MetricPart}
use Rattle.agg_model.specs.Counting.{first_whole}
use Rattle.doc_value.specs.Documents.{values_in}
use Rattle.agg_model.specs.Partials.{CountsFor, StandsFor}
use Rattle.agg_model.specs.declared.counts.Counts.{Counts}
use Rattle.agg_model.specs.declared.partial.Partial.{Partial}
use Rattle.agg_model.specs.declared.request.Agg.{Agg}
use Rattle.agg_model.specs.declared.request.Agg.TheVariants.{Terms, Histogram}
use Rattle.agg_model.specs.declared.request.NamedAgg.{NamedAgg}
use Rattle.agg_nested.specs.Answers.{firsts, values_counted}
use Rattle.agg_nested.specs.Buckets.{GroupsStand, NestedStands, PartStands, group_at}
use Rattle.agg_nested.specs.Groups.{GroupStands, last_of}
use Rattle.agg_nested.specs.Partials.{AreStanding, FlatStands, MetricStands, alone, ranges_counted}
use Rattle.agg_nested.specs.Spots.{has_spot, lies_within}
use Rattle.agg_nested.specs.declared.flat_part.FlatPart.{FlatPart}
use Rattle.agg_nested.specs.declared.flat_part.FlatPart.TheVariants as parts
use Rattle.agg_nested.specs.declared.group.Group.{Group}
use Rattle.agg_nested.specs.declared.groups.Groups.{Groups}
use Rattle.agg_nested.specs.declared.nested_partial.NestedPart.{NestedPart}
use Rattle.agg_nested.specs.declared.nested_partial.NestedPartial.{NestedPartial}
use Rattle.agg_nested.specs.declared.request.FlatAgg.{FlatAgg}
use Rattle.agg_nested.specs.declared.request.FlatAgg.TheVariants.{Counted, Metric, Ranges}
use Rattle.agg_nested.specs.declared.request.NamedFlat.{NamedFlat}
use Rattle.agg_nested.specs.declared.request.NestedAgg.{NestedAgg}
use Rattle.agg_nested.specs.declared.request.WholeRange.{WholeRange}

abbrev Documents : Type 0
Documents = List (List DocField)

-- ---- agg_model's counts

counts_moved : (agg : Agg) (counts : Counts) (ds es : Documents) → IsPermutation ds es → CountsFor agg counts ds → CountsFor agg counts es
counts_moved (Terms field size) counts ds es same h = λ value. h value ∙ sym (sum_by-IsPermutation _ ds es same)
counts_moved (Histogram field interval offset least dated) counts ds es same h = λ step. h step ∙ sym (sum_by-IsPermutation _ ds es same)

counted_parts : (request : List NamedAgg) (ps : List Counts) (ds es : Documents) → IsPermutation ds es → AllZip (λ named counts. CountsFor named.agg counts ds) request ps → AllZip (λ named counts. CountsFor named.agg counts es) request ps
counted_parts [] [] ds es same h = h
counted_parts [] (part ∷ ps) ds es same h = h
counted_parts (named ∷ rest) [] ds es same h = h
counted_parts (named ∷ rest) (part ∷ ps) ds es same h = (counts_moved named.agg part ds es same h.0, counted_parts rest ps ds es same h.1)

counted_moved : (request : List NamedAgg) (partial : Partial) (ds es : Documents) → IsPermutation ds es → StandsFor request partial ds → StandsFor request partial es
counted_moved request partial ds es same h =
    record {
      many = h.many ∙ sym (length_permutation ds es same);
      parts = counted_parts request partial.parts.items ds es same h.parts;
    }

-- ---- sums

abbrev gains : ℤ → ℕ
gains (pos n) = n
gains (negsuc n) = 0

abbrev losses : ℤ → ℕ
losses (pos n) = 0
losses (negsuc n) = n + 1

total_split : (vs : List ℤ) → total vs +ℤ pos (sum_by losses vs) ≡ pos (sum_by gains vs)
total_split [] = omega (arith, ints)
total_split (pos n ∷ vs) =
    let rest = total_split vs in
    let won : sum_by gains (pos n ∷ vs) ≡ n + sum_by gains vs = sum_by-cons gains (pos n) vs in
    let lost : sum_by losses (pos n ∷ vs) ≡ 0 + sum_by losses vs = sum_by-cons losses (pos n) vs in
    omega (arith, ints)
total_split (negsuc n ∷ vs) =
    let rest = total_split vs in
    let won : sum_by gains (negsuc n ∷ vs) ≡ 0 + sum_by gains vs = sum_by-cons gains (negsuc n) vs in
    let lost : sum_by losses (negsuc n ∷ vs) ≡ (n + 1) + sum_by losses vs = sum_by-cons losses (negsuc n) vs in
    omega (arith, ints)

total_moved : (vs ws : List ℤ) → IsPermutation vs ws → total vs ≡ total ws
total_moved vs ws same =
    let one = total_split vs in
    let other = total_split ws in
    let won = sum_by-IsPermutation gains vs ws same in
    let lost = sum_by-IsPermutation losses vs ws same in
    omega (arith, ints)

-- ---- extremes

lower : (a b : ℤ) (vs : List ℤ) → a ≤ℤ b → AllByRecursion (λ v. b ≤ℤ v) vs → AllByRecursion (λ v. a ≤ℤ v) vs
lower a b [] le h = tt
lower a b (v ∷ vs) le h = let own = h.0 in (omega (arith, ints), lower a b vs le h.1)

higher : (a b : ℤ) (vs : List ℤ) → b ≤ℤ a → AllByRecursion (λ v. v ≤ℤ b) vs → AllByRecursion (λ v. v ≤ℤ a) vs
higher a b [] le h = tt
higher a b (v ∷ vs) le h = let own = h.0 in (omega (arith, ints), higher a b vs le h.1)

lowest_below : (vs : List ℤ) → AllByRecursion (λ v. lowest vs ≤ℤ v) vs
lowest_below [] = tt
lowest_below (v ∷ []) = (omega (arith, ints), tt)
lowest_below (v ∷ w ∷ ws) = (omega (arith, ints, clamps), lower (int_min v (lowest (w ∷ ws))) (lowest (w ∷ ws)) (w ∷ ws) (omega (arith, ints, clamps)) (lowest_below (w ∷ ws)))

highest_above : (vs : List ℤ) → AllByRecursion (λ v. v ≤ℤ highest vs) vs
highest_above [] = tt
highest_above (v ∷ []) = (omega (arith, ints), tt)
highest_above (v ∷ w ∷ ws) = (omega (arith, ints, clamps), higher (int_max v (highest (w ∷ ws))) (highest (w ∷ ws)) (w ∷ ws) (omega (arith, ints, clamps)) (highest_above (w ∷ ws)))

below_lowest : (m : ℤ) (vs : List ℤ) → m ≤ℤ pos (2 ^ 127 - 1) → AllByRecursion (λ v. m ≤ℤ v) vs → m ≤ℤ lowest vs
below_lowest m [] top h = top
below_lowest m (v ∷ []) top h = h.0
below_lowest m (v ∷ w ∷ ws) top h =
    let own = h.0 in
    let rest = below_lowest m (w ∷ ws) top h.1 in
    omega (arith, ints, clamps)

above_highest : (m : ℤ) (vs : List ℤ) → negsuc (2 ^ 127 - 1) ≤ℤ m → AllByRecursion (λ v. v ≤ℤ m) vs → highest vs ≤ℤ m
above_highest m [] bottom h = bottom
above_highest m (v ∷ []) bottom h = h.0
above_highest m (v ∷ w ∷ ws) bottom h =
    let own = h.0 in
    let rest = above_highest m (w ∷ ws) bottom h.1 in
    omega (arith, ints, clamps)

lowest_top : (vs : List ℤ) → All IsWhole vs → lowest vs ≤ℤ pos (2 ^ 127 - 1)
lowest_top [] whole = omega (arith, ints)
lowest_top (v ∷ vs) whole =
    let own : unsigned_abs v < 2 ^ 64 = whole 0 v (omega arith) in
    let le : lowest (v ∷ vs) ≤ℤ v = (lowest_below (v ∷ vs)).0 in
    omega (arith, ints)

highest_bottom : (vs : List ℤ) → All IsWhole vs → negsuc (2 ^ 127 - 1) ≤ℤ highest vs
highest_bottom [] whole = omega (arith, ints)
highest_bottom (v ∷ vs) whole =
    let own : unsigned_abs v < 2 ^ 64 = whole 0 v (omega arith) in
    let le : v ≤ℤ highest (v ∷ vs) = (highest_above (v ∷ vs)).0 in
    omega (arith, ints)

lowest_under : (vs ws : List ℤ) → All IsWhole vs → IsPermutation vs ws → lowest vs ≤ℤ lowest ws
lowest_under vs ws whole same =
    below_lowest (lowest vs) ws (lowest_top vs whole)
    (recursion_from_All (λ w. lowest vs ≤ℤ w) ws (All-permutation (λ w. lowest vs ≤ℤ w) vs ws same (All-from_recursion (λ w. lowest vs ≤ℤ w) vs (lowest_below vs))))

highest_over : (vs ws : List ℤ) → All IsWhole vs → IsPermutation vs ws → highest ws ≤ℤ highest vs
highest_over vs ws whole same =
    above_highest (highest vs) ws (highest_bottom vs whole)
    (recursion_from_All (λ w. w ≤ℤ highest vs) ws (All-permutation (λ w. w ≤ℤ highest vs) vs ws same (All-from_recursion (λ w. w ≤ℤ highest vs) vs (highest_above vs))))

lowest_moved : (vs ws : List ℤ) → All IsWhole vs → IsPermutation vs ws → lowest vs ≡ lowest ws
lowest_moved vs ws whole same =
    let one = lowest_under vs ws whole same in
    let other = lowest_under ws vs (All-permutation IsWhole vs ws same whole) (IsPermutation-sym vs ws same) in
    omega (arith, ints)

highest_moved : (vs ws : List ℤ) → All IsWhole vs → IsPermutation vs ws → highest vs ≡ highest ws
highest_moved vs ws whole same =
    let one = highest_over vs ws whole same in
    let other = highest_over ws vs (All-permutation IsWhole vs ws same whole) (IsPermutation-sym vs ws same) in
    omega (arith, ints)

-- ---- metrics and ranges

values_moved : (field : ℕ) (ds es : Documents) → IsPermutation ds es → values_counted field es ≡ values_counted field ds
values_moved field ds es same = sum_by-IsPermutation (λ (doc : List DocField). length (values_in doc field)) ds es same

firsts_moved : (field : ℕ) (ds es : Documents) → IsPermutation ds es → IsPermutation (firsts field ds) (firsts field es)
firsts_moved field ds es same = IsPermutation-flat_map (λ (doc : List DocField). option_to_list (first_whole field doc)) ds es same

metric_of_moved : (field : ℕ) (part : MetricPart) (ds es : Documents) → IsPermutation ds es → IsMetricOf (values_counted field ds) (firsts field ds) part → IsMetricOf (values_counted field es) (firsts field es) part
metric_of_moved field part ds es same h =
    let moved = firsts_moved field ds es same in
    record {
      wholes = All-permutation IsWhole (firsts field ds) (firsts field es) moved h.wholes;
      count = h.count ∙ sym (values_moved field ds es same);
      sum = h.sum ∙ total_moved (firsts field ds) (firsts field es) moved;
      least = h.least ∙ lowest_moved (firsts field ds) (firsts field es) h.wholes moved;
      greatest = h.greatest ∙ highest_moved (firsts field ds) (firsts field es) h.wholes moved;
    }

metric_moved : (field : ℕ) (part : MetricPart) (ds es : Documents) → IsPermutation ds es → MetricStands field part ds → MetricStands field part es
metric_moved field part ds es same h =
    let values = values_moved field ds es same in
    let long = length_permutation ds es same in
    record {
      few = subst (λ (n : ℕ). n ≤ length es * 2 ^ 63) (sym values) (subst (λ (n : ℕ). values_counted field ds ≤ n * 2 ^ 63) (sym long) h.few);
      stands = metric_of_moved field part ds es same h.stands;
    }

range_moved : (field : ℕ) (r : WholeRange) (ds es : Documents) → IsPermutation ds es → count_by (lies_within field r) ds ≡ count_by (lies_within field r) es
range_moved field r ds es same =
    sym (length-filter (lies_within field r) ds)
    ∙ (sym (length_permutation (filter (lies_within field r) ds) (filter (lies_within field r) es) (IsPermutation-filter (lies_within field r) ds es same)) ∙ length-filter (lies_within field r) es)

ranges_moved : (field : ℕ) (ranges : List WholeRange) (ds es : Documents) → IsPermutation ds es → ranges_counted field ranges ds ≡ ranges_counted field ranges es
ranges_moved field [] ds es same = refl
ranges_moved field (r ∷ rs) ds es same = ap₂ (λ (n : ℕ) (ns : List ℕ). n ∷ ns) (range_moved field r ds es same) (ranges_moved field rs ds es same)

-- ---- a part, and those of a bucket

flat_moved : (agg : FlatAgg) (part : FlatPart) (ds es : Documents) → IsPermutation ds es → FlatStands agg part ds → FlatStands agg part es
flat_moved (Counted agg) (parts.Counted asked partial) ds es same h = record { is = h.is; known = h.known; stands = counted_moved (alone agg) partial ds es same h.stands }
flat_moved (Counted agg) (parts.Metric part) ds es same h = absurd h
flat_moved (Counted agg) (parts.Ranges counts) ds es same h = absurd h
flat_moved (Metric kind field) (parts.Counted asked partial) ds es same h = absurd h
flat_moved (Metric kind field) (parts.Metric part) ds es same h = metric_moved field part ds es same h
flat_moved (Metric kind field) (parts.Ranges counts) ds es same h = absurd h
flat_moved (Ranges field ranges) (parts.Counted asked partial) ds es same h = absurd h
flat_moved (Ranges field ranges) (parts.Metric part) ds es same h = absurd h
flat_moved (Ranges field ranges) (parts.Ranges counts) ds es same h = h ∙ ranges_moved field ranges ds es same

standing_moved : (nested : List NamedFlat) (ps : List FlatPart) (ds es : Documents) → IsPermutation ds es → AreStanding nested ps ds → AreStanding nested ps es
standing_moved [] [] ds es same h = h
standing_moved [] (part ∷ ps) ds es same h = h
standing_moved (named ∷ rest) [] ds es same h = h
standing_moved (named ∷ rest) (part ∷ ps) ds es same h = (flat_moved named.agg part ds es same h.0, standing_moved rest ps ds es same h.1)

none_moved : (ds es : Documents) → IsPermutation ds es → ds ≡ [] → es ≡ []
none_moved ds [] same none = refl
none_moved ds (e ∷ es) same none =
    let long = length_permutation ds (e ∷ es) same in
    let no = ap (λ (l : Documents). length l) none in
    absurd (omega (arith, long, no))

group_moved : (nested : List NamedFlat) (o : Option Group) (ds es : Documents) → IsPermutation ds es → GroupStands nested o ds → GroupStands nested o es
group_moved nested None ds es same h = none_moved ds es same h
group_moved nested (Some group) ds es same h = standing_moved nested group.parts.items ds es same h

groups_moved : (agg : FlatAgg) (nested : List NamedFlat) (groups : Groups) (ds es : Documents) → IsPermutation ds es → GroupsStand agg nested groups ds → GroupsStand agg nested groups es
groups_moved agg nested groups ds es same h =
    record {
      each = λ spot. group_moved nested (group_at groups spot) (filter (has_spot agg spot) ds) (filter (has_spot agg spot) es) (IsPermutation-filter (has_spot agg spot) ds es same) (h.each spot);
      last = λ spot. subst (λ (n : ℕ). last_of (group_at groups spot) ≤ n) (sym (length_permutation ds es same)) (h.last spot);
    }

-- ---- a request

part_moved : (asked : NestedAgg) (part : NestedPart) (ds es : Documents) → IsPermutation ds es → PartStands asked part ds → PartStands asked part es
part_moved asked part ds es same h =
    record {
      flat = flat_moved asked.agg part.flat ds es same h.flat;
      groups = λ some. groups_moved asked.agg asked.nested part.groups ds es same (h.groups some);
    }

parts_moved : (request : List NestedAgg) (ps : List NestedPart) (ds es : Documents) → IsPermutation ds es → AllZip (λ asked part. PartStands asked part ds) request ps → AllZip (λ asked part. PartStands asked part es) request ps
parts_moved [] [] ds es same h = h
parts_moved [] (part ∷ ps) ds es same h = h
parts_moved (asked ∷ rest) [] ds es same h = h
parts_moved (asked ∷ rest) (part ∷ ps) ds es same h = (part_moved asked part ds es same h.0, parts_moved rest ps ds es same h.1)

pub nested_moved : (request : List NestedAgg) (partial : NestedPartial) (ds es : Documents) → IsPermutation ds es → NestedStands request partial ds → NestedStands request partial es
nested_moved request partial ds es same h =
    record {
      many = h.many ∙ sym (length_permutation ds es same);
      parts = parts_moved request partial.parts.items ds es same h.parts;
    }
