-- A part of one aggregation, after one more document and after another part.
use Rattle.std.proofs.Common.{◌≡◌, ℕ, suc, ◌<◌, ◌≤◌, ◌+◌, ◌*◌, ◌^◌, Bool, true, false, cond, List, [], ◌∷◌, ◌++◌, length, get_or, length-append, Option, Some, None, refl, ◌∙◌, ap, arith, ℤ, sum_by, count_by, if◌then◌else◌}
use Rattle.std.proofs.lemmas.Grind.{flat_map-append}
use Rattle.std.proofs.lemmas.List.Concat.{length-flat_map}
use Rattle.std.proofs.lemmas.List.Elements.{All-map}
use Rattle.std.proofs.lemmas.List.Sums.{sum_by-append, sum_by-cons, count_by-le-length}
use Rattle.std.specs.List.{All}
use mir.Val.{bool_byte}
use Rattle.std.specs.Option.{option_to_list}
use Rattle.std.specs.Prelude.{Result, Ok, Err, OnOk}
use Rattle.doc_value.specs.declared.doc.DocField.{DocField}
use Rattle.agg_metrics.specs.Metrics.{IsMetricOf, HasRoom}
use Rattle.agg_metrics.specs.declared.metric_part.MetricPart.{MetricPart}
use Rattle.agg_metrics.proofs.Sums.{has_room}
use Rattle.agg_model.specs.Counting.{first_whole}
use Rattle.doc_value.specs.Documents.{values_in}
use Rattle.agg_model.specs.Partials.{IsPartialOf, StandsFor}
use Rattle.agg_model.specs.declared.partial.Partial.{Partial}
use Rattle.agg_model.specs.declared.request.NamedAgg.{NamedAgg}
use Rattle.agg_nested.specs.Answers.{values_counted, firsts}
use Rattle.agg_nested.specs.Partials.{FlatStands, MetricStands, ranges_counted}
use Rattle.agg_nested.specs.Spots.{holds, lies_within}
use Rattle.agg_nested.specs.Zipped.{IsZipped}
use Rattle.agg_nested.specs.declared.flat_part.FlatPart.{FlatPart}
use Rattle.agg_nested.specs.declared.flat_part.FlatPart.TheVariants as parts
use Rattle.agg_nested.specs.declared.request.FlatAgg.{FlatAgg}
use Rattle.agg_nested.specs.declared.request.FlatAgg.TheVariants.{Counted, Metric, Ranges}
use Rattle.agg_nested.specs.declared.request.WholeRange.{WholeRange}
use Rattle.agg_nested.proofs.Zipped.{zipped_stand, map_zip, zip_map}

-- ---- metrics
values_one : (field : ℕ) (docs : List (List DocField)) (doc : List DocField) → values_counted field (docs ++ doc ∷ []) ≡ values_counted field docs + length (values_in doc field)
values_one field docs doc =
    let f : List DocField → ℕ = λ d. length (values_in d field) in
    let both = sum_by-append f docs (doc ∷ []) in
    let one = sum_by-cons f doc [] in
    omega arith

firsts_one : (field : ℕ) (docs : List (List DocField)) (doc : List DocField) → firsts field (docs ++ doc ∷ []) ≡ firsts field docs ++ option_to_list (first_whole field doc)
firsts_one field docs doc = flat_map-append (λ d. option_to_list (first_whole field d)) docs (doc ∷ []) ∙ ap (λ zs. firsts field docs ++ zs) (at (first_whole field doc))
  where
    at : (o : Option ℤ) → option_to_list o ++ [] ≡ option_to_list o
    at None = refl
    at (Some z) = refl

firsts_short : (field : ℕ) (docs : List (List DocField)) → length (firsts field docs) ≤ length docs
firsts_short field docs = rw (length-flat_map (λ d. option_to_list (first_whole field d)) docs) (short docs)
  where
    at_most : (o : Option ℤ) → length (option_to_list o) ≤ 1
    at_most None = omega arith
    at_most (Some z) = omega arith

    short : (docs : List (List DocField)) → sum_by (λ d. length (option_to_list (first_whole field d))) docs ≤ length docs
    short [] = omega arith
    short (d ∷ ds) =
        let one = at_most (first_whole field d) in
        let rest = short ds in
        let both = sum_by-cons (λ d. length (option_to_list (first_whole field d))) d ds in
        omega arith

-- a part of few documents has room, also after the values of one more are counted
pub metric_room : (field n : ℕ) (docs : List (List DocField)) (part : MetricPart) → n < 2 ^ 64 → values_counted field docs ≤ length docs * 2 ^ 63 → length docs < 2 ^ 62
    → IsMetricOf (values_counted field docs + n) (firsts field docs) part → HasRoom part
metric_room field n docs part small few short h =
    let most = firsts_short field docs in
    has_room (values_counted field docs + n) (firsts field docs) part h (omega arith) (omega arith)

pub metric_more : (field n : ℕ) (docs : List (List DocField)) (doc : List DocField) (part : MetricPart) → n ≡ length (values_in doc field) → n ≤ 2 ^ 63
    → values_counted field docs ≤ length docs * 2 ^ 63 → IsMetricOf (values_counted field docs + n) (firsts field docs ++ option_to_list (first_whole field doc)) part
    → MetricStands field part (docs ++ doc ∷ [])
metric_more field n docs doc part is small few h = record {
  few = let own = values_one field docs doc in omega (arith, length-append {A = List DocField});
  stands = rw (values_one field docs doc, firsts_one field docs doc, ← is) h;
}

pub metric_both : (field : ℕ) (mine yours : List (List DocField)) (part : MetricPart)
    → values_counted field mine ≤ length mine * 2 ^ 63 → values_counted field yours ≤ length yours * 2 ^ 63
    → IsMetricOf (values_counted field mine + values_counted field yours) (firsts field mine ++ firsts field yours) part
    → MetricStands field part (mine ++ yours)
metric_both field mine yours part few less h = record {
  few = let own = sum_by-append (λ d. length (values_in d field)) mine yours in omega (arith, length-append {A = List DocField});
  stands = rw (sum_by-append (λ d. length (values_in d field)) mine yours, flat_map-append (λ d. option_to_list (first_whole field d)) mine yours) h;
}

-- ---- ranges
pub ranges_room : (field : ℕ) (ranges : List WholeRange) (docs : List (List DocField)) (counts : List ℕ) → counts ≡ ranges_counted field ranges docs → length docs < 2 ^ 62
    → All (λ count. count < 2 ^ 62) counts
ranges_room field ranges docs counts e short =
    rw e (All-map (λ count. count < 2 ^ 62) (λ r. count_by (lies_within field r) docs) ranges (λ k r l. (let most = count_by-le-length (lies_within field (get_or ranges k r)) docs in omega arith)))

abbrev pub any_range : WholeRange
any_range = record { from = None; to = None }

pub ranges_more : (field : ℕ) (ranges : List WholeRange) (docs : List (List DocField)) (doc : List DocField) (whole : ℤ) (old new : List ℕ)
    → first_whole field doc ≡ Some whole
    → IsZipped (λ (r s : WholeRange) (o n : ℕ). n ≡ o + (if holds r whole then 1 else 0)) ranges ranges old new
    → old ≡ ranges_counted field ranges docs → new ≡ ranges_counted field ranges (docs ++ doc ∷ [])
ranges_more field ranges docs doc whole old new first zipped e =
    zip_map (λ r. count_by (lies_within field r) (docs ++ doc ∷ [])) ranges new
    (zipped_stand (λ (r s : WholeRange) (o n : ℕ). n ≡ o + (if holds r whole then 1 else 0)) (λ r n. n ≡ count_by (lies_within field r) docs) (λ r n. n ≡ count_by (lies_within field r) (docs ++ doc ∷ []))
    (λ r s. Unit {0}) one ranges ranges old new (map_zip (λ r. count_by (lies_within field r) docs) ranges old e) (λ k r s l. tt) any_range zipped)
  where
    one : (r s : WholeRange) (o n : ℕ) → n ≡ o + (if holds r whole then 1 else 0) → o ≡ count_by (lies_within field r) docs → Unit {0} → n ≡ count_by (lies_within field r) (docs ++ doc ∷ [])
    one r s o n step h u =
        let f : List DocField → ℕ = λ d. cond (lies_within field r d) 1 0 in
        let both = sum_by-append f docs (doc ∷ []) in
        let last = sum_by-cons f doc [] in
        let own : f doc ≡ (if holds r whole then 1 else 0) = rw first refl in
        omega arith

pub ranges_both : (field : ℕ) (ranges : List WholeRange) (mine yours : List (List DocField)) (old others new : List ℕ)
    → IsZipped (λ (other s : ℕ) (o n : ℕ). n ≡ o + other) others others old new
    → old ≡ ranges_counted field ranges mine → others ≡ ranges_counted field ranges yours → new ≡ ranges_counted field ranges (mine ++ yours)
ranges_both field ranges mine yours old others new zipped e f =
    let low = length_counted mine ranges in
    let high = length_counted yours ranges in
    let long = ap length e in
    let wide = ap length f in
    let same = zipped.long in
    both ranges old others new e f (omega arith) (λ k l. zipped.done k 0 0 0 (omega arith))
  where
    length_counted : (docs : List (List DocField)) (rs : List WholeRange) → length (ranges_counted field rs docs) ≡ length rs
    length_counted docs [] = refl
    length_counted docs (r ∷ rs) = ap suc (length_counted docs rs)

    both : (rs : List WholeRange) (old others new : List ℕ) → old ≡ ranges_counted field rs mine → others ≡ ranges_counted field rs yours → length new ≡ length rs
        → ((k : ℕ) → k < length rs → get_or new k 0 ≡ get_or old k 0 + get_or others k 0) → new ≡ ranges_counted field rs (mine ++ yours)
    both [] old others [] e f l h = refl
    both [] old others (n ∷ new) e f l h = absurd (omega arith)
    both (r ∷ rs) old others [] e f l h = absurd (omega arith)
    both (r ∷ rs) [] others (n ∷ new) e f l h = absurd (let x = ap length e in omega arith)
    both (r ∷ rs) (o ∷ old) [] (n ∷ new) e f l h = absurd (let x = ap length f in omega arith)
    both (r ∷ rs) (o ∷ old) (p ∷ others) (n ∷ new) e f l h =
        let first = h 0 (omega arith) in
        let a : o ≡ count_by (lies_within field r) mine = cc in
        let b : p ≡ count_by (lies_within field r) yours = cc in
        let all = sum_by-append (λ d. cond (lies_within field r d) 1 0) mine yours in
        let own : n ≡ count_by (lies_within field r) (mine ++ yours) = omega arith in
        let rest = both rs old others new (let x : old ≡ ranges_counted field rs mine = cc in x) (let x : others ≡ ranges_counted field rs yours = cc in x) (omega arith) (λ k m. h (suc k) (omega arith)) in
        rw (own, rest) refl

pub zeros : (field : ℕ) (ranges : List WholeRange) (counts : List ℕ) → length counts ≡ length ranges → All (λ count. count ≡ 0) counts → counts ≡ ranges_counted field ranges []
zeros field [] [] l h = refl
zeros field [] (n ∷ ns) l h = absurd (omega arith)
zeros field (r ∷ rs) [] l h = absurd (omega arith)
zeros field (r ∷ rs) (n ∷ ns) l h = rw (h 0 n (omega arith), zeros field rs ns (omega arith) (λ k d m. h (suc k) d (omega arith))) refl

-- ---- of any aggregation
pub metric_has_room : (agg : FlatAgg) (part : MetricPart) (docs : List (List DocField)) → FlatStands agg (parts.Metric part) docs → length docs < 2 ^ 62 → HasRoom part
metric_has_room (Counted agg) part docs h short = absurd h
metric_has_room (Metric kind field) part docs h short =
    let most = firsts_short field docs in
    let few = h.few in
    has_room (values_counted field docs) (firsts field docs) part h.stands (omega arith) (omega arith)
metric_has_room (Ranges field ranges) part docs h short = absurd h

pub ranges_have_room : (agg : FlatAgg) (counts : List ℕ) (docs : List (List DocField)) → FlatStands agg (parts.Ranges counts) docs → length docs < 2 ^ 62 → All (λ count. count < 2 ^ 62) counts
ranges_have_room (Counted agg) counts docs h short = absurd h
ranges_have_room (Metric kind field) counts docs h short = absurd h
ranges_have_room (Ranges field ranges) counts docs h short = ranges_room field ranges docs counts h short

pub metrics_merged : (agg : FlatAgg) (a b new : MetricPart)
    → ((n m : ℕ) (values others : List ℤ) → IsMetricOf n values a → IsMetricOf m others b → IsMetricOf (n + m) (values ++ others) new)
    → (mine yours : List (List DocField)) → FlatStands agg (parts.Metric a) mine → FlatStands agg (parts.Metric b) yours → FlatStands agg (parts.Metric new) (mine ++ yours)
metrics_merged (Counted agg) a b new step mine yours h k = absurd h
metrics_merged (Metric kind field) a b new step mine yours h k =
    metric_both field mine yours new h.few k.few (step (values_counted field mine) (values_counted field yours) (firsts field mine) (firsts field yours) h.stands k.stands)
metrics_merged (Ranges field ranges) a b new step mine yours h k = absurd h

pub ranges_merged : (agg : FlatAgg) (old others new : List ℕ) → IsZipped (λ (other s : ℕ) (o n : ℕ). n ≡ o + other) others others old new
    → (mine yours : List (List DocField)) → FlatStands agg (parts.Ranges old) mine → FlatStands agg (parts.Ranges others) yours → FlatStands agg (parts.Ranges new) (mine ++ yours)
ranges_merged (Counted agg) old others new zipped mine yours h k = absurd h
ranges_merged (Metric kind field) old others new zipped mine yours h k = absurd h
ranges_merged (Ranges field ranges) old others new zipped mine yours h k = ranges_both field ranges mine yours old others new zipped h k

-- ---- another part of the same aggregation is of the same kind
pub counts_merged : (agg : FlatAgg) (asked others : List NamedAgg) (a b new : Partial)
    → IsPartialOf asked new
    → ((mine yours : List (List DocField)) → StandsFor asked a mine → StandsFor asked b yours → StandsFor asked new (mine ++ yours))
    → (mine yours : List (List DocField)) → FlatStands agg (parts.Counted asked a) mine → FlatStands agg (parts.Counted others b) yours
    → FlatStands agg (parts.Counted asked new) (mine ++ yours)
counts_merged (Counted agg) asked others a b new known step mine yours h k = record {
  is = h.is;
  known = rw h.is at known;
  stands = (rw h.is at step) mine yours h.stands k.stands;
}
counts_merged (Metric kind field) asked others a b new known step mine yours h k = absurd h
counts_merged (Ranges field ranges) asked others a b new known step mine yours h k = absurd h

pub counts_other : (agg : FlatAgg) (asked : List NamedAgg) (a : Partial) (other : FlatPart) (mine yours : List (List DocField))
    → FlatStands agg (parts.Counted asked a) mine → FlatStands agg other yours → (others : List NamedAgg) × (b : Partial) × (other ≡ parts.Counted others b)
counts_other (Counted agg) asked a (parts.Counted others b) mine yours h k = (others, b, refl)
counts_other (Counted agg) asked a (parts.Metric m) mine yours h k = absurd k
counts_other (Counted agg) asked a (parts.Ranges ns) mine yours h k = absurd k
counts_other (Metric kind field) asked a other mine yours h k = absurd h
counts_other (Ranges field ranges) asked a other mine yours h k = absurd h

pub metric_other : (agg : FlatAgg) (a : MetricPart) (other : FlatPart) (mine yours : List (List DocField))
    → FlatStands agg (parts.Metric a) mine → FlatStands agg other yours → (b : MetricPart) × (other ≡ parts.Metric b)
metric_other (Counted agg) a other mine yours h k = absurd h
metric_other (Metric kind field) a (parts.Counted others b) mine yours h k = absurd k
metric_other (Metric kind field) a (parts.Metric m) mine yours h k = (m, refl)
metric_other (Metric kind field) a (parts.Ranges ns) mine yours h k = absurd k
metric_other (Ranges field ranges) a other mine yours h k = absurd h

pub ranges_other : (agg : FlatAgg) (a : List ℕ) (other : FlatPart) (mine yours : List (List DocField))
    → FlatStands agg (parts.Ranges a) mine → FlatStands agg other yours → (b : List ℕ) × (other ≡ parts.Ranges b)
ranges_other (Counted agg) a other mine yours h k = absurd h
ranges_other (Metric kind field) a other mine yours h k = absurd h
ranges_other (Ranges field ranges) a (parts.Counted others b) mine yours h k = absurd k
ranges_other (Ranges field ranges) a (parts.Metric m) mine yours h k = absurd k
ranges_other (Ranges field ranges) a (parts.Ranges ns) mine yours h k = (ns, refl)

-- two things that hold of an Ok give a third
pub both_weaker : {T E : Type 0} {A B C : Type 0} (r : Result T E) → (A → B → C) → OnOk r A → OnOk r B → OnOk r C
both_weaker (Ok x) f a b = f a b
both_weaker (Err e) f a b = tt

pub bool_number : (b : Bool) → bool_byte b ≡ (if b then 1 else 0)
bool_number true = refl
bool_number false = refl
