-- What a part stands for after a call.
use Rattle.std.proofs.Common.{◌≡◌, ℕ, ◌+◌, List, [], ◌∷◌, ◌++◌, Some, refl, sym, ◌∙◌, ap, arith, ℤ, ◌+ℤ◌, ◌≤ℤ◌, ◌<ℤ◌}
use Rattle.std.proofs.lemmas.Int.{ints}
use Rattle.std.proofs.lemmas.List.Elements.{All-append, All-push}
use Rattle.std.specs.Int.{int_min, int_max}
use Rattle.agg_metrics.specs.Metrics.{IsMetricOf, IsWhole, lowest, highest, least_of, greatest_of}
use Rattle.agg_metrics.specs.declared.metric_part.MetricPart.{MetricPart}
use Rattle.agg_metrics.proofs.Sums.{total_append}
use Rattle.agg_metrics.proofs.Extremes.{lowest_append, highest_append, lowest_of_one, highest_of_one, apart, ordered}

pub merged : (a b new : MetricPart) → new.count ≡ a.count + b.count → new.sum ≡ a.sum +ℤ b.sum → new.least ≡ int_min a.least b.least → new.greatest ≡ int_max a.greatest b.greatest
    → (mine yours : ℕ) (values others : List ℤ) → IsMetricOf mine values a → IsMetricOf yours others b → IsMetricOf (mine + yours) (values ++ others) new
merged a b new count sum least greatest mine yours values others h k = record {
  wholes = All-append IsWhole values others h.wholes k.wholes;
  count = rw (count, h.count, k.count) refl;
  sum = rw (sum, h.sum, k.sum) (sym (total_append values others));
  least = rw (least, h.least, k.least) (lowest_append values others h.wholes k.wholes);
  greatest = rw (greatest, h.greatest, k.greatest) (highest_append values others h.wholes k.wholes);
}

pub added : (a new : MetricPart) (value : ℤ) → IsWhole value → new.count ≡ a.count → new.sum ≡ a.sum +ℤ value → new.least ≡ int_min a.least value → new.greatest ≡ int_max a.greatest value
    → (counted : ℕ) (values : List ℤ) → IsMetricOf counted values a → IsMetricOf counted (values ++ value ∷ []) new
added a new value small count sum least greatest counted values h =
    let one = All-push IsWhole [] value (λ i d l. absurd (omega arith)) small in
    record {
      wholes = All-push IsWhole values value h.wholes small;
      count = count ∙ h.count;
      sum = rw (sum, h.sum, total_append values (value ∷ [])) (omega (arith, ints));
      least = rw (least, h.least, ← lowest_append values (value ∷ []) h.wholes one) (ap (int_min (lowest values)) (sym (lowest_of_one value)));
      greatest = rw (greatest, h.greatest, ← highest_append values (value ∷ []) h.wholes one) (ap (int_max (highest values)) (sym (highest_of_one value)));
    }

-- the extremes are told by whether the lowest is above the highest
pub least_is : (part : MetricPart) (counted : ℕ) (values : List ℤ) → IsMetricOf counted values part → part.least ≤ℤ part.greatest → Some part.least ≡ least_of values
least_is part counted [] h l = absurd (apart (rw (h.least, h.greatest) at l))
least_is part counted (v ∷ vs) h l = ap Some h.least

pub greatest_is : (part : MetricPart) (counted : ℕ) (values : List ℤ) → IsMetricOf counted values part → part.least ≤ℤ part.greatest → Some part.greatest ≡ greatest_of values
greatest_is part counted [] h l = absurd (apart (rw (h.least, h.greatest) at l))
greatest_is part counted (v ∷ vs) h l = ap Some h.greatest

pub none_is : (part : MetricPart) (counted : ℕ) (values : List ℤ) → IsMetricOf counted values part → part.greatest <ℤ part.least → values ≡ []
none_is part counted [] h l = refl
none_is part counted (v ∷ vs) h l =
    let o = ordered v vs (h.wholes 0 v (omega arith)) in
    let p : highest (v ∷ vs) <ℤ lowest (v ∷ vs) = rw (h.least, h.greatest) at l in
    absurd (omega (arith, ints))
