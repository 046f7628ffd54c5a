-- Sums of joined lists, and how large a sum of few numbers is.
use Rattle.std.proofs.Common.{◌≡◌, ℕ, suc, ◌<◌, ◌≤◌, ◌+◌, ◌*◌, ◌^◌, List, [], ◌∷◌, ◌++◌, arith, length, ℤ, ◌+ℤ◌}
use Rattle.std.proofs.lemmas.Int.{ints}
use Rattle.std.specs.Int.RustNames.{unsigned_abs}
use Rattle.std.specs.List.{All}
use Rattle.agg_metrics.specs.Metrics.{IsWhole, total, IsMetricOf, HasRoom}
use Rattle.agg_metrics.specs.declared.metric_part.MetricPart.{MetricPart}

pub total_append : (xs ys : List ℤ) → total (xs ++ ys) ≡ total xs +ℤ total ys
total_append [] ys = omega (arith, ints)
total_append (x ∷ xs) ys = let rest = total_append xs ys in omega (arith, ints)

pub size_of_sum : (a b : ℤ) → unsigned_abs (a +ℤ b) ≤ unsigned_abs a + unsigned_abs b
size_of_sum a b = omega (arith, ints)

pub total_is_small : (values : List ℤ) → All IsWhole values → unsigned_abs (total values) ≤ length values * 2 ^ 64
total_is_small [] h = omega arith
total_is_small (x ∷ xs) h =
    let own : unsigned_abs x < 2 ^ 64 = h 0 x (omega arith) in
    let rest = total_is_small xs (λ i d l. h (suc i) d (omega arith)) in
    let most = size_of_sum x (total xs) in
    omega arith

pub has_room : (counted : ℕ) (values : List ℤ) (part : MetricPart) → IsMetricOf counted values part → counted < 2 ^ 126 → length values < 2 ^ 62 → HasRoom part
has_room counted values part h few short = record {
  count = rw h.count few;
  sum = rw h.sum (let most = total_is_small values h.wholes in omega arith);
}
