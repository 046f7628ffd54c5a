-- Sums and extremes that were worked out by hand.
use Rattle.std.specs.Prelude.{◌≡◌, ℤ, pos, negsuc, List, [], ◌∷◌, Some, None, refl}
use Rattle.agg_metrics.specs.Metrics.{total, least_of, greatest_of}

-- 5, 12 and -1
abbrev sizes : List ℤ
sizes = pos 5 ∷ pos 12 ∷ negsuc 0 ∷ []

pub sum_of_sizes : total sizes ≡ pos 16
sum_of_sizes = refl

pub least_of_sizes : least_of sizes ≡ Some (negsuc 0)
least_of_sizes = refl

pub greatest_of_sizes : greatest_of sizes ≡ Some (pos 12)
greatest_of_sizes = refl

-- no numbers have the sum 0, and no extremes
pub sum_of_none : total [] ≡ pos 0
sum_of_none = refl

pub least_of_none : least_of [] ≡ None
least_of_none = refl

pub greatest_of_none : greatest_of [] ≡ None
greatest_of_none = refl
