-- Extremes of joined lists.
use Rattle.std.proofs.Common.{◌≡◌, suc, ◌<◌, ◌-◌, ◌^◌, List, [], ◌∷◌, ◌++◌, Option, Some, None, refl, arith, ℤ, pos, negsuc, ◌≤ℤ◌}
use Rattle.std.proofs.lemmas.Int.{ints, clamps}
use Rattle.std.specs.Int.{int_min, int_max}
use Rattle.std.specs.Int.RustNames.{unsigned_abs}
use Rattle.std.specs.List.{All}
use Rattle.std.specs.Option.{option_map_or}
use Rattle.agg_metrics.specs.Metrics.{IsWhole, least_of, greatest_of, lowest, highest}

-- with one more in front
lowest_cons : (v : ℤ) (vs : List ℤ) → unsigned_abs v < 2 ^ 64 → lowest (v ∷ vs) ≡ int_min v (lowest vs)
lowest_cons v vs small = at (least_of vs)
  where
    at : (o : Option ℤ) → option_map_or (int_min v) o v ≡ int_min v (option_map_or (λ value. value) o (pos (2 ^ 127 - 1)))
    at None = omega (arith, ints, clamps)
    at (Some m) = refl

highest_cons : (v : ℤ) (vs : List ℤ) → unsigned_abs v < 2 ^ 64 → highest (v ∷ vs) ≡ int_max v (highest vs)
highest_cons v vs small = at (greatest_of vs)
  where
    at : (o : Option ℤ) → option_map_or (int_max v) o v ≡ int_max v (option_map_or (λ value. value) o (negsuc (2 ^ 127 - 1)))
    at None = omega (arith, ints, clamps)
    at (Some m) = refl

in_range : (vs : List ℤ) → All IsWhole vs → (lowest vs ≤ℤ pos (2 ^ 127 - 1)) × (negsuc (2 ^ 127 - 1) ≤ℤ highest vs)
in_range [] h = (omega (arith, ints), omega (arith, ints))
in_range (v ∷ vs) h =
    let own : unsigned_abs v < 2 ^ 64 = h 0 v (omega arith) in
    let rest = in_range vs (λ i d l. h (suc i) d (omega arith)) in
    let low = rest.0 in
    let high = rest.1 in
    (rw (lowest_cons v vs own) (omega (arith, ints, clamps)), rw (highest_cons v vs own) (omega (arith, ints, clamps)))

-- extremes of two lists are those of both together
pub lowest_append : (xs ys : List ℤ) → All IsWhole xs → All IsWhole ys → int_min (lowest xs) (lowest ys) ≡ lowest (xs ++ ys)
lowest_append [] ys h k = let r = (in_range ys k).0 in omega (arith, ints, clamps)
lowest_append (x ∷ xs) ys h k =
    let own : unsigned_abs x < 2 ^ 64 = h 0 x (omega arith) in
    let rest = lowest_append xs ys (λ i d l. h (suc i) d (omega arith)) k in
    rw (lowest_cons x xs own, lowest_cons x (xs ++ ys) own, ← rest) (omega (arith, ints, clamps))

pub highest_append : (xs ys : List ℤ) → All IsWhole xs → All IsWhole ys → int_max (highest xs) (highest ys) ≡ highest (xs ++ ys)
highest_append [] ys h k = let r = (in_range ys k).1 in omega (arith, ints, clamps)
highest_append (x ∷ xs) ys h k =
    let own : unsigned_abs x < 2 ^ 64 = h 0 x (omega arith) in
    let rest = highest_append xs ys (λ i d l. h (suc i) d (omega arith)) k in
    rw (highest_cons x xs own, highest_cons x (xs ++ ys) own, ← rest) (omega (arith, ints, clamps))

-- of no numbers the lowest is above the highest, of some it is not
pub apart : lowest [] ≤ℤ highest [] → ⊥
apart h = omega (arith, ints)

pub ordered : (v : ℤ) (vs : List ℤ) → unsigned_abs v < 2 ^ 64 → lowest (v ∷ vs) ≤ℤ highest (v ∷ vs)
ordered v vs small =
    rw (lowest_cons v vs small, highest_cons v vs small) (omega (arith, ints, clamps))

pub lowest_of_one : (v : ℤ) → lowest (v ∷ []) ≡ v
lowest_of_one v = refl

pub highest_of_one : (v : ℤ) → highest (v ∷ []) ≡ v
highest_of_one v = refl
