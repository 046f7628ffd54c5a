-- Numbers that may be shown rise where the numbers do.
use Rattle.std.proofs.Common.{ℕ, ◌<◌, ◌==◌, Bool, true, false, cond, List, [], ◌∷◌, Option, Some, None, if◌then◌else◌}
use Rattle.std.specs.List.{AllByRecursion, filter}
use Rattle.split_bundle.specs.declared.placed.Placed.{Placed}
use Rattle.doc_tallies.specs.declared.hit_order.HitOrder.{HitOrder}
use Rattle.doc_tallies.specs.Near.{has_few_ahead, shown}

-- each number is below those behind it
abbrev pub Rise : List ℕ → Type 0
Rise [] = Unit {0}
Rise (n ∷ ns) = AllByRecursion (λ m. n < m) ns × Rise ns

all_passed : (P : ℕ → Type 0) (p : ℕ → Bool) (ns : List ℕ) → AllByRecursion P ns → AllByRecursion P (filter p ns)
all_passed P p [] all = tt
all_passed P p (n ∷ ns) all = go (p n) (all_passed P p ns all.1)
  where
    go : (t : Bool) → AllByRecursion P (filter p ns) → AllByRecursion P (cond t (n ∷ filter p ns) (filter p ns))
    go true rest = (all.0, rest)
    go false rest = rest

passed_rise : (p : ℕ → Bool) (ns : List ℕ) → Rise ns → Rise (filter p ns)
passed_rise p [] rise = tt
passed_rise p (n ∷ ns) rise = go (p n) (all_passed (λ m. n < m) p ns rise.0) (passed_rise p ns rise.1)
  where
    go : (t : Bool) → AllByRecursion (λ m. n < m) (filter p ns) → Rise (filter p ns) → Rise (cond t (n ∷ filter p ns) (filter p ns))
    go true above rest = (above, rest)
    go false above rest = rest

pub shown_rise : (order : Option HitOrder) (wanted : ℕ) (documents : List Placed) (ns : List ℕ) → Rise ns → Rise (shown order wanted documents ns)
shown_rise (Some order) wanted documents ns rise = passed_rise (has_few_ahead order wanted documents ns) ns rise
shown_rise None wanted documents ns rise = go (wanted == 0)
  where
    go : (t : Bool) → Rise (if t then [] else ns)
    go true = tt
    go false = rise
