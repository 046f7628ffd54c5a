-- A second more.
use Rattle.std.proofs.Common.{◌≡◌, ℤ, List, [], ◌∷◌, ◌++◌, refl, sym, subst, arith}
use Rattle.std.specs.Prelude.{◌≤ℤ◌, Contains, Bool, true, false, int_lt, if◌then◌else◌}
use Rattle.std.specs.List.{AllByRecursion}
use Rattle.std.specs.Int.{int_min, int_max}
use Rattle.std.specs.Int.Signed.{≤ℤ_refl}
use Rattle.std.proofs.lemmas.Int.{ints}
use Rattle.std.proofs.lemmas.List.Elements.{Contains-append_left, Contains-push}
use Rattle.doc_value.specs.declared.doc.Value.{Value}
use Rattle.doc_value.specs.declared.doc.Value.TheVariants as values
use Rattle.split_states.specs.declared.facts.Times.{Times}
use Rattle.split_build.specs.Times.{AreEnds}
use Rattle.split_bundle.specs.Tagged.{second_of}

all_within : (least greatest low high : ℤ) (zs : List ℤ) (z : ℤ) → low ≤ℤ least → greatest ≤ℤ high → low ≤ℤ z → z ≤ℤ high
    → AllByRecursion (λ y. (least ≤ℤ y) × (y ≤ℤ greatest)) zs → AllByRecursion (λ y. (low ≤ℤ y) × (y ≤ℤ high)) (zs ++ z ∷ [])
all_within least greatest low high [] z below above first last h = ((first, last), tt)
all_within least greatest low high (y ∷ ys) z below above first last h =
    let low_y : least ≤ℤ y = h.0.0 in
    let high_y : y ≤ℤ greatest = h.0.1 in
    ((omega (arith, ints), omega (arith, ints)), all_within least greatest low high ys z below above first last h.1)

min_among : (zs : List ℤ) (x z : ℤ) → Contains zs x → Contains (zs ++ z ∷ []) (int_min x z)
min_among zs x z h = by (int_lt z x)
  where
    by : (b : Bool) → Contains (zs ++ z ∷ []) (if b then z else x)
    by true = Contains-push zs z
    by false = Contains-append_left zs (z ∷ []) x h

max_among : (zs : List ℤ) (x z : ℤ) → Contains zs x → Contains (zs ++ z ∷ []) (int_max x z)
max_among zs x z h = by (int_lt z x)
  where
    by : (b : Bool) → Contains (zs ++ z ∷ []) (if b then x else z)
    by true = Contains-append_left zs (z ∷ []) x h
    by false = Contains-push zs z

pub ends_more : (zs : List ℤ) (t u : Times) (z : ℤ) → u.least ≡ int_min t.least z → u.greatest ≡ int_max t.greatest z → u.least ≤ℤ t.least → u.least ≤ℤ z → t.greatest ≤ℤ u.greatest → z ≤ℤ u.greatest
    → AreEnds zs t → AreEnds (zs ++ z ∷ []) u
ends_more zs t u z least greatest below first above last h = record {
  least = subst (λ (x : ℤ). Contains (zs ++ z ∷ []) x) (sym least) (min_among zs t.least z h.least);
  greatest = subst (λ (x : ℤ). Contains (zs ++ z ∷ []) x) (sym greatest) (max_among zs t.greatest z h.greatest);
  within = all_within t.least t.greatest u.least u.greatest zs z below above first last h.within;
}

pub ends_first : (zs : List ℤ) (z : ℤ) → zs ≡ [] → AreEnds (zs ++ z ∷ []) (record { least = z; greatest = z })
ends_first zs z none = subst (λ (l : List ℤ). AreEnds (l ++ z ∷ []) (record { least = z; greatest = z })) (sym none)
    (record { least = Contains-push [] z; greatest = Contains-push [] z; within = ((≤ℤ_refl z, ≤ℤ_refl z), tt) })

pub no_second : (v : Value) → ((z : ℤ) → v ≡ values.Datetime z → ⊥) → second_of v ≡ []
no_second (values.Text t) h = refl
no_second (values.I64 z) h = refl
no_second (values.U64 n) h = refl
no_second (values.Bool b) h = refl
no_second (values.Datetime z) h = absurd (h z refl)
