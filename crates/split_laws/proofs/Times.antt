-- The times of documents are one.
use Rattle.std.proofs.Common.{◌≡◌, ℕ, ℤ, ◌≤ℤ◌, List, [], ◌∷◌, ◌++◌, Option, Some, None, All, refl, sym, ◌∙◌, ap, ap₂, subst, arith, inl, inr}
use Rattle.std.specs.Prelude.{Contains}
use Rattle.std.specs.List.{AllByRecursion, flat_map, fold}
use Rattle.std.specs.Int.{int_min, int_max}
use Rattle.std.proofs.lemmas.Int.{ints, fold-int_min_bounds, fold-int_min_reached, fold-int_max_bounds, fold-int_max_reached}
use Rattle.std.proofs.lemmas.List.Concat.{flat_map-append}
use Rattle.std.proofs.lemmas.List.Elements.{All-from_recursion, All-cons, All-contains}
use Rattle.doc_value.specs.Documents.{values_in}
use Rattle.split_states.specs.declared.facts.Times.{Times}
use Rattle.split_bundle.specs.declared.placed.Placed.{Placed}
use Rattle.split_bundle.specs.Tagged.{second_of}
use Rattle.split_build.specs.Times.{AreTimes, seconds_in}
use Rattle.split_form.specs.Tagged.{ends_of, times_of, values_of}
use Rattle.split_form.proofs.Rising.{here, later}

-- ---- the ends

least_one : (z : ℤ) (zs : List ℤ) (least : ℤ) → Contains (z ∷ zs) least → All (λ x. least ≤ℤ x) (z ∷ zs) → least ≡ fold int_min z zs
least_one z zs least among below =
    let r = fold int_min z zs in
    let bounds = fold-int_min_bounds z zs r refl in
    let low : r ≤ℤ least = All-contains (λ x. r ≤ℤ x) (z ∷ zs) least (All-cons (λ x. r ≤ℤ x) z zs bounds.0 bounds.1) among in
    let reached : Contains (z ∷ zs) r = elim (fold-int_min_reached z zs r refl) [
      | inl first ↦ subst (λ (x : ℤ). Contains (z ∷ zs) x) (sym first) (here z zs)
      | inr there ↦ later z zs r there
    ] in
    let high : least ≤ℤ r = All-contains (λ x. least ≤ℤ x) (z ∷ zs) r below reached in
    omega (arith, ints)

greatest_one : (z : ℤ) (zs : List ℤ) (greatest : ℤ) → Contains (z ∷ zs) greatest → All (λ x. x ≤ℤ greatest) (z ∷ zs) → greatest ≡ fold int_max z zs
greatest_one z zs greatest among above =
    let r = fold int_max z zs in
    let bounds = fold-int_max_bounds z zs r refl in
    let high : greatest ≤ℤ r = All-contains (λ x. x ≤ℤ r) (z ∷ zs) greatest (All-cons (λ x. x ≤ℤ r) z zs bounds.0 bounds.1) among in
    let reached : Contains (z ∷ zs) r = elim (fold-int_max_reached z zs r refl) [
      | inl first ↦ subst (λ (x : ℤ). Contains (z ∷ zs) x) (sym first) (here z zs)
      | inr there ↦ later z zs r there
    ] in
    let low : r ≤ℤ greatest = All-contains (λ x. x ≤ℤ greatest) (z ∷ zs) r above reached in
    omega (arith, ints)

abbrev times : ℤ → ℤ → Times
times least greatest = record { least = least; greatest = greatest }

all_low : (least greatest : ℤ) (zs : List ℤ) → AllByRecursion (λ z. (least ≤ℤ z) × (z ≤ℤ greatest)) zs → AllByRecursion (λ z. least ≤ℤ z) zs
all_low least greatest [] h = tt
all_low least greatest (z ∷ zs) h = (h.0.0, all_low least greatest zs h.1)

all_high : (least greatest : ℤ) (zs : List ℤ) → AllByRecursion (λ z. (least ≤ℤ z) × (z ≤ℤ greatest)) zs → AllByRecursion (λ z. z ≤ℤ greatest) zs
all_high least greatest [] h = tt
all_high least greatest (z ∷ zs) h = (h.0.1, all_high least greatest zs h.1)

ends_one : (zs : List ℤ) (t : Option Times) → AreTimes zs t → t ≡ ends_of zs
ends_one [] None h = refl
ends_one [] (Some t) h = absurd (omega (arith, h.least.1))
ends_one (z ∷ zs) None h = absurd cc
ends_one (z ∷ zs) (Some t) h =
    let least = least_one z zs t.least h.least (All-from_recursion (λ x. t.least ≤ℤ x) (z ∷ zs) (all_low t.least t.greatest (z ∷ zs) h.within)) in
    let greatest = greatest_one z zs t.greatest h.greatest (All-from_recursion (λ x. x ≤ℤ t.greatest) (z ∷ zs) (all_high t.least t.greatest (z ∷ zs) h.within)) in
    ap (λ (u : Times). Some u) (ap₂ times least greatest)

-- ---- the seconds

seconds_are : (number : ℕ) (ds : List Placed) → seconds_in (Some number) ds ≡ flat_map second_of (values_of number ds)
seconds_are number [] = refl
seconds_are number (d ∷ ds) =
    ap (λ (b : List ℤ). flat_map second_of (values_in d.doc number) ++ b) (seconds_are number ds) ∙ sym (flat_map-append second_of (values_in d.doc number) (values_of number ds))

pub times_one : (number : Option ℕ) (ds : List Placed) (t : Option Times) → AreTimes (seconds_in number ds) t → t ≡ times_of number ds
times_one None ds t h = ends_one [] t h
times_one (Some number) ds t h = ends_one (flat_map second_of (values_of number ds)) t (subst (λ (zs : List ℤ). AreTimes zs t) (seconds_are number ds) h)
