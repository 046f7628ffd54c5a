-- Steps of a histogram are near 0.
use Rattle.std.proofs.Common.{◌≡◌, ℕ, ◌<◌, ◌≤◌, ◌+◌, ◌-◌, ◌*◌, ◌/◌, ◌^◌, refl, sym, ◌∙◌, ap, subst, arith, Bool, true, false, cond, List, [], ◌∷◌, ◌++◌, Option, Some, None, unwrap_or, add-zero, ℤ, pos, negsuc, ◌≤ℤ◌, ◌+ℤ◌, ◌-ℤ◌, ◌*ℤ◌, ◌⊎◌, inl, inr}
use Rattle.std.proofs.lemmas.Int.{fits_signed_from_abs, ints, to_z-of_z, unsigned_abs-mul}
use Rattle.std.proofs.Math.Nat.{mul-le-mul_left, mul-le-mul_right}
use Rattle.std.proofs.lemmas.Bool.{cases_lt}
use Rattle.std.proofs.lemmas.Bool.Decides.{Decides-int_eq}
use Rattle.std.proofs.lemmas.List.Sums.{sum_by_push}
use Rattle.std.proofs.lemmas.Option.{none-some, same_Some, IfSome_then}
use Rattle.std.specs.Int.{int_div_euclid}
use Rattle.std.specs.Int.RustNames.{FitsSigned, unsigned_abs}
use Rattle.std.specs.Option.{option_map, option_map_or, IfSome}
use Rattle.std.specs.Ordering.{int_eq}
use Rattle.doc_value.specs.declared.doc.DocField.{DocField}
use Rattle.agg_model.specs.Counting.{step_of, first_whole, lies_in, step_count}
use Rattle.agg_model.specs.Partials.{IsNear, IsPart, IsStep, IsStepRaised, CountsFor, in_step, tally_at, interval_of, offset_of}
use Rattle.agg_model.specs.declared.counts.Counts.{Counts}
use Rattle.agg_model.specs.declared.request.Agg.{Agg}
use Rattle.agg_model.specs.declared.request.Agg.TheVariants.{Histogram}
use mir.Syntax.{w128}
use mir.Val.{to_z, of_z}

-- a step's place on the scale, where the step begins, and how far a whole number is from the first step
same_place : (s i p q : ℤ) → p ≡ s → q ≡ i → p *ℤ q ≡ s *ℤ i
same_place s i p q e f = cc

pub place_fits : (s i p q : ℤ) → p ≡ s → q ≡ i → unsigned_abs (s *ℤ i) < 2 ^ 98 → FitsSigned w128 (p *ℤ q)
place_fits s i p q e f h = subst (λ (z : ℤ). FitsSigned w128 z) (sym (same_place s i p q e f)) (fits_signed_from_abs w128 (s *ℤ i) (omega (arith, h)))

pub begin_fits : (s i p q o : ℤ) → p ≡ s → q ≡ i → unsigned_abs (s *ℤ i) < 2 ^ 98 → unsigned_abs o < 2 ^ 96
    → FitsSigned w128 (to_z w128 (of_z w128 (p *ℤ q)) +ℤ to_z w128 (of_z w128 o))
begin_fits s i p q o e f h k =
    let fits = place_fits s i p q e f h in
    let place : to_z w128 (of_z w128 (p *ℤ q)) ≡ s *ℤ i = to_z-of_z w128 (p *ℤ q) fits ∙ same_place s i p q e f in
    let own : to_z w128 (of_z w128 o) ≡ o = to_z-of_z w128 o (fits_signed_from_abs w128 o (omega (arith, k))) in
    rw (place, own) (sum_fits (s *ℤ i) o h k)
  where
    sum_fits : (a b : ℤ) → unsigned_abs a < 2 ^ 98 → unsigned_abs b < 2 ^ 96 → FitsSigned w128 (a +ℤ b)
    sum_fits a b h k = fits_signed_from_abs w128 (a +ℤ b) (omega (arith, ints))

pub apart_fits : (z o : ℤ) → FitsSigned w128 z → unsigned_abs z ≤ 2 ^ 64 → unsigned_abs o < 2 ^ 96
    → FitsSigned w128 (to_z w128 (of_z w128 z) -ℤ to_z w128 (of_z w128 o))
apart_fits z o fits h k = rw (to_z-of_z w128 z fits, to_z-of_z w128 o (fits_signed_from_abs w128 o (omega (arith, k)))) (gap_fits z o h k)
  where
    gap_fits : (a b : ℤ) → unsigned_abs a ≤ 2 ^ 64 → unsigned_abs b < 2 ^ 96 → FitsSigned w128 (a -ℤ b)
    gap_fits a b h k = fits_signed_from_abs w128 (a -ℤ b) (omega (arith, ints))

down_near : (a n : ℕ) → 1 ≤ n → (a / n) * n ≤ a
down_near a n h = grind arith

quotient_below : (a n : ℕ) → 1 ≤ n → a / n ≤ a
quotient_below a n h = grind arith

moved : (a b n : ℕ) → 1 ≤ n → b / n ≤ a / n + (b - a)
moved a b n h = at (cases_lt (a / n + (b - a)) (b / n))
  where
    at : (a / n + (b - a) < b / n) ⊎ (b / n ≤ a / n + (b - a)) → b / n ≤ a / n + (b - a)
    at (inr k) = k
    at (inl k) =
        let more : a / n + (b - a) + 1 ≤ b / n = omega arith in
        let most : n * (a / n + (b - a) + 1) ≤ n * (b / n) = mul-le-mul_left n more in
        let least : 1 * (b - a) ≤ n * (b - a) = mul-le-mul_right (b - a) h in
        absurd (omega (arith, most, least))

pub near_quotient : (a interval : ℤ) → pos 1 ≤ℤ interval → unsigned_abs interval < 2 ^ 96 → unsigned_abs a < 2 ^ 97 → (unsigned_abs (int_div_euclid a interval *ℤ interval) < 2 ^ 98) × (unsigned_abs (int_div_euclid a interval) < 2 ^ 98)
near_quotient (pos a) (pos n) some fine near =
    let one : 1 ≤ n = omega (arith, ints) in
    let low = down_near a n one in
    let few = quotient_below a n one in
    (rw (unsigned_abs-mul (pos (a / n)) (pos n)) (omega arith), omega arith)
near_quotient (negsuc a) (pos n) some fine near =
    let one : 1 ≤ n = omega (arith, ints) in
    let low = down_near a n one in
    let few = quotient_below a n one in
    (rw (unsigned_abs-mul (negsuc (a / n)) (pos n)) (omega arith), omega arith)
near_quotient a (negsuc n) some fine near = absurd (omega (arith, ints))

-- the step of a whole number of 64 bits
pub near_step : (interval offset z : ℤ) → pos 1 ≤ℤ interval → unsigned_abs interval < 2 ^ 96 → unsigned_abs offset < 2 ^ 96 → unsigned_abs z ≤ 2 ^ 64
    → IsNear interval offset (step_of interval offset z)
near_step interval offset z some fine near small =
    let n = near_quotient (z -ℤ offset) interval some fine (omega (arith, ints)) in
    record { near = n.0; close = n.1; whole = (z, small, refl) }

-- a quotient moves no more than the dividend
pub quotient_gap : (a b interval : ℤ) → pos 1 ≤ℤ interval → unsigned_abs (int_div_euclid b interval -ℤ int_div_euclid a interval) ≤ unsigned_abs (b -ℤ a)
quotient_gap (pos a) (pos b) (pos n) some =
    let one : 1 ≤ n = omega (arith, ints) in
    let up = moved a b n one in
    let down = moved b a n one in
    omega (arith, ints)
quotient_gap (negsuc a) (negsuc b) (pos n) some =
    let one : 1 ≤ n = omega (arith, ints) in
    let up = moved a b n one in
    let down = moved b a n one in
    omega (arith, ints)
quotient_gap (pos a) (negsuc b) (pos n) some =
    let one : 1 ≤ n = omega (arith, ints) in
    let up = quotient_below a n one in
    let down = quotient_below b n one in
    omega (arith, ints)
quotient_gap (negsuc a) (pos b) (pos n) some =
    let one : 1 ≤ n = omega (arith, ints) in
    let up = quotient_below a n one in
    let down = quotient_below b n one in
    omega (arith, ints)
quotient_gap a b (negsuc n) some = absurd (omega (arith, ints))

-- two steps in which whole numbers of 64 bits lie are at most 2^65 apart
pub step_gap : (interval offset a b : ℤ) → pos 1 ≤ℤ interval → IsNear interval offset a → IsNear interval offset b → unsigned_abs (b -ℤ a) ≤ 2 ^ 65
step_gap interval offset a b some h k =
    let gap = quotient_gap (h.whole.0 -ℤ offset) (k.whole.0 -ℤ offset) interval some in
    let low = h.whole.1 in
    let high = k.whole.1 in
    let wide : unsigned_abs ((k.whole.0 -ℤ offset) -ℤ (h.whole.0 -ℤ offset)) ≤ 2 ^ 65 = omega (arith, ints) in
    rw (h.whole.2, k.whole.2) (omega arith)

-- the step of a document's first value
lies_in_its_step : (field : ℕ) (interval offset step other : ℤ) (doc : List DocField)
    → Some step ≡ option_map (step_of interval offset) (first_whole field doc)
    → lies_in field interval offset other doc ≡ int_eq step other
lies_in_its_step field interval offset step other doc e = at (first_whole field doc) e
  where
    at : (o : Option ℤ) → Some step ≡ option_map (step_of interval offset) o
        → option_map_or (λ z. int_eq (step_of interval offset z) other) o false ≡ int_eq step other
    at None e = absurd (none-some step (sym e))
    at (Some z) e = ap (λ s. int_eq s other) (same_Some (step_of interval offset z) step (sym e))

-- one more document lies in its step
pub step_counts : (field : ℕ) (interval offset : ℤ) (least : ℕ) (dated : Bool) (step : ℤ) (old new : Counts) (ds : List (List DocField)) (doc : List DocField)
    → Some step ≡ option_map (step_of interval offset) (first_whole field doc)
    → IsStepRaised step old new
    → CountsFor (Histogram field interval offset least dated) old ds
    → CountsFor (Histogram field interval offset least dated) new (ds ++ doc ∷ [])
step_counts field interval offset least dated step old new ds doc e raised before other =
    rw (raised.steps other, sum_by_push (λ d. cond (lies_in field interval offset other d) 1 0) ds doc, lies_in_its_step field interval offset step other doc e)
    (at (int_eq step other) refl (before other))
  where
    at : (b : Bool) → b ≡ int_eq step other → unwrap_or (in_step old other) 0 ≡ step_count field interval offset ds other
        → unwrap_or (cond b (Some (unwrap_or (in_step old step) 0 + 1)) (in_step old other)) 0 ≡ step_count field interval offset ds other + cond b 1 0
    at true k h = ap (λ s. unwrap_or (in_step old s) 0 + 1) ((Decides-int_eq step other).0 (sym k)) ∙ ap (λ n. n + 1) h
    at false k h = h ∙ sym (add-zero (step_count field interval offset ds other))

-- the part after one more document lay in a step
pub step_part : (number : ℕ) (agg : Agg) (step : ℤ) (old new : Counts) → IsNear (interval_of agg) (offset_of agg) step → IsStepRaised step old new → IsPart number agg old → IsPart (number + 1) agg new
step_part number agg step old new near raised before = record {
  tallies = λ slot. rw (raised.tallies slot) (IfSome_then (tally_at old slot) (before.tallies slot) (λ t h. record { fits = h.fits; some = h.some; most = omega arith; last = omega arith }));
  steps = λ other. rw (raised.steps other) (at other (int_eq step other) refl (before.steps other) (before.steps step));
}
  where
    more : (o : Option ℕ) → IfSome o (IsStep number (interval_of agg) (offset_of agg) step) → IsStep (number + 1) (interval_of agg) (offset_of agg) step (unwrap_or o 0 + 1)
    more None h = record { some = omega arith; most = omega arith; place = near }
    more (Some n) h = record { some = omega arith; most = omega arith; place = near }

    at : (other : ℤ) (b : Bool) → b ≡ int_eq step other → IfSome (in_step old other) (IsStep number (interval_of agg) (offset_of agg) other) → IfSome (in_step old step) (IsStep number (interval_of agg) (offset_of agg) step)
        → IfSome (cond b (Some (unwrap_or (in_step old step) 0 + 1)) (in_step old other)) (IsStep (number + 1) (interval_of agg) (offset_of agg) other)
    at other true k h own = let e : step ≡ other = (Decides-int_eq step other).0 (sym k) in subst (λ s. IsStep (number + 1) (interval_of agg) (offset_of agg) s (unwrap_or (in_step old step) 0 + 1)) e (more (in_step old step) own)
    at other false k h own = IfSome_then (in_step old other) h (λ n s. record { some = s.some; most = omega arith; place = s.place })
