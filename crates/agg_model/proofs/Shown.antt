-- Steps that are put into a list one after another.
use Rattle.std.proofs.Common.{◌≡◌, ℕ, zero, suc, ◌+◌, Bool, true, cond, List, [], ◌∷◌, ◌++◌, map, filter, refl, sym, ◌∙◌, ap, subst, ⊎_elim, arith, add-one, append_assoc, length, length-append, ℤ, pos, ◌+ℤ◌, ◌≤ℤ◌, ◌<ℤ◌}
use Rattle.std.proofs.lemmas.Int.{ints, by_lt_z}
use Rattle.std.proofs.lemmas.List.{map-append}
use Rattle.std.proofs.lemmas.List.Elements.{Contains-push_cases, Contains-append_left, Contains-push}
use Rattle.std.specs.List.{AllByRecursion, Contains}
use Rattle.agg_model.specs.Answers.{IsRising}
use Rattle.agg_model.specs.Spans.{span}
use Rattle.agg_model.specs.declared.answer.Bucket.{Bucket}

pub span_push : (f : ℤ → Bucket) (first : ℤ) (i : ℕ) (old new : List Bucket) (b : Bucket) → new ≡ old ++ b ∷ [] → old ≡ map f (span first i) → b ≡ f (first +ℤ pos i)
    → new ≡ map f (span first (i + 1))
span_push f first i old new b e before at = e ∙ rw (before, at, add-one) (sym (map-append f (span first i) ((first +ℤ pos i) ∷ [])))

pub kept_push : {X : Type 0} (f : X → Bucket) (p : X → Bool) (x : X) (rest : List X) (old new whole : List Bucket) (b : Bucket)
    → new ≡ old ++ b ∷ [] → p x ≡ true → b ≡ f x → old ++ map f (filter p (x ∷ rest)) ≡ whole → new ++ map f (filter p rest) ≡ whole
kept_push f p x rest old new whole b e passes at before =
    let put : filter p (x ∷ rest) ≡ x ∷ filter p rest = ap (λ b. cond b (x ∷ filter p rest) (filter p rest)) passes in
    rw (e, at, append_assoc) (rw put at before)

-- ---- a row of steps
pub all_push : {X : Type 0} (P : X → Type 0) (xs : List X) (x : X) → AllByRecursion P xs → P x → AllByRecursion P (xs ++ x ∷ [])
all_push P [] x h p = (p, tt)
all_push P (y ∷ ys) x h p = (h.0, all_push P ys x h.1 p)

pub in_span : (a : ℤ) (n : ℕ) (s : ℤ) → Contains (span a n) s → (a ≤ℤ s) × (s <ℤ (a +ℤ pos n))
in_span a zero s h = absurd (omega (arith, h.1))
in_span a (suc n) s h =
    ⊎_elim (λ k. let r = in_span a n s k in let low = r.0 in let high = r.1 in (low, omega (arith, ints))) (λ (e : (a +ℤ pos n) ≡ s). subst (λ (z : ℤ). (a ≤ℤ z) × (z <ℤ (a +ℤ pos (suc n)))) e (omega (arith, ints), omega (arith, ints)))
    (Contains-push_cases (span a n) (a +ℤ pos n) s h)

pub span_has : (a : ℤ) (n : ℕ) (s : ℤ) → a ≤ℤ s → s <ℤ (a +ℤ pos n) → Contains (span a n) s
span_has a zero s low high = absurd (omega (arith, ints))
span_has a (suc n) s low high =
    by_lt_z s (a +ℤ pos n) (λ below. Contains-append_left (span a n) ((a +ℤ pos n) ∷ []) s (span_has a n s low below))
    (λ above. let e : s ≡ (a +ℤ pos n) = omega (arith, ints) in rw e (Contains-push (span a n) (a +ℤ pos n)))

pub length_span : (a : ℤ) (n : ℕ) → length (span a n) ≡ n
length_span a zero = refl
length_span a (suc n) = length-append (span a n) ((a +ℤ pos n) ∷ []) ∙ rw (length_span a n) (add-one n)

below_span : (a : ℤ) (n : ℕ) (z : ℤ) → (a +ℤ pos n) ≤ℤ z → AllByRecursion (λ y. y <ℤ z) (span a n)
below_span a zero z h = tt
below_span a (suc n) z h = all_push (λ y. y <ℤ z) (span a n) (a +ℤ pos n) (below_span a n z (omega (arith, ints))) (omega (arith, ints))

rising_push : (xs : List ℤ) (z : ℤ) → IsRising xs → AllByRecursion (λ y. y <ℤ z) xs → IsRising (xs ++ z ∷ [])
rising_push [] z r b = (tt, tt)
rising_push (x ∷ xs) z r b = (all_push (λ y. x <ℤ y) xs z r.0 b.0, rising_push xs z r.1 b.1)

pub span_rises : (a : ℤ) (n : ℕ) → IsRising (span a n)
span_rises a zero = tt
span_rises a (suc n) = rising_push (span a n) (a +ℤ pos n) (span_rises a n) (below_span a n (a +ℤ pos n) (omega (arith, ints)))
