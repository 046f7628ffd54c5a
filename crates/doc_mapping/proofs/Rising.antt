-- Paths that rise, seen from the last.
use Rattle.std.proofs.Common.{◌≡◌, ℕ, zero, suc, ◌+◌, ◌-◌, ◌≤◌, true, false, List, [], ◌∷◌, length, drop, slice_get, Some, refl, sym, ◌∙◌, subst, arith}
use Rattle.std.specs.Ordering.{nat_cmp, is_lt}
use Rattle.std.specs.Cmp.Lexicographic.{slice_cmp}
use Rattle.std.specs.declared.cmp.Ordering.{Ordering}
use Rattle.std.specs.declared.cmp.Ordering.TheVariants.{Less, Equal, Greater}
use Rattle.doc_value.specs.declared.schema.Field.{Field}
use Rattle.doc_value.specs.Documents.{IsBefore, PathsRise}
use Rattle.doc_value.proofs.Finding.{rise-between}

from-last : (fs : List Field) → PathsRise (drop (length fs - 1) fs)
from-last [] = tt
from-last (f ∷ []) = tt
from-last (f ∷ g ∷ fs) =
    let e : suc (suc (length fs)) - 1 ≡ suc (suc (length fs) - 1) = omega arith in
    subst (λ (m : ℕ). PathsRise (drop m (f ∷ g ∷ fs))) (sym e) (from-last (g ∷ fs))

pub rise-last : (fs : List Field) (n : ℕ) → n ≡ length fs → PathsRise (drop (n - 1) fs)
rise-last fs n e = subst (λ (m : ℕ). PathsRise (drop (m - 1) fs)) (sym e) (from-last fs)

is-less : (o : Ordering) → is_lt o ≡ true → o ≡ Less
is-less Less e = refl
is-less Equal e = cc
is-less Greater e = cc

one-more : (fs : List Field) (i : ℕ) (f g : Field) → slice_get fs i ≡ Some f → slice_get fs (suc i) ≡ Some g
    → IsBefore f.path g.path → PathsRise (drop (suc i) fs) → PathsRise (drop i fs)
one-more [] i f g a b l h = absurd (cc)
one-more (x ∷ []) zero f g a b l h = tt
one-more (x ∷ y ∷ fs) zero f g a b l h =
    let same_x : x ≡ f = cc in
    let same_y : y ≡ g = cc in
    let first : IsBefore x.path g.path = subst (λ (z : Field). IsBefore z.path g.path) (sym same_x) l in
    (subst (λ (z : Field). IsBefore x.path z.path) (sym same_y) first, h)
one-more (x ∷ fs) (suc i) f g a b l h = one-more fs i f g a b l h

-- one field more, whose path comes before the next one's
pub rise-step : (fs : List Field) (i j : ℕ) (f g : Field) (p q : List ℕ) → j ≡ i + 1 → slice_get fs i ≡ Some f → slice_get fs j ≡ Some g
    → p ≡ f.path → q ≡ g.path → is_lt (slice_cmp nat_cmp p q) ≡ true → PathsRise (drop j fs) → PathsRise (drop i fs)
rise-step fs i j f g p q n a b e d l h =
    let next : j ≡ suc i = omega arith in
    let less : slice_cmp nat_cmp p q ≡ Less = is-less (slice_cmp nat_cmp p q) l in
    let before : IsBefore f.path g.path = subst (λ (x : List ℕ). IsBefore x g.path) e (subst (λ (x : List ℕ). IsBefore p x) d less) in
    one-more fs i f g a (subst (λ (m : ℕ). slice_get fs m ≡ Some g) next b) before (subst (λ (m : ℕ). PathsRise (drop m fs)) next h)

pub rise-whole : (fs : List Field) (left : ℕ) → left ≤ 1 → PathsRise (drop (left - 1) fs) → PathsRise fs
rise-whole fs left l h =
    let none : left - 1 ≡ 0 = omega arith in
    subst (λ (m : ℕ). PathsRise (drop m fs)) none h

-- a path that doesn't come before the next one's
pub rise-broken : (fs : List Field) (i j : ℕ) (f g : Field) (p q : List ℕ) → j ≡ i + 1 → slice_get fs i ≡ Some f → slice_get fs j ≡ Some g
    → p ≡ f.path → q ≡ g.path → is_lt (slice_cmp nat_cmp p q) ≡ false → PathsRise fs → ⊥
rise-broken fs i j f g p q n a b e d l h =
    let less : slice_cmp nat_cmp f.path g.path ≡ Less = rise-between fs i j f g h a b (omega arith) in
    let here : is_lt (slice_cmp nat_cmp p q) ≡ true = rw (e, d, less) refl in
    let wrong : true ≡ false = sym here ∙ l in
    cc
