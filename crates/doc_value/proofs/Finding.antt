-- Finding a field by its path among paths that rise.
use Rattle.std.proofs.Common.{◌≡◌, ℕ, zero, suc, ◌+◌, ◌<◌, ◌≤◌, true, false, List, [], ◌∷◌, length, slice_get, Some, None, refl, sym, ap, ◌∙◌, subst, arith, ◌⊎◌, inl, inr, nat_eq, nat_lt}
use Rattle.std.proofs.lemmas.Bool.{cases_Bool}
use Rattle.std.proofs.lemmas.Bool.Decides.{nat_tests}
use Rattle.std.specs.Ordering.{nat_cmp, is_eq, ordering_reverse}
use Rattle.std.specs.Str.{bytes_eq}
use Rattle.std.specs.Cmp.Lexicographic.{slice_cmp}
use Rattle.std.specs.declared.cmp.Ordering.{Ordering}
use Rattle.std.specs.declared.cmp.Ordering.TheVariants.{Less, Equal, Greater}
use Rattle.std.proofs.lemmas.Cmp.{nat_list_cmp_total}
use Rattle.std.proofs.lemmas.Map.Text.{is_eq-slice_cmp}
use Rattle.std.proofs.lemmas.Option.{slice_get_within}
use Rattle.doc_value.specs.declared.schema.Field.{Field}
use Rattle.doc_value.specs.Documents.{IsBefore, PathsRise, number_from, number_of}

le_cases : (a b : ℕ) → a ≤ b → (a ≡ b) ⊎ (a < b)
le_cases a b h = elim (cases_Bool (nat_eq a b)) [ inl same ↦ inl (grind (arith, nat_tests)) | inr other ↦ inr (grind (arith, nat_tests)) ]

lt_cases : (a b : ℕ) → (a < b) ⊎ (b ≤ a)
lt_cases a b = elim (cases_Bool (nat_lt a b)) [ inl less ↦ inl (grind (arith, nat_tests)) | inr more ↦ inr (grind (arith, nat_tests)) ]

before-trans : (a b c : List ℕ) → IsBefore a b → IsBefore b c → IsBefore a c
before-trans a b c p q = nat_list_cmp_total.trans a b c p q

turned : (a b : List ℕ) (o : Ordering) → slice_cmp nat_cmp a b ≡ o → slice_cmp nat_cmp b a ≡ ordering_reverse o
turned a b o e = nat_list_cmp_total.antisymm b a ∙ ap ordering_reverse e

other-before : (a b : List ℕ) → IsBefore a b → bytes_eq a b ≡ false
other-before a b h = sym (is_eq-slice_cmp a b) ∙ ap is_eq h

other-after : (a b : List ℕ) → IsBefore a b → bytes_eq b a ≡ false
other-after a b h = sym (is_eq-slice_cmp b a) ∙ ap is_eq (turned a b Less h)

same-equal : (a b : List ℕ) → slice_cmp nat_cmp a b ≡ Equal → bytes_eq b a ≡ true
same-equal a b h = sym (is_eq-slice_cmp b a) ∙ ap is_eq (turned a b Equal h)

inner : (f g : Field) → Some f ≡ Some g → f ≡ g
inner f g e = cc

-- the first path comes before all others
head-before : (f : Field) (fs : List Field) (j : ℕ) (g : Field) → PathsRise (f ∷ fs) → slice_get fs j ≡ Some g → IsBefore f.path g.path
head-before f [] j g h e = cc
head-before f (x ∷ fs) zero g h e = subst (λ (y : Field). IsBefore f.path y.path) (inner x g e) h.0
head-before f (x ∷ fs) (suc j) g h e = before-trans f.path x.path g.path h.0 (head-before x fs j g h.1 e)

tail-rises : (f : Field) (fs : List Field) → PathsRise (f ∷ fs) → PathsRise fs
tail-rises f [] h = tt
tail-rises f (x ∷ fs) h = h.1

pub rise-between : (fs : List Field) (i j : ℕ) (f g : Field) → PathsRise fs → slice_get fs i ≡ Some f → slice_get fs j ≡ Some g
    → i < j → IsBefore f.path g.path
rise-between [] i j f g h a b l = cc
rise-between (x ∷ fs) zero zero f g h a b l = absurd (omega arith)
rise-between (x ∷ fs) zero (suc j) f g h a b l =
    subst (λ (y : Field). IsBefore y.path g.path) (inner x f a) (head-before x fs j g h b)
rise-between (x ∷ fs) (suc i) zero f g h a b l = absurd (omega arith)
rise-between (x ∷ fs) (suc i) (suc j) f g h a b l = rise-between fs i j f g (tail-rises x fs h) a b (omega arith)

found-from : (n : ℕ) (fs : List Field) (m : ℕ) (f : Field) (path : List ℕ) → PathsRise fs → slice_get fs m ≡ Some f
    → slice_cmp nat_cmp path f.path ≡ Equal → number_from n fs path ≡ Some (n + m)
found-from n [] m f path h a e = cc
found-from n (x ∷ fs) zero f path h a e =
    let same : bytes_eq x.path path ≡ true = subst (λ (y : Field). bytes_eq y.path path ≡ true) (sym (inner x f a)) (same-equal path f.path e) in
    rw same (ap Some (omega arith))
found-from n (x ∷ fs) (suc m) f path h a e =
    let less : IsBefore x.path f.path = head-before x fs m f h a in
    let other : IsBefore x.path path =
    turned path x.path Greater (nat_list_cmp_total.congr path f.path x.path e ∙ turned x.path f.path Less less) in
    let differs : bytes_eq x.path path ≡ false = other-before x.path path other in
    rw differs (found-from (suc n) fs m f path (tail-rises x fs h) a e ∙ ap Some (omega arith))

pub found : (fs : List Field) (m : ℕ) (f : Field) (path : List ℕ) → PathsRise fs → slice_get fs m ≡ Some f
    → slice_cmp nat_cmp path f.path ≡ Equal → Some m ≡ number_of fs path
found fs m f path h a e = sym (found-from 0 fs m f path h a e ∙ ap Some (omega arith))

none-from : (n : ℕ) (fs : List Field) (path : List ℕ) → ((k : ℕ) (f : Field) → slice_get fs k ≡ Some f → bytes_eq f.path path ≡ false)
    → number_from n fs path ≡ None
none-from n [] path h = refl
none-from n (x ∷ fs) path h = rw (h 0 x refl) (none-from (suc n) fs path (λ k f e. h (suc k) f e))

-- the paths below a place come before the path, and those from another place on behind it
pub record Within (fs : List Field) (path : List ℕ) (low high : ℕ) : Type 0 where
  pub ordered : low ≤ high
  pub fits : high ≤ length fs
  pub below : (k : ℕ) (f : Field) → slice_get fs k ≡ Some f → k < low → IsBefore f.path path
  pub above : (k : ℕ) (f : Field) → slice_get fs k ≡ Some f → high ≤ k → IsBefore path f.path

pub within-start : (fs : List Field) (path : List ℕ) → Within fs path 0 (length fs)
within-start fs path = record {
  ordered = omega arith;
  fits = omega arith;
  below = λ k f e l. absurd (omega arith);
  above = λ k f e l. let w : k < length fs = slice_get_within fs k f e in absurd (omega arith);
}

same-place : (fs : List Field) (i j : ℕ) (f g : Field) → slice_get fs i ≡ Some f → slice_get fs j ≡ Some g → i ≡ j → f ≡ g
same-place fs i j f g a b e = inner f g (sym a ∙ ap (slice_get fs) e ∙ b)

from-middle : (fs : List Field) (path : List ℕ) (middle : ℕ) (g : Field) → PathsRise fs → slice_get fs middle ≡ Some g
    → IsBefore path g.path → (k : ℕ) (f : Field) → slice_get fs k ≡ Some f → middle ≤ k → IsBefore path f.path
from-middle fs path middle g h m c k f e from =
    elim (le_cases middle k from) [
      | inl equal ↦ subst (λ (y : Field). IsBefore path y.path) (same-place fs middle k g f m e equal) c
      | inr less ↦ before-trans path g.path f.path c (rise-between fs middle k g f h m e less)
    ]

to-middle : (fs : List Field) (path : List ℕ) (middle : ℕ) (g : Field) → PathsRise fs → slice_get fs middle ≡ Some g
    → IsBefore g.path path → (k : ℕ) (f : Field) → slice_get fs k ≡ Some f → k ≤ middle → IsBefore f.path path
to-middle fs path middle g h m c k f e upto =
    elim (le_cases k middle upto) [
      | inl equal ↦ subst (λ (y : Field). IsBefore y.path path) (same-place fs middle k g f m e (sym equal)) c
      | inr less ↦ before-trans f.path g.path path (rise-between fs k middle f g h e m less) c
    ]

pub within-lower : (fs : List Field) (path : List ℕ) (low high middle : ℕ) (g : Field) → PathsRise fs → Within fs path low high
    → slice_get fs middle ≡ Some g → low ≤ middle → middle < high → slice_cmp nat_cmp path g.path ≡ Less → Within fs path low middle
within-lower fs path low high middle g h w m l u c = record {
  ordered = l;
  fits = omega (arith, w.fits);
  below = w.below;
  above = λ k f e from. from-middle fs path middle g h m c k f e from;
}

pub within-higher : (fs : List Field) (path : List ℕ) (low high middle next : ℕ) (g : Field) → PathsRise fs → Within fs path low high
    → slice_get fs middle ≡ Some g → low ≤ middle → middle < high → next ≡ middle + 1 → slice_cmp nat_cmp path g.path ≡ Greater → Within fs path next high
within-higher fs path low high middle next g h w m l u n c = record {
  ordered = omega arith;
  fits = w.fits;
  below = λ k f e to. to-middle fs path middle g h m (turned path g.path Greater c) k f e (omega arith);
  above = w.above;
}

differs-at : (fs : List Field) (path : List ℕ) (low high : ℕ) → Within fs path low high → high ≤ low
    → (k : ℕ) (f : Field) → slice_get fs k ≡ Some f → bytes_eq f.path path ≡ false
differs-at fs path low high w l k f e =
    elim (lt_cases k low) [
      | inl less ↦ other-before f.path path (w.below k f e less)
      | inr more ↦ other-after path f.path (w.above k f e (omega arith))
    ]

pub within-none : (fs : List Field) (path : List ℕ) (low high : ℕ) → Within fs path low high → high ≤ low → None ≡ number_of fs path
within-none fs path low high w l = sym (none-from 0 fs path (λ k f e. differs-at fs path low high w l k f e))
