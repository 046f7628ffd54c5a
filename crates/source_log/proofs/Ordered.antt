-- The order of names, and what a test on names says of it.
use Rattle.std.proofs.Common.{◌≡◌, ℕ, true, List, sym, ap, ◌∙◌}
use Rattle.std.specs.declared.cmp.Ordering.{Ordering}
use Rattle.std.specs.declared.cmp.Ordering.TheVariants.{Less, Equal}
use Rattle.std.specs.Ordering.{nat_cmp, is_eq, ordering_reverse}
use Rattle.std.specs.Str.{bytes_eq}
use Rattle.std.specs.Cmp.{tied_itself}
use Rattle.std.specs.Cmp.Lexicographic.{slice_cmp, nat_list_cmp_total}
use Rattle.std.specs.FinMap.{slice_cmp-IsAntisymmetric, nat_cmp-IsAntisymmetric}
use Rattle.std.proofs.lemmas.Map.Text.{is_eq-slice_cmp}

pub same_from_tie : (a b : List ℕ) → slice_cmp nat_cmp a b ≡ Equal → a ≡ b
same_from_tie a b e = slice_cmp-IsAntisymmetric nat_cmp-IsAntisymmetric a b e

pub turned : (a b : List ℕ) (r : Ordering) → slice_cmp nat_cmp a b ≡ r → slice_cmp nat_cmp b a ≡ ordering_reverse r
turned a b r e = nat_list_cmp_total.antisymm b a ∙ ap ordering_reverse e

pub eq-itself : (a : List ℕ) → bytes_eq a a ≡ true
eq-itself a = sym (is_eq-slice_cmp a a) ∙ ap is_eq (tied_itself nat_list_cmp_total a)

-- the test of b and a, by the order of a and b
pub eq-turned : (a b : List ℕ) (r : Ordering) → slice_cmp nat_cmp a b ≡ r → bytes_eq b a ≡ is_eq (ordering_reverse r)
eq-turned a b r e = sym (is_eq-slice_cmp b a) ∙ ap is_eq (turned a b r e)

pub eq-by_order : (a b : List ℕ) (r : Ordering) → slice_cmp nat_cmp a b ≡ r → bytes_eq a b ≡ is_eq r
eq-by_order a b r e = sym (is_eq-slice_cmp a b) ∙ ap is_eq e

pub before_then : (a b c : List ℕ) → slice_cmp nat_cmp a b ≡ Less → slice_cmp nat_cmp b c ≡ Less → slice_cmp nat_cmp a c ≡ Less
before_then a b c p q = nat_list_cmp_total.trans a b c p q
