-- The order of keys, by its test.
use Rattle.std.proofs.Common.{◌≡◌, ℕ, true, false, List, refl, sym, ◌∙◌, ap}
use Rattle.std.specs.declared.cmp.Ordering.{Ordering}
use Rattle.std.specs.declared.cmp.Ordering.TheVariants.{Less, Equal, Greater}
use Rattle.std.specs.Ordering.{is_lt, is_eq, ordering_reverse}
use Rattle.std.specs.Cmp.Lexicographic.{nat_list_cmp_total}
use Rattle.std.proofs.lemmas.Cmp.{alike_right}
use Rattle.term_dict.specs.Keys.{order, is_below}

pub lt_of : (o : Ordering) → is_lt o ≡ true → o ≡ Less
lt_of Less e = refl
lt_of Equal e = absurd cc
lt_of Greater e = absurd cc

pub of_lt : (o : Ordering) → o ≡ Less → is_lt o ≡ true
of_lt o e = rw e refl

pub below_then : (a b c : List ℕ) → is_below a b ≡ true → is_below b c ≡ true → is_below a c ≡ true
below_then a b c p q = of_lt (order a c) (nat_list_cmp_total.trans a b c (lt_of (order a b) p) (lt_of (order b c) q))

at_most_cases : (a b c : List ℕ) (o : Ordering) → o ≡ order b a → is_lt o ≡ false → is_below b c ≡ true → is_below a c ≡ true
at_most_cases a b c Less e p q = absurd cc
at_most_cases a b c Equal e p q = of_lt (order a c) (sym (nat_list_cmp_total.congr b a c (sym e)) ∙ lt_of (order b c) q)
at_most_cases a b c Greater e p q =
    of_lt (order a c) (nat_list_cmp_total.trans a b c (nat_list_cmp_total.antisymm a b ∙ ap ordering_reverse (sym e)) (lt_of (order b c) q))

-- a key that is not above a second one, which is below a third one
pub at_most_below : (a b c : List ℕ) → is_below b a ≡ false → is_below b c ≡ true → is_below a c ≡ true
at_most_below a b c p q = at_most_cases a b c (order b a) refl p q

below_cases : (a b c : List ℕ) (o : Ordering) → o ≡ order c b → is_lt o ≡ false → is_below a b ≡ true → is_below a c ≡ true
below_cases a b c Less e p q = absurd cc
below_cases a b c Equal e p q = of_lt (order a c) (alike_right nat_list_cmp_total c b a (sym e) ∙ lt_of (order a b) q)
below_cases a b c Greater e p q =
    of_lt (order a c) (nat_list_cmp_total.trans a b c (lt_of (order a b) q) (nat_list_cmp_total.antisymm b c ∙ ap ordering_reverse (sym e)))

-- a key below a second one, which is not above a third one
pub below_at_most : (a b c : List ℕ) → is_below a b ≡ true → is_below c b ≡ false → is_below a c ≡ true
below_at_most a b c q p = below_cases a b c (order c b) refl p q

-- what is below is not above
pub below_not : (a b : List ℕ) → is_below a b ≡ true → is_below b a ≡ false
below_not a b p = rw (nat_list_cmp_total.antisymm b a ∙ ap ordering_reverse (lt_of (order a b) p)) refl

pub below_not_same : (a b : List ℕ) → is_below a b ≡ true → is_eq (order a b) ≡ false
below_not_same a b p = rw (lt_of (order a b) p) refl

pub above_not_same : (a b : List ℕ) → is_below b a ≡ true → is_eq (order a b) ≡ false
above_not_same a b p = rw (nat_list_cmp_total.antisymm a b ∙ ap ordering_reverse (lt_of (order b a) p)) refl
