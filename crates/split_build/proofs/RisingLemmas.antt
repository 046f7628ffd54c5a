-- A text at its place among rising ones, once.
use Rattle.std.proofs.Common.{◌≡◌, ℕ, ◌≤◌, true, List, [], ◌∷◌, length, refl, ◌∙◌, ap, arith, inl, inr}
use Rattle.std.specs.Prelude.{◌⊎◌}
use Rattle.std.specs.List.{AllByRecursion}
use Rattle.std.specs.declared.cmp.Ordering.{Ordering}
use Rattle.std.specs.declared.cmp.Ordering.TheVariants.{Less, Equal, Greater}
use Rattle.std.specs.Ordering.{is_lt, nat_cmp, match_ordering, ordering_reverse}
use Rattle.std.specs.Cmp.Lexicographic.{slice_cmp, nat_list_cmp_total}
use Rattle.term_dict.specs.Keys.{is_below}
use Rattle.fast_fields.proofs.Below.{neither_below}
use Rattle.split_bundle.specs.Splits.{AreRising}
use Rattle.split_build.specs.HeldDocuments.{with_name}
use Rattle.split_build.specs.Members.{IsAmong}
use Rattle.split_build.proofs.KeysLemmas.{above_all}

same_text : (t o : List ℕ) → slice_cmp nat_cmp t o ≡ Equal → o ≡ t
same_text t o is =
    let back : slice_cmp nat_cmp o t ≡ Equal = nat_list_cmp_total.antisymm o t ∙ ap ordering_reverse is in
    neither_below o t (ap is_lt back) (ap is_lt is)

is_above : (t o : List ℕ) → slice_cmp nat_cmp t o ≡ Greater → is_below o t ≡ true
is_above t o is = ap is_lt (nat_list_cmp_total.antisymm o t ∙ ap ordering_reverse is)

abbrev by_order : Ordering → List ℕ → List ℕ → List (List ℕ) → List (List ℕ)
by_order c t o os = match_ordering c (t ∷ o ∷ os) (o ∷ os) (o ∷ with_name t os)

pub with_among : (t : List ℕ) (ts : List (List ℕ)) (x : List ℕ) → IsAmong (with_name t ts) x → (t ≡ x) ⊎ IsAmong ts x
with_among t [] x (inl same) = inl same
with_among t [] x (inr none) = absurd none
with_among t (o ∷ os) x h = by (slice_cmp nat_cmp t o) (with_among t os x) h
  where
    by : (c : Ordering) → (IsAmong (with_name t os) x → (t ≡ x) ⊎ IsAmong os x) → IsAmong (by_order c t o os) x → (t ≡ x) ⊎ IsAmong (o ∷ os) x
    by Less rest (inl same) = inl same
    by Less rest (inr later) = inr later
    by Equal rest h = inr h
    by Greater rest (inl same) = inr (inl same)
    by Greater rest (inr later) = elim (rest later) [ inl same ↦ inl same | inr there ↦ inr (inr there) ]

pub among_with : (t : List ℕ) (ts : List (List ℕ)) (x : List ℕ) → IsAmong ts x → IsAmong (with_name t ts) x
among_with t [] x h = absurd h
among_with t (o ∷ os) x h = by (slice_cmp nat_cmp t o) (among_with t os x) h
  where
    by : (c : Ordering) → (IsAmong os x → IsAmong (with_name t os) x) → IsAmong (o ∷ os) x → IsAmong (by_order c t o os) x
    by Less rest h = inr h
    by Equal rest h = h
    by Greater rest (inl same) = inl same
    by Greater rest (inr later) = inr (rest later)

pub among_new : (t : List ℕ) (ts : List (List ℕ)) → IsAmong (with_name t ts) t
among_new t [] = inl refl
among_new t (o ∷ os) = by (slice_cmp nat_cmp t o) refl (among_new t os)
  where
    by : (c : Ordering) → slice_cmp nat_cmp t o ≡ c → IsAmong (with_name t os) t → IsAmong (by_order c t o os) t
    by Less is rest = inl refl
    by Equal is rest = inl (same_text t o is)
    by Greater is rest = inr rest

pub all_with : (P : List ℕ → Type 0) (t : List ℕ) (ts : List (List ℕ)) → P t → AllByRecursion P ts → AllByRecursion P (with_name t ts)
all_with P t [] p h = (p, tt)
all_with P t (o ∷ os) p h = by (slice_cmp nat_cmp t o) (all_with P t os p h.1)
  where
    by : (c : Ordering) → AllByRecursion P (with_name t os) → AllByRecursion P (by_order c t o os)
    by Less rest = (p, h)
    by Equal rest = h
    by Greater rest = (h.0, rest)

pub with_rises : (t : List ℕ) (ts : List (List ℕ)) → AreRising ts → AreRising (with_name t ts)
with_rises t [] h = (tt, tt)
with_rises t (o ∷ os) h = by (slice_cmp nat_cmp t o) refl (with_rises t os h.1)
  where
    by : (c : Ordering) → slice_cmp nat_cmp t o ≡ c → AreRising (with_name t os) → AreRising (by_order c t o os)
    by Less is rest = let lt : is_below t o ≡ true = ap is_lt is in ((lt, above_all t o os lt h.0), h)
    by Equal is rest = h
    by Greater is rest = (all_with (λ u. is_below o u ≡ true) t os (is_above t o is) h.0, rest)

pub with_grows : (t : List ℕ) (ts : List (List ℕ)) → length ts ≤ length (with_name t ts)
with_grows t [] = omega arith
with_grows t (o ∷ os) = by (slice_cmp nat_cmp t o) (with_grows t os)
  where
    by : (c : Ordering) → length os ≤ length (with_name t os) → length (o ∷ os) ≤ length (by_order c t o os)
    by Less rest = omega arith
    by Equal rest = omega arith
    by Greater rest = omega (arith, rest)
