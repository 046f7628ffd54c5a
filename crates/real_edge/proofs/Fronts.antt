-- What a name begins with.
use Rattle.std.proofs.Common.{◌≡◌, ◌≢◌, ◌⊎◌, ℕ, zero, suc, ◌+◌, ◌-◌, ◌<◌, ◌≤◌, nat_eq, Bool, true, false, ◌&&◌, ◌||◌, cond, List, [], ◌∷◌, ◌++◌, length, take, drop, Option, Some, None, refl, sym, ap, subst, ◌∙◌, inl, inr, arith, add-one}
use Rattle.std.specs.Prelude.{◌==◌}
use Rattle.std.specs.List.{starts_with}
use Rattle.std.specs.Ordering.{nat_cmp, is_lt, ordering_then}
use Rattle.std.specs.Cmp.{nat_cmp_is}
use Rattle.std.specs.Cmp.Lexicographic.{slice_cmp}
use Rattle.std.specs.FinMap.{nat_cmp-IsAntisymmetric}
use Rattle.std.proofs.lemmas.Bool.{eqb-true}
use Rattle.std.specs.declared.cmp.Ordering.{Ordering}
use Rattle.std.specs.declared.cmp.Ordering.TheVariants.{Less, Equal, Greater}
use Rattle.std.proofs.lemmas.Slice.Eq.{bytes_eq-Decides}
use Rattle.real_edge.specs.Disk.{Begins, first_part}

own_front : (front rest : List ℕ) → take (length front) (front ++ rest) ≡ front
own_front [] rest = refl
own_front (c ∷ cs) rest = ap (λ z. c ∷ z) (own_front cs rest)

pub own_rest : (front rest : List ℕ) → drop (length front) (front ++ rest) ≡ rest
own_rest [] rest = refl
own_rest (c ∷ cs) rest = own_rest cs rest

pub parted : (k : ℕ) (xs : List ℕ) → xs ≡ take k xs ++ drop k xs
parted zero xs = refl
parted (suc k) [] = refl
parted (suc k) (x ∷ xs) = ap (λ z. x ∷ z) (parted k xs)

pub appended : (a b c : List ℕ) → (a ++ b) ++ c ≡ a ++ (b ++ c)
appended [] b c = refl
appended (x ∷ a) b c = ap (λ z. x ∷ z) (appended a b c)

pub begins_from : (front name : List ℕ) → starts_with nat_eq name front ≡ true → Begins front name
begins_from front name h =
    let same = (bytes_eq-Decides front (take (length front) name)).0 h in
    (drop (length front) name, parted (length front) name ∙ ap (λ z. z ++ drop (length front) name) (sym same))

pub begins_so : (front name : List ℕ) → Begins front name → starts_with nat_eq name front ≡ true
begins_so front name h = (bytes_eq-Decides front (take (length front) name)).1 (sym (own_front front h.0) ∙ ap (take (length front)) (sym h.1))

pub begins_then : (a b c : List ℕ) → Begins a b → Begins b c → Begins a c
begins_then a b c p q = (p.0 ++ q.0, q.1 ∙ ap (λ z. z ++ q.0) p.1 ∙ appended a p.0 q.0)

pub begins_more : (a b : List ℕ) → Begins a (a ++ b)
begins_more a b = (b, refl)

-- two fronts of one name: one begins with the other
pub fronts : (a b q : List ℕ) → Begins a q → Begins b q → Begins a b ⊎ Begins b a
fronts [] b q p r = inl (b, refl)
fronts (x ∷ a) [] q p r = inr (x ∷ a, refl)
fronts (x ∷ a) (y ∷ b) q p r = by (fronts a b (a ++ p.0) (p.0, refl) (r.0, tails))
  where
    heads_tails : (x ∷ (a ++ p.0)) ≡ (y ∷ (b ++ r.0))
    heads_tails = sym p.1 ∙ r.1

    tails : a ++ p.0 ≡ b ++ r.0
    tails = ap (drop 1) heads_tails

    head_of : List ℕ → ℕ
    head_of [] = 0
    head_of (z ∷ zs) = z

    heads : x ≡ y
    heads = ap head_of heads_tails

    by : Begins a b ⊎ Begins b a → Begins (x ∷ a) (y ∷ b) ⊎ Begins (y ∷ b) (x ∷ a)
    by (inl h) = inl (h.0, (λ i. sym heads i ∷ h.1 i))
    by (inr h) = inr (h.0, (λ i. heads i ∷ h.1 i))

-- what begins so doesn't come before
pub not_before : (front name : List ℕ) → Begins front name → is_lt (slice_cmp nat_cmp name front) ≡ false
not_before front name h = subst (λ (z : List ℕ). is_lt (slice_cmp nat_cmp z front) ≡ false) (sym h.1) (longer front h.0)
  where
    longer : (f rest : List ℕ) → is_lt (slice_cmp nat_cmp (f ++ rest) f) ≡ false
    longer [] [] = refl
    longer [] (x ∷ xs) = refl
    longer (c ∷ cs) rest = ap (λ r. is_lt (ordering_then r (slice_cmp nat_cmp (cs ++ rest) cs))) (sym (nat_cmp_is c c Equal refl)) ∙ longer cs rest

-- A key before a name is before each front of it, or begins with that.
pub before_front : (a f rest : List ℕ) → is_lt (slice_cmp nat_cmp a (f ++ rest)) ≡ true → Begins f a ⊎ (is_lt (slice_cmp nat_cmp a f) ≡ true)
before_front a [] rest less = inl (a, refl)
before_front [] (y ∷ f) rest less = inr refl
before_front (x ∷ a) (y ∷ f) rest less = by (λ l. before_front a f rest l) (nat_cmp x y) refl
  where
    by : (is_lt (slice_cmp nat_cmp a (f ++ rest)) ≡ true → Begins f a ⊎ (is_lt (slice_cmp nat_cmp a f) ≡ true)) → (r : Ordering) → nat_cmp x y ≡ r → Begins (y ∷ f) (x ∷ a) ⊎ (is_lt (slice_cmp nat_cmp (x ∷ a) (y ∷ f)) ≡ true)
    by later Less e = inr (ap (λ r. is_lt (ordering_then r (slice_cmp nat_cmp a f))) e)
    by later Greater e = absurd (no (sym less ∙ ap (λ r. is_lt (ordering_then r (slice_cmp nat_cmp a (f ++ rest)))) e))
      where
        no : true ≡ false → ⊥
        no z = cc
    by later Equal e = more (later (sym (ap (λ r. is_lt (ordering_then r (slice_cmp nat_cmp a (f ++ rest)))) e) ∙ less))
      where
        same : x ≡ y
        same = nat_cmp-IsAntisymmetric x y e

        more : Begins f a ⊎ (is_lt (slice_cmp nat_cmp a f) ≡ true) → Begins (y ∷ f) (x ∷ a) ⊎ (is_lt (slice_cmp nat_cmp (x ∷ a) (y ∷ f)) ≡ true)
        more (inl h) = inl (h.0, (λ i. same i ∷ h.1 i))
        more (inr h) = inr (ap (λ r. is_lt (ordering_then r (slice_cmp nat_cmp a f))) e ∙ h)

-- a name is its first part, or begins with that and a slash
pub first_parts : (q : List ℕ) → (q ≡ first_part q) ⊎ Begins (first_part q ++ 47 ∷ []) q
first_parts [] = inl refl
first_parts (b ∷ q) = by (first_parts q) (b == 47) refl
  where
    by : (q ≡ first_part q) ⊎ Begins (first_part q ++ 47 ∷ []) q → (t : Bool) → (b == 47) ≡ t → (b ∷ q ≡ cond t [] (b ∷ first_part q)) ⊎ Begins (cond t [] (b ∷ first_part q) ++ 47 ∷ []) (b ∷ q)
    by later true e = inr (q, (λ i. eqb-true b 47 e i ∷ q))
    by later false e = elim later [
      | inl same ↦ inl (ap (λ z. b ∷ z) same)
      | inr h ↦ inr (h.0, ap (λ z. b ∷ z) h.1)
    ]
