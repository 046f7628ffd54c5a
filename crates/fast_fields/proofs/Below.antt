-- Texts by their bytes: the order, and what stands among rising ones.
use Rattle.std.proofs.Common.{◌≡◌, ℕ, zero, suc, ◌<◌, ◌≤◌, true, false, List, [], ◌∷◌, ◌++◌, length, take, get_or, Some, refl, sym, ◌∙◌, ap, subst, arith, inl, inr, eq-eqb}
use Rattle.std.specs.Prelude.{slice_get, Contains, ◌⊎◌}
use Rattle.std.specs.List.{AllByRecursion}
use Rattle.std.specs.declared.cmp.Ordering.{Ordering}
use Rattle.std.specs.declared.cmp.Ordering.TheVariants.{Less, Equal, Greater}
use Rattle.std.specs.Ordering.{is_lt, nat_cmp}
use Rattle.std.specs.Cmp.Lexicographic.{slice_cmp, nat_list_cmp_total}
use Rattle.fast_fields.specs.Columns.{is_below, TextsRise}
use Rattle.std.proofs.lemmas.Bool.{cases_order, lt-ltb, le-ltb}

nat_less : (x y : ℕ) → x < y → nat_cmp x y ≡ Less
nat_less x y lt = rw (lt-ltb x y lt) refl

nat_same : (x : ℕ) → nat_cmp x x ≡ Equal
nat_same x = rw (le-ltb x x (omega arith), eq-eqb x x refl) refl

pub lt_of : (o : Ordering) → is_lt o ≡ true → o ≡ Less
lt_of Less e = refl
lt_of Equal e = absurd cc
lt_of Greater e = absurd cc

pub below_then : (a b c : List ℕ) → is_below a b ≡ true → is_below b c ≡ true → is_below a c ≡ true
below_then a b c p q =
    let less = nat_list_cmp_total.trans a b c (lt_of (slice_cmp nat_cmp a b) p) (lt_of (slice_cmp nat_cmp b c) q) in
    rw less refl

-- no text stands before itself
pub below_itself : (t : List ℕ) → is_below t t ≡ true → ⊥
below_itself [] e = absurd cc
below_itself (x ∷ xs) e = below_itself xs (rw (nat_same x) at e)

-- of two texts that aren't the same one stands before the other
pub neither_below : (a b : List ℕ) → is_below a b ≡ false → is_below b a ≡ false → a ≡ b
neither_below [] [] p q = refl
neither_below [] (y ∷ ys) p q = absurd cc
neither_below (x ∷ xs) [] p q = absurd cc
neither_below (x ∷ xs) (y ∷ ys) p q = elim (cases_order x y) [
  | inr (inl lt) ↦
      let wrong : true ≡ false = rw (nat_less x y lt) at p in
      absurd cc
  | inl same ↦
      let first : is_below (x ∷ xs) (x ∷ ys) ≡ false = subst (λ (n : ℕ). is_below (x ∷ xs) (n ∷ ys) ≡ false) (sym same) p in
      let second : is_below (x ∷ ys) (x ∷ xs) ≡ false = subst (λ (n : ℕ). is_below (n ∷ ys) (x ∷ xs) ≡ false) (sym same) q in
      let p' : is_below xs ys ≡ false = rw (nat_same x) at first in
      let q' : is_below ys xs ≡ false = rw (nat_same x) at second in
      ap (λ (n : ℕ). n ∷ xs) same ∙ ap (λ (l : List ℕ). y ∷ l) (neither_below xs ys p' q')
  | inr (inr gt) ↦
      let wrong : true ≡ false = rw (nat_less y x gt) at q in
      absurd cc
]

-- ---- rising texts

all_at : (P : List ℕ → Type 0) (ts : List (List ℕ)) (i : ℕ) (t : List ℕ) → AllByRecursion P ts → slice_get ts i ≡ Some t → P t
all_at P [] i t h is = absurd cc
all_at P (x ∷ xs) zero t h is = let same : x ≡ t = cc in subst P same h.0
all_at P (x ∷ xs) (suc i) t h is = all_at P xs i t h.1 is

pub below_at : (ts : List (List ℕ)) (i j : ℕ) (t u : List ℕ) → TextsRise ts → slice_get ts i ≡ Some t → slice_get ts j ≡ Some u → i < j → is_below t u ≡ true
below_at [] i j t u rise is js lt = absurd cc
below_at (x ∷ xs) i zero t u rise is js lt = absurd (omega arith)
below_at (x ∷ xs) zero (suc j) t u rise is js lt =
    let same : x ≡ t = cc in
    subst (λ (s : List ℕ). is_below s u ≡ true) same (all_at (λ (v : List ℕ). is_below x v ≡ true) xs j u rise.0 js)
below_at (x ∷ xs) (suc i) (suc j) t u rise is js lt = below_at xs i j t u rise.1 is js (omega arith)

-- a text that stands before another one is before it
pub stands_above : (ts : List (List ℕ)) (i j : ℕ) (t u : List ℕ) → TextsRise ts → slice_get ts i ≡ Some t → slice_get ts j ≡ Some u → is_below t u ≡ true → i < j
stands_above ts i j t u rise is js below = elim (cases_order i j) [
  | inr (inl lt) ↦ lt
  | inl same ↦
      let one : slice_get ts j ≡ Some t = ap (λ (k : ℕ). slice_get ts k) (sym same) ∙ is in
      let equal : t ≡ u = cc in
      absurd (below_itself u (subst (λ (s : List ℕ). is_below s u ≡ true) equal below))
  | inr (inr gt) ↦ absurd (below_itself t (below_then t u t below (below_at ts j i u t rise js is gt)))
]

pub stands_not_above : (ts : List (List ℕ)) (i j : ℕ) (t u : List ℕ) → TextsRise ts → slice_get ts i ≡ Some t → slice_get ts j ≡ Some u → is_below t u ≡ false → j ≤ i
stands_not_above ts i j t u rise is js above = elim (cases_order i j) [
  | inr (inl lt) ↦
      let wrong = below_at ts i j t u rise is js lt in
      absurd cc
  | inl same ↦ omega arith
  | inr (inr gt) ↦ omega arith
]

-- ---- what is among texts

pub among_at : (ts : List (List ℕ)) (t : List ℕ) → Contains ts t → (n : ℕ) × (n < length ts) × (slice_get ts n ≡ Some t)
among_at [] t (n, lt, is) = absurd (omega arith)
among_at (x ∷ xs) t (zero, lt, is) = (0, omega arith, ap (λ (s : List ℕ). Some s) is)
among_at (x ∷ xs) t (suc n, lt, is) =
    let more = among_at xs t (n, omega arith, is) in
    (suc more.0, omega arith, more.2)

pub among_left : (xs ys : List (List ℕ)) (t : List ℕ) → Contains xs t → Contains (xs ++ ys) t
among_left [] ys t (n, lt, is) = absurd (omega arith)
among_left (x ∷ xs) ys t (zero, lt, is) = (0, omega arith, is)
among_left (x ∷ xs) ys t (suc n, lt, is) =
    let more = among_left xs ys t (n, omega arith, is) in
    (suc more.0, omega arith, more.2)

pub among_last : (xs : List (List ℕ)) (t : List ℕ) → Contains (xs ++ t ∷ []) t
among_last [] t = (0, omega arith, refl)
among_last (x ∷ xs) t =
    let more = among_last xs t in
    (suc more.0, omega arith, more.2)

pub among_front : (ts : List (List ℕ)) (i j : ℕ) (t d : List ℕ) → j < i → i ≤ length ts → get_or ts j d ≡ t → Contains (take i ts) t
among_front [] i j t d lt le is = absurd (omega arith)
among_front (x ∷ xs) zero j t d lt le is = absurd (omega arith)
among_front (x ∷ xs) (suc i) zero t d lt le is = (0, omega arith, is)
among_front (x ∷ xs) (suc i) (suc j) t d lt le is =
    let more = among_front xs i j t d (omega arith) (omega arith) is in
    (suc more.0, omega arith, more.2)

-- what is among one text more is among the others or is that one
pub among_more : (ts : List (List ℕ)) (i : ℕ) (t d : List ℕ) → i < length ts → Contains (take (suc i) ts) t → Contains (take i ts) t ⊎ (get_or ts i d ≡ t)
among_more [] i t d lt h = absurd (omega arith)
among_more (x ∷ xs) zero t d lt (zero, small, is) = inr is
among_more (x ∷ xs) zero t d lt (suc n, small, is) = absurd (omega arith)
among_more (x ∷ xs) (suc i) t d lt (zero, small, is) = inl (0, omega arith, is)
among_more (x ∷ xs) (suc i) t d lt (suc n, small, is) = elim (among_more xs i t d (omega arith) (n, omega arith, is)) [
  | inl h ↦ inl (suc h.0, omega arith, h.2)
  | inr e ↦ inr e
]
