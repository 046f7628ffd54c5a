-- The least so many of some numbers, and one more number.
use Rattle.std.proofs.Common.{◌≡◌, ℕ, zero, suc, ◌+◌, ◌<◌, ◌≤◌, ◌⊎◌, inl, inr, nat_lt, min, Bool, true, false, cond, List, [], ◌∷◌, ◌++◌, length, get_or, refl, ap, sym, ◌∙◌, arith}
use Rattle.std.specs.BinaryHeap.{IsUpperBound}
use Rattle.std.specs.List.Sorted.{IsPermutation}
use Rattle.std.specs.Ordering.{nat_cmp, is_lt}
use Rattle.std.proofs.lemmas.Bool.{lt-ltb, le-ltb}
use Rattle.std.proofs.lemmas.Bool.Decides.{nat_tests}
use Rattle.std.proofs.lemmas.List.Sorted.{sum_by-IsPermutation, length_permutation}
use Rattle.std.proofs.lemmas.List.Sums.{sum_by-cons, sum_by_push, count_by-le-length}
use Rattle.doc_tallies.specs.Least.{below}

-- a number counts below a bound, or not
abbrev pub one : ℕ → ℕ → ℕ
one m n = cond (nat_lt m n) 1 0

abbrev pub IsOne : ℕ → ℕ → ℕ → Type 0
IsOne m n k = ((m < n) × (k ≡ 1)) ⊎ ((n ≤ m) × (k ≡ 0))

pub below_counted : (m n : ℕ) → IsOne m n (one m n)
below_counted m n = go (nat_lt m n) refl
  where
    go : (t : Bool) → nat_lt m n ≡ t → IsOne m n (one m n)
    go true e = inl (grind (arith, nat_tests), rw e refl)
    go false e = inr (grind (arith, nat_tests), rw e refl)

pub below_cons : (n x : ℕ) (xs : List ℕ) → below n (x ∷ xs) ≡ one x n + below n xs
below_cons n x xs = sum_by-cons (λ m. cond (nat_lt m n) 1 0) x xs

pub push_below : (n : ℕ) (xs : List ℕ) (x : ℕ) → below n (xs ++ x ∷ []) ≡ below n xs + one x n
push_below n xs x = sum_by_push (λ m. cond (nat_lt m n) 1 0) xs x

moved_below : (n : ℕ) (xs ys : List ℕ) → IsPermutation xs ys → below n ys ≡ below n xs
moved_below n xs ys h = sum_by-IsPermutation (λ m. cond (nat_lt m n) 1 0) xs ys h

-- an upper bound
at_most : (x y : ℕ) → is_lt (nat_cmp x y) ≡ false → y ≤ x
at_most x y h = go (nat_lt x y) refl
  where
    go : (t : Bool) → nat_lt x y ≡ t → y ≤ x
    go true e = absurd (let less : is_lt (nat_cmp x y) ≡ true = rw e refl in cc)
    go false e = grind (arith, nat_tests)

all_below : (x n : ℕ) (ys : List ℕ) → IsUpperBound nat_cmp x ys → x < n → below n ys ≡ length ys
all_below x n [] up lt = refl
all_below x n (y ∷ ys) up lt =
    let le = at_most x y up.0 in
    let rest = all_below x n ys up.1 lt in
    let first : one y n ≡ 1 = ap (λ (t : Bool). cond {A = ℕ} t 1 0) (lt-ltb y n (omega arith)) in
    let both = below_cons n y ys in
    omega arith

pub bounded : (wanted x : ℕ) (seen kept : List ℕ) → ((n : ℕ) → below n kept ≡ min wanted (below n seen)) → IsUpperBound nat_cmp x kept → length kept ≤ wanted
bounded wanted x seen kept least up = let all = all_below x (x + 1) kept up (omega arith) in let le = least (x + 1) in omega arith

-- ---- a number above all others

abbrev above : List ℕ → ℕ
above [] = 0
above (x ∷ xs) = suc x + above xs

all_above : (n : ℕ) (xs : List ℕ) → above xs ≤ n → below n xs ≡ length xs
all_above n [] le = refl
all_above n (x ∷ xs) le =
    let rest = all_above n xs (omega arith) in
    let first : one x n ≡ 1 = ap (λ (t : Bool). cond {A = ℕ} t 1 0) (lt-ltb x n (omega arith)) in
    let both = below_cons n x xs in
    omega arith

-- ---- the last one

pub no_bar : (wanted : ℕ) (seen kept : List ℕ) → ((n : ℕ) → below n kept ≡ min wanted (below n seen)) → length kept < wanted → length seen < wanted
no_bar wanted seen kept least few =
    let n : ℕ = above kept + above seen in
    let one_side = all_above n kept (omega arith) in
    let other = all_above n seen (omega arith) in
    let same = least n in
    omega arith

-- an item does not count below itself
with_one : (g : ℕ) (xs : List ℕ) (i : ℕ) → i < length xs → g ≡ get_or xs i g → below g xs < length xs
with_one g [] i lt here = absurd (omega arith)
with_one g (x ∷ xs) zero lt here =
    let not_itself : one x g ≡ 0 = ap (λ (t : Bool). cond {A = ℕ} t 1 0) (le-ltb x g (omega arith)) in
    let rest = count_by-le-length (λ m. nat_lt m g) xs in
    let both = below_cons g x xs in
    omega arith
with_one g (x ∷ xs) (suc i) lt here =
    let rest = with_one g xs i (omega arith) here in
    let both = below_cons g x xs in
    elim (below_counted x g) [ inl h ↦ (let c = h.1 in omega arith) | inr h ↦ (let c = h.1 in omega arith) ]

pub the_bar : (wanted g : ℕ) (seen kept : List ℕ) → 1 ≤ wanted → ((n : ℕ) → below n kept ≡ min wanted (below n seen)) → wanted ≤ length kept → IsUpperBound nat_cmp g kept → g ≡ get_or kept 0 g → (below g seen < wanted) × (wanted ≤ below (g + 1) seen)
the_bar wanted g seen kept some least full up here =
    let within = bounded wanted g seen kept least up in
    let less = with_one g kept 0 (omega arith) here in
    let all = all_below g (g + 1) kept up (omega arith) in
    let same = least g in
    let next = least (g + 1) in
    (omega arith, omega arith)

-- ---- one more number

-- there is room for it
pub room_more : (wanted x : ℕ) (seen kept new : List ℕ) → ((n : ℕ) → below n kept ≡ min wanted (below n seen)) → length kept < wanted → IsPermutation (x ∷ kept) new
    → (n : ℕ) → below n new ≡ min wanted (below n (seen ++ x ∷ []))
room_more wanted x seen kept new least room moved n =
    let some = count_by-le-length (λ m. nat_lt m n) kept in
    let before = least n in
    let kept_more = moved_below n (x ∷ kept) new moved ∙ below_cons n x kept in
    let seen_more = push_below n seen x in
    elim (below_counted x n) [ inl h ↦ (let c = h.1 in omega arith) | inr h ↦ (let c = h.1 in omega arith) ]

-- it does not stand below the greatest
pub late_more : (wanted x g : ℕ) (seen kept : List ℕ) → ((n : ℕ) → below n kept ≡ min wanted (below n seen)) → wanted ≤ length kept → IsUpperBound nat_cmp g kept → g ≤ x
    → (n : ℕ) → below n kept ≡ min wanted (below n (seen ++ x ∷ []))
late_more wanted x g seen kept least full up le n =
    let before = least n in
    let seen_more = push_below n seen x in
    elim (below_counted x n) [ inl h ↦ (let c = h.1 in let lt = h.0 in let all = all_below g n kept up (omega arith) in omega arith) | inr h ↦ (let c = h.1 in omega arith) ]

-- it comes in place of the greatest
pub better_more : (wanted x g : ℕ) (seen kept both new : List ℕ) → ((n : ℕ) → below n kept ≡ min wanted (below n seen)) → wanted ≤ length kept → length kept ≤ wanted → IsPermutation (x ∷ kept) both → IsPermutation both (g ∷ new) → IsUpperBound nat_cmp g new
    → (n : ℕ) → below n new ≡ min wanted (below n (seen ++ x ∷ []))
better_more wanted x g seen kept both new least full within moved popped up n =
    let before = least n in
    let seen_more = push_below n seen x in
    let kept_more = moved_below n (x ∷ kept) both moved ∙ below_cons n x kept in
    let rest : one g n + below n new ≡ below n both = sym (below_cons n g new) ∙ moved_below n both (g ∷ new) popped in
    let long : length both ≡ suc (length kept) = length_permutation (x ∷ kept) both moved in
    let shorter : suc (length new) ≡ length both = length_permutation both (g ∷ new) popped in
    let some = count_by-le-length (λ m. nat_lt m n) new in
    let few = count_by-le-length (λ m. nat_lt m n) kept in
    elim (below_counted x n) [
      | inl h ↦ (let c = h.1 in elim (below_counted g n) [
        | inl k ↦ (let d = k.1 in let all = all_below g n new up k.0 in omega arith)
        | inr k ↦ (let d = k.1 in omega arith)
      ])
      | inr h ↦ (let c = h.1 in elim (below_counted g n) [
        | inl k ↦ (let d = k.1 in let all = all_below g n new up k.0 in omega arith)
        | inr k ↦ (let d = k.1 in omega arith)
      ])
    ]
