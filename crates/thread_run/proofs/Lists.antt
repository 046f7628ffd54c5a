-- Lists, and what holds of all their elements.
use Rattle.std.proofs.Common.{◌≡◌, ℕ, List, [], ◌∷◌, ◌++◌, length, take, refl, ap, subst}
use Rattle.std.specs.List.{AllByRecursion}

pub all_front : {X : Type 0} (P : X → Type 0) (xs ys : List X) → AllByRecursion P (xs ++ ys) → AllByRecursion P xs
all_front P [] ys a = tt
all_front P (x ∷ xs) ys a = (a.0, all_front P xs ys a.1)

pub all_back : {X : Type 0} (P : X → Type 0) (xs ys : List X) → AllByRecursion P (xs ++ ys) → AllByRecursion P ys
all_back P [] ys a = a
all_back P (x ∷ xs) ys a = all_back P xs ys a.1

pub all_last : {X : Type 0} (P : X → Type 0) (xs : List X) (x : X) → AllByRecursion P (xs ++ x ∷ []) → P x
all_last P xs x a = (all_back P xs (x ∷ []) a).0

-- as much as a list of what begins with it
pub whole_front : {A : Type 0} (xs zs : List A) (n : ℕ) → length xs ≡ n → take n (xs ++ zs) ≡ xs
whole_front {A} xs zs n e = subst (λ k. take k (xs ++ zs) ≡ xs) e (by xs)
  where
    by : (ys : List A) → take (length ys) (ys ++ zs) ≡ ys
    by [] = refl
    by (y ∷ ys) = ap (λ l. y ∷ l) (by ys)
