-- Two lists, place by place.
use Rattle.std.proofs.Common.{◌≡◌, ℕ, zero, suc, ◌<◌, List, [], ◌∷◌, ◌++◌, length, get_or, Some, slice_get, slice_set, ap, arith, sym, subst}
use Rattle.std.specs.List.{AllZip}

pub zip_last : {A B : Type 0} (R : A → B → Type 0) (xs : List A) (ys : List B) (x : A) (y : B) → AllZip R xs ys → R x y → AllZip R (xs ++ x ∷ []) (ys ++ y ∷ [])
zip_last R [] [] x y all h = (h, tt)
zip_last R [] (b ∷ ys) x y all h = absurd all
zip_last R (a ∷ xs) [] x y all h = absurd all
zip_last R (a ∷ xs) (b ∷ ys) x y all h = (all.0, zip_last R xs ys x y all.1 h)

-- the item at a place
pub at_place : {A : Type 0} (xs : List A) (i : ℕ) (x : A) → i < length xs → ((d : A) → x ≡ get_or xs i d) → slice_get xs i ≡ Some x
at_place [] i x low here = absurd (omega (arith, low))
at_place {A = A} (a ∷ xs) zero x low here = ap (λ (d : A). Some d) (sym (here x))
at_place (a ∷ xs) (suc i) x low here = at_place xs i x (omega (arith, low)) here

-- one item of the other list in place of another
pub zip_set : {A B : Type 0} (R : A → B → Type 0) (xs : List A) (ys : List B) (i : ℕ) (x : A) (y : B) → AllZip R xs ys → slice_get xs i ≡ Some x → R x y → AllZip R xs (slice_set ys i y)
zip_set R [] [] i x y all here h = absurd (cc)
zip_set R [] (b ∷ ys) i x y all here h = absurd all
zip_set R (a ∷ xs) [] i x y all here h = absurd all
zip_set {B = B} R (a ∷ xs) (b ∷ ys) zero x y all here h =
    let same : a ≡ x = cc in
    (subst (λ d. R d y) (sym same) h, all.1)
zip_set R (a ∷ xs) (b ∷ ys) (suc i) x y all here h = (all.0, zip_set R xs ys i x y all.1 here h)

-- two items at one place
pub zip_at : {A B : Type 0} (R : A → B → Type 0) (xs : List A) (ys : List B) (i : ℕ) (x : A) (y : B) → AllZip R xs ys → slice_get xs i ≡ Some x → slice_get ys i ≡ Some y → R x y
zip_at R [] ys i x y all one other = absurd (cc)
zip_at R (a ∷ xs) [] i x y all one other = absurd (cc)
zip_at R (a ∷ xs) (b ∷ ys) zero x y all one other =
    let same : a ≡ x = cc in
    let also : b ≡ y = cc in
    subst (λ d. R d y) same (subst (λ e. R a e) also all.0)
zip_at R (a ∷ xs) (b ∷ ys) (suc i) x y all one other = zip_at R xs ys i x y all.1 one other
