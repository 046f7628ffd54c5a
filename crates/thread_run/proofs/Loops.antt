-- Loops over what a list gives, and what is gathered of it.
use Rattle.std.proofs.Common.{◌≡◌, ◌+◌, ◌<◌, ◌≤◌, ℕ, zero, suc, List, [], ◌∷◌, ◌++◌, length, length-append, map, refl, sym, ap, ◌∙◌, subst, arith, append-nil, append_assoc, get_or, take}
use Rattle.std.specs.List.{AllByRecursion}
use Rattle.std.proofs.lemmas.List.{map_push, nil_from_length}
use Rattle.thread_run.specs.Gathering.{gathered}

module _ {A : Type 0} where
  -- one element more was given
  pub one_given : (given rest old all : List A) (x : A) → old ≡ x ∷ rest → given ++ old ≡ all → (given ++ x ∷ []) ++ rest ≡ all
  one_given given rest old all x is so_far = append_assoc given (x ∷ []) rest ∙ (ap (λ l. given ++ l) (sym is) ∙ so_far)

  -- all were
  pub all_given : (given rest all : List A) → length rest ≡ 0 → given ++ rest ≡ all → given ≡ all
  all_given given rest all none so_far = sym (append-nil given) ∙ (ap (λ l. given ++ l) (sym (nil_from_length rest none)) ∙ so_far)

  -- of those that are given some are left
  pub some_left : (given rest old all : List A) (x : A) → old ≡ x ∷ rest → given ++ old ≡ all → length given < length all
  some_left given rest old all x is so_far =
      let n = ap length so_far in let m = length-append given old in let k = ap length is in omega (arith, n, m, k)

  pub pushed_long : (xs ys : List A) (x : A) → ys ≡ xs ++ x ∷ [] → length ys ≡ length xs + 1
  pushed_long xs ys x is = ap length is ∙ length-append xs (x ∷ [])

module _ {A B : Type 0} where
  pub mapped_push : (f : A → B) (given : List A) (ys new : List B) (x : A) (y : B) → new ≡ ys ++ y ∷ [] → ys ≡ map f given → y ≡ f x → new ≡ map f (given ++ x ∷ [])
  mapped_push f given ys new x y is so_far here = is ∙ ((λ i. so_far i ++ here i ∷ []) ∙ sym (map_push f given x))

  pub gathered_push : (f : A → List B) (xs : List A) (x : A) → gathered f (xs ++ x ∷ []) ≡ gathered f xs ++ f x
  gathered_push f [] x = append-nil (f x)
  gathered_push f (y ∷ xs) x = ap (λ l. f y ++ l) (gathered_push f xs x) ∙ sym (append_assoc (f y) (gathered f xs) (f x))

  pub gathered_more : (f : A → List B) (given : List A) (ys new : List B) (x : A) → new ≡ ys ++ f x → ys ≡ gathered f given → new ≡ gathered f (given ++ x ∷ [])
  gathered_more f given ys new x is so_far = is ∙ (ap (λ l. l ++ f x) so_far ∙ sym (gathered_push f given x))

  pub gathered_append : (f : A → List B) (xs ys : List A) → gathered f (xs ++ ys) ≡ gathered f xs ++ gathered f ys
  gathered_append f [] ys = refl
  gathered_append f (x ∷ xs) ys = ap (λ l. f x ++ l) (gathered_append f xs ys) ∙ sym (append_assoc (f x) (gathered f xs) (gathered f ys))

pub all_push : {A : Type 0} (P : A → Type 0) (xs : List A) (x : A) → AllByRecursion P xs → P x → AllByRecursion P (xs ++ x ∷ [])
all_push P [] x all p = (p, tt)
all_push P (y ∷ xs) x all p = (all.0, all_push P xs x all.1 p)

pub mapped_twice : {A B C : Type 0} (f : A → B) (g : B → C) (xs : List A) → map g (map f xs) ≡ map (λ x. g (f x)) xs
mapped_twice f g [] = refl
mapped_twice f g (x ∷ xs) = ap (λ l. g (f x) ∷ l) (mapped_twice f g xs)

-- of the first ones, one more
pub all_take_more : {A : Type 0} (P : A → Type 0) (xs : List A) (i : ℕ) (x : A) → AllByRecursion P (take i xs) → i < length xs → x ≡ get_or xs i x → P x → AllByRecursion P (take (suc i) xs)
all_take_more P [] i x all less is p = absurd (omega (arith, less))
all_take_more P (y ∷ xs) zero x all less is p = (subst P is p, tt)
all_take_more P (y ∷ xs) (suc i) x all less is p = (all.0, all_take_more P xs i x all.1 (omega (arith, less)) is p)

pub all_take_all : {A : Type 0} (P : A → Type 0) (xs : List A) (i : ℕ) → AllByRecursion P (take i xs) → length xs ≤ i → AllByRecursion P xs
all_take_all P [] i all le = tt
all_take_all P (y ∷ xs) zero all le = absurd (omega (arith, le))
all_take_all P (y ∷ xs) (suc i) all le = (all.0, all_take_all P xs i all.1 (omega (arith, le)))
