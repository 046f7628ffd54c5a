-- What is dealt out of lists that have what belongs to each is the list itself.
use Rattle.std.proofs.Common.{◌≡◌, ℕ, zero, suc, ◌+◌, ◌<◌, Bool, true, false, cond, eqb, List, [], ◌∷◌, ◌++◌, length, refl, sym, ap, ◌∙◌, subst, arith}
use Rattle.std.proofs.lemmas.Bool.{eqb-true}
use Rattle.std.specs.List.{AllByRecursion}
use Rattle.std.specs.Option.{option_to_list}
use Rattle.std.specs.Prelude.{Some}
use Rattle.run_plan.specs.Asked.{picked}
use Rattle.run_plan.specs.Dealing.{dealt, next_of, rest_of}
use Rattle.thread_run.specs.Picking.{ArePicked}

module _ {A : Type 0} where
  pub own_pick : (place owner : ℕ) (by : List ℕ) (x : A) (xs : List A) → owner ≡ place → picked place (owner ∷ by) (x ∷ xs) ≡ x ∷ picked place by xs
  own_pick place owner by x xs same = ap (λ b. cond b (x ∷ picked place by xs) (picked place by xs)) (let yes : eqb owner place ≡ true = grind (arith, same) in yes)

  pub other_pick : (place owner : ℕ) (by : List ℕ) (x : A) (xs : List A) → (owner ≡ place → ⊥) → picked place (owner ∷ by) (x ∷ xs) ≡ picked place by xs
  other_pick place owner by x xs other = by_test (eqb owner place) refl
    where
      by_test : (b : Bool) → eqb owner place ≡ b → cond b (x ∷ picked place by xs) (picked place by xs) ≡ picked place by xs
      by_test true is = absurd (other (eqb-true owner place is))
      by_test false is = refl

  others_picked : (place owner : ℕ) (by : List ℕ) (x : A) (xs : List A) (lists : List (List A)) → owner < place → ArePicked place (owner ∷ by) (x ∷ xs) lists → ArePicked place by xs lists
  others_picked place owner by x xs [] less all = tt
  others_picked place owner by x xs (list ∷ lists) less all = (
    all.0 ∙ other_pick place owner by x xs (λ e. omega (arith, e, less)),
    others_picked (suc place) owner by x xs lists (omega (arith, less)) all.1,
  )

  -- the next one of the list to which it belongs
  picked_next : (place i owner : ℕ) (by : List ℕ) (x : A) (xs : List A) (lists : List (List A)) → i + place ≡ owner → i < length lists → ArePicked place (owner ∷ by) (x ∷ xs) lists →
      (next_of lists i ≡ Some x) × ArePicked place by xs (rest_of lists i)
  picked_next place i owner by x xs [] at within all = absurd (omega (arith, within))
  picked_next place zero owner by x xs ([] ∷ lists) at within all =
      let same : owner ≡ place = omega (arith, at) in
      let bad : [] ≡ x ∷ picked place by xs = all.0 ∙ own_pick place owner by x xs same in
      absurd (let n = ap length bad in omega (arith, n))
  picked_next place zero owner by x xs ((y ∷ ys) ∷ lists) at within all =
      let same : owner ≡ place = omega (arith, at) in
      let is : y ∷ ys ≡ x ∷ picked place by xs = all.0 ∙ own_pick place owner by x xs same in
      let first : y ≡ x = cc is in
      let rest : ys ≡ picked place by xs = cc is in
      (ap (λ v. Some v) first, (rest, others_picked (suc place) owner by x xs lists (omega (arith, same)) all.1))
  picked_next place (suc i) owner by x xs ([] ∷ lists) at within all =
      let next = picked_next (suc place) i owner by x xs lists (omega (arith, at)) (omega (arith, within)) all.1 in
      (next.0, (all.0 ∙ other_pick place owner by x xs (λ e. omega (arith, e, at)), next.1))
  picked_next place (suc i) owner by x xs ((y ∷ ys) ∷ lists) at within all =
      let next = picked_next (suc place) i owner by x xs lists (omega (arith, at)) (omega (arith, within)) all.1 in
      (next.0, (all.0 ∙ other_pick place owner by x xs (λ e. omega (arith, e, at)), next.1))

  pub rest_long : (lists : List (List A)) (i : ℕ) → length (rest_of lists i) ≡ length lists
  rest_long [] i = refl
  rest_long ([] ∷ lists) zero = refl
  rest_long ((y ∷ ys) ∷ lists) zero = refl
  rest_long ([] ∷ lists) (suc i) = ap suc (rest_long lists i)
  rest_long ((y ∷ ys) ∷ lists) (suc i) = ap suc (rest_long lists i)

  pub dealt_picked : (by : List ℕ) (xs : List A) (lists : List (List A)) → length by ≡ length xs → AllByRecursion (λ owner. owner < length lists) by → ArePicked 0 by xs lists → dealt by lists ≡ xs
  dealt_picked [] [] lists long within all = refl
  dealt_picked [] (x ∷ xs) lists long within all = absurd (omega (arith, long))
  dealt_picked (owner ∷ by) [] lists long within all = absurd (omega (arith, long))
  dealt_picked (owner ∷ by) (x ∷ xs) lists long within all =
      let next = picked_next 0 owner owner by x xs lists (omega arith) within.0 all in
      let again = dealt_picked by xs (rest_of lists owner) (omega (arith, long)) (subst (λ n. AllByRecursion (λ owner. owner < n) by) (sym (rest_long lists owner)) within.1) next.1 in
      ap (λ o. option_to_list o ++ dealt by (rest_of lists owner)) next.0 ∙ ap (λ l. x ∷ l) again
