-- What is dealt out of lists that answer what belongs to each answers the whole list.
use Rattle.std.proofs.Common.{◌≡◌, ◌+◌, ◌-◌, ◌<◌, ◌≤◌, ℕ, zero, suc, Bool, true, false, cond, eqb, List, [], ◌∷◌, ◌++◌, length, refl, sym, ap, ◌∙◌, subst, arith}
use Rattle.std.proofs.lemmas.Bool.{eqb-true, eqb-false}
use Rattle.std.specs.List.{AllByRecursion, AllZip}
use Rattle.std.specs.Option.{option_to_list}
use Rattle.std.specs.Prelude.{Some}
use Rattle.std.specs.declared.alloc.Global.{Global}
use Rattle.std.specs.declared.vec.Vec.{Vec}
use Rattle.run_plan.specs.Asked.{picked}
use Rattle.run_plan.specs.Dealing.{dealt, next_of, rest_of}
use Rattle.run_plan.specs.Every.{every}
use Rattle.thread_run.specs.Sharing.{AreShares, turns_of}
use Rattle.thread_run.proofs.Picks.{other_pick, own_pick, rest_long}
use Rattle.thread_run.proofs.Turns.{coming_of, coming_within, every_picked}

module _ {A B : Type 0} (R : A → B → Type 0) where
  -- each of these lists, of which the first is the one at this place, answers the elements that belong to it
  abbrev pub AnswerPicked : (place : ℕ) → List ℕ → List A → List (List B) → Type 0
  AnswerPicked place by xs [] = Unit {0}
  AnswerPicked place by xs (list ∷ lists) = AllZip R (picked place by xs) list × AnswerPicked (suc place) by xs lists

  others_answer : (place owner : ℕ) (by : List ℕ) (x : A) (xs : List A) (lists : List (List B)) → owner < place → AnswerPicked place (owner ∷ by) (x ∷ xs) lists → AnswerPicked place by xs lists
  others_answer place owner by x xs [] less all = tt
  others_answer place owner by x xs (list ∷ lists) less all = (
    subst (λ l. AllZip R l list) (other_pick place owner by x xs (λ e. omega (arith, e, less))) all.0,
    others_answer (suc place) owner by x xs lists (omega (arith, less)) all.1,
  )

  -- the next one of the list of its owner
  pub record NextAnswer (place i : ℕ) (by : List ℕ) (x : A) (xs : List A) (lists : List (List B)) : Type 0 where
    pub one : B
    pub is : next_of lists i ≡ Some one
    pub answers : R x one
    pub rest : AnswerPicked place by xs (rest_of lists i)

  next_answer : (place i owner : ℕ) (by : List ℕ) (x : A) (xs : List A) (lists : List (List B)) → i + place ≡ owner → i < length lists → AnswerPicked place (owner ∷ by) (x ∷ xs) lists → NextAnswer place i by x xs lists
  next_answer place i owner by x xs [] at within all = absurd (omega (arith, within))
  next_answer place zero owner by x xs ([] ∷ lists) at within all =
      absurd (subst (λ l. AllZip R l []) (own_pick place owner by x xs (omega (arith, at))) all.0)
  next_answer place zero owner by x xs ((y ∷ ys) ∷ lists) at within all =
      let same : owner ≡ place = omega (arith, at) in
      let own : AllZip R (x ∷ picked place by xs) (y ∷ ys) = subst (λ l. AllZip R l (y ∷ ys)) (own_pick place owner by x xs same) all.0 in
      record { one = y; is = refl; answers = own.0; rest = (own.1, others_answer (suc place) owner by x xs lists (omega (arith, same)) all.1) }
  next_answer place (suc i) owner by x xs ([] ∷ lists) at within all =
      let next = next_answer (suc place) i owner by x xs lists (omega (arith, at)) (omega (arith, within)) all.1 in
      record { one = next.one; is = next.is; answers = next.answers; rest = (subst (λ l. AllZip R l []) (other_pick place owner by x xs (λ e. omega (arith, e, at))) all.0, next.rest) }
  next_answer place (suc i) owner by x xs ((y ∷ ys) ∷ lists) at within all =
      let next = next_answer (suc place) i owner by x xs lists (omega (arith, at)) (omega (arith, within)) all.1 in
      record { one = next.one; is = next.is; answers = next.answers; rest = (subst (λ l. AllZip R l (y ∷ ys)) (other_pick place owner by x xs (λ e. omega (arith, e, at))) all.0, next.rest) }

  pub dealt_answers : (by : List ℕ) (xs : List A) (lists : List (List B)) → length by ≡ length xs → AllByRecursion (λ owner. owner < length lists) by → AnswerPicked 0 by xs lists → AllZip R xs (dealt by lists)
  dealt_answers [] [] lists long within all = tt
  dealt_answers [] (x ∷ xs) lists long within all = absurd (omega (arith, long))
  dealt_answers (owner ∷ by) [] lists long within all = absurd (omega (arith, long))
  dealt_answers (owner ∷ by) (x ∷ xs) lists long within all =
      let next = next_answer 0 owner owner by x xs lists (omega arith) within.0 all in
      let again = dealt_answers by xs (rest_of lists owner) (omega (arith, long)) (subst (λ n. AllByRecursion (λ o. o < n) by) (sym (rest_long lists owner)) within.1) next.rest in
      subst (λ o. AllZip R (x ∷ xs) (option_to_list o ++ dealt by (rest_of lists owner))) (sym next.is) (next.answers, again)

-- ---- turns

pub turns_within : (count next long : ℕ) → next < count → AllByRecursion (λ owner. owner < count) (turns_of count next long)
turns_within count next zero less = tt
turns_within count next (suc long) less = (less, turns_within count (coming_of count next) long (coming_within count next less))

pub turns_long : (count next long : ℕ) → length (turns_of count next long) ≡ long
turns_long count next zero = refl
turns_long count next (suc long) = ap suc (turns_long count (coming_of count next) long)

-- the lists of those to whom a list was shared out, each of which answers its share
module _ {A B : Type 0} (R : A → B → Type 0) where
  pub shares_answer : (count place : ℕ) (xs : List A) (shares : List (Vec A Global)) (lists : List (List B)) → place + length shares ≡ count → AreShares count place xs shares →
      AllZip (λ share list. AllZip R share.items list) shares lists → AnswerPicked R place (turns_of count 0 (length xs)) xs lists
  shares_answer count place xs [] [] at are all = tt
  shares_answer count place xs [] (list ∷ lists) at are all = absurd all
  shares_answer count place xs (share ∷ shares) [] at are all = absurd all
  shares_answer count place xs (share ∷ shares) (list ∷ lists) at are all =
      let is : share.items ≡ picked place (turns_of count 0 (length xs)) xs =
      are.0 ∙ every_picked count 0 place place xs (omega (arith, at)) (omega (arith, at)) (λ le. omega arith) (λ less. absurd (omega (arith, less))) in
      (subst (λ l. AllZip R l list) is all.0, shares_answer count (suc place) xs shares lists (omega (arith, at)) are.1 all.1)

  zip_long : (xs : List (Vec A Global)) (ys : List (List B)) → AllZip (λ share list. AllZip R share.items list) xs ys → length ys ≡ length xs
  zip_long [] [] z = refl
  zip_long [] (y ∷ ys) z = absurd z
  zip_long (x ∷ xs) [] z = absurd z
  zip_long (x ∷ xs) (y ∷ ys) z = ap suc (zip_long xs ys z.1)

  -- what is dealt back in turn answers the whole
  pub shared_back : (count : ℕ) (xs : List A) (shares : List (Vec A Global)) (lists : List (List B)) → 0 < count → length shares ≡ count → AreShares count 0 xs shares →
      AllZip (λ share list. AllZip R share.items list) shares lists → AllZip R xs (dealt (turns_of count 0 (length xs)) lists)
  shared_back count xs shares lists some long are all =
      dealt_answers R (turns_of count 0 (length xs)) xs lists (turns_long count 0 (length xs))
      (subst (λ n. AllByRecursion (λ owner. owner < n) (turns_of count 0 (length xs))) (sym (zip_long shares lists all ∙ long)) (turns_within count 0 (length xs) some))
      (shares_answer count 0 xs shares lists (omega (arith, long)) are all)
