-- Lists that are dealt out: one element more.
use Rattle.std.proofs.Common.{◌≡◌, ◌⊎◌, ℕ, zero, suc, ◌+◌, ◌<◌, ◌≤◌, Bool, true, false, cond, eqb, List, [], ◌∷◌, ◌++◌, length, get_or, map, reverse, refl, sym, ap, ◌∙◌, subst, arith, append-nil, append_assoc, inl, inr}
use Rattle.std.proofs.lemmas.Bool.{eqb-true}
use Rattle.std.proofs.lemmas.List.{nil_from_length, reverse-append, reverse-reverse, same_from_push}
use Rattle.std.specs.List.{AllByRecursion, AllZip}
use Rattle.std.specs.Option.{option_to_list}
use Rattle.std.specs.Prelude.{Option, Some, None, MatchOption, slice_set, take, if◌then◌else◌, ◌==◌}
use Rattle.std.specs.declared.alloc.Global.{Global}
use Rattle.std.specs.declared.vec.Vec.{Vec}
use Rattle.run_plan.specs.Asked.{picked}
use Rattle.run_plan.specs.Dealing.{HoldBack, TakesOne, dealt, next_of, rest_of}

module _ {A : Type 0} where
  -- ---- the last of a list that is turned round is the first of the list

  turned : (x : A) (xs : List A) → reverse (x ∷ xs) ≡ reverse xs ++ x ∷ []
  turned x xs = reverse-append (x ∷ []) xs

  nothing_left : (new : List A) (one : Option A) → [] ≡ new ++ option_to_list one → (one ≡ None) × (new ≡ [])
  nothing_left [] None e = (refl, refl)
  nothing_left [] (Some x) e = absurd (let n = ap length e in omega (arith, n))
  nothing_left (y ∷ new) one e = absurd (let n = ap length e in omega (arith, n))

  last_left : (x : A) (xs new : List A) (one : Option A) (old : List A) → old ≡ reverse (x ∷ xs) → old ≡ new ++ option_to_list one → (one ≡ None → old ≡ []) → (one ≡ Some x) × (new ≡ reverse xs)
  last_left x xs new None old is pop empty = absurd (let n = ap length (sym (empty refl) ∙ (is ∙ turned x xs)) in let m = length-snoc (reverse xs) x in omega (arith, n, m))
    where
      length-snoc : (ys : List A) (y : A) → length (ys ++ y ∷ []) ≡ length ys + 1
      length-snoc [] y = refl
      length-snoc (z ∷ ys) y = let r = length-snoc ys y in omega (arith, r)
  last_left x xs new (Some y) old is pop empty =
      let s = same_from_push new (reverse xs) y x (sym pop ∙ (is ∙ turned x xs)) in
      (ap (λ v. Some v) s.1, s.0)

  pub took : (held : List (Vec A Global)) (rests : List (List A)) (owner : ℕ) (list new : Vec A Global) (one : Option A) → HoldBack held rests → owner < length held → list ≡ get_or held owner list →
      list.items ≡ new.items ++ option_to_list one → (one ≡ None → list.items ≡ []) → TakesOne rests owner one (slice_set held owner new)
  took [] rests owner list new one h less is pop empty = absurd (omega (arith, less))
  took (l ∷ held) [] owner list new one h less is pop empty = absurd h
  took (l ∷ held) ([] ∷ rests) zero list new one h less is pop empty =
      let none : [] ≡ new.items ++ option_to_list one = sym (ap (λ (v : Vec A Global). v.items) is ∙ h.0) ∙ pop in
      let left = nothing_left new.items one none in
      (left.0, (left.1, h.1))
  took (l ∷ held) ((x ∷ xs) ∷ rests) zero list new one h less is pop empty =
      let left = last_left x xs new.items one list.items (ap (λ (v : Vec A Global). v.items) is ∙ h.0) pop empty in
      (left.0, (left.1, h.1))
  took (l ∷ held) ([] ∷ rests) (suc owner) list new one h less is pop empty = let r = took held rests owner list new one h.1 (omega (arith, less)) is pop empty in (r.0, (h.0, r.1))
  took (l ∷ held) ((x ∷ xs) ∷ rests) (suc owner) list new one h less is pop empty = let r = took held rests owner list new one h.1 (omega (arith, less)) is pop empty in (r.0, (h.0, r.1))

  -- of a list that isn't there none is taken
  pub none_there : (held : List (Vec A Global)) (rests : List (List A)) (owner : ℕ) → HoldBack held rests → length held ≤ owner → TakesOne rests owner None held
  none_there [] [] owner h le = (refl, tt)
  none_there [] (r ∷ rests) owner h le = absurd h
  none_there (l ∷ held) [] owner h le = absurd h
  none_there (l ∷ held) (r ∷ rests) zero h le = absurd (omega (arith, le))
  none_there (l ∷ held) ([] ∷ rests) (suc owner) h le = let r = none_there held rests owner h.1 (omega (arith, le)) in (r.0, (h.0, r.1))
  none_there (l ∷ held) ((x ∷ xs) ∷ rests) (suc owner) h le = let r = none_there held rests owner h.1 (omega (arith, le)) in (r.0, (h.0, r.1))

  -- ---- lists that are turned round one after another

  -- so many first ones were turned round
  abbrev pub TurnedUpTo : ℕ → List (Vec A Global) → List (Vec A Global) → Type 0
  TurnedUpTo count [] [] = Unit {0}
  TurnedUpTo count [] (new ∷ news) = ⊥
  TurnedUpTo count (old ∷ olds) [] = ⊥
  TurnedUpTo zero (old ∷ olds) (new ∷ news) = (new ≡ old) × TurnedUpTo zero olds news
  TurnedUpTo (suc count) (old ∷ olds) (new ∷ news) = (new.items ≡ reverse old.items) × TurnedUpTo count olds news

  pub none_turned : (lists : List (Vec A Global)) → TurnedUpTo zero lists lists
  none_turned [] = tt
  none_turned (l ∷ lists) = (refl, none_turned lists)

  pub one_turned : (count : ℕ) (olds news : List (Vec A Global)) (list new : Vec A Global) → TurnedUpTo count olds news → count < length news → list ≡ get_or news count list → new.items ≡ reverse list.items →
      TurnedUpTo (suc count) olds (slice_set news count new)
  one_turned count [] [] list new t less is turn = absurd (omega (arith, less))
  one_turned count [] (n ∷ news) list new t less is turn = absurd t
  one_turned count (o ∷ olds) [] list new t less is turn = absurd t
  one_turned zero (o ∷ olds) (n ∷ news) list new t less is turn = (turn ∙ ap (λ (v : Vec A Global). reverse v.items) (is ∙ t.0), t.1)
  one_turned (suc count) (o ∷ olds) (n ∷ news) list new t less is turn = (t.0, one_turned count olds news list new t.1 (omega (arith, less)) is turn)

  pub all_turned : (count : ℕ) (olds news : List (Vec A Global)) → TurnedUpTo count olds news → length news ≤ count → HoldBack news (map (λ list. list.items) olds)
  all_turned count [] [] t le = tt
  all_turned count [] (n ∷ news) t le = absurd t
  all_turned count (o ∷ olds) [] t le = absurd t
  all_turned zero (o ∷ olds) (n ∷ news) t le = absurd (omega (arith, le))
  all_turned (suc count) (o ∷ olds) (n ∷ news) t le = (t.0, all_turned count olds news t.1 (omega (arith, le)))

  -- ---- dealt up to one, and further

  pub dealt_more : (owner : ℕ) (by : List ℕ) (all : List A) (rests : List (List A)) (one : Option A) → one ≡ next_of rests owner → (all ++ option_to_list one) ++ dealt by (rest_of rests owner) ≡ all ++ dealt (owner ∷ by) rests
  dealt_more owner by all rests one is = append_assoc all (option_to_list one) (dealt by (rest_of rests owner)) ∙ ap (λ o. all ++ (option_to_list o ++ dealt by (rest_of rests owner))) is

  pub turned_long : (count : ℕ) (olds news : List (Vec A Global)) → TurnedUpTo count olds news → length news ≡ length olds
  turned_long count [] [] t = refl
  turned_long count [] (n ∷ news) t = absurd t
  turned_long count (o ∷ olds) [] t = absurd t
  turned_long zero (o ∷ olds) (n ∷ news) t = ap suc (turned_long zero olds news t.1)
  turned_long (suc count) (o ∷ olds) (n ∷ news) t = ap suc (turned_long count olds news t.1)

pub none_case : {T : Type 0} (o : Option T) (P : Type 0) (Q : T → Type 0) → MatchOption o P Q → o ≡ None → P
none_case None P Q m e = m
none_case (Some x) P Q m e = absurd (cc e)

-- as much as a list of what begins with it
pub whole_front : {A : Type 0} (xs zs : List A) (n : ℕ) → length xs ≡ n → take n (xs ++ zs) ≡ xs
whole_front xs zs n e = subst (λ k. take k (xs ++ zs) ≡ xs) e (by xs)
  where
    by : (ys : List _) → take (length ys) (ys ++ zs) ≡ ys
    by [] = refl
    by (y ∷ ys) = ap (λ l. y ∷ l) (by ys)

pub is_none : {A : Type 0} (o : Option A) → ((x : A) → o ≡ Some x → ⊥) → o ≡ None
is_none None none = refl
is_none (Some x) none = absurd (none x refl)
