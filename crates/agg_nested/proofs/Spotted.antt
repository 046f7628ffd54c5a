-- The buckets of a document: the ranges that hold its first value, one after another.
use Rattle.std.proofs.Common.{◌≡◌, ℕ, zero, suc, ◌+◌, ◌<◌, Bool, true, false, cond, ◌||◌, ◌&&◌, ◌≤◌, Option, Some, None, List, [], ◌∷◌, ◌++◌, take, length, get_or, map, ℤ, refl, sym, ◌∙◌, ap, arith}
use Rattle.std.proofs.lemmas.List.Folds.{list_any-append}
use Rattle.std.specs.List.{list_any}
use Rattle.std.specs.Option.{option_map, option_to_list}
use Rattle.doc_value.specs.declared.doc.Value.{Value}
use Rattle.agg_model.specs.Counting.{slot_of}
use Rattle.agg_nested.specs.Spots.{Spot, value, step, range, same_spot, begin_of, holds, places}
use Rattle.agg_nested.specs.declared.request.WholeRange.{WholeRange}

-- one more range
places_push : (first i : ℕ) (ranges : List WholeRange) (r : WholeRange) (z : ℤ) → i < length ranges → r ≡ get_or ranges i r
    → places first (take (suc i) ranges) z ≡ places first (take i ranges) z ++ cond (holds r z) (range (first + i) ∷ []) []
places_push first i [] r z l is = absurd (omega (arith, l))
places_push first zero (x ∷ xs) r z l is = rw (← is) (at (holds r z))
  where
    same : first + 0 ≡ first
    same = omega arith

    at : (b : Bool) → cond b (range first ∷ []) [] ≡ cond b (range (first + 0) ∷ []) []
    at true = rw same refl
    at false = refl
places_push first (suc i) (x ∷ xs) r z l is =
    let rest = places_push (first + 1) i xs r z (omega (arith, l)) is in
    let same : first + 1 + i ≡ first + suc i = omega arith in
    at (holds x z) (rest ∙ ap (λ n. places (first + 1) (take i xs) z ++ cond (holds r z) (range n ∷ []) []) same)
  where
    at : (b : Bool) → places (first + 1) (take (suc i) xs) z ≡ places (first + 1) (take i xs) z ++ cond (holds r z) (range (first + suc i) ∷ []) []
        → cond b (range first ∷ places (first + 1) (take (suc i) xs) z) (places (first + 1) (take (suc i) xs) z)
        ≡ cond b (range first ∷ places (first + 1) (take i xs) z) (places (first + 1) (take i xs) z) ++ cond (holds r z) (range (first + suc i) ∷ []) []
    at true e = ap (λ rest. range first ∷ rest) e
    at false e = e

none_after : (b : Bool) → (b || false) ≡ b
none_after true = refl
none_after false = refl

-- one more range, which may hold the number
pub any_place : (i : ℕ) (ranges : List WholeRange) (r : WholeRange) (z : ℤ) (held : Bool) (spot : Spot) → i < length ranges → r ≡ get_or ranges i r → held ≡ holds r z
    → list_any (λ (s : Spot). same_spot s spot) (places 0 (take (i + 1) ranges) z) ≡ (list_any (λ (s : Spot). same_spot s spot) (places 0 (take i ranges) z) || (held && same_spot (range i) spot))
any_place i ranges r z held spot l is e =
    let next : suc i ≡ i + 1 = omega arith in
    let here : 0 + i ≡ i = omega arith in
    ap (λ n. list_any test (places 0 (take n ranges) z)) (sym next)
    ∙ ap (list_any test) (places_push 0 i ranges r z l is ∙ ap (λ b. before ++ cond b (range (0 + i) ∷ []) []) (sym e) ∙ ap (λ n. before ++ cond held (range n ∷ []) []) here)
    ∙ at held
  where
    test : Spot → Bool
    test = λ s. same_spot s spot

    before : List Spot
    before = places 0 (take i ranges) z

    at : (b : Bool) → list_any test (before ++ cond b (range i ∷ []) []) ≡ (list_any test before || (b && same_spot (range i) spot))
    at true = list_any-append test before (range i ∷ []) ∙ ap (λ b. list_any test before || b) (none_after (same_spot (range i) spot))
    at false = list_any-append test before []

-- values, and the spots of them
pub any_value : (values : List Value) (spot : Spot) → list_any (λ (v : Value). same_spot (value (slot_of v)) spot) values ≡ list_any (λ (s : Spot). same_spot s spot) (map (λ v. value (slot_of v)) values)
any_value [] spot = refl
any_value (v ∷ vs) spot = ap (λ b. same_spot (value (slot_of v)) spot || b) (any_value vs spot)

-- a step, if there is one
pub steps_begun : (interval offset : ℤ) (o : Option ℤ) → option_to_list (option_map (λ z. step (begin_of interval offset z)) o) ≡ option_to_list (option_map step (option_map (begin_of interval offset) o))
steps_begun interval offset None = refl
steps_begun interval offset (Some z) = refl

pub one_step : (z : ℤ) (spot : Spot) → list_any (λ (s : Spot). same_spot s spot) (step z ∷ []) ≡ same_spot (step z) spot
one_step z spot = none_after (same_spot (step z) spot)

-- all that are taken
pub taken_all : {X : Type 0} (n : ℕ) (xs : List X) → length xs ≤ n → take n xs ≡ xs
taken_all zero [] l = refl
taken_all zero (x ∷ xs) l = absurd (omega (arith, l))
taken_all (suc n) [] l = refl
taken_all (suc n) (x ∷ xs) l = ap (λ ys. x ∷ ys) (taken_all n xs (omega (arith, l)))
