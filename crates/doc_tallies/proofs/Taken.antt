-- One more item of a list.
use Rattle.std.proofs.Common.{◌≡◌, ℕ, zero, suc, ◌+◌, ◌⊎◌, inl, inr, Bool, true, false, cond, List, [], ◌∷◌, ◌++◌, Contains, take, get_or, slice_get, Some, refl, ap, subst, arith}
use Rattle.std.specs.List.{All}
use Rattle.std.proofs.lemmas.List.Elements.{Contains-append_cases, Contains-get_or, Contains-push_cases}

pub take_push : {X : Type 0} (xs : List X) (j k : ℕ) (x : X) → k ≡ j + 1 → slice_get xs j ≡ Some x → take j xs ++ x ∷ [] ≡ take k xs
take_push [] j k x one got = absurd (cc)
take_push (y ∷ ys) zero zero x one got = absurd (omega arith)
take_push (y ∷ ys) zero (suc k) x one got =
    let none : k ≡ 0 = omega arith in
    let same : y ≡ x = cc in
    rw (none, same) refl
take_push (y ∷ ys) (suc j) zero x one got = absurd (omega arith)
take_push (y ∷ ys) (suc j) (suc k) x one got = ap (λ zs. y ∷ zs) (take_push ys j k x (omega arith) got)

-- numbers that are all among others, and one more of those
pub among_more : (numbers old new : List ℕ) (n : ℕ) (kept : Bool) → ((k : ℕ) → Contains old k → Contains numbers k) → Contains numbers n → new ≡ old ++ cond kept (n ∷ []) [] → (k : ℕ) → Contains new k → Contains numbers k
among_more numbers old new n kept among here e k has = go kept (subst (λ (xs : List ℕ). Contains xs k) e has)
  where
    last : Contains old k ⊎ (n ≡ k) → Contains numbers k
    last (inl before) = among k before
    last (inr same) = subst (λ (m : ℕ). Contains numbers m) same here

    none : Contains old k ⊎ Contains {X = ℕ} [] k → Contains numbers k
    none (inl before) = among k before
    none (inr empty) = absurd (let lt = empty.1 in omega arith)

    go : (t : Bool) → Contains (old ++ cond t (n ∷ []) []) k → Contains numbers k
    go true h = last (Contains-push_cases old n k h)
    go false h = none (Contains-append_cases old [] k h)

-- what holds of all numbers holds of those that are among them
pub all_among : (P : ℕ → Type 0) (numbers some : List ℕ) → All P numbers → ((k : ℕ) → Contains some k → Contains numbers k) → All P some
all_among P numbers some all among = λ k d lt.
    let has = among (get_or some k d) (Contains-get_or some k d lt) in
    subst P has.2 (all has.0 (get_or some k d) has.1)
