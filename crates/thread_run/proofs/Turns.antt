-- Every so many of a list are those whose turn is the same.
use Rattle.std.proofs.Common.{◌≡◌, ◌⊎◌, ℕ, suc, ◌+◌, ◌-◌, ◌<◌, ◌≤◌, Bool, true, false, cond, eqb, List, [], ◌∷◌, length, refl, sym, ap, ◌∙◌, ◌++◌, zero, append_assoc, arith, inl, inr}
use Rattle.std.proofs.lemmas.Bool.{eqb-true, eqb-false}
use Rattle.run_plan.specs.Asked.{picked}
use Rattle.run_plan.specs.Every.{every}
use Rattle.run_plan.proofs.EverySo.{every_here, every_later}
use Rattle.thread_run.specs.Sharing.{turns_of}
use Rattle.thread_run.proofs.Picks.{other_pick, own_pick}
use Rattle.thread_run.proofs.Shares.{IsNext, next_ahead, next_behind, some_wait}

abbrev pub coming_of : ℕ → ℕ → ℕ
coming_of count next = cond (eqb (suc next) count) 0 (suc next)

coming_is : (count next : ℕ) → IsNext count next (coming_of count next)
coming_is count next = by_test (eqb (suc next) count) refl
  where
    by_test : (b : Bool) → eqb (suc next) count ≡ b → IsNext count next (cond b 0 (suc next))
    by_test true is = let last = eqb-true (suc next) count is in ((λ e. refl), (λ less. absurd (omega (arith, last, less))))
    by_test false is = ((λ e. absurd (eqb-false (suc next) count is e)), (λ less. refl))

pub coming_within : (count next : ℕ) → next < count → coming_of count next < count
coming_within count next less = by_test (eqb (suc next) count) refl
  where
    by_test : (b : Bool) → eqb (suc next) count ≡ b → cond b 0 (suc next) < count
    by_test true is = omega (arith, less)
    by_test false is = other (eqb-false (suc next) count is)
      where
        other : (suc next ≡ count → ⊥) → suc next < count
        other ne = search (arith, less)

split : (n m : ℕ) → ((n < m) ⊎ (m < n)) ⊎ (m ≡ n)
split n m = search arith

split_last : (n m : ℕ) → n < m → (suc n ≡ m) ⊎ (suc n < m)
split_last n m l = search arith

own_ahead : (count next coming : ℕ) → IsNext count next coming → next < count → coming ≤ next → count - 1 + coming ≡ next
own_ahead count next coming is less le = by_end (split_last next count less)
  where
    by_end : (suc next ≡ count) ⊎ (suc next < count) → count - 1 + coming ≡ next
    by_end (inl last) = let t = is.0 last in omega (arith, t, last)
    by_end (inr more) = let t = is.1 more in absurd (omega (arith, t, le))

own_behind : (count next coming : ℕ) → IsNext count next coming → next < count → next < coming → count - 1 + coming ≡ next + count
own_behind count next coming is less lt = by_end (split_last next count less)
  where
    by_end : (suc next ≡ count) ⊎ (suc next < count) → count - 1 + coming ≡ next + count
    by_end (inl last) = let t = is.0 last in absurd (omega (arith, t, lt))
    by_end (inr more) = let t = is.1 more in omega (arith, t, less)

pub every_picked : {A : Type 0} (count next place wait : ℕ) (xs : List A) → next < count → place < count → (next ≤ place → wait + next ≡ place) → (place < next → wait + next ≡ place + count) →
    every count wait xs ≡ picked place (turns_of count next (length xs)) xs
every_picked count next place wait [] less within ahead behind = refl
every_picked {A} count next place wait (x ∷ xs) less within ahead behind =
    by_place (λ left before after. every_picked count (coming_of count next) place left xs (coming_within count next less) within before after) (split place next)
  where
    apart : (place < next) ⊎ (next < place) → next ≡ place → ⊥
    apart (inl lt) e = omega (arith, lt, e)
    apart (inr lt) e = omega (arith, lt, e)

    by_place : ((left : ℕ) → (coming_of count next ≤ place → left + coming_of count next ≡ place) → (place < coming_of count next → left + coming_of count next ≡ place + count) →
        every count left xs ≡ picked place (turns_of count (coming_of count next) (length xs)) xs) →
        ((place < next) ⊎ (next < place)) ⊎ (next ≡ place) → every count wait (x ∷ xs) ≡ picked place (next ∷ turns_of count (coming_of count next) (length xs)) (x ∷ xs)
    by_place again (inl other) =
        let some = some_wait count next place wait less other ahead behind in
        let is = coming_is count next in
        every_later count wait x xs some ∙ (again (wait - 1) (next_ahead count next (coming_of count next) place wait is less within some ahead behind) (next_behind count next (coming_of count next) place wait is less within some ahead behind)
        ∙ sym (other_pick place next (turns_of count (coming_of count next) (length xs)) x xs (apart other)))
    by_place again (inr same) =
        let w = ahead (omega (arith, same)) in
        let is = coming_is count next in
        every_here count wait x xs (omega (arith, w, same)) ∙ (ap (λ l. x ∷ l) (again (count - 1)
        (λ le. let e = own_ahead count next (coming_of count next) is less (omega (arith, le, same)) in omega (arith, e, same)) (λ lt. let e = own_behind count next (coming_of count next) is less (omega (arith, lt, same)) in omega (arith, e, same)))
        ∙ sym (own_pick place next (turns_of count (coming_of count next) (length xs)) x xs same))

-- it was one's turn, and the next one comes
pub turn_more : (count next coming rest : ℕ) (turns new : List ℕ) → (suc next ≡ count → coming ≡ 0) → ((suc next ≡ count → ⊥) → coming ≡ suc next) → 0 < rest → new ≡ turns ++ next ∷ [] →
    new ++ turns_of count coming (rest - 1) ≡ turns ++ turns_of count next rest
turn_more count next coming zero turns new last more some is = absurd (omega (arith, some))
turn_more count next coming (suc rest) turns new last more some is =
    let left : suc rest - 1 ≡ rest = omega arith in
    ap (λ n. new ++ turns_of count coming n) left
    ∙ (ap (λ l. l ++ turns_of count coming rest) is
    ∙ (append_assoc turns (next ∷ []) (turns_of count coming rest)
    ∙ ap (λ c. turns ++ next ∷ turns_of count c rest) (by_test (eqb (suc next) count) refl)))
  where
    by_test : (b : Bool) → eqb (suc next) count ≡ b → coming ≡ cond b 0 (suc next)
    by_test true e = last (eqb-true (suc next) count e)
    by_test false e = more (eqb-false (suc next) count e)
