-- Lists of places: how far they reach, and that they rise.
use Rattle.std.proofs.Common.{◌≡◌, ℕ, zero, suc, ◌+◌, ◌-◌, ◌<◌, ◌≤◌, eqb, List, [], ◌∷◌, ◌++◌, length, slice_get, Some, refl, ⊎_elim, arith}
use mathlib.Core.Logic.{dite}
use native.Mathlib.Decide.{dec_le}
use Rattle.std.proofs.lemmas.Option.{slice_get_within}
use mathlib.Core.List.{IsPrefix}
use Rattle.turn_lock.specs.Counts.{one_if, times, below, run_of, AllBelow, Rises}
use Rattle.turn_lock.proofs.Beginnings.{prefix_whole}
use Rattle.turn_lock.proofs.Counting.{total_append, below_yes, below_no, below_is, times_run, one_or_none}

times_append : (k : ℕ) (xs ys : List ℕ) → times k (xs ++ ys) ≡ times k xs + times k ys
times_append k xs ys = total_append (λ (y : ℕ). one_if (eqb k y)) xs ys

pub in_run : (k n m : ℕ) → 0 < times k (run_of n m) → (n ≤ k) × (k < n + m)
in_run k n m h = let sum = times_run k n m in ⊎_elim
    (λ (x : (k < n) × (below k n ≡ 1)). ⊎_elim (λ (y : (k < n + m) × (below k (n + m) ≡ 1)). absurd (omega (arith, sum, x.1, y.1))) (λ (y : (n + m ≤ k) × (below k (n + m) ≡ 0)). absurd (omega (arith, sum, x.1, y.1))) (below_is k (n + m)))
    (λ (x : (n ≤ k) × (below k n ≡ 0)). ⊎_elim (λ (y : (k < n + m) × (below k (n + m) ≡ 1)). (x.0, y.0)) (λ (y : (n + m ≤ k) × (below k (n + m) ≡ 0)). absurd (omega (arith, sum, x.1, y.1))) (below_is k (n + m)))
    (below_is k n)

pub low_run : (n : ℕ) → AllBelow n (run_of 0 n)
low_run n k h = let r = in_run k 0 n h in omega (arith, r.1)

pub low_append : (l n m : ℕ) (xs ys : List ℕ) → AllBelow n xs → AllBelow m ys → n ≤ l → m ≤ l → AllBelow l (xs ++ ys)
low_append l n m xs ys a b p q k h = dite (dec_le 1 (times k xs)) (λ here. omega (arith, a k here)) (λ not. omega (arith, b k (omega (arith, times_append k xs ys))))

pub low_grown : (n m : ℕ) (xs : List ℕ) → AllBelow n xs → n ≤ m → AllBelow m (xs ++ run_of n (m - n))
low_grown n m xs a p = low_append m n m xs (run_of n (m - n)) a (λ k h. let r = in_run k n (m - n) h in omega (arith, r.1)) p (omega arith)

rises_append : (xs ys : List ℕ) → Rises xs → Rises ys → ((a b : ℕ) → 0 < times a xs → 0 < times b ys → a < b) → Rises (xs ++ ys)
rises_append [] ys p q apart = q
rises_append (x ∷ xs) ys p q apart = (
  (λ k h. dite (dec_le 1 (times k xs)) (λ here. p.0 k here) (λ not. apart x k (let one = same x in omega (arith, one)) (omega (arith, times_append k xs ys)))),
  rises_append xs ys p.1 q (λ a b u v. apart a b (omega arith) v),
)
  where
    same : (y : ℕ) → one_if (eqb y y) ≡ 1
    same y = ⊎_elim (λ (t : (y ≡ y) × (one_if (eqb y y) ≡ 1)). t.1) (λ (t : (y ≡ y → ⊥) × (one_if (eqb y y) ≡ 0)). absurd (t.0 refl)) (one_or_none y y)

pub rises_run : (n m : ℕ) → Rises (run_of n m)
rises_run n zero = tt
rises_run n (suc m) = ((λ k h. let r = in_run k (suc n) m h in omega (arith, r.0)), rises_run (suc n) m)

pub rises_grown : (n m : ℕ) (xs : List ℕ) → AllBelow n xs → Rises xs → Rises (xs ++ run_of n m)
rises_grown n m xs a p = rises_append xs (run_of n m) p (rises_run n m) (λ u v h k. let r = in_run v n m k in omega (arith, a u h, r.0))

-- where the places are those below the length of the history, the beginning that reaches them all is the whole
pub whole_seen : {E : Type 0} (xs ys : List E) (places : List ℕ) → IsPrefix xs ys → AllBelow (length xs) places → ((k : ℕ) → times k places ≡ below k (length ys)) → xs ≡ ys
whole_seen xs ys places p low all = prefix_whole xs ys p (dite (dec_le (length ys) (length xs)) (λ h. h)
    (λ not. absurd (let h : length xs < length ys = omega arith in let one = all (length xs) in omega (arith, low (length xs) (omega (arith, one, below_yes (length xs) (length ys) h))))))

-- where each event rests on its own place, a new one rests on a new place
pub rests_new : {E : Type 0} (places : List ℕ) (before : ℕ) (log : List E) (k : ℕ) (e : E) → before ≤ k → slice_get log k ≡ Some e → 0 < times k (places ++ run_of before (length log - before))
rests_new places before log k e behind g =
    let within = slice_get_within log k e g in let more = length log - before in
    let sum = times_append k places (run_of before more) in let one = times_run k before more in let none = below_no k before behind in
    let full = below_yes k (before + more) (omega (arith, within, behind)) in omega (arith, sum, one, none, full)
