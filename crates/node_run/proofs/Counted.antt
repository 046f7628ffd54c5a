-- A sum of counts that stops at an end, and one more count.
use Rattle.std.proofs.Common.{◌≡◌, ℕ, ◌+◌, ◌<◌, List, [], ◌∷◌, ◌++◌, length, map, sum, take, get_or, ap, sym, ◌∙◌, arith}
use Rattle.std.specs.Prelude.{min}
use Rattle.std.proofs.lemmas.List.{map_push, take_more}
use Rattle.std.proofs.lemmas.List.Sums.{sum_by_push}
use Rattle.index_world.specs.Core.{last_count}

module _ {X : Type 0} where
  pub counts_on : (xs : List X) (count : X → ℕ) (i total new : ℕ) (x : X) → i < length xs → x ≡ get_or xs i x →
      total ≡ min (sum (map count (take i xs))) last_count → new ≡ min (total + count x) last_count → new ≡ min (sum (map count (take (i + 1) xs))) last_count
  counts_on xs count i total new x lt is t n =
      let front : take (i + 1) xs ≡ take i xs ++ x ∷ [] = take_more xs i x lt ∙ ap (λ y. take i xs ++ y ∷ []) (sym is) in
      let sums : sum (map count (take (i + 1) xs)) ≡ sum (map count (take i xs)) + count x =
      ap (λ ys. sum (map count ys)) front ∙ ap sum (map_push count (take i xs) x) ∙ sum_by_push (λ m. m) (map count (take i xs)) (count x) in
      omega (arith, sums, t, n)
