-- The steps of loops that change each element, or one, in its place.
use Rattle.std.proofs.Common.{◌≡◌, ℕ, ◌+◌, ◌<◌, List, ◌++◌, length, map, take, drop, get_or, set, ap, sym, ◌∙◌}
use Rattle.std.proofs.lemmas.List.Edits.{map_over_more}

pub each_more : {X : Type 0} (f : X → X) (xs ys : List X) (i : ℕ) (x new : X) → i < length xs → ys ≡ map f (take i xs) ++ drop i xs → x ≡ get_or ys i x → new ≡ f (get_or ys i x) → set ys i new ≡ map f (take (i + 1) xs) ++ drop (i + 1) xs
each_more f xs ys i x new h k read e = ap (set ys i) (e ∙ sym (ap f read)) ∙ map_over_more f xs ys i x h k read
