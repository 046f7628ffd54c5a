-- Who has which elements of a list.
use Rattle.std.specs.Prelude.{◌≡◌, ℕ, suc, List, [], ◌∷◌, ⊤}
use Rattle.run_plan.specs.Asked.{picked}

-- each of these lists, of which the first is the one at this place, has the elements that belong to it
abbrev pub ArePicked : {A : Type 0} → (place : ℕ) → List ℕ → List A → List (List A) → Type 0
ArePicked place by xs [] = ⊤
ArePicked place by xs (list ∷ lists) = (list ≡ picked place by xs) × ArePicked (suc place) by xs lists
