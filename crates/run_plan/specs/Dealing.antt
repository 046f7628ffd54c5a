-- Lists that are dealt out one element after another.
use Rattle.std.specs.Prelude.{◌≡◌, ℕ, zero, suc, List, [], ◌∷◌, ◌++◌, reverse, Option, Some, None}
use Rattle.std.specs.List.{AllZip}
use Rattle.std.specs.Option.{option_to_list}
use Rattle.std.specs.declared.alloc.Global.{Global}
use Rattle.std.specs.declared.vec.Vec.{Vec}

module _ {A : Type 0} where
  -- the first element of one of these lists
  abbrev pub next_of : List (List A) → ℕ → Option A
  next_of [] owner = None
  next_of ([] ∷ lists) zero = None
  next_of ((x ∷ xs) ∷ lists) zero = Some x
  next_of (list ∷ lists) (suc owner) = next_of lists owner

  -- the lists without it
  abbrev pub rest_of : List (List A) → ℕ → List (List A)
  rest_of [] owner = []
  rest_of ([] ∷ lists) zero = [] ∷ lists
  rest_of ((x ∷ xs) ∷ lists) zero = xs ∷ lists
  rest_of (list ∷ lists) (suc owner) = list ∷ rest_of lists owner

  -- each time the next one of the list that is named, none of a list that has no more
  abbrev pub dealt : (by : List ℕ) → List (List A) → List A
  dealt [] lists = []
  dealt (owner ∷ by) lists = option_to_list (next_of lists owner) ++ dealt by (rest_of lists owner)

  -- these are the lists, each with its last element first
  abbrev pub HoldBack : List (Vec A Global) → List (List A) → Type 0
  HoldBack held rests = AllZip (λ list rest. list.items ≡ reverse rest) held rests

  -- the next one was taken of a list
  abbrev pub TakesOne : List (List A) → ℕ → Option A → List (Vec A Global) → Type 0
  TakesOne rests owner one held = (one ≡ next_of rests owner) × HoldBack held (rest_of rests owner)
