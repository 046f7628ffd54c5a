-- An item behind which none is among the first so many.
use Rattle.std.specs.Prelude.{◌≡◌, ◌-◌, ◌≤◌, ℕ, Bool, List, Some, length, not, slice_get}
use Rattle.std.specs.List.{filter}

-- so many items at least do not stand behind the one that has this place among them
pub record HasBar {X : Type 0} (before : X → X → Bool) (wanted : ℕ) (items : List X) : Type 0 where
  pub last : X
  pub here : slice_get items (wanted - 1) ≡ Some last
  pub enough : wanted ≤ length (filter (λ y. not (before last y)) items)
