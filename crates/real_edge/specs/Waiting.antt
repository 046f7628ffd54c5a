-- Names that wait.
use Rattle.std.specs.Prelude.{◌≡◌, ℕ, Bool, false, List, Contains}
use Rattle.std.specs.Ordering.{nat_cmp, is_lt}
use Rattle.std.specs.Cmp.Lexicographic.{slice_cmp}
use Rattle.real_edge.specs.declared.waiting.Wait.{Wait}

-- a name is not behind any that waits
abbrev pub IsFirst : List ℕ → List Wait → Type 0
IsFirst key waiting = (w : Wait) → Contains waiting w → is_lt (slice_cmp nat_cmp w.key key) ≡ false

-- in the order of their keys, the greatest first
abbrev pub is_behind_key : Wait → Wait → Bool
is_behind_key x y = is_lt (slice_cmp nat_cmp y.key x.key)
