-- The least so many of some numbers.
use Rattle.std.specs.Prelude.{◌≡◌, ℕ, ◌+◌, ◌<◌, ◌≤◌, nat_lt, nat_le, min, Bool, false, List, length, count_by, Option, None, Some}
use Rattle.std.specs.BinaryHeap.{IsHeap}
use Rattle.std.specs.Ordering.{nat_cmp}

-- how many of some numbers are below one
abbrev pub below : ℕ → List ℕ → ℕ
below n ns = count_by (λ m. nat_lt m n) ns

-- a heap of the least so many of some numbers: below each bound are as many, as far as so many are kept
pub record AreLeast (wanted : ℕ) (seen kept : List ℕ) : Type 0 where
  pub heap : IsHeap nat_cmp kept
  pub least : (n : ℕ) → below n kept ≡ min wanted (below n seen)

-- the last of the least so many, or that there are fewer
abbrev pub IsBar : ℕ → List ℕ → Option ℕ → Type 0
IsBar wanted ns None = length ns < wanted
IsBar wanted ns (Some bar) = (below bar ns < wanted) × (wanted ≤ below (bar + 1) ns)

-- a key does not stand behind a bar
abbrev pub is_near : ℕ → Option ℕ → Bool
is_near bar None = false
is_near bar (Some n) = nat_le n bar

-- how many keys stand before one that there may be; what has none stands last
abbrev pub keys_before : List ℕ → Option ℕ → ℕ
keys_before keys None = length keys
keys_before keys (Some k) = below k keys

-- fewer than so many keys stand before one
abbrev pub few_before : ℕ → List ℕ → Option ℕ → Bool
few_before wanted keys o = nat_lt (keys_before keys o) wanted
