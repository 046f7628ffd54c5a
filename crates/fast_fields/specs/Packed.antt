-- Numbers of a fixed width, packed bit by bit.
use Rattle.std.specs.Prelude.{◌≡◌, ℕ, ◌+◌, ◌-◌, ◌*◌, ◌/◌, ◌%◌, ◌^◌, ◌<◌, ◌≤◌, List, [], ◌∷◌, length, slice_index, nat_lt, if◌then◌else◌}
use Rattle.std.specs.List.{AllByRecursion}

-- a bit of a number
abbrev pub bit : ℕ → ℕ → ℕ
bit n i = (n / 2 ^ i) % 2

-- a bit of the whole area: the numbers one behind the other, the low bits first, and 0 behind them
abbrev pub packed_bit : ℕ → List ℕ → ℕ → ℕ
packed_bit width numbers i = if nat_lt i (width * length numbers) then bit (slice_index numbers (i / width)) (i % width) else 0

-- the fewest bytes that have all bits, the low bits of each byte first
pub record IsPacked (width : ℕ) (numbers bytes : List ℕ) : Type 0 where
  pub size : length bytes ≡ (width * length numbers + 7) / 8
  pub bits : (i : ℕ) → i < 8 * length bytes → bit (slice_index bytes (i / 8)) (i % 8) ≡ packed_bit width numbers i

-- the number of bits of a number
pub record IsWidth (n width : ℕ) : Type 0 where
  pub within : n < 2 ^ width
  pub fewest : 0 < width → 2 ^ (width - 1) ≤ n

-- each of the numbers has at most so many bits
abbrev pub AreNarrow : ℕ → List ℕ → Type 0
AreNarrow width numbers = AllByRecursion (λ n. n < 2 ^ width) numbers

-- the number whose bytes these are, the low one first
unfoldable pub number : List ℕ → ℕ
number [] = 0
number (b ∷ bs) = b + 256 * number bs
