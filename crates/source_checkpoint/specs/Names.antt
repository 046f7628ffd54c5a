-- What the name of a partition is.
use Rattle.std.specs.Prelude.{ℕ, ◌≡◌, ◌≤◌, ◌<◌, Bool, ◌&&◌, ◌||◌, ◌==◌, nat_le, List, length, All, IsTrue, ◌⊎◌, false, slice_index}

-- a letter, a digit, `-`, `_` or `.`
abbrev pub is_name_byte : ℕ → Bool
is_name_byte b = (nat_le 97 b && nat_le b 122) || (nat_le 65 b && nat_le b 90) || (nat_le 48 b && nat_le b 57) || (b == 45) || (b == 95) || (b == 46)

pub record IsPartition (name : List ℕ) : Type 0 where
  pub some : 0 < length name
  pub short : length name ≤ 64
  pub each : All (λ b. IsTrue (is_name_byte b)) name

-- The first place where a text is no name: its end where it is empty, 64 where it is longer, or the first other byte.
pub record IsBadNameAt (text : List ℕ) (at : ℕ) : Type 0 where
  pub before : (k : ℕ) → k < at → IsTrue (is_name_byte (slice_index text k))
  pub here : (length text ≡ 0) ⊎ ((at < length text) × ((at ≡ 64) ⊎ (is_name_byte (slice_index text at) ≡ false)))
  pub limit : at ≤ 64
