-- A number of several bytes.
use Rattle.std.specs.Prelude.{ℕ, ◌+◌, ◌≤◌, ◌<◌, List, length, slice_index}

-- from its first place on the number's bytes have their high bit, up to the last one, which has not; there are at most ten
pub record EndsAt (bytes : List ℕ) (start last : ℕ) : Type 0 where
  pub behind : start ≤ last
  pub few : last ≤ start + 9
  pub within : last < length bytes
  pub go_on : (i : ℕ) → start ≤ i → i < last → 128 ≤ slice_index bytes i
  pub ends : slice_index bytes last < 128
