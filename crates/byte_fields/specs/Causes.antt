-- Why a call of the outside may fail.
use Rattle.std.specs.Prelude.{ℕ, ◌+◌, ◌-◌, ◌^◌, ◌≤◌, min}

-- the greatest count
abbrev pub last_count : ℕ
last_count = 2 ^ 64 - 1

-- the next count; the greatest stays
abbrev pub following : ℕ → ℕ
following n = min (n + 1) last_count

-- a count of faults rose, or stands at its end
abbrev pub Rose : ℕ → ℕ → Type 0
Rose before now = following before ≤ now

-- the count never falls, and a call failed only where it rose in that call, or stands at its end
pub record HasCause (before now : ℕ) (Failed : Type 0) : Type 0 where
  pub later : before ≤ now
  pub failed : Failed → Rose before now
