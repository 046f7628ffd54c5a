-- How a tally changes: how many documents have a key, and the number of the last of them.
use Rattle.std.specs.Prelude.{ℕ, ◌+◌, ◌^◌, ◌<◌, ◌==◌, Option, Some, None, if◌then◌else◌}
use Rattle.std.specs.Option.{IfSome, unwrap_or}
use Rattle.agg_model.specs.declared.tallies.Tally.{Tally}

-- one more document, unless it is the last that was counted
abbrev pub raised : ℕ → Option Tally → Tally
raised number None = record { count = 1; last = number }
raised number (Some t) = if t.last == number then t else record { count = t.count + 1; last = number }

-- what two parts counted
abbrev pub joined : Option Tally → Tally → Tally
joined None more = more
joined (Some t) more = record { count = t.count + more.count; last = t.last }

-- what two parts counted fits 64 bits
abbrev pub FitsWith : Tally → Option Tally → Type 0
FitsWith more o = IfSome o (λ t. t.count + more.count < 2 ^ 64)

-- what two parts counted for one key, where either may have counted nothing
abbrev pub merged : Option Tally → Option Tally → Option Tally
merged o None = o
merged o (Some more) = Some (joined o more)

-- each tally leaves room for as much again
abbrev pub HaveRoom : {Q : Type 0} → (Q → Option Tally) → Type 0
HaveRoom {Q} at = (q : Q) → IfSome (at q) (λ t. t.count < 2 ^ 62)

-- how many documents two parts counted in one step, where either may have counted none
abbrev pub step_sum : Option ℕ → Option ℕ → Option ℕ
step_sum o None = o
step_sum o (Some more) = Some (unwrap_or o 0 + more)
