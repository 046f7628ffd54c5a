use Rattle.std.proofs.Common.{◌≡◌, ◌-◌, length, drop}
use Rattle.fast_fields.specs.Packed.{number}
use Rattle.fast_fields.proofs.packed.last_bytes.Given as goal

abbrev pub invariant-loop-step : goal.invariant-loop-step
invariant-loop-step l = l.value ≡ number (drop (length l.bytes - l.step) l.bytes)
