use Rattle.std.proofs.Common.{◌≡◌, ◌≤◌, ◌-◌, ℕ, length, Some}
use Rattle.std.specs.Prelude.{slice_get}
use Rattle.fast_fields.specs.Texts.{texts_in}
use Rattle.fast_fields.proofs.texts.ordinal.Given as goal

abbrev pub invariant-loop-low : goal.invariant-loop-low
invariant-loop-low l = (l.low ≤ l.high) × (l.high ≤ length l.texts) × ((n : ℕ) → slice_get (texts_in l.texts) n ≡ Some l.text → (l.low ≤ n) × (n ≤ l.high))

abbrev pub decreases-loop-low : goal.decreases-loop-low
decreases-loop-low l = l.high - l.low
