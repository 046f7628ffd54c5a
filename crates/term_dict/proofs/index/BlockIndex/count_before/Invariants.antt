use Rattle.std.proofs.Common.{◌≡◌, ◌≤◌, ◌+◌, ◌-◌, ℕ, true, false, Some, length}
use Rattle.std.specs.Prelude.{slice_get}
use Rattle.term_dict.specs.Bounds.{is_in_front}
use Rattle.term_dict.specs.declared.index.BlockStart.{BlockStart}
use Rattle.term_dict.proofs.index.BlockIndex.count_before.Given as goal

abbrev pub invariant-loop-low : goal.invariant-loop-low
invariant-loop-low l = (l.low ≤ l.high) × (l.high ≤ length l.self)
    × ((block : BlockStart) (number : ℕ) → number + 1 ≡ l.low → slice_get l.self number ≡ Some block → is_in_front l.edge block.first ≡ true)
    × ((block : BlockStart) → slice_get l.self l.high ≡ Some block → is_in_front l.edge block.first ≡ false)

abbrev pub decreases-loop-low : goal.decreases-loop-low
decreases-loop-low l = l.high - l.low
