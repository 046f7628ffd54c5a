use Rattle.std.proofs.Common.{◌≡◌, ◌≤◌, ◌^◌, drop}
use Rattle.split_states.specs.Rows.{rising_from}
use Rattle.split_states.proofs.numbers.rise.Given as goal

abbrev pub invariant-loop-number : goal.invariant-loop-number
invariant-loop-number l = record {
  left : rising_from l.least (drop l.number-index l.numbers) ≡ rising_from 0 l.numbers;
  fits : l.least ≤ 2 ^ 64;
}
