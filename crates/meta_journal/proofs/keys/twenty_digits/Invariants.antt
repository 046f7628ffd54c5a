use Rattle.std.proofs.Common.{◌≡◌, ◌≤◌, ◌-◌, ◌/◌, ◌^◌, drop, length}
use Rattle.meta_journal.specs.Places.{digits}
use Rattle.meta_journal.proofs.keys.twenty_digits.Given as goal

abbrev pub invariant-loop-at : goal.invariant-loop-at
invariant-loop-at l = record {
  long : length l.text ≡ 20;
  high : l.at ≤ 20;
  back : drop l.at l.text ≡ digits (20 - l.at) l.number;
  rest : l.rest ≡ l.number / 10 ^ (20 - l.at);
}

abbrev pub decreases-loop-at : goal.decreases-loop-at
decreases-loop-at l = l.at
