use Rattle.std.proofs.Common.{◌≡◌, ◌≢◌, ◌≤◌, ◌<◌, ◌+◌, ◌-◌, Ok}
use Rattle.byte_fields.specs.Reading.{varint_part}
use Rattle.byte_fields.proofs.take.varint_long.Given as goal

abbrev pub invariant-loop-at : goal.invariant-loop-at
invariant-loop-at l = record {
  behind : l.start ≤ l.at;
  before : l.at ≤ l.last;
  positive : l.start < l.at → l.value ≢ 0;
  read : varint_part (10 + l.start - l.at) l.bytes l.at l.start ≡ Ok (l.value, l.last + 1);
}

abbrev pub decreases-loop-at : goal.decreases-loop-at
decreases-loop-at l = l.at
