use Rattle.std.proofs.Common.{◌≤◌, ◌+◌, ◌-◌, length}
use Rattle.byte_fields.proofs.Long.{GoOn}
use Rattle.byte_fields.proofs.take.last_of.Given as goal

abbrev pub invariant-loop-last : goal.invariant-loop-last
invariant-loop-last l = record {
  behind : l.start ≤ l.last;
  few : l.last ≤ l.start + 9;
  within : l.last ≤ length l.bytes;
  go_on : GoOn l.bytes l.start l.last;
}

abbrev pub decreases-loop-last : goal.decreases-loop-last
decreases-loop-last l = length l.bytes - l.last
