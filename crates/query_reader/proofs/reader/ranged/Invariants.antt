use Rattle.std.proofs.Common.{◌≡◌, ◌≤◌, ◌-◌, length, List}
use Rattle.query_reader.specs.Machine.{Frame}
use Rattle.query_reader.specs.Reading.{range_rest}
use Rattle.query_reader.proofs.reader.ranged.Given as goal

abbrev pub invariant-loop-at : goal.invariant-loop-at
invariant-loop-at l = record {
  behind : l.start ≤ l.at;
  within : l.at ≤ length l.text;
  reads : (f : Frame) (fs : List Frame) → range_rest l.text l.field l.from l.fn.first l.start f fs ≡ range_rest l.text l.field l.from l.mode l.at f fs;
}

abbrev pub decreases-loop-at : goal.decreases-loop-at
decreases-loop-at l = length l.text - l.at
