use Rattle.std.proofs.Common.{◌≡◌, ◌≤◌, ◌-◌, length, List, []}
use Rattle.query_reader.specs.Machine.{Frame}
use Rattle.query_reader.specs.Reading.{set_rest}
use Rattle.query_reader.proofs.reader.set.Given as goal

abbrev pub invariant-members : goal.invariant-members
invariant-members l = record {
  behind : l.start ≤ l.at;
  within : l.at ≤ length l.text;
  reads : (f : Frame) (fs : List Frame) → set_rest l.text l.field l.from [] l.start f fs ≡ set_rest l.text l.field l.from l.members.items l.at f fs;
}

abbrev pub decreases-members : goal.decreases-members
decreases-members l = length l.text - l.at
