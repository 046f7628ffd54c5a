use Rattle.std.proofs.Common.{◌≡◌, ◌<◌, ◌≤◌, ◌+◌, ◌-◌, length, drop, List}
use Rattle.std.specs.Prelude.{slice_range}
use Rattle.query_reader.specs.Machine.{Frame, Role, run, state, word, begun_word}
use Rattle.query_reader.proofs.scan.scan_word.Given as goal

abbrev pub invariant-loop-to : goal.invariant-loop-to
invariant-loop-to l = record {
  behind : l.from < l.to;
  within : l.to ≤ length l.text;
  reads : (role : Role) (f : Frame) (fs : List Frame) →
      run (l.from + 1) (state (begun_word role l.from l.text) f fs) (drop (l.from + 1) l.text)
      ≡ run l.to (state (word role l.from (slice_range l.text l.from l.to) l.plain l.escaped) f fs) (drop l.to l.text);
}

abbrev pub decreases-loop-to : goal.decreases-loop-to
decreases-loop-to l = length l.text - l.to
