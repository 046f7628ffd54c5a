use Rattle.std.proofs.Common.{◌≡◌, ◌≤◌, ◌-◌, false, length, drop, List}
use Rattle.query_reader.specs.Machine.{Frame, Role, run, state, InQuote}
use Rattle.query_reader.proofs.scan.quote_end.Given as goal

abbrev pub invariant-loop-at : goal.invariant-loop-at
invariant-loop-at l = record {
  behind : l.from ≤ l.at;
  within : l.at ≤ length l.text;
  reads : (role : Role) (f : Frame) (fs : List Frame) → run l.from (state (InQuote role l.from false) f fs) (drop l.from l.text)
      ≡ run l.at (state (InQuote role l.from l.escaped) f fs) (drop l.at l.text);
}

abbrev pub decreases-loop-at : goal.decreases-loop-at
decreases-loop-at l = length l.text - l.at
