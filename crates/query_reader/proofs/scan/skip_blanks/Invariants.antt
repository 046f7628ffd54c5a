use Rattle.std.proofs.Common.{◌≡◌, ◌≤◌, ◌-◌, ◌||◌, ℕ, Bool, nat_lt, length, drop, List}
use Rattle.query_reader.specs.Machine.{Frame, Mode, Go, step, run, state, After}
use Rattle.query_reader.specs.declared.kind.Kind.TheVariants.{Blank}
use Rattle.query_reader.proofs.scan.skip_blanks.Given as goal

abbrev pub invariant-loop-at : goal.invariant-loop-at
invariant-loop-at l = record {
  behind : l.from ≤ l.at;
  within : l.at ≤ length l.text;
  stays : (m : Mode) (f : Frame) (fs : List Frame) → ((at c : ℕ) → step m at c Blank f fs ≡ Go (state m f fs)) → run l.from (state m f fs) (drop l.from l.text) ≡ run l.at (state m f fs) (drop l.at l.text);
  after : (free : Bool) (f : Frame) (fs : List Frame) → run l.from (state (After free) f fs) (drop l.from l.text)
      ≡ run l.at (state (After (free || nat_lt l.from l.at)) f fs) (drop l.at l.text);
}

abbrev pub decreases-loop-at : goal.decreases-loop-at
decreases-loop-at l = length l.text - l.at
