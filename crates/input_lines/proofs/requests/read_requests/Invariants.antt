use Rattle.std.proofs.Common.{◌≡◌, ◌≤◌, ◌-◌, ℕ, List}
use Rattle.std.specs.Prelude.{Some}
use Rattle.input_lines.specs.Asking.{IsGoing}
use Rattle.input_lines.specs.Held.{held as in_hand}
use Rattle.input_lines.proofs.requests.read_requests.Given as goal

abbrev pub invariant-lines : goal.invariant-lines
invariant-lines g l = record {
  going : (text : List ℕ) → g.R.Source.left l.fn.input ≡ Some text →
      IsGoing text (g.R.Source.left l.input) (in_hand l.lines) l.lines.taken l.taken.requests.items l.taken.clients.keys;
  read : g.R.Source.fault_count l.fn.input ≤ g.R.Source.fault_count l.input;
}

abbrev pub decreases-lines : goal.decreases-lines
decreases-lines g l = 1073741824 - l.lines.taken
