use Rattle.std.proofs.Common.{◌≡◌, ◌≤◌, ◌-◌, ℕ, List, [], length}
use Rattle.std.specs.Prelude.{Some}
use Rattle.node_run.specs.Node.{Node}
use Rattle.node_run.specs.Standing.{NodeStands}
use Rattle.input_lines.specs.Held.{held as in_hand}
use Rattle.quick_node.specs.Running.{IsGoing}
use Rattle.quick_node.proofs.running.run_lines.Given as goal

abbrev pub invariant-lines : goal.invariant-lines
invariant-lines g l = record {
  going : (firsts : List g.row.L.Denot) (begun : Node) (text held : List ℕ) → NodeStands g.L.SourceLog.told g.L.SourceLog.fault_count g.L.SourceLog.since firsts l.fn.node begun →
      begun.core.clock ≡ 0 → begun.clients ≡ [] → g.R.Source.left l.fn.input ≡ Some text → g.W.Sink.content l.fn.output ≡ Some held →
      IsGoing (λ n. NodeStands g.L.SourceLog.told g.L.SourceLog.fault_count g.L.SourceLog.since firsts l.node n) (length begun.indexers) text begun held
      (g.W.Sink.content l.output) (g.R.Source.left l.input) (in_hand l.lines) l.lines.taken l.number;
  read : g.R.Source.fault_count l.fn.input ≤ g.R.Source.fault_count l.input;
  written : g.W.Sink.fault_count l.fn.output ≤ g.W.Sink.fault_count l.output;
}

abbrev pub decreases-lines : goal.decreases-lines
decreases-lines g l = 1073741824 - l.lines.taken
