use Rattle.std.proofs.Common.{◌≡◌, ◌≤◌, ℕ, List, drop, take, flat_map}
use Rattle.std.specs.List.{AllByRecursion}
use Rattle.std.specs.Prelude.{Some, IsSome, option_to_list}
use Rattle.thread_run.specs.EndLines.{end_text}
use Rattle.quick_node.proofs.SaidLines.{HasSaid}
use Rattle.quick_node.specs.Runs.{with_feeds}
use Rattle.quick_node.proofs.saying.say_ends.Given as goal

abbrev pub invariant-loop-end : goal.invariant-loop-end
invariant-loop-end g l = record {
  counted : g.W.Sink.fault_count l.fn.output ≤ g.W.Sink.fault_count l.output;
  told : AllByRecursion (λ end. IsSome (end_text end)) (drop l.end-index l.ends) → AllByRecursion (λ end. IsSome (end_text end)) l.ends;
  written : (held : List ℕ) → g.W.Sink.content l.fn.output ≡ Some held →
      HasSaid held (g.W.Sink.content l.output) (flat_map (λ end. option_to_list (end_text end)) (drop l.end-index l.ends))
      (with_feeds (flat_map (λ end. option_to_list (end_text end)) l.ends));
}
