use Rattle.std.proofs.Common.{◌≡◌, ◌≤◌, ℕ, List, drop, map}
use Rattle.std.specs.Prelude.{Some}
use Rattle.search_api.specs.Replies.{reply_text}
use Rattle.quick_node.proofs.SaidLines.{HasSaid}
use Rattle.quick_node.specs.Runs.{with_feeds}
use Rattle.quick_node.proofs.saying.say_replies.Given as goal

abbrev pub invariant-loop-reply : goal.invariant-loop-reply
invariant-loop-reply g l = record {
  counted : g.W.Sink.fault_count l.fn.output ≤ g.W.Sink.fault_count l.output;
  written : (held : List ℕ) → g.W.Sink.content l.fn.output ≡ Some held →
      HasSaid held (g.W.Sink.content l.output) (map reply_text (drop l.reply-index l.replies)) (with_feeds (map reply_text l.replies));
}
