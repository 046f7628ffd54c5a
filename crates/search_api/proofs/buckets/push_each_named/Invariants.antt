use Rattle.std.proofs.Common.{◌≡◌, ◌++◌, true, drop, map}
use Rattle.search_api.specs.Replies.{with_commas, named_text}
use Rattle.search_api.proofs.buckets.push_each_named.Given as goal

abbrev pub invariant-loop-named : goal.invariant-loop-named
invariant-loop-named l = l.out ++ with_commas l.first (map named_text (drop l.named-index l.results)) ≡ l.initial.out ++ with_commas true (map named_text l.results)
