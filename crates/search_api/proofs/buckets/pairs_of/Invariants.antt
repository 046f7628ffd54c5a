use Rattle.std.proofs.Common.{◌≡◌, ◌++◌, drop, map}
use Rattle.search_api.specs.Replies.{pair_of}
use Rattle.search_api.proofs.buckets.pairs_of.Given as goal

abbrev pub invariant-loop-named : goal.invariant-loop-named
invariant-loop-named l = map pair_of l.answers ≡ l.pairs ++ map pair_of (drop l.named-index l.answers)
