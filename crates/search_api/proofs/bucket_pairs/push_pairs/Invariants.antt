use Rattle.std.proofs.Common.{◌≡◌, ◌++◌, false, drop, map}
use Rattle.search_api.specs.Replies.{with_commas, line_of}
use Rattle.search_api.proofs.bucket_pairs.push_pairs.Given as goal

abbrev pub invariant-loop-pair : goal.invariant-loop-pair
invariant-loop-pair l = l.out ++ with_commas false (map line_of (drop l.pair-index l.pairs)) ≡ l.initial.out ++ with_commas false (map line_of l.pairs)
