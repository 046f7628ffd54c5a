use Rattle.std.proofs.Common.{◌≡◌, ◌++◌, drop, map}
use Rattle.search_api.specs.Replies.{with_commas, line_of, before}
use Rattle.search_api.proofs.bucket_pairs.push_before.Given as goal

abbrev pub invariant-loop-pair : goal.invariant-loop-pair
invariant-loop-pair l = l.out ++ with_commas l.first (map line_of (before l.key (drop l.pair-index l.pairs)))
    ≡ l.initial.out ++ with_commas l.begins (map line_of (before l.key l.pairs))
