use Rattle.std.proofs.Common.{◌≡◌, ◌++◌, drop, map}
use Rattle.search_api.specs.Replies.{pair_of}
use Rattle.search_api.proofs.buckets.nested_pairs.Given as goal

abbrev pub invariant-loop-answers : goal.invariant-loop-answers
invariant-loop-answers l = map (map pair_of) l.nested ≡ l.all ++ map (map pair_of) (drop l.answers-index l.nested)
