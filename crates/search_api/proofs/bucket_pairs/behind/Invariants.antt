use Rattle.std.proofs.Common.{◌≡◌, length}
use Rattle.search_api.specs.Replies.{behind}
use Rattle.search_api.proofs.bucket_pairs.behind.Given as goal

abbrev pub invariant-loop-rest : goal.invariant-loop-rest
invariant-loop-rest l = behind l.key l.pairs ≡ behind l.key l.rest

abbrev pub decreases-loop-rest : goal.decreases-loop-rest
decreases-loop-rest l = length l.rest
