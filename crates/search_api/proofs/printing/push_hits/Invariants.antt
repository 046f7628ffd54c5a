use Rattle.std.proofs.Common.{◌≡◌, ◌++◌, true, drop}
use Rattle.search_api.specs.Replies.{with_commas}
use Rattle.search_api.proofs.printing.push_hits.Given as goal

abbrev pub invariant-loop-hit : goal.invariant-loop-hit
invariant-loop-hit l = l.out ++ with_commas l.first (drop l.hit-index l.hits) ≡ l.initial.out ++ with_commas true l.hits
