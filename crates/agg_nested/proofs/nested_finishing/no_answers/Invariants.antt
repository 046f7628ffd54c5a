use Rattle.std.proofs.Common.{◌≡◌, [], replicate}
use Rattle.agg_nested.proofs.nested_finishing.no_answers.Given as goal

abbrev pub invariant-loop-bucket : goal.invariant-loop-bucket
invariant-loop-bucket l = l.inner ≡ replicate l._bucket []
