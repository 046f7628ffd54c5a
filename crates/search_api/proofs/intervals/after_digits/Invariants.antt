use Rattle.std.proofs.Common.{◌≡◌, length}
use Rattle.search_api.specs.Intervals.{after_digits}
use Rattle.search_api.proofs.intervals.after_digits.Given as goal

abbrev pub invariant-loop-rest : goal.invariant-loop-rest
invariant-loop-rest l = after_digits l.text ≡ after_digits l.rest

abbrev pub decreases-loop-rest : goal.decreases-loop-rest
decreases-loop-rest l = length l.rest
