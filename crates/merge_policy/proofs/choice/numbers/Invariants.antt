use Rattle.std.proofs.Common.{◌≡◌, map, take}
use Rattle.merge_policy.specs.Walk.{rows_of}
use Rattle.merge_policy.proofs.choice.numbers.Given as goal

abbrev pub invariant-loop-candidate : goal.invariant-loop-candidate
invariant-loop-candidate l = l.numbers ≡ map (λ row. row.number) (rows_of (take l.candidate-index l.merged))
