use Rattle.std.proofs.Common.{◌≡◌, max, fold, take}
use Rattle.split_states.specs.Rows.{row_at, ops_of}
use Rattle.split_states.proofs.rows.greatest_ops.Given as goal

abbrev pub invariant-loop-number : goal.invariant-loop-number
invariant-loop-number l = l.most ≡ fold (λ most k. max most (ops_of (row_at l.rows k))) 0 (take l.number-index l.numbers)
