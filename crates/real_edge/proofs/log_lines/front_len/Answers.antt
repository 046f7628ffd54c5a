use Rattle.std.proofs.Common.{◌≤◌, length, arith, eq-eqb, get_or}
use Rattle.real_edge.proofs.Lines.{front-at}
use Rattle.real_edge.proofs.log_lines.front_len.Goals as goal

pub returns-then-bytes-place-eq10-clause-value : goal.returns-then-bytes-place-eq10-clause-value
returns-then-bytes-place-eq10-clause-value c =
    front-at c.args.bytes.now c.loop-place.place (omega arith) c.loop-place.invariant (λ lt. eq-eqb (get_or c.args.bytes.now c.loop-place.place 0) 10 c.if-bytes-place-eq10.true)

pub returns-clause-value : goal.returns-clause-value
returns-clause-value c =
    front-at c.args.bytes.now (length c.args.bytes.now) (omega arith) (λ k lt. c.loop-place.invariant k (omega arith)) (λ lt. absurd (omega arith))
