use Rattle.std.proofs.Common.{◌≡◌, ◌+◌, length, arith}
use Rattle.byte_fields.proofs.Long.{too_long, too_short}
use Rattle.byte_fields.proofs.take.last_of.Goals as goal

pub returns-then-last-start-eq9-clause-err : goal.returns-then-last-start-eq9-clause-err
returns-then-last-start-eq9-clause-err c =
    let nine : c.loop-last.last ≡ c.args.start + 9 = omega arith in
    too_long c.args.bytes.now c.args.start c.loop-last.last nine c.loop-last-test.true c.loop-last.invariant.go_on c.if-bytes-last-lt128.false

pub returns-clause-err : goal.returns-clause-err
returns-clause-err c =
    let len : length c.args.bytes.now ≡ c.loop-last.last = omega arith in
    too_short c.args.bytes.now c.args.start c.loop-last.last c.loop-last.invariant.behind c.loop-last.invariant.few len c.loop-last.invariant.go_on
