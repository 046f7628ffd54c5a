use Rattle.std.proofs.Common.{arith}
use Rattle.meta_journal.proofs.Digits.{next_digit}
use Rattle.meta_journal.proofs.keys.number_of.Goals as goal

pub returns-in_err-digit : goal.returns-in_err-digit
returns-in_err-digit c = λ n small fits is.
    let d = next_digit c.args.text.now c.loop-byte.byte-index n c.loop-byte.number c.loop-byte-test.true is (c.loop-byte.invariant n small fits is) in
    absurd (c.in_err-digit.ensures d.low)

pub returns-in_err-checked_mul : goal.returns-in_err-checked_mul
returns-in_err-checked_mul c = λ n small fits is.
    let d = next_digit c.args.text.now c.loop-byte.byte-index n c.loop-byte.number c.loop-byte-test.true is (c.loop-byte.invariant n small fits is) in
    absurd (c.in_err-checked_mul.ensures (omega (arith, d.small)))

pub returns-in_err-number : goal.returns-in_err-number
returns-in_err-number c = λ n small fits is.
    let d = next_digit c.args.text.now c.loop-byte.byte-index n c.loop-byte.number c.loop-byte-test.true is (c.loop-byte.invariant n small fits is) in
    absurd (c.in_err-number.ensures (omega (arith, d.small, c.from.ensures, c.in_ok-checked_mul.ensures, c.in_ok-digit.ensures)))

pub loop-byte-preserved : goal.loop-byte-preserved
loop-byte-preserved c = λ n small fits is.
    let d = next_digit c.args.text.now c.loop-byte.byte-index n c.loop-byte.number c.loop-byte-test.true is (c.loop-byte.invariant n small fits is) in
    omega (arith, d.more, c.in_ok-number.ensures, c.from.ensures, c.in_ok-checked_mul.ensures, c.in_ok-digit.ensures)
