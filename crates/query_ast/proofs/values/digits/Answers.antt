use Rattle.std.proofs.Common.{◌∙◌, sym, refl, arith}
use Rattle.query_ast.proofs.Numbers.{grown}
use Rattle.query_ast.proofs.values.digits.Goals as goal

pub returns-then-number : goal.returns-then-number
returns-then-number c = grown c.args.text.now c.loop-byte.byte-index c.loop-byte.number _ c.loop-byte-test.true
    (sym c.is_ascii_digit.ensures.value ∙ c.if-not-is_ascii_digit.false) refl (omega arith) c.loop-byte.invariant.0
