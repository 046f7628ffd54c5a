use Rattle.std.proofs.Common.{◌≡◌, true, get_or, refl, arith}
use Rattle.search_api.specs.Intervals.{is_digit}
use Rattle.search_api.proofs.Digits.{too_large}
use Rattle.search_api.proofs.intervals.leading_number.Goals as goal

pub returns-then-number : goal.returns-then-number
returns-then-number c =
    let digit : is_digit (get_or c.args.text.now c.loop-byte.byte-index 0) ≡ true = cc in
    let large = too_large c.loop-byte.number c.loop-byte.byte-index _ c.args.text.now (omega arith) digit c.if-number.true c.loop-byte.invariant.0 in
    rw large refl
