use Rattle.std.proofs.Common.{sym, arith}
use Rattle.dynamic_paths.proofs.Decimals.{one_digit, two_digits, three_digits}
use Rattle.dynamic_paths.proofs.leaf.count_digits.Goals as goal

pub returns-then-number-lt10-clause-digits : goal.returns-then-number-lt10-clause-digits
returns-then-number-lt10-clause-digits c = sym (one_digit c.args.number (omega arith))

pub returns-then-number-lt100-clause-digits : goal.returns-then-number-lt100-clause-digits
returns-then-number-lt100-clause-digits c = sym (two_digits c.args.number (omega arith) (omega arith))

pub returns-else-number-lt100-clause-digits : goal.returns-else-number-lt100-clause-digits
returns-else-number-lt100-clause-digits c = sym (three_digits c.args.number (omega arith) (omega arith))
