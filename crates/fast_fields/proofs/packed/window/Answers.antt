use Rattle.std.proofs.Common.{◌+◌, ◌-◌, ◌∙◌, take, drop, refl, arith}
use Rattle.fast_fields.proofs.Numbers.{eight_there}
use Rattle.fast_fields.proofs.packed.window.Goals as goal

pub returns : goal.returns
returns c = c.from_le_bytes.ensures ∙ eight_there c.args.bytes.now (take (c.args.at + 8 - c.args.at) (drop c.args.at c.args.bytes.now)) c.args.at (omega arith) refl
