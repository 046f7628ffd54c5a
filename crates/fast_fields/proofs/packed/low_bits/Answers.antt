use Rattle.fast_fields.proofs.Numbers.{mask_is}
use Rattle.fast_fields.proofs.packed.low_bits.Goals as goal

pub returns : goal.returns
returns c = mask_is c.args.width c.requires
