use Rattle.std.proofs.Common.{◌∙◌, ap, map, arith}
use Rattle.std.specs.Prelude.{filter}
use Rattle.std.proofs.lemmas.List.{take_all}
use Rattle.split_states.specs.Due.{stamp_number, stamped_stale}
use Rattle.split_states.proofs.stamps.stale_numbers.Goals as goal

pub returns : goal.returns
returns c =
    c.loop-stamp.invariant
    ∙ ap (λ l. map stamp_number (filter (stamped_stale c.args.now c.args.grace) l)) (take_all c.loop-stamp.stamp-index c.args.stamps.now (omega arith))
