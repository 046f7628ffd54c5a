use Rattle.std.proofs.Common.{◌∙◌, ap, length}
use Rattle.agg_nested.proofs.Flats.{zeros}
use Rattle.agg_nested.proofs.flat_part.vacant_flat.Goals as goal

pub returns-in_ok-counts-in-Ranges : goal.returns-in_ok-counts-in-Ranges
returns-in_ok-counts-in-Ranges c =
    rw c.in-Ranges.is (zeros c.in-Ranges.field c.in-Ranges.ranges c.in_ok-counts-in-Ranges.counts (c.in_ok-counts-in-Ranges.ensures.long ∙ ap length c.as_slice.ensures) c.in_ok-counts-in-Ranges.ensures.zero)
