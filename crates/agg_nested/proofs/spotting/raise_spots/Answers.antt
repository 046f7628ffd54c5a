use Rattle.agg_nested.specs.Buckets.{group_at}
use Rattle.agg_nested.proofs.Joining.{ok_then}
use Rattle.agg_nested.proofs.Raised.{raised_as, any_flip}
use Rattle.agg_nested.proofs.spotting.raise_spots.Goals as goal

pub returns-in-Ranges : goal.returns-in-Ranges
returns-in-Ranges c =
    rw c.in-Ranges.is (ok_then c.raise_first.result
    (raised_as _ _ c.args.nested.now c.args.doc.now c.args.number (group_at c.args.groups.now) (group_at c.raise_first.new.groups) (any_flip _))
    (rw c.as_slice.ensures at c.raise_first.ensures))
