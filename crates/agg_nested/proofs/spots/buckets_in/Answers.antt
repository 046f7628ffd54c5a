use Rattle.std.proofs.Common.{◌∙◌, sym}
use Rattle.agg_nested.proofs.Buckets.{places_long}
use Rattle.agg_nested.proofs.spots.buckets_in.Goals as goal

pub returns-in-Ranges : goal.returns-in-Ranges
returns-in-Ranges c = rw c.in-Ranges.is (c.len-in-Ranges.ensures ∙ sym (places_long 0 c.in-Ranges.buckets))
