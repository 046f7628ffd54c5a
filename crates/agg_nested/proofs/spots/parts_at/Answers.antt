use Rattle.std.proofs.Common.{◌∙◌, ap, sym}
use Rattle.agg_nested.specs.Buckets.{group_at, parts_of}
use Rattle.agg_nested.specs.Spots.{Spot}
use Rattle.agg_nested.proofs.Buckets.{place_first}
use Rattle.agg_nested.proofs.spots.parts_at.Goals as goal

pub returns-in-Ranges : goal.returns-in-Ranges
returns-in-Ranges c =
    let within = rw c.in-Ranges.is at c.requires in
    rw c.in-Ranges.is (λ other.
    c.place_parts.ensures ∙ ap (λ (s : Spot). parts_of c.args.vacant.now (group_at c.args.groups.now s)) (sym (place_first c.in-Ranges.field-0 c.args.place other within)))
