use Rattle.std.proofs.Common.{Option, ℤ, [], OnOk, rules, subst}
use Rattle.std.proofs.lemmas.Int.{to_z-of_z}
use Rattle.std.specs.Int.RustNames.{FitsSigned}
use Rattle.std.specs.List.{list_any}
use Rattle.std.specs.Option.{option_map_or}
use Rattle.agg_nested.specs.Buckets.{group_at}
use Rattle.agg_nested.specs.Groups.{IsRaisedAt}
use Rattle.agg_nested.specs.Spots.{Spot, places, same_spot}
use Rattle.agg_nested.proofs.spotting.raise_first.Goals as goal
use mir.Syntax.{w128}

pub returns-in-Some : goal.returns-in-Some
returns-in-Some c =
    let fits : FitsSigned w128 c.in-Some.whole = search rules in
    subst (λ (o : Option ℤ). OnOk c.raise_ranges.result (IsRaisedAt (λ (spot : Spot). list_any (λ (s : Spot). same_spot s spot) (option_map_or (places 0 c.args.ranges.now) o [])) c.args.nested.now c.args.doc.now c.args.number
    (group_at c.args.groups.now) (group_at c.raise_ranges.new.groups))) c.in-Some.ensures.value (rw (to_z-of_z w128 c.in-Some.whole fits) at c.raise_ranges.ensures)
