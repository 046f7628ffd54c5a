use Rattle.std.proofs.Common.{sym, rules, arith}
use Rattle.std.proofs.lemmas.Int.{to_z-of_z}
use Rattle.std.specs.Int.RustNames.{FitsSigned}
use Rattle.agg_nested.proofs.Flats.{ranges_room, ranges_more}
use Rattle.agg_nested.proofs.flat_part.collect_first.Goals as goal
use mir.Syntax.{w128}

pub collect_ranges-requires-clause-room : goal.collect_ranges-requires-clause-room
collect_ranges-requires-clause-room c =
    let few = c.requires.2 in
    ranges_room c.args.field c.args.ranges.now c.requires.0 c.args.counts.now c.requires.1 (omega arith)

pub returns-in-Some : goal.returns-in-Some
returns-in-Some c = λ docs e.
    let fits : FitsSigned w128 c.in-Some.whole = search rules in
    ranges_more c.args.field c.args.ranges.now docs c.args.doc.now c.in-Some.whole c.args.counts.now c.collect_ranges.new.counts (sym c.in-Some.ensures.value)
    (rw (to_z-of_z w128 c.in-Some.whole fits) at c.collect_ranges.ensures) e
