use Rattle.std.proofs.Common.{arith, refl, rules}
use Rattle.std.proofs.lemmas.Int.{ints, clamps, to_z-of_z}
use Rattle.std.specs.Int.RustNames.{FitsSigned}
use Rattle.agg_metrics.proofs.Parts.{added}
use Rattle.agg_metrics.proofs.metric_part.MetricPart.add.Goals as goal
use mir.Syntax.{w128}

pub returns : goal.returns
returns c =
    let whole = c.requires.whole in
    let room = c.requires.room.sum in
    let least : FitsSigned w128 c.args.self.now.least = search rules in
    let greatest : FitsSigned w128 c.args.self.now.greatest = search rules in
    added c.args.self.now _ c.args.value c.requires.whole refl (omega (arith, ints)) (omega (arith, ints, clamps, c.min-self.ensures.value))
    (grind (arith, to_z-of_z, c.max-self.ensures.value))
