use Rattle.std.proofs.Common.{arith, refl, rules}
use Rattle.std.proofs.lemmas.Int.{ints, to_z-of_z}
use Rattle.std.specs.Int.RustNames.{FitsSigned}
use Rattle.agg_metrics.proofs.Parts.{merged}
use Rattle.agg_metrics.proofs.metric_part.MetricPart.merge.Goals as goal
use mir.Syntax.{w128}

pub returns : goal.returns
returns c =
    let mine = c.requires.mine.sum in
    let yours = c.requires.yours.sum in
    let mine_least : FitsSigned w128 c.args.self.now.least = search rules in
    let mine_greatest : FitsSigned w128 c.args.self.now.greatest = search rules in
    let your_least : FitsSigned w128 c.args.other.now.least = search rules in
    let your_greatest : FitsSigned w128 c.args.other.now.greatest = search rules in
    merged c.args.self.now c.args.other.now _ refl (omega (arith, ints)) (search (arith, ints, to_z-of_z, c.min-self.ensures)) (grind (arith, to_z-of_z, c.max-self.ensures.value))
