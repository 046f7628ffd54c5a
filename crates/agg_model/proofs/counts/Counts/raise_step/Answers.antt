use Rattle.std.proofs.Common.{arith}
use Rattle.std.proofs.lemmas.Int.{to_z-of_z}
use Rattle.std.proofs.lemmas.Option.{IfSome_then}
use Rattle.agg_model.specs.Partials.{in_step}
use Rattle.agg_model.proofs.counts.Counts.raise_step.Goals as goal
use mir.Syntax.{w128}

pub add_step-requires : goal.add_step-requires
add_step-requires c =
    rw (to_z-of_z w128 c.args.step c.ranges.step) (IfSome_then (in_step c.args.self.now c.args.step) c.requires (λ n few. omega (arith, few)))
