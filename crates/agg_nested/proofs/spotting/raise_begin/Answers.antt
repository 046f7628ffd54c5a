use Rattle.std.proofs.Common.{rules}
use Rattle.std.proofs.lemmas.Int.{to_z-of_z}
use Rattle.std.specs.Int.RustNames.{FitsSigned}
use Rattle.agg_nested.specs.Buckets.{group_at}
use Rattle.agg_nested.specs.Spots.{step, same_spot}
use Rattle.agg_nested.proofs.Joining.{ok_then}
use Rattle.agg_nested.proofs.Raised.{raised_as}
use Rattle.agg_nested.proofs.Spotted.{one_step}
use Rattle.agg_nested.proofs.spotting.raise_begin.Goals as goal
use mir.Syntax.{w128}

pub raise_step-requires-clause-known : goal.raise_step-requires-clause-known
raise_step-requires-clause-known c =
    let fits : FitsSigned w128 c.in-Some.first = search rules in
    rw (to_z-of_z w128 c.in-Some.first fits) (c.requires.known (step c.in-Some.first))

pub returns-in-Some : goal.returns-in-Some
returns-in-Some c =
    let fits : FitsSigned w128 c.in-Some.first = search rules in
    rw c.in-Some.is (ok_then c.raise_step.result
    (raised_as (same_spot (step c.in-Some.first)) _ c.args.nested.now c.args.doc.now c.args.number (group_at c.args.groups.now) (group_at c.raise_step.new.groups) (one_step c.in-Some.first))
    (rw (to_z-of_z w128 c.in-Some.first fits) at c.raise_step.ensures))
