use Rattle.std.proofs.Common.{rules}
use Rattle.std.proofs.lemmas.Int.{to_z-of_z}
use Rattle.std.specs.Int.RustNames.{FitsSigned}
use Rattle.agg_model.specs.Listed.{slot_at}
use Rattle.agg_model.proofs.Listing.{listed_more}
use Rattle.agg_model.proofs.ranking.push_wholes.Goals as goal
use mir.Syntax.{w128}

pub loop-whole-preserved : goal.loop-whole-preserved
loop-whole-preserved c =
    let fits : FitsSigned w128 c.in-Some.whole.now = search rules in
    listed_more (slot_at c.args.kind) c.loop-whole.all.items c.push.new.self.items _ c.in-Some.whole.now c.in-Some.tally.now c.value.result c.next.new.self c.in_ok-push.ensures.items
    (rw (to_z-of_z w128 c.in-Some.whole.now fits) at c.value.ensures) (rw c.in-Some.ensures.steps at c.loop-whole.invariant)
