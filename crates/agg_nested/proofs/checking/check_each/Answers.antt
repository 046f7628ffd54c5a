use Rattle.std.proofs.Common.{◌<◌, ◌∙◌, length, arith}
use Rattle.agg_nested.specs.Checking.{refusal_of}
use Rattle.agg_nested.proofs.Refusals.{next_refusal}
use Rattle.agg_nested.proofs.checking.check_each.Goals as goal

pub loop-named-preserved : goal.loop-named-preserved
loop-named-preserved c =
    let inside : c.loop-named.named-index < length c.args.nested.now = omega arith in
    c.loop-named.invariant
    ∙ next_refusal (λ named. refusal_of c.args.schema.now.fields named.name named.agg) c.args.nested.now c.loop-named.named-index c.named-item.result inside
    c.named-item.is c.in_ok-check_flat.ensures.ok
