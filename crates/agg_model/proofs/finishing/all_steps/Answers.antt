use Rattle.std.proofs.Common.{◌≡◌, ◌∙◌, sym, ap}
use Rattle.std.proofs.lemmas.Option.{IfSome_then}
use Rattle.std.specs.BTreeMap.{get}
use Rattle.std.specs.Ordering.{int_cmp}
use Rattle.agg_model.specs.Spans.{span, spread}
use Rattle.agg_model.proofs.Histograms.{spread_span, span_near}
use Rattle.agg_model.proofs.finishing.all_steps.Goals as goal

pub spread_of-requires : goal.spread_of-requires
spread_of-requires c = (
  c.args.scale.now.interval,
  c.args.scale.now.offset,
  c.requires.some,
  λ z. IfSome_then (get int_cmp c.args.steps.now z) (c.requires.near.1 z) (λ n h. h.place),
)

pub every_step-requires-clause-near : goal.every_step-requires-clause-near
every_step-requires-clause-near c = λ k l.
    span_near c.requires.near.0 c.args.scale.now.interval c.args.scale.now.offset c.args.steps.now.entries c.in-Some.first.now _ c.requires.ordered c.requires.near.1 c.in-Some.ensures.first k
    (rw c.spread_of.ensures.many at l)

pub returns-in-Some : goal.returns-in-Some
returns-in-Some c =
    let all : span c.in-Some.first.now c.spread_of.result ≡ spread c.args.steps.now.entries =
    ap (span c.in-Some.first.now) c.spread_of.ensures.many ∙ sym (spread_span c.args.steps.now.entries c.in-Some.first.now _ c.in-Some.ensures.first) in
    rw (← all) c.every_step.ensures
