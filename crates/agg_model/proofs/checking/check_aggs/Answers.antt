use Rattle.std.proofs.Common.{◌≡◌, ◌<◌, ◌≤◌, ◌∙◌, List, None, ap, get_or, length, arith}
use Rattle.std.proofs.lemmas.List.{at_drop_all}
use Rattle.agg_model.specs.Checking.{first_refusal}
use Rattle.agg_model.proofs.Intervals.{have_intervals, next_refusal}
use Rattle.agg_model.specs.declared.request.NamedAgg.{NamedAgg}
use Rattle.agg_model.proofs.checking.check_aggs.Goals as goal

pub loop-named-preserved : goal.loop-named-preserved
loop-named-preserved c =
    let same = ap length c.as_slice-named-items.ensures in
    let inside : c.loop-named.named-index < length c.args.request.now = omega arith in
    c.loop-named.invariant
    ∙ next_refusal c.args.schema.now.fields c.args.request.now c.loop-named.named-index c.named-item.result inside
    (c.named-item.is ∙ ap (λ (l : List NamedAgg). get_or l c.loop-named.named-index c.named-item.result) c.as_slice-named-items.ensures) c.in_ok-check_one.ensures.ok

pub returns-clause-intervals : goal.returns-clause-intervals
returns-clause-intervals c =
    let same = ap length c.as_slice-named-items.ensures in
    let end : length c.args.request.now ≤ c.loop-named.named-index = omega arith in
    let none : first_refusal c.args.schema.now.fields c.args.request.now ≡ None =
    c.loop-named.invariant ∙ at_drop_all (first_refusal c.args.schema.now.fields) c.args.request.now c.loop-named.named-index end in
    have_intervals c.args.schema.now.fields c.args.request.now c.requires none
