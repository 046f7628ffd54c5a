use Rattle.std.proofs.Common.{◌≡◌, ◌<◌, ◌≤◌, ◌∙◌, List, None, ap, get_or, length, arith}
use Rattle.std.proofs.lemmas.List.{at_drop_all}
use Rattle.agg_nested.specs.Checking.{refusal_within, first_refusal}
use Rattle.agg_nested.proofs.Refusals.{have_steps, next_refusal}
use Rattle.agg_nested.specs.declared.request.NestedAgg.{NestedAgg}
use Rattle.agg_nested.proofs.checking.check_nested.Goals as goal

pub loop-asked-preserved : goal.loop-asked-preserved
loop-asked-preserved c =
    let same = ap length c.as_slice-asked-items.ensures in
    let inside : c.loop-asked.asked-index < length c.args.request.now = omega arith in
    c.loop-asked.invariant
    ∙ next_refusal (refusal_within c.args.schema.now.fields) c.args.request.now c.loop-asked.asked-index c.asked-item.result inside
    (c.asked-item.is ∙ ap (λ (l : List NestedAgg). get_or l c.loop-asked.asked-index c.asked-item.result) c.as_slice-asked-items.ensures) c.in_ok-check_one.ensures.ok

pub returns-clause-steps : goal.returns-clause-steps
returns-clause-steps c =
    let same = ap length c.as_slice-asked-items.ensures in
    let end : length c.args.request.now ≤ c.loop-asked.asked-index = omega arith in
    let none : first_refusal c.args.schema.now.fields c.args.request.now ≡ None =
    c.loop-asked.invariant ∙ at_drop_all (first_refusal c.args.schema.now.fields) c.args.request.now c.loop-asked.asked-index end in
    have_steps c.args.schema.now.fields c.args.request.now c.requires none
