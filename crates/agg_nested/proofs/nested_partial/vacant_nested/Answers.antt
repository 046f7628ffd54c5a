use Rattle.std.proofs.Common.{[], ◌≡◌, ◌∙◌, ◌<◌, refl, subst, length, ap, get_or, List, arith}
use Rattle.std.proofs.lemmas.List.{take_all}
use Rattle.std.specs.List.{AllZip}
use Rattle.agg_nested.specs.Buckets.{PartStands}
use Rattle.agg_nested.specs.declared.nested_partial.NestedPart.{NestedPart}
use Rattle.agg_nested.specs.declared.request.NestedAgg.{NestedAgg}
use Rattle.agg_nested.proofs.PartLists.{holds_push, known_of}
use Rattle.agg_nested.proofs.nested_partial.vacant_nested.Goals as goal

pub loop-asked-preserved : goal.loop-asked-preserved
loop-asked-preserved c =
    let same = ap length c.as_slice-asked-items.ensures in
    let inside : c.loop-asked.asked-index < length c.args.request.now = omega arith in
    rw c.in_ok-push.ensures.items (holds_push (λ (a : NestedAgg) (p : NestedPart). PartStands a p []) c.args.request.now c.loop-asked.parts.items c.loop-asked.asked-index c.asked-item.result _ inside
    (c.asked-item.is ∙ ap (λ (l : List NestedAgg). get_or l c.loop-asked.asked-index c.asked-item.result) c.as_slice-asked-items.ensures)
    c.loop-asked.invariant c.in_ok-vacant_part.ensures)

pub returns-clause-partial : goal.returns-clause-partial
returns-clause-partial c =
    let end : c.loop-asked.asked-index ≡ length c.args.request.now = (let same = ap length c.as_slice-asked-items.ensures in omega arith) in
    known_of c.args.request.now _ [] (omega arith)
    (record { many = refl; parts = subst (λ (xs : List NestedAgg). AllZip (λ (a : NestedAgg) (p : NestedPart). PartStands a p []) xs c.loop-asked.parts.items) (take_all c.loop-asked.asked-index c.args.request.now (omega arith)) c.loop-asked.invariant })
