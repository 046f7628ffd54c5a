use Rattle.std.proofs.Common.{arith, ◌≡◌, ◌<◌, ◌∙◌, subst, sym, length}
use Rattle.std.proofs.lemmas.List.{get_or_default}
use Rattle.std.specs.List.{All}
use Rattle.agg_model.proofs.Parts.{all_zip_long}
use Rattle.agg_nested.specs.Buckets.{IsPartFor}
use Rattle.agg_nested.specs.Checking.{HasStep}
use Rattle.agg_nested.specs.declared.nested_partial.NestedPart.{NestedPart}
use Rattle.agg_nested.specs.declared.request.NamedFlat.{NamedFlat}
use Rattle.agg_nested.specs.declared.request.NestedAgg.{NestedAgg}
use Rattle.agg_nested.proofs.PartLists.{IsOneMore, holds_at, one_more, one_more_known}
use Rattle.agg_nested.proofs.Zipped.{zipped_more}
use Rattle.agg_nested.proofs.nested_partial.collect_parts.Goals as goal

pub index_mut-requires : goal.index_mut-requires
index_mut-requires c =
    let long : length c.args.parts.now.items ≡ length c.args.request.now = all_zip_long (λ (a : NestedAgg) (p : NestedPart). IsPartFor a c.args.documents p) _ _ c.requires.known in
    let same = c.loop-i.invariant.long in
    omega (arith, c.loop-i.parts.ok)

pub collect_part-requires-clause-step : goal.collect_part-requires-clause-step
collect_part-requires-clause-step c =
    subst (λ (a : NestedAgg). HasStep a.agg) (sym c.index-request-i.is) (c.requires.steps c.loop-i.i c.index-request-i.result (omega arith)).0

pub collect_part-requires-clause-steps : goal.collect_part-requires-clause-steps
collect_part-requires-clause-steps c =
    subst (λ (a : NestedAgg). All (λ (named : NamedFlat). HasStep named.agg) a.nested) (sym c.index-request-i.is) (c.requires.steps c.loop-i.i c.index-request-i.result (omega arith)).1

pub collect_part-requires-clause-known : goal.collect_part-requires-clause-known
collect_part-requires-clause-known c =
    holds_at (λ (a : NestedAgg) (p : NestedPart). IsPartFor a c.args.documents p) c.args.request.now c.args.parts.now.items c.loop-i.parts.items c.loop-i.i c.index-request-i.result c.index_mut.result.now
    (omega arith) c.index-request-i.is c.requires.known (c.loop-i.invariant.rest c.loop-i.i c.index_mut.result.now (omega arith)) c.index_mut.ensures.value

pub loop-i-preserved : goal.loop-i-preserved
loop-i-preserved c =
    let long : length c.args.parts.now.items ≡ length c.args.request.now = all_zip_long (λ (a : NestedAgg) (p : NestedPart). IsPartFor a c.args.documents p) _ _ c.requires.known in
    let same = c.loop-i.invariant.long in
    let inside : c.loop-i.i < length c.loop-i.parts.items = omega arith in
    zipped_more (IsOneMore c.args.doc.now c.args.documents) c.args.request.now c.args.request.now c.args.parts.now.items c.loop-i.parts.items c.loop-i.i c.index-request-i.result c.collect_part.new.part
    (omega arith) inside c.index-request-i.is c.loop-i.invariant
    (λ s e. subst (λ (p : NestedPart). IsOneMore c.args.doc.now c.args.documents c.index-request-i.result s p c.collect_part.new.part)
    (c.index_mut.ensures.value ∙ get_or_default c.loop-i.parts.items c.loop-i.i c.index_mut.result.now e inside)
    c.in_ok-collect_part.ensures)

pub returns-clause-stands : goal.returns-clause-stands
returns-clause-stands c =
    let end : c.loop-i.i ≡ length c.args.request.now = omega arith in
    one_more c.args.doc.now c.args.documents c.args.request.now c.args.parts.now.items c.loop-i.parts.items (rw end at c.loop-i.invariant)

pub returns-clause-known : goal.returns-clause-known
returns-clause-known c =
    let end : c.loop-i.i ≡ length c.args.request.now = omega arith in
    one_more_known c.args.doc.now c.args.documents c.args.request.now c.args.parts.now.items c.loop-i.parts.items (rw end at c.loop-i.invariant) c.requires.known
