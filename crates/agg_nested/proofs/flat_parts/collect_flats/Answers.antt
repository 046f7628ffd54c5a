use Rattle.std.proofs.Common.{arith, ◌≡◌, ◌<◌, ◌∙◌, subst, sym, length}
use Rattle.std.proofs.lemmas.List.{get_or_default}
use Rattle.agg_model.proofs.Parts.{all_zip_long}
use Rattle.agg_nested.specs.Partials.{FlatStands}
use Rattle.agg_nested.specs.Checking.{HasStep}
use Rattle.agg_nested.specs.declared.flat_part.FlatPart.{FlatPart}
use Rattle.agg_nested.specs.declared.request.NamedFlat.{NamedFlat}
use Rattle.agg_nested.proofs.FlatLists.{IsOneMore, stands_at, one_more}
use Rattle.agg_nested.proofs.Zipped.{zipped_more}
use Rattle.agg_nested.proofs.flat_parts.collect_flats.Goals as goal

pub index_mut-requires : goal.index_mut-requires
index_mut-requires c =
    let long : length c.args.parts.now.items ≡ length c.args.nested.now = all_zip_long (λ (n : NamedFlat) (p : FlatPart). FlatStands n.agg p c.requires.known.0) _ _ c.requires.known.1 in
    let same = c.loop-i.invariant.long in
    omega (arith, c.loop-i.parts.ok)

pub collect_flat-requires-clause-step : goal.collect_flat-requires-clause-step
collect_flat-requires-clause-step c =
    subst (λ (n : NamedFlat). HasStep n.agg) (sym c.index-nested-i.is) (c.requires.steps c.loop-i.i c.index-nested-i.result (omega arith))

pub collect_flat-requires-clause-known : goal.collect_flat-requires-clause-known
collect_flat-requires-clause-known c = (
  c.requires.known.0,
  stands_at c.args.nested.now c.args.parts.now.items c.loop-i.parts.items c.requires.known.0 c.loop-i.i c.index-nested-i.result c.index_mut.result.now
      (omega arith) c.index-nested-i.is c.requires.known.1 (c.loop-i.invariant.rest c.loop-i.i c.index_mut.result.now (omega arith)) c.index_mut.ensures.value,
  c.requires.known.2,
)

pub loop-i-preserved : goal.loop-i-preserved
loop-i-preserved c =
    let long : length c.args.parts.now.items ≡ length c.args.nested.now = all_zip_long (λ (n : NamedFlat) (p : FlatPart). FlatStands n.agg p c.requires.known.0) _ _ c.requires.known.1 in
    let same = c.loop-i.invariant.long in
    let inside : c.loop-i.i < length c.loop-i.parts.items = omega arith in
    zipped_more (IsOneMore c.args.doc.now) c.args.nested.now c.args.nested.now c.args.parts.now.items c.loop-i.parts.items c.loop-i.i c.index-nested-i.result c.collect_flat.new.part
    (omega arith) inside c.index-nested-i.is c.loop-i.invariant
    (λ s e. subst (λ (p : FlatPart). IsOneMore c.args.doc.now c.index-nested-i.result s p c.collect_flat.new.part)
    (c.index_mut.ensures.value ∙ get_or_default c.loop-i.parts.items c.loop-i.i c.index_mut.result.now e inside)
    c.in_ok-collect_flat.ensures)

pub returns : goal.returns
returns c =
    let end : c.loop-i.i ≡ length c.args.nested.now = omega arith in
    one_more c.args.doc.now c.args.nested.now c.args.parts.now.items c.loop-i.parts.items (rw end at c.loop-i.invariant)
