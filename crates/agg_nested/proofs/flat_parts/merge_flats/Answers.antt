use Rattle.std.proofs.Common.{arith, ◌≡◌, ◌<◌, ◌∙◌, subst, refl, length, get_or}
use Rattle.std.proofs.lemmas.List.{get_or_default}
use Rattle.agg_model.proofs.Parts.{all_zip_long}
use Rattle.agg_nested.specs.Partials.{FlatStands}
use Rattle.agg_nested.specs.declared.flat_part.FlatPart.{FlatPart}
use Rattle.agg_nested.specs.declared.request.NamedFlat.{NamedFlat}
use Rattle.agg_nested.proofs.FlatLists.{IsJoined, stands_at, all_joined}
use Rattle.agg_nested.proofs.Zipped.{zipped_more}
use Rattle.agg_nested.proofs.flat_parts.merge_flats.Goals as goal

pub index_mut-requires : goal.index_mut-requires
index_mut-requires c =
    let long : length c.args.parts.now.items ≡ length c.args.nested.now = all_zip_long (λ (n : NamedFlat) (p : FlatPart). FlatStands n.agg p c.requires.known.0) _ _ c.requires.known.2 in
    let same = c.loop-i.invariant.long in
    omega (arith, c.loop-i.parts.ok)

pub merge_flat-requires : goal.merge_flat-requires
merge_flat-requires c = record {
  known = (
    c.requires.known.0,
    c.requires.known.1,
    stands_at c.args.nested.now c.args.parts.now.items c.loop-i.parts.items c.requires.known.0 c.loop-i.i c.index-nested-i.result c.index_mut.result.now
        (omega arith) c.index-nested-i.is c.requires.known.2 (c.loop-i.invariant.rest c.loop-i.i c.index_mut.result.now (omega arith)) c.index_mut.ensures.value,
    stands_at c.args.nested.now c.args.others.now c.args.others.now c.requires.known.1 c.loop-i.i c.index-nested-i.result c.index-others-i.result
        (omega arith) c.index-nested-i.is c.requires.known.3 refl c.index-others-i.is,
    c.requires.known.4,
  );
}

pub bounds-others-i : goal.bounds-others-i
bounds-others-i c =
    let wide : length c.args.others.now ≡ length c.args.nested.now = all_zip_long (λ (n : NamedFlat) (p : FlatPart). FlatStands n.agg p c.requires.known.1) _ _ c.requires.known.3 in
    omega arith

pub loop-i-preserved : goal.loop-i-preserved
loop-i-preserved c =
    let long : length c.args.parts.now.items ≡ length c.args.nested.now = all_zip_long (λ (n : NamedFlat) (p : FlatPart). FlatStands n.agg p c.requires.known.0) _ _ c.requires.known.2 in
    let wide : length c.args.others.now ≡ length c.args.nested.now = all_zip_long (λ (n : NamedFlat) (p : FlatPart). FlatStands n.agg p c.requires.known.1) _ _ c.requires.known.3 in
    let same = c.loop-i.invariant.long in
    let inside : c.loop-i.i < length c.loop-i.parts.items = omega arith in
    let within : c.loop-i.i < length c.args.others.now = omega arith in
    zipped_more IsJoined c.args.nested.now c.args.others.now c.args.parts.now.items c.loop-i.parts.items c.loop-i.i c.index-nested-i.result c.merge_flat.new.into
    (omega arith) inside c.index-nested-i.is c.loop-i.invariant
    (λ s e. subst (λ (p : FlatPart). IsJoined c.index-nested-i.result (get_or c.args.others.now c.loop-i.i s) p c.merge_flat.new.into)
    (c.index_mut.ensures.value ∙ get_or_default c.loop-i.parts.items c.loop-i.i c.index_mut.result.now e inside)
    (subst (λ (o : FlatPart). IsJoined c.index-nested-i.result o c.index_mut.result.now c.merge_flat.new.into)
    (c.index-others-i.is ∙ get_or_default c.args.others.now c.loop-i.i c.index-others-i.result s within) c.in_ok-merge_flat.ensures))

pub returns : goal.returns
returns c =
    let end : c.loop-i.i ≡ length c.args.nested.now = omega arith in
    all_joined c.args.nested.now c.args.others.now c.args.parts.now.items c.loop-i.parts.items (rw end at c.loop-i.invariant)
