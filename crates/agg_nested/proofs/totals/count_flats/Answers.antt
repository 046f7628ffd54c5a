use Rattle.std.proofs.Common.{arith, ◌≡◌, ◌∙◌, subst, sym, ap, refl, length, List}
use Rattle.std.proofs.lemmas.List.{take_all}
use Rattle.std.specs.List.{sum_by}
use Rattle.agg_model.proofs.Parts.{all_zip_long}
use Rattle.agg_nested.specs.Answers.{flat_buckets, told}
use Rattle.agg_nested.specs.Checking.{HasStep}
use Rattle.agg_nested.specs.Partials.{FlatStands}
use Rattle.agg_nested.specs.declared.flat_part.FlatPart.{FlatPart}
use Rattle.agg_nested.specs.declared.request.NamedFlat.{NamedFlat}
use Rattle.agg_nested.proofs.Buckets.{told_next}
use Rattle.agg_nested.proofs.FlatLists.{stands_at}
use Rattle.agg_nested.proofs.totals.count_flats.Goals as goal

pub bounds-parts-i : goal.bounds-parts-i
bounds-parts-i c =
    let long : length c.args.parts.now ≡ length c.args.nested.now = all_zip_long (λ (n : NamedFlat) (p : FlatPart). FlatStands n.agg p c.requires.known.0) _ _ c.requires.known.1 in
    omega arith

pub count_flat-requires-clause-step : goal.count_flat-requires-clause-step
count_flat-requires-clause-step c =
    subst (λ (n : NamedFlat). HasStep n.agg) (sym c.index-nested-i.is) (c.requires.steps c.loop-i.i c.index-nested-i.result (omega arith))

pub count_flat-requires-clause-known : goal.count_flat-requires-clause-known
count_flat-requires-clause-known c = (
  c.requires.known.0,
  stands_at c.args.nested.now c.args.parts.now c.args.parts.now c.requires.known.0 c.loop-i.i c.index-nested-i.result c.index-parts-i.result
      (omega arith) c.index-nested-i.is c.requires.known.1 refl c.index-parts-i.is,
  c.requires.known.2,
)

pub loop-i-preserved : goal.loop-i-preserved
loop-i-preserved c = λ documents h.
    told_next (λ (n : NamedFlat). flat_buckets documents n.agg) c.args.nested.now c.loop-i.i c.index-nested-i.result c.loop-i.many _ _ (omega arith) (c.loop-i.invariant documents h)
    (c.in_ok-count_flat.ensures documents
    (stands_at c.args.nested.now c.args.parts.now c.args.parts.now documents c.loop-i.i c.index-nested-i.result c.index-parts-i.result (omega arith) c.index-nested-i.is h refl c.index-parts-i.is)
    ∙ ap (λ (n : NamedFlat). flat_buckets documents n.agg) c.index-nested-i.is)
    c.saturating_add-many.ensures

pub returns : goal.returns
returns c = λ documents h.
    c.loop-i.invariant documents h
    ∙ ap (λ (ns : List NamedFlat). told (sum_by (λ (n : NamedFlat). flat_buckets documents n.agg) ns)) (take_all c.loop-i.i c.args.nested.now (omega arith))
