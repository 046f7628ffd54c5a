use Rattle.std.proofs.Common.{arith, refl, ◌≡◌, length}
use Rattle.agg_model.specs.Partials.{IsPart}
use Rattle.agg_model.specs.declared.counts.Counts.{Counts}
use Rattle.agg_model.specs.declared.request.NamedAgg.{NamedAgg}
use Rattle.agg_model.proofs.Parts.{all_zip_long, part_at}
use Rattle.agg_model.proofs.Totals.{shown_more, have_all}
use Rattle.agg_model.proofs.finishing.shown_in_all.Goals as goal

pub index-requires : goal.index-requires
index-requires c =
    let long : length c.args.parts.now.items ≡ length c.args.request.now = all_zip_long (λ (n : NamedAgg) (p : Counts). IsPart c.requires.parts.0 n.agg p) _ _ c.requires.parts.1 in
    omega (arith, c.args.parts.now.ok)

pub shown-many-requires-clause-part : goal.shown-many-requires-clause-part
shown-many-requires-clause-part c = (
  c.requires.parts.0,
  part_at c.requires.parts.0 c.args.request.now c.args.parts.now.items c.args.parts.now.items c.loop-i.i c.index-request-i.result c.index.result.now (omega arith) c.index-request-i.is c.requires.parts.1 refl c.index.ensures,
)

pub loop-i-preserved : goal.loop-i-preserved
loop-i-preserved c =
    let long : length c.args.parts.now.items ≡ length c.args.request.now = all_zip_long (λ (n : NamedAgg) (p : Counts). IsPart c.requires.parts.0 n.agg p) _ _ c.requires.parts.1 in
    shown_more c.args.request.now c.args.parts.now.items c.loop-i.many c.loop-i.i c.shown-many.result c.index-request-i.result c.index.result.now (omega arith) long
    c.index-request-i.is c.index.ensures c.loop-i.invariant c.shown-many.ensures.many c.shown-many.ensures.few c.shown-many.ensures.has

pub returns-clause-have : goal.returns-clause-have
returns-clause-have c =
    let long : length c.args.parts.now.items ≡ length c.args.request.now = all_zip_long (λ (n : NamedAgg) (p : Counts). IsPart c.requires.parts.0 n.agg p) _ _ c.requires.parts.1 in
    λ ds z. have_all c.args.request.now c.args.parts.now.items ds long (λ k d e l. c.loop-i.invariant.has k d e (omega arith) ds) z
