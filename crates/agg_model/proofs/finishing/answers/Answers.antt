use Rattle.std.proofs.Common.{arith, refl, ◌≡◌, length}
use Rattle.agg_model.specs.Partials.{IsPart}
use Rattle.agg_model.specs.declared.counts.Counts.{Counts}
use Rattle.agg_model.specs.declared.request.NamedAgg.{NamedAgg}
use Rattle.agg_model.proofs.Parts.{all_zip_long, part_at}
use Rattle.agg_model.proofs.Totals.{one_of_total, answered_more, all_answered}
use Rattle.agg_model.proofs.finishing.answers.Goals as goal

pub index-requires : goal.index-requires
index-requires c =
    let long : length c.args.parts.now.items ≡ length c.args.request.now = all_zip_long (λ (n : NamedAgg) (p : Counts). IsPart c.requires.parts.0 n.agg p) _ _ c.requires.parts.1 in
    omega (arith, c.args.parts.now.ok)

pub answer-requires-clause-part : goal.answer-requires-clause-part
answer-requires-clause-part c = (
  c.requires.parts.0,
  part_at c.requires.parts.0 c.args.request.now c.args.parts.now.items c.args.parts.now.items c.loop-i.i c.index-request-i.result c.index.result.now (omega arith) c.index-request-i.is c.requires.parts.1 refl c.index.ensures,
)

pub answer-requires-clause-few : goal.answer-requires-clause-few
answer-requires-clause-few c = λ _.
    let long : length c.args.parts.now.items ≡ length c.args.request.now = all_zip_long (λ (n : NamedAgg) (p : Counts). IsPart c.requires.parts.0 n.agg p) _ _ c.requires.parts.1 in
    let one = one_of_total c.args.request.now c.args.parts.now.items c.loop-i.i c.index-request-i.result c.index.result.now (omega arith) long in
    let own = rw (← c.index-request-i.is, ← c.index.ensures) at one in
    let few = c.requires.few in
    omega arith

pub loop-i-preserved : goal.loop-i-preserved
loop-i-preserved c =
    let long : length c.args.parts.now.items ≡ length c.args.request.now = all_zip_long (λ (n : NamedAgg) (p : Counts). IsPart c.requires.parts.0 n.agg p) _ _ c.requires.parts.1 in
    answered_more c.args.request.now c.args.parts.now.items c.loop-i.results c.push.new.self c.loop-i.i c.index-request-i.result c.index.result.now
    (record { name = c.in_ok-copy.field-0; result = c.in_ok-result.result }) (omega arith) long c.index-request-i.is c.index.ensures c.loop-i.invariant c.in_ok-push.ensures.ok
    c.in_ok-copy.ensures c.in_ok-result.ensures

pub returns : goal.returns
returns c =
    let long : length c.args.parts.now.items ≡ length c.args.request.now = all_zip_long (λ (n : NamedAgg) (p : Counts). IsPart c.requires.parts.0 n.agg p) _ _ c.requires.parts.1 in
    let end : c.loop-i.i ≡ length c.args.request.now = omega arith in
    λ ds z. all_answered c.args.request.now c.args.parts.now.items c.loop-i.results ds long (rw end at c.loop-i.invariant) z
