use Rattle.std.proofs.Common.{arith, ◌≡◌, ◌∙◌, subst, sym, ap, ap₂, refl, length, List, ℕ}
use Rattle.std.proofs.lemmas.List.{take_all}
use Rattle.std.proofs.lemmas.List.Sums.{get_or-le-sum_by}
use Rattle.agg_model.proofs.Parts.{all_zip_long}
use Rattle.agg_nested.specs.Answers.{flat_answer, flat_answers, flat_buckets}
use Rattle.agg_nested.specs.Checking.{HasStep}
use Rattle.agg_nested.specs.Partials.{FlatStands}
use Rattle.agg_nested.specs.declared.answer.FlatAnswer.{FlatAnswer}
use Rattle.agg_nested.specs.declared.flat_part.FlatPart.{FlatPart}
use Rattle.agg_nested.specs.declared.request.NamedFlat.{NamedFlat}
use Rattle.agg_nested.proofs.Buckets.{mapped_next}
use Rattle.agg_nested.proofs.FlatLists.{stands_at}
use Rattle.agg_nested.proofs.nested_finishing.named_answers.Goals as goal

pub bounds-parts-i : goal.bounds-parts-i
bounds-parts-i c =
    let long : length c.args.parts.now ≡ length c.args.nested.now = all_zip_long (λ (n : NamedFlat) (p : FlatPart). FlatStands n.agg p c.requires.known.0) _ _ c.requires.known.1 in
    omega arith

pub few_answer-requires-clause-step : goal.few_answer-requires-clause-step
few_answer-requires-clause-step c =
    subst (λ (n : NamedFlat). HasStep n.agg) (sym c.index-nested-i.is) (c.requires.steps c.loop-i.i c.index-nested-i.result (omega arith))

pub few_answer-requires-clause-known : goal.few_answer-requires-clause-known
few_answer-requires-clause-known c = (
  c.requires.known.0,
  stands_at c.args.nested.now c.args.parts.now c.args.parts.now c.requires.known.0 c.loop-i.i c.index-nested-i.result c.index-parts-i.result
      (omega arith) c.index-nested-i.is c.requires.known.1 refl c.index-parts-i.is,
  c.requires.known.2,
)

pub loop-i-preserved : goal.loop-i-preserved
loop-i-preserved c = λ documents h few.
    let one = get_or-le-sum_by (λ (n : NamedFlat). flat_buckets documents n.agg) c.args.nested.now c.loop-i.i c.index-nested-i.result (omega arith) in
    let own : flat_buckets documents c.index-nested-i.result.agg ≡ _ = ap (λ (n : NamedFlat). flat_buckets documents n.agg) c.index-nested-i.is in
    mapped_next (λ (n : NamedFlat). record { name = n.name; answer = flat_answer documents n.agg }) c.args.nested.now c.loop-i.i c.index-nested-i.result c.loop-i.answers _ _ (omega arith) (c.loop-i.invariant documents h few)
    (ap₂ (λ (t : List ℕ) (a : FlatAnswer). record { name = t; answer = a }) c.in_ok-copy.ensures
    (c.in_ok-answer.ensures documents
    (stands_at c.args.nested.now c.args.parts.now c.args.parts.now documents c.loop-i.i c.index-nested-i.result c.index-parts-i.result (omega arith) c.index-nested-i.is h refl c.index-parts-i.is)
    (omega (arith, one, own, few)))
    ∙ ap (λ (n : NamedFlat). record { name = n.name; answer = flat_answer documents n.agg }) c.index-nested-i.is)
    c.in_ok-push.ensures.ok

pub returns : goal.returns
returns c = λ documents h few.
    c.loop-i.invariant documents h few ∙ ap (λ (ns : List NamedFlat). flat_answers ns documents) (take_all c.loop-i.i c.args.nested.now (omega arith))
