use Rattle.std.proofs.Common.{arith, ◌≡◌, ◌≤◌, ◌∙◌, refl, sym, ap, subst, map}
use Rattle.std.specs.List.{sum_by}
use Rattle.agg_model.specs.Answers.{most_buckets}
use Rattle.agg_nested.specs.Answers.{flat_answer, flat_answers, inner_buckets}
use Rattle.agg_nested.specs.Spots.{Spot, documents_at, spots_in}
use Rattle.agg_nested.specs.declared.answer.FlatAnswer.{FlatAnswer}
use Rattle.agg_nested.proofs.nested_finishing.part_answer.Goals as goal

pub returns : goal.returns
returns c = λ documents h few.
    let asked = c.args.asked.now in
    let answer : c.in_ok-answer.answer ≡ flat_answer documents asked.agg = c.in_ok-answer.ensures documents h.flat (omega (arith, few)) in
    let some = subst (λ (a : FlatAnswer). sum_by (λ (spot : Spot). inner_buckets asked.nested (documents_at asked.agg documents spot)) (spots_in a) ≤ most_buckets) (sym answer) (omega (arith, few)) in
    let inner = c.in_ok-nested.ensures documents h some ∙ ap (λ (a : FlatAnswer). map (λ (spot : Spot). flat_answers asked.nested (documents_at asked.agg documents spot)) (spots_in a)) answer in
    rw (c.in_ok-copy.ensures, answer, inner) refl
