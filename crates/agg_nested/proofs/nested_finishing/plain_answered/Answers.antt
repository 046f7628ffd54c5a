use Rattle.std.proofs.Common.{arith, ◌∙◌, ◌∷◌, [], ap, length}
use Rattle.agg_nested.specs.Spots.{spots_in}
use Rattle.agg_nested.specs.declared.answer.FlatAnswer.{FlatAnswer}
use Rattle.agg_nested.proofs.Answered.{many_answered, few_answered}
use Rattle.agg_nested.proofs.NothingNested.{plain_told, plain_few}
use Rattle.agg_nested.proofs.nested_finishing.plain_answered.Goals as goal

pub returns-then-count-gt-MOST_BUCKETS : goal.returns-then-count-gt-MOST_BUCKETS
returns-then-count-gt-MOST_BUCKETS c = λ documents none same had.
    let count = c.buckets_in-count.result in
    let is = c.buckets_in-count.ensures ∙ ap (λ (a : FlatAnswer). length (spots_in a)) same in
    many_answered (c.args.asked.now ∷ []) documents count (plain_told c.args.asked.now documents count none (omega arith) is) c.if-count-gt-MOST_BUCKETS.true

pub returns-in-Ok : goal.returns-in-Ok
returns-in-Ok c = λ documents none same had.
    let count = c.buckets_in-count.result in
    let is = c.buckets_in-count.ensures ∙ ap (λ (a : FlatAnswer). length (spots_in a)) same in
    few_answered (c.args.asked.now ∷ []) documents c.in-Ok.answers (plain_few c.args.asked.now documents count none (omega (arith, c.if-count-gt-MOST_BUCKETS.false)) is) (c.in-Ok.ensures documents none same)
