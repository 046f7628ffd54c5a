use Rattle.std.proofs.Common.{arith, ◌≡◌}
use Rattle.agg_nested.specs.Answers.{all_buckets, told}
use Rattle.agg_nested.proofs.Answered.{many_answered, few_answered}
use Rattle.agg_nested.proofs.nested_finishing.finish_nested.Goals as goal

pub returns-then-count-gt-MOST_BUCKETS : goal.returns-then-count-gt-MOST_BUCKETS
returns-then-count-gt-MOST_BUCKETS c = λ documents h m.
    let counted = rw c.as_slice.ensures at c.in-Ok.ensures in
    many_answered c.args.request.now documents c.in-Ok.count (counted documents h.parts) c.if-count-gt-MOST_BUCKETS.true

pub returns-in-Ok-part_answers : goal.returns-in-Ok-part_answers
returns-in-Ok-part_answers c = λ documents h m.
    let counted = rw c.as_slice.ensures at c.in-Ok.ensures in
    let is : c.in-Ok.count ≡ told (all_buckets c.args.request.now documents) = counted documents h.parts in
    let answered = rw c.as_slice-2.ensures at c.in-Ok-part_answers.ensures in
    few_answered c.args.request.now documents c.in-Ok-part_answers.answers (omega (arith, is, c.if-count-gt-MOST_BUCKETS.false)) (answered documents h.parts (omega (arith, is, c.if-count-gt-MOST_BUCKETS.false)))
