use Rattle.std.proofs.Common.{arith, ◌<◌, ◌∙◌, ap, length, get_or, List, map}
use Rattle.std.proofs.lemmas.List.{take_all}
use Rattle.std.proofs.lemmas.List.Sums.{get_or-le-sum_by}
use Rattle.agg_nested.specs.Answers.{flat_answers, inner_buckets}
use Rattle.agg_nested.specs.Spots.{Spot, range, documents_at, spots_in}
use Rattle.agg_nested.proofs.Buckets.{mapped_next, parts_stand}
use Rattle.agg_nested.proofs.Raised.{few_at}
use Rattle.agg_nested.proofs.nested_finishing.inner_answers.Goals as goal

pub parts_at-parts-requires : goal.parts_at-parts-requires
parts_at-parts-requires c = let many = c.buckets_in-i-end.ensures in omega arith

pub named_answers-requires-clause-steps : goal.named_answers-requires-clause-steps
named_answers-requires-clause-steps c = rw c.as_slice.ensures c.requires.steps

pub named_answers-requires-clause-known : goal.named_answers-requires-clause-known
named_answers-requires-clause-known c =
    let few = few_at c.args.asked.now.agg c.requires.known.0 (get_or (spots_in c.args.answer.now) c.loop-i.i (range 0)) in (
      documents_at c.args.asked.now.agg c.requires.known.0 (get_or (spots_in c.args.answer.now) c.loop-i.i (range 0)),
      rw (c.as_slice.ensures, c.parts_at-parts.ensures (range 0))
          (parts_stand c.args.asked.now.agg c.args.asked.now.nested c.args.vacant.now c.args.part.now.groups c.requires.known.0 (get_or (spots_in c.args.answer.now) c.loop-i.i (range 0)) c.requires.vacant c.requires.known.1),
      omega (arith, few, c.requires.known.2),
    )

pub loop-i-preserved : goal.loop-i-preserved
loop-i-preserved c = λ documents h few.
    let within : c.loop-i.i < length (spots_in c.args.answer.now) = (let many = c.buckets_in-i-end.ensures in omega arith) in
    let one = get_or-le-sum_by (λ (spot : Spot). inner_buckets c.args.asked.now.nested (documents_at c.args.asked.now.agg documents spot)) (spots_in c.args.answer.now) c.loop-i.i (range 0) within in
    let answered = rw c.as_slice.ensures at c.in_ok-named_answers.ensures in
    mapped_next (λ (spot : Spot). flat_answers c.args.asked.now.nested (documents_at c.args.asked.now.agg documents spot)) (spots_in c.args.answer.now) c.loop-i.i (range 0) c.loop-i.inner _ _ within
    (c.loop-i.invariant documents h few)
    (answered (documents_at c.args.asked.now.agg documents (get_or (spots_in c.args.answer.now) c.loop-i.i (range 0)))
    (rw (c.parts_at-parts.ensures (range 0))
    (parts_stand c.args.asked.now.agg c.args.asked.now.nested c.args.vacant.now c.args.part.now.groups documents (get_or (spots_in c.args.answer.now) c.loop-i.i (range 0)) c.requires.vacant h))
    (omega (arith, one, few)))
    c.in_ok-push.ensures.ok

pub returns : goal.returns
returns c = λ documents h few.
    let many = c.buckets_in-i-end.ensures in
    c.loop-i.invariant documents h few
    ∙ ap (λ (spots : List Spot). map (λ (spot : Spot). flat_answers c.args.asked.now.nested (documents_at c.args.asked.now.agg documents spot)) spots)
    (take_all c.loop-i.i (spots_in c.args.answer.now) (omega arith))
