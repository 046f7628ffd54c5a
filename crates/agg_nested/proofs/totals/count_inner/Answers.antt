use Rattle.std.proofs.Common.{arith, ◌<◌, ◌∙◌, ap, length, get_or, List}
use Rattle.std.proofs.lemmas.List.{take_all}
use Rattle.std.specs.List.{sum_by}
use Rattle.agg_nested.specs.Answers.{inner_buckets, told}
use Rattle.agg_nested.specs.Spots.{Spot, range, documents_at, spots_in}
use Rattle.agg_nested.proofs.Buckets.{told_after, parts_stand}
use Rattle.agg_nested.proofs.Raised.{few_at}
use Rattle.agg_nested.proofs.totals.count_inner.Goals as goal

pub parts_at-parts-requires : goal.parts_at-parts-requires
parts_at-parts-requires c = let many = c.buckets_in-i-end.ensures in omega arith

pub count_flats-requires-clause-steps : goal.count_flats-requires-clause-steps
count_flats-requires-clause-steps c = rw c.as_slice.ensures c.requires.steps

pub count_flats-requires-clause-known : goal.count_flats-requires-clause-known
count_flats-requires-clause-known c =
    let few = few_at c.args.asked.now.agg c.requires.known.0 (get_or (spots_in c.args.answer.now) c.loop-i.i (range 0)) in (
      documents_at c.args.asked.now.agg c.requires.known.0 (get_or (spots_in c.args.answer.now) c.loop-i.i (range 0)),
      rw (c.as_slice.ensures, c.parts_at-parts.ensures (range 0))
          (parts_stand c.args.asked.now.agg c.args.asked.now.nested c.args.vacant.now c.args.part.now.groups c.requires.known.0 (get_or (spots_in c.args.answer.now) c.loop-i.i (range 0)) c.requires.vacant c.requires.known.1),
      omega (arith, few, c.requires.known.2),
    )

pub loop-i-preserved : goal.loop-i-preserved
loop-i-preserved c = λ documents h.
    let within : c.loop-i.i < length (spots_in c.args.answer.now) = (let many = c.buckets_in-i-end.ensures in omega arith) in
    let counted = rw c.as_slice.ensures at c.in_ok-count_flats.ensures in
    told_after (λ (spot : Spot). inner_buckets c.args.asked.now.nested (documents_at c.args.asked.now.agg documents spot)) (spots_in c.args.answer.now) c.loop-i.i (range 0) c.loop-i.many _ _ within
    (c.loop-i.invariant documents h)
    (counted (documents_at c.args.asked.now.agg documents (get_or (spots_in c.args.answer.now) c.loop-i.i (range 0)))
    (rw (c.parts_at-parts.ensures (range 0))
    (parts_stand c.args.asked.now.agg c.args.asked.now.nested c.args.vacant.now c.args.part.now.groups documents (get_or (spots_in c.args.answer.now) c.loop-i.i (range 0)) c.requires.vacant h)))
    c.saturating_add-many.ensures

pub returns : goal.returns
returns c = λ documents h.
    let many = c.buckets_in-i-end.ensures in
    c.loop-i.invariant documents h
    ∙ ap (λ (spots : List Spot). told (sum_by (λ (spot : Spot). inner_buckets c.args.asked.now.nested (documents_at c.args.asked.now.agg documents spot)) spots))
    (take_all c.loop-i.i (spots_in c.args.answer.now) (omega arith))
