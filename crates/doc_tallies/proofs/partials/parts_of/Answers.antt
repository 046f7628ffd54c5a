use Rattle.std.proofs.Common.{◌<◌, List, length, subst}
use Rattle.std.proofs.lemmas.List.{take_all}
use Rattle.std.specs.List.{AllZip}
use Rattle.agg_nested.specs.Buckets.{PartStands, IsPartFor, ArePartsFor}
use Rattle.agg_nested.specs.declared.nested_partial.NestedPart.{NestedPart}
use Rattle.agg_nested.specs.declared.request.NestedAgg.{NestedAgg}
use Rattle.agg_nested.proofs.PartLists.{holds_push}
use Rattle.doc_tallies.specs.AggColumns.{AsksColumns, AsksFields, fields_of}
use Rattle.doc_tallies.specs.Picked.{docs_of, picked}
use Rattle.doc_tallies.proofs.Faults.{cause_wider}
use Rattle.doc_tallies.proofs.Requests.{asked_at, fast_at}
use Rattle.doc_tallies.proofs.partials.parts_of.Goals as goal

pub loop-asked-preserved : goal.loop-asked-preserved
loop-asked-preserved c =
    let lt : c.loop-asked.asked-index < length c.args.request.now = c.loop-asked-test.true in
    record {
      only = λ documents p part fast.
          let own = c.in-Ok.ensures.only documents p part (fast_at c.args.schema.now c.args.request.now c.loop-asked.asked-index c.asked-item.result lt c.asked-item.is fast) in
          rw c.in_ok-push_part-in-Ok.ensures (holds_push (λ (a : NestedAgg) (x : NestedPart). PartStands a x (docs_of (picked c.args.numbers.now documents))) c.args.request.now c.loop-asked.parts.items c.loop-asked.asked-index c.asked-item.result _ lt
          c.asked-item.is (c.loop-asked.invariant.only documents p part fast) own);
      known =
          rw c.in_ok-push_part-in-Ok.ensures (holds_push (λ (a : NestedAgg) (x : NestedPart). IsPartFor a (length c.args.numbers.now) x) c.args.request.now c.loop-asked.parts.items c.loop-asked.asked-index c.asked-item.result _ lt
          c.asked-item.is c.loop-asked.invariant.known c.in-Ok.ensures.known);
    }

pub returns-in-Err-clause-only : goal.returns-in-Err-clause-only
returns-in-Err-clause-only c = λ documents p part fast.
    let v = c.args.view.now in
    let request = c.args.request.now in
    let asked = c.asked-item.result in
    let lt : c.loop-asked.asked-index < length request = c.loop-asked-test.true in
    cause_wider (AsksColumns v p (fields_of asked)) (AsksFields v p request) v.pieces c.in-Err.fault
    (λ at len asks. record { number = asks.number; among = asked_at request c.loop-asked.asked-index asked asks.number lt c.asked-item.is asks.among; column = asks.column })
    (c.in-Err.ensures.only documents p part (fast_at c.args.schema.now request c.loop-asked.asked-index asked lt c.asked-item.is fast))

pub returns-clause-only : goal.returns-clause-only
returns-clause-only c = λ documents p part fast.
    subst (λ (xs : List NestedAgg). AllZip (λ (a : NestedAgg) (x : NestedPart). PartStands a x (docs_of (picked c.args.numbers.now documents))) xs c.loop-asked.parts.items)
    (take_all c.loop-asked.asked-index c.args.request.now c.loop-asked-test.false) (c.loop-asked.invariant.only documents p part fast)

pub returns-clause-known : goal.returns-clause-known
returns-clause-known c =
    subst (λ (xs : List NestedAgg). ArePartsFor xs (length c.args.numbers.now) c.loop-asked.parts.items) (take_all c.loop-asked.asked-index c.args.request.now c.loop-asked-test.false) c.loop-asked.invariant.known
