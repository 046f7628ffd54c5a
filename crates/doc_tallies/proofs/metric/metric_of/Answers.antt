use Rattle.std.proofs.Common.{◌≡◌, ℕ, ◌<◌, ◌+◌, ◌++◌, ◌∷◌, [], List, length, take, get_or, ap, sym, subst, ◌∙◌, arith, length-append}
use Rattle.std.proofs.lemmas.List.{take_all}
use Rattle.doc_value.specs.declared.doc.DocField.{DocField}
use Rattle.agg_nested.specs.Partials.{MetricStands}
use Rattle.doc_tallies.specs.Picked.{docs_of, picked}
use Rattle.doc_tallies.proofs.Metrics.{doc_with, first_in, first_with}
use Rattle.doc_tallies.proofs.PickedLists.{docs_push, picked_more}
use Rattle.doc_tallies.proofs.TimeValues.{stands}
use Rattle.doc_tallies.proofs.metric.metric_of.Goals as goal

pub add_value-requires : goal.add_value-requires
add_value-requires c =
    let known = c.loop-number.invariant.known 0 in
    let lt = c.loop-number-test.true in
    let few = c.args.numbers in
    let long = known.2 in
    (0, known.0, known.1, omega arith)

pub loop-number-preserved : goal.loop-number-preserved
loop-number-preserved c =
    let i = c.loop-number.number-index in
    let ns = c.args.numbers.now in
    let lt : i < length ns = c.loop-number-test.true in
    record {
      column = c.value_at-value.ensures.column ∙ c.loop-number.invariant.column;
      only = λ s documents number single of is below.
          let n : ℕ = get_or ns i 0 in
          let at = stands documents n (below i 0 lt) in
          let d = at.document in
          let value = (rw c.loop-number.invariant.column at c.value_at-value.ensures.only) is.is_of.texts is.is_of.entries is.is_of.holds in
          let has = first_in s documents number c.args.field.now n d c.value_at-value.result single of is (below i 0 lt) at.here value in
          let done = docs_of (picked (take i ns) documents) in
          subst (λ (ds : List (List DocField)). MetricStands number c.add_value.new.part ds) (sym (ap docs_of (picked_more ns i documents d lt at.here) ∙ docs_push (picked (take i ns) documents) d))
          (c.add_value.ensures number done d.doc (c.loop-number.invariant.only s documents number single of is below) has);
      known = λ number.
          let before = c.loop-number.invariant.known number in
          let doc = doc_with number c.args.field.now.kind c.value_at-value.result in
          let long : length (before.0 ++ doc ∷ []) ≡ length before.0 + 1 = length-append before.0 (doc ∷ []) in
          let many = before.2 in
          (before.0 ++ doc ∷ [], c.add_value.ensures number before.0 doc before.1 (first_with number c.args.field.now.kind c.value_at-value.result), omega (arith, long, many));
    }

pub returns-clause-only : goal.returns-clause-only
returns-clause-only c = λ s documents number single of is below.
    subst (λ (xs : List ℕ). MetricStands number c.loop-number.part (docs_of (picked xs documents))) (take_all c.loop-number.number-index c.args.numbers.now c.loop-number-test.false)
    (c.loop-number.invariant.only s documents number single of is below)

pub returns-clause-known : goal.returns-clause-known
returns-clause-known c = λ number.
    let known = c.loop-number.invariant.known number in
    let end : c.loop-number.number-index ≡ length c.args.numbers.now = omega (arith, c.loop-number-test.false) in
    (known.0, known.1, known.2 ∙ end)
