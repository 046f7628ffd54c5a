use Rattle.std.proofs.Common.{◌+◌, ◌<◌, take, inl, inr, arith}
use Rattle.merge_policy.proofs.Fitting.{docs_of, weight_of, docs_more, weight_more, fits_so, stops_docs, stops_weight}
use Rattle.merge_policy.proofs.walk.fitting_len.Goals as goal

pub loop-i-preserved : goal.loop-i-preserved
loop-i-preserved c =
    let i = c.loop-i.invariant in
    let docs = docs_more c.args.list.now c.loop-i.i c.loop-i.docs c.index-list-i.result c.loop-i-test.true c.index-list-i.is i.docs_are in
    let weight = weight_more c.args.list.now c.loop-i.i c.loop-i.weight c.index-list-i.result c.loop-i-test.true c.index-list-i.is i.weight_is in record {
      docs_are = omega arith;
      weight_is = omega arith;
      docs_fit = omega arith;
      weight_fits = omega arith;
    }

pub returns-then-docs-gt-MAX_DOCS-clause-fits : goal.returns-then-docs-gt-MAX_DOCS-clause-fits
returns-then-docs-gt-MAX_DOCS-clause-fits c =
    let i = c.loop-i.invariant in
    fits_so c.args.list.now c.loop-i.i (omega arith) (omega arith)

pub returns-then-docs-gt-MAX_DOCS-clause-longest : goal.returns-then-docs-gt-MAX_DOCS-clause-longest
returns-then-docs-gt-MAX_DOCS-clause-longest c n le fits =
    let i = c.loop-i.invariant in
    let docs = docs_more c.args.list.now c.loop-i.i c.loop-i.docs c.index-list-i.result c.loop-i-test.true c.index-list-i.is i.docs_are in
    let weight = weight_more c.args.list.now c.loop-i.i c.loop-i.weight c.index-list-i.result c.loop-i-test.true c.index-list-i.is i.weight_is in
    elim c.then-docs-gt-MAX_DOCS.either [
      | inl over ↦ let high : 16777216 < docs_of (take (c.loop-i.i + 1) c.args.list.now) = omega arith in stops_docs c.args.list.now c.loop-i.i high n fits
      | inr over ↦ let high : 268435456 < weight_of (take (c.loop-i.i + 1) c.args.list.now) = omega arith in stops_weight c.args.list.now c.loop-i.i high n fits
    ]
