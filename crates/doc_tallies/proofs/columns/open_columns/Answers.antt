use Rattle.std.proofs.Common.{◌<◌, get_or, length, subst}
use Rattle.std.proofs.lemmas.List.{take_all, get_or_default}
use Rattle.doc_tallies.specs.AggColumns.{AreColumnsFor, AsksColumns}
use Rattle.doc_tallies.specs.Causes.{AsksColumn}
use Rattle.doc_tallies.proofs.Counted.{columns_push}
use Rattle.doc_tallies.proofs.Faults.{cause_wider}
use Rattle.doc_tallies.proofs.columns.open_columns.Goals as goal

pub loop-number-preserved : goal.loop-number-preserved
loop-number-preserved c = λ documents p part fast.
    let s = c.args.schema.now in
    let fields = c.args.fields.now in
    let i = c.loop-number.number-index in
    let lt : i < length fields = c.loop-number-test.true in
    let number = get_or fields i 0 in
    let got = c.in-Ok.ensures.only documents p part (fast i 0 lt) in
    columns_push s documents fields c.loop-number.columns.items c.push_some.new.columns.items i number c.in-Ok.column lt (get_or_default fields i 0 number lt)
    (c.loop-number.invariant documents p part fast) got c.in_ok-push_some-in-Ok.ensures

pub returns-in-Err-clause-only : goal.returns-in-Err-clause-only
returns-in-Err-clause-only c = λ documents p part fast.
    let v = c.args.view.now in
    let fields = c.args.fields.now in
    let i = c.loop-number.number-index in
    let lt : i < length fields = c.loop-number-test.true in
    let number = get_or fields i 0 in
    cause_wider (AsksColumn v p number) (AsksColumns v p fields) v.pieces c.in-Err.fault
    (λ at len asked. record { number = number; among = (i, lt, get_or_default fields i number 0 lt); column = asked })
    (c.in-Err.ensures.only documents p part (fast i 0 lt))

pub returns-clause-only : goal.returns-clause-only
returns-clause-only c = λ documents p part fast.
    subst (λ fields. AreColumnsFor c.args.schema.now documents fields c.loop-number.columns.items) (take_all c.loop-number.number-index c.args.fields.now c.loop-number-test.false) (c.loop-number.invariant documents p part fast)
