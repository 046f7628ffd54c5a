use Rattle.std.proofs.Common.{drop, sym, subst}
use Rattle.doc_tallies.specs.Cells.{IsFast}
use Rattle.doc_sets.proofs.Steps.{none_behind}
use Rattle.leaf_search.proofs.ColumnNames.{next_nested, no_nested}
use Rattle.leaf_search.proofs.Counted.{nested_at}
use Rattle.leaf_search.proofs.column_ranges.name_nested.Goals as goal

pub loop-named-preserved : goal.loop-named-preserved
loop-named-preserved c = λ documents p new part fast adds.
    let s = c.args.schema.now in
    let nested = c.args.nested.now in
    let i = c.loop-named.named-index in
    let x = c.named-item.result in
    let here = nested_at s nested i x c.loop-named-test.true c.named-item.is fast in
    c.loop-named.invariant documents p new part fast
    (next_nested c.args.bare.now p nested i x c.field_of.result c.loop-named.ranges c.name_column.new.ranges new c.loop-named-test.true c.named-item.is c.field_of.ensures
    (c.in_ok-name_column.ensures documents p part (subst (IsFast s) (sym c.field_of.ensures) here)) adds)

pub returns : goal.returns
returns c = λ documents p part fast.
    c.loop-named.invariant documents p c.loop-named.ranges part fast
    (no_nested c.args.bare.now p (drop c.loop-named.named-index c.args.nested.now) c.loop-named.ranges (none_behind c.args.nested.now c.loop-named.named-index c.loop-named-test.false))
