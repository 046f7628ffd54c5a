use Rattle.std.proofs.Common.{List, drop, sym, subst}
use Rattle.std.specs.List.{All}
use Rattle.agg_nested.specs.declared.request.NamedFlat.{NamedFlat}
use Rattle.doc_tallies.specs.AggColumns.{AsksColumns}
use Rattle.doc_tallies.specs.Cells.{IsFast}
use Rattle.doc_sets.proofs.Steps.{none_behind}
use Rattle.leaf_search.specs.FileRanges.{AddsParts}
use Rattle.leaf_search.specs.Needs.{fields_nested}
use Rattle.leaf_search.proofs.ColumnNames.{next_field, no_fields}
use Rattle.leaf_search.proofs.Counted.{fast_at}
use Rattle.leaf_search.proofs.column_ranges.name_fields.Goals as goal

pub loop-asked-preserved : goal.loop-asked-preserved
loop-asked-preserved c = λ documents p new part fast adds.
    let s = c.args.schema.now in
    let v = c.args.bare.now in
    let aggs = c.args.aggs.now in
    let i = c.loop-asked.asked-index in
    let x = c.asked-item.result in
    let here = fast_at s aggs i x c.loop-asked-test.true c.asked-item.is fast in
    let own = c.in_ok-name_column.ensures documents p part (subst (IsFast s) (sym c.field_of.ensures) here.0) in
    let inner = c.in_ok-name_nested.ensures documents p part (subst (λ (ns : List NamedFlat). All (IsFast s) (fields_nested ns)) (sym c.as_slice.ensures) here.1) in
    let nested = subst (λ (ns : List NamedFlat). AddsParts (AsksColumns v p (fields_nested ns)) c.name_column.new.ranges c.name_nested.new.ranges) c.as_slice.ensures inner in
    c.loop-asked.invariant documents p new part fast
    (next_field v p aggs i x c.field_of.result c.loop-asked.ranges c.name_column.new.ranges c.name_nested.new.ranges new c.loop-asked-test.true c.asked-item.is c.field_of.ensures own nested adds)

pub returns : goal.returns
returns c = λ documents p part fast.
    c.loop-asked.invariant documents p c.loop-asked.ranges part fast
    (no_fields c.args.bare.now p (drop c.loop-asked.asked-index c.args.aggs.now) c.loop-asked.ranges (none_behind c.args.aggs.now c.loop-asked.asked-index c.loop-asked-test.false))
