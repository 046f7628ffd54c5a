use Rattle.std.proofs.Common.{◌≡◌, ◌∙◌, ◌⊎◌, List, [], sym, subst}
use Rattle.agg_nested.specs.declared.request.NestedAgg.{NestedAgg}
use Rattle.doc_tallies.specs.AggColumns.{AreOverFast, AsksFields}
use Rattle.leaf_search.specs.Answers.{AsksTimes}
use Rattle.leaf_search.specs.FileRanges.{AddsParts}
use Rattle.leaf_search.specs.Needs.{NeedsColumns, NeedsOrder}
use Rattle.leaf_search.proofs.BlockParts.{on_ok}
use Rattle.leaf_search.proofs.ColumnNames.{bare_part, columns_named}
use Rattle.leaf_search.proofs.Counted.{over_fast}
use Rattle.leaf_search.proofs.RangeLists.{both_added}
use Rattle.leaf_search.proofs.column_ranges.name_columns.Goals as goal

pub returns : goal.returns
returns c = λ documents p part ask.
    let s = c.args.schema.now in
    let r = c.args.request.now in
    let v = c.gather-bare.result in
    let w = c.args.part.now in
    let same : v.footer ≡ w.footer = c.gather-bare.ensures.footer ∙ (c.in_ok-copy.ensures ∙ c.footer.ensures) in
    let none : v.pieces ≡ [] = c.gather-bare.ensures.pieces ∙ c.vacant.ensures in
    let bare = bare_part v w s documents p part same none in
    let aggs : c.as_slice.result.now ≡ r.aggs = c.as_slice.ensures in
    let fast = over_fast s r.aggs ask.aggs in
    let old = c.args.ranges.now in
    let one = c.name_times.new.ranges in
    let two = c.name_fields.new.ranges in
    let new = c.name_order.new.ranges in
    let times = c.in_ok-name_times.ensures documents p bare in
    let fields : AddsParts (AsksFields v p r.aggs) one two =
    subst (λ (l : List NestedAgg). AddsParts (AsksFields v p l) one two) aggs (c.in_ok-name_fields.ensures documents p bare (subst (λ (l : List NestedAgg). AreOverFast s l) (sym aggs) fast)) in
    on_ok (AddsParts (NeedsOrder v p r) two new) (AddsParts (NeedsColumns w s p r) old new) c.name_order.result
    (λ order. columns_named v w s p r old new same
    (both_added (AsksTimes v p s r.times) (λ at len. AsksFields v p r.aggs at len ⊎ NeedsOrder v p r at len) old one new times (both_added (AsksFields v p r.aggs) (NeedsOrder v p r) one two new fields order)))
    (c.name_order.ensures documents p bare ask.order)
