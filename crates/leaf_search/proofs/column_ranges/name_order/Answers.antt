use Rattle.std.proofs.Common.{subst}
use Rattle.doc_tallies.specs.Causes.{AsksColumn}
use Rattle.doc_tallies.specs.Orders.{IsSortable}
use Rattle.leaf_search.specs.FileRanges.{AddsParts}
use Rattle.leaf_search.specs.Needs.{NeedsOrder}
use Rattle.leaf_search.proofs.BlockParts.{on_ok}
use Rattle.leaf_search.proofs.ColumnNames.{no_order, none_wanted, order_named}
use Rattle.leaf_search.proofs.LeafSteps.{positive}
use Rattle.leaf_search.proofs.column_ranges.name_order.Goals as goal

pub returns-then-request-eq0 : goal.returns-then-request-eq0
returns-then-request-eq0 c = λ documents p part sortable. none_wanted c.args.bare.now p c.args.request.now c.args.ranges.now c.if-request-eq0.true

pub returns-in-Some : goal.returns-in-Some
returns-in-Some c = λ documents p part sortable.
    let v = c.args.bare.now in
    let r = c.args.request.now in
    let order = c.in-Some.order in
    let old = c.args.ranges.now in
    let new = c.name_column.new.ranges in
    on_ok (AddsParts (AsksColumn v p order.field) old new) (AddsParts (NeedsOrder v p r) old new) c.name_column.result
    (λ adds. order_named v p r order old new (positive r.wanted c.if-request-eq0.false) c.in-Some.is adds)
    (c.name_column.ensures documents p part (subst (IsSortable c.args.schema.now) c.in-Some.is sortable))

pub returns-in-None : goal.returns-in-None
returns-in-None c = λ documents p part sortable. no_order c.args.bare.now p c.args.request.now c.args.ranges.now c.in-None.is
