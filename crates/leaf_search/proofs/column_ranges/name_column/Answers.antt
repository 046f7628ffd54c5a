use Rattle.std.proofs.Common.{◌≡◌, ◌+◌, length, arith}
use Rattle.split_bundle.specs.Lending.{length_of_column, start_of_column}
use Rattle.doc_tallies.specs.Causes.{AsksColumn, columns_start}
use Rattle.leaf_search.specs.FileRanges.{AddsParts}
use Rattle.leaf_search.proofs.BlockParts.{on_ok}
use Rattle.leaf_search.proofs.ColumnParts.{column_inside, column_named, columns_start_is, fast_within, has_fast}
use Rattle.leaf_search.proofs.RangeLists.{At}
use Rattle.leaf_search.proofs.column_ranges.name_column.Goals as goal

pub returns-then-number-len : goal.returns-then-number-len
returns-then-number-len c = λ documents p part fast.
    let lt = fast_within c.args.schema.now c.args.number fast in
    absurd (omega (arith, lt, c.if-number-len.true, c.len.ensures))

pub returns : goal.returns
returns c = λ documents p part fast.
    let s = c.args.schema.now in
    let v = c.args.bare.now in
    let n = c.args.number in
    let start = c.column_start-start.result in
    let len = c.saturating_sub.result in
    let old = c.args.ranges.now in
    let new = c.name_part.new.ranges in
    let at : start ≡ columns_start v.footer.layout.sections + start_of_column n p.column_starts = c.column_start-start.ensures documents p part fast in
    let end = c.column_end-end.ensures documents p part fast in
    let long : len ≡ length_of_column n (length p.columns) p.column_starts = omega (arith, c.saturating_sub.ensures, at, end) in
    let inside = column_inside v s documents p part n (has_fast s n fast) in
    let whole = columns_start_is v s documents p part in
    on_ok (AddsParts (At start len) old new) (AddsParts (AsksColumn v p n) old new) c.name_part.result
    (λ adds. column_named v s documents p part n start len old new at long adds)
    (c.name_part.ensures (omega (arith, at, long, inside, whole, part.is_split.size)))
