use Rattle.std.proofs.Common.{◌≡◌, ◌∙◌, [], true, Some, slice_get}
use Rattle.doc_sets.specs.Needed.{IsColumnFor}
use Rattle.doc_tallies.specs.Causes.{AsksColumn}
use Rattle.leaf_search.specs.FileRanges.{AddsParts}
use Rattle.leaf_search.proofs.BlockParts.{on_ok}
use Rattle.leaf_search.proofs.ColumnNames.{bare_part}
use Rattle.leaf_search.proofs.ColumnParts.{values_named}
use Rattle.leaf_search.proofs.list_ranges.name_values.Goals as goal

pub returns-in_ok-copy-in-Some : goal.returns-in_ok-copy-in-Some
returns-in_ok-copy-in-Some c = λ documents p part.
    let s = c.args.schema.now in
    let n = c.args.number in
    let f = c.in-Some.field.now in
    let v = c.gather-bare.result in
    let w = c.args.part.now in
    let old = c.args.ranges.now in
    let new = c.name_column.new.ranges in
    let same : v.footer ≡ w.footer = c.gather-bare.ensures.footer ∙ (c.in_ok-copy-in-Some.ensures ∙ c.footer.ensures) in
    let none : v.pieces ≡ [] = c.gather-bare.ensures.pieces ∙ c.vacant.ensures in
    let fast : f.fast ≡ true = c.if-not-field.false in
    let got : slice_get s.fields n ≡ Some f = c.in-Some.ensures.found in
    on_ok (AddsParts (AsksColumn v p n) old new) (AddsParts (IsColumnFor w s p n) old new) c.name_column.result (λ adds. values_named v w s p n f old new same got fast adds)
    (c.name_column.ensures documents p (bare_part v w s documents p part same none) (rw got fast))
