use Rattle.std.proofs.Common.{◌∙◌, sym}
use Rattle.doc_tallies.specs.Causes.{AsksColumn}
use Rattle.leaf_search.specs.Answers.{AsksTimes}
use Rattle.leaf_search.specs.FileRanges.{AddsParts}
use Rattle.leaf_search.proofs.BlockParts.{on_ok}
use Rattle.leaf_search.proofs.ColumnNames.{no_times, no_timestamp, times_named}
use Rattle.leaf_search.proofs.ColumnParts.{timestamp_fast}
use Rattle.leaf_search.proofs.column_ranges.name_times.Goals as goal

pub returns-then-is_unlimited : goal.returns-then-is_unlimited
returns-then-is_unlimited c = λ documents p part. no_times c.args.bare.now p c.args.schema.now c.args.times c.args.ranges.now (sym c.is_unlimited.ensures ∙ c.if-is_unlimited.true)

pub returns-in-Some : goal.returns-in-Some
returns-in-Some c = λ documents p part.
    let v = c.args.bare.now in
    let s = c.args.schema.now in
    let n = c.in-Some.number in
    let old = c.args.ranges.now in
    let new = c.name_column.new.ranges in
    on_ok (AddsParts (AsksColumn v p n) old new) (AddsParts (AsksTimes v p s c.args.times) old new) c.name_column.result
    (λ adds. times_named v p s c.args.times n old new (sym c.is_unlimited.ensures ∙ c.if-is_unlimited.false) c.in-Some.is adds)
    (c.name_column.ensures documents p part (timestamp_fast s n part.is_split.are_documents.schema c.in-Some.is))

pub returns-in-None : goal.returns-in-None
returns-in-None c = λ documents p part. no_timestamp c.args.bare.now p c.args.schema.now c.args.times c.args.ranges.now c.in-None.is
