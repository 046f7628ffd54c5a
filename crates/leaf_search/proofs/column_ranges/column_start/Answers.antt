use Rattle.std.proofs.Common.{◌+◌, length, slice_get}
use Rattle.split_bundle.specs.Lending.{length_of_column, start_of_column}
use Rattle.doc_tallies.specs.Causes.{columns_start}
use Rattle.leaf_search.proofs.ColumnParts.{lacks_at, never_some, some_lent}
use Rattle.leaf_search.proofs.column_ranges.column_start.Goals as goal

pub returns-in-Ok-Some : goal.returns-in-Ok-Some
returns-in-Ok-Some c = λ documents p part fast.
    let v = c.args.bare.now in
    absurd (never_some v.footer.layout.sections v.pieces c.args.schema.now v.footer.bytes v.footer.layout.columns c.args.number c.in-Ok-Some.field-0 c.in-Ok-Some._column c.requires c.in-Ok-Some.field-0-is c.in-Ok-Some.ensures.exact)

pub returns-in-Ok-None : goal.returns-in-Ok-None
returns-in-Ok-None c = λ documents p part fast.
    let v = c.args.bare.now in
    let n = c.args.number in
    absurd (some_lent v.pieces (columns_start v.footer.layout.sections + start_of_column n p.column_starts) (length_of_column n (length p.columns) p.column_starts) n documents (slice_get c.args.schema.now.fields n)
    c.in-Ok-None.field-0 c.in-Ok-None.field-0-is fast (c.in-Ok-None.ensures.only documents p part))

pub returns-in-Err : goal.returns-in-Err
returns-in-Err c = λ documents p part fast.
    let v = c.args.bare.now in
    let n = c.args.number in
    let at = columns_start v.footer.layout.sections + start_of_column n p.column_starts in
    c.missing_start.ensures at
    (lacks_at v.pieces at (length_of_column n (length p.columns) p.column_starts) n documents (slice_get c.args.schema.now.fields n) c.in-Err.fault fast (c.in-Err.ensures.only documents p part))
