use Rattle.std.proofs.Common.{◌≡◌, ◌∙◌, ◌+◌, Ok, ap, length, slice_get, subst}
use Rattle.doc_sets.specs.declared.wanted.NumberRange.{NumberRange}
use Rattle.split_bundle.specs.Lending.{length_of_column, parts_of, start_of_column}
use Rattle.doc_sets.specs.Faults.{fault_of}
use Rattle.doc_sets.specs.Needed.{columns_start}
use Rattle.doc_sets.specs.Reads.{ReadsColumn, HasReadBy, numbers_within}
use Rattle.doc_sets.specs.Walks.{range_of}
use Rattle.doc_sets.proofs.Columned.{column_gives, entries_below, lent_column}
use Rattle.doc_sets.proofs.ReadColumns.{by_reading, column_fails, column_is_read, no_column, values_read}
use Rattle.doc_sets.proofs.ReadWalks.{walk_fault}
use Rattle.doc_sets.proofs.value_columns.column_documents.Goals as goal

pub returns-in_err-column-clause-exact : goal.returns-in_err-column-clause-exact
returns-in_err-column-clause-exact c =
    let v = c.args.part.now in
    let f = c.args.field.now in
    let range = range_of f.kind c.args.low.now c.args.high.now in
    walk_fault (ReadsColumn v c.args.number range) c.from_residual.result (fault_of c.in_err-column.field-0.0) c.from_residual.ensures.1
    (column_fails v c.args.schema.now c.args.number f range c.requires.field c.requires.fast c.requires.ordered c.in_err-column.field-0.0 c.in_err-column.ensures.exact)

pub returns-in_err-column-clause-reads : goal.returns-in_err-column-clause-reads
returns-in_err-column-clause-reads c = values_read c.args.part.now c.args.number (range_of c.args.field.now.kind c.args.low.now c.args.high.now) c.from_residual.result (returns-in_err-column-clause-exact c)

pub returns-in-Some-clause-only : goal.returns-in-Some-clause-only
returns-in-Some-clause-only c = λ documents p is.
    let v = c.args.part.now in
    let s = c.args.schema.now in
    let n = c.args.number in
    let f = c.args.field.now in
    let column = lent_column v.pieces (columns_start v.footer.layout.sections + start_of_column n p.column_starts) (length_of_column n (length p.columns) p.column_starts) n documents (slice_get s.fields n) f c.in_ok-column.field-0 c.in-Some.column
    c.requires.field c.requires.fast c.in-Some.is (c.in_ok-column.ensures.only documents p is.part) in
    column_gives v s documents p is n f c.requires.field c.args.low.now c.args.high.now c.requires.ordered c.edge_has_64.ensures c.edge_has_64-2.ensures c.in-Some.column column c.between-range.result c.within_column.result c.between-range.ensures
    c.within_column.ensures.size
    (c.within_column.ensures.only column.texts column.entries column.holds
    (entries_below v s documents p is n f c.requires.field c.args.low.now c.args.high.now c.requires.ordered c.edge_has_64.ensures c.edge_has_64-2.ensures c.in-Some.column column))

pub returns-in-Some-clause-exact : goal.returns-in-Some-clause-exact
returns-in-Some-clause-exact c =
    let v = c.args.part.now in
    let f = c.args.field.now in
    let range = range_of f.kind c.args.low.now c.args.high.now in
    let read = c.in_ok-column.ensures.exact ∙ ap (λ o. Ok (parts_of o)) c.in-Some.is in
    by_reading (λ read. read ≡ numbers_within v.footer.layout.docs range c.in-Some.column) (ReadsColumn v c.args.number range) c.within_column.result
    (λ found same. column_is_read v c.args.schema.now c.args.number f range c.requires.field c.requires.fast c.requires.ordered c.in-Some.column found read same)
    (subst (λ (r : NumberRange). HasReadBy (λ read. read ≡ numbers_within v.footer.layout.docs r c.in-Some.column) c.within_column.result) c.between-range.ensures c.within_column.ensures.exact)

pub returns-in-Some-clause-reads : goal.returns-in-Some-clause-reads
returns-in-Some-clause-reads c = values_read c.args.part.now c.args.number (range_of c.args.field.now.kind c.args.low.now c.args.high.now) c.within_column.result (returns-in-Some-clause-exact c)

pub returns-in_ok-no_documents-in-None-clause-exact : goal.returns-in_ok-no_documents-in-None-clause-exact
returns-in_ok-no_documents-in-None-clause-exact c =
    let f = c.args.field.now in
    absurd (no_column c.args.part.now c.args.schema.now c.args.number f (range_of f.kind c.args.low.now c.args.high.now) c.requires.field c.requires.fast c.requires.ordered (c.in_ok-column.ensures.exact ∙ ap (λ o. Ok (parts_of o)) c.in-None.is))

pub returns-in_ok-no_documents-in-None-clause-reads : goal.returns-in_ok-no_documents-in-None-clause-reads
returns-in_ok-no_documents-in-None-clause-reads c =
    let f = c.args.field.now in
    absurd (no_column c.args.part.now c.args.schema.now c.args.number f (range_of f.kind c.args.low.now c.args.high.now) c.requires.field c.requires.fast c.requires.ordered (c.in_ok-column.ensures.exact ∙ ap (λ o. Ok (parts_of o)) c.in-None.is))
