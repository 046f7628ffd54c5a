use Rattle.std.proofs.Common.{◌≡◌, ℕ, ◌+◌, ◌-◌, true, length, refl, sym, ap}
use Rattle.split_bundle.specs.declared.pieces.Section.TheVariants.{Columns}
use Rattle.split_bundle.specs.Pieces.{start_of}
use Rattle.split_bundle.specs.Columns.{column_rows}
use Rattle.split_bundle.specs.Lending.{start_of_column, length_of_column}
use Rattle.split_bundle.proofs.ColumnsLent.{column_stands, ok_lends, err_lends, missing_same}
use Rattle.split_bundle.proofs.WholeFiles.{column_not_missing}
use Rattle.split_bundle.proofs.parts.fast_column.Goals as goal

pub returns-in-Ok-clause-only : goal.returns-in-Ok-clause-only
returns-in-Ok-clause-only c documents p is part =
    let fast : c.at-field.result.now.fast ≡ true = c.if-not-field.false in
    let here = column_stands c.args.layout.now c.args.footer.now c.args.pieces.now c.args.schema.now documents p c.at-field.result.now c.args.number is part c.at-field.ensures fast in
    let is = c.in-Ok.ensures.only p (column_rows c.args.number documents) here.start here.end part.are_pieces part.layout_is.sections here.at (rw c.from.ensures here.among) in
    ok_lends c.args.pieces.now (start_of Columns c.args.layout.now.sections + start_of_column c.args.number p.column_starts) (length_of_column c.args.number (length p.columns) p.column_starts) c.args.number documents _ c.at-field.result.now c.in-Ok.column c.at-field.ensures fast is

pub returns-in-Err-clause-only : goal.returns-in-Err-clause-only
returns-in-Err-clause-only c documents p is part =
    let fast : c.at-field.result.now.fast ≡ true = c.if-not-field.false in
    let here = column_stands c.args.layout.now c.args.footer.now c.args.pieces.now c.args.schema.now documents p c.at-field.result.now c.args.number is part c.at-field.ensures fast in
    let missing = c.in-Err.ensures.only p (column_rows c.args.number documents) here.start here.end part.are_pieces part.layout_is.sections here.at (rw c.from.ensures here.among) in
    err_lends c.args.pieces.now (start_of Columns c.args.layout.now.sections + start_of_column c.args.number p.column_starts) (length_of_column c.args.number (length p.columns) p.column_starts) c.args.number documents _ c.at-field.result.now c.in-Err.fault c.at-field.ensures fast
    (missing_same c.args.pieces.now c.args.pieces.now (start_of Columns c.args.layout.now.sections + start_of_column c.args.number p.column_starts) (start_of Columns c.args.layout.now.sections + here.start) (length_of_column c.args.number (length p.columns) p.column_starts) (here.end - here.start) c.in-Err.fault refl
    (ap (λ (n : ℕ). start_of Columns c.args.layout.now.sections + n) (sym here.start_is)) (sym here.length_is) missing)

pub returns-in-Err-clause-there : goal.returns-in-Err-clause-there
returns-in-Err-clause-there c documents p is part all =
    let fast : c.at-field.result.now.fast ≡ true = c.if-not-field.false in
    let here = column_stands c.args.layout.now c.args.footer.now c.args.pieces.now c.args.schema.now documents p c.at-field.result.now c.args.number is part c.at-field.ensures fast in
    let missing = c.in-Err.ensures.only p (column_rows c.args.number documents) here.start here.end part.are_pieces part.layout_is.sections here.at (rw c.from.ensures here.among) in
    absurd (column_not_missing p c.args.layout.now.sections c.args.pieces.now (column_rows c.args.number documents) c.at-field.result.now.kind here.start here.end c.in-Err.fault part.layout_is.sections here.at all missing)
