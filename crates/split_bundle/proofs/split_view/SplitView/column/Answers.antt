use Rattle.std.proofs.Common.{◌+◌, [], ◌∷◌, length, sym}
use Rattle.std.specs.List.{slice_get}
use Rattle.split_bundle.specs.declared.pieces.Section.TheVariants.{Columns}
use Rattle.split_bundle.specs.Pieces.{start_of}
use Rattle.split_bundle.specs.Lending.{start_of_column, length_of_column}
use Rattle.split_bundle.specs.SplitReading.{IsLaidOut}
use Rattle.split_bundle.specs.SplitViews.{pieces_of}
use Rattle.split_bundle.proofs.ViewsLent.{laid_out, all_there, column_given}
use Rattle.split_bundle.proofs.split_view.SplitView.column.Goals as goal

pub returns-clause-only : goal.returns-clause-only
returns-clause-only c documents p is =
    let v = c.args.self.now in
    let laid : IsLaidOut p v.layout v.footer.now (c.piece.result ∷ []) = rw c.piece.ensures (laid_out v c.args.schema.now documents p is) in
    column_given (pieces_of v) (start_of Columns v.layout.sections + start_of_column c.args.number p.column_starts) (length_of_column c.args.number (length p.columns) p.column_starts) c.args.number documents
    (slice_get c.args.schema.now.fields c.args.number) c.fast_column.result (c.fast_column.ensures.there documents p is.is_split laid (rw c.piece.ensures (all_there v c.args.schema.now documents p is)))
    (rw (sym c.piece.ensures) (c.fast_column.ensures.only documents p is.is_split laid))
