use Rattle.std.proofs.Common.{sym, ◌∙◌}
use Rattle.split_bundle.proofs.part_view.PartView.column.Goals as goal

pub returns-clause-only : goal.returns-clause-only
returns-clause-only c documents p part =
    rw (sym c.as_slice-pieces.ensures) (c.fast_column.ensures.only documents p part.is_split (record { layout_is = part.footer.layout; footer_is = c.bytes-footer.ensures ∙ part.footer.bytes; are_pieces = rw c.as_slice-pieces.ensures part.pieces }))

pub returns-clause-there : goal.returns-clause-there
returns-clause-there c documents p part all =
    c.fast_column.ensures.there documents p part.is_split (record { layout_is = part.footer.layout; footer_is = c.bytes-footer.ensures ∙ part.footer.bytes; are_pieces = rw c.as_slice-pieces.ensures part.pieces }) (rw c.as_slice-pieces.ensures all)
