use Rattle.std.proofs.Common.{List, sym, subst, ◌∙◌}
use Rattle.std.specs.List.{AllZip}
use Rattle.split_bundle.specs.declared.pieces.FilePiece.{FilePiece}
use Rattle.root_search.specs.FetchedSplits.{IsLentOf}
use Rattle.root_search.specs.declared.fetched_splits.KeptPiece.{KeptPiece}
use Rattle.root_search.proofs.fetched_splits.view_of.Goals as goal

pub returns : goal.returns
returns c = λ part footer pieces. record {
  footer = c.gather.ensures.footer ∙ sym footer;
  pieces = subst (λ (ps : List FilePiece). AllZip IsLentOf part.pieces ps) (sym c.gather.ensures.pieces) (subst (λ (ks : List KeptPiece). AllZip IsLentOf ks c.in_ok-pieces.pieces) (sym pieces) c.in_ok-pieces.ensures);
}
