use Rattle.std.proofs.Common.{◌≡◌, ◌+◌, [], ◌∷◌, ◌++◌, take, ap, sym, subst, refl, ◌∙◌}
use Rattle.std.specs.List.{AllZip}
use Rattle.std.proofs.lemmas.List.{take_more}
use Rattle.split_bundle.specs.declared.pieces.FilePiece.{FilePiece}
use Rattle.root_search.specs.FetchedSplits.{IsLentOf}
use Rattle.root_search.proofs.Zipped.{zip_last}
use Rattle.root_search.proofs.fetched_splits.lent_pieces.Goals as goal

pub loop-piece-preserved : goal.loop-piece-preserved
loop-piece-preserved c =
    let i = c.loop-piece.piece-index in
    let pieces = c.args.pieces.now in
    let x = c.piece-item.result in
    let front : take (i + 1) pieces ≡ take i pieces ++ x ∷ [] = take_more pieces i x c.loop-piece-test.true ∙ ap (λ piece. take i pieces ++ piece ∷ []) (sym c.piece-item.is) in
    let item : FilePiece = record { start = x.start; bytes = c.as_slice.result } in
    subst (λ more. AllZip IsLentOf (take (i + 1) pieces) more) (sym c.in_ok-push.ensures.ok)
    (subst (λ front. AllZip IsLentOf front (c.loop-piece.lent ++ item ∷ [])) (sym front) (zip_last IsLentOf (take i pieces) c.loop-piece.lent x item c.loop-piece.invariant (record { start = refl; bytes = c.as_slice.ensures })))
