use Rattle.std.proofs.Common.{◌≡◌, ◌++◌, List, sym, subst, ◌∙◌}
use Rattle.std.specs.List.{AllZip}
use Rattle.split_bundle.specs.declared.pieces.FilePiece.{FilePiece}
use Rattle.root_search.specs.FetchedSplits.{IsLentOf, over}
use Rattle.root_search.proofs.PartViews.{part_of, tells_held}
use Rattle.root_search.proofs.Needed.{starts_alike_named}
use Rattle.root_search.proofs.fetching.starts_of.Goals as goal

pub returns-clause-step : goal.returns-clause-step
returns-clause-step c = λ documents p is foot ask holds.
    let v = c.gather-view.result in
    let same : v.footer ≡ c.args.footer.now = c.gather-view.ensures.footer ∙ c.in_ok-copy.ensures in
    let lent : AllZip IsLentOf c.args.listed.now v.pieces = subst (λ (ps : List FilePiece). AllZip IsLentOf c.args.listed.now ps) (sym c.gather-view.ensures.pieces) c.in_ok-pieces.ensures in
    let part = part_of v c.args.schema.now documents p c.args.footer.now c.args.listed.now (holds.blocks ++ holds.listed) is foot same holds.pieces lent in
    starts_alike_named v (over c.args.footer.now) c.args.schema.now c.args.request.now documents c.starts_in-named.result same
    (c.starts_in-named.ensures.step documents p part ask (tells_held c.args.schema.now c.args.request.now documents p c.args.footer.now c.args.listed.now v ask holds part same lent))
