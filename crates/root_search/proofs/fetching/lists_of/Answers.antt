use Rattle.std.proofs.Common.{◌≡◌, List, sym, subst, ◌∙◌}
use Rattle.std.specs.List.{AllZip}
use Rattle.split_bundle.specs.declared.pieces.FilePiece.{FilePiece}
use Rattle.leaf_search.specs.Needs.{NeedsBlocks}
use Rattle.leaf_search.proofs.Suffices.{held_memory}
use Rattle.root_search.specs.FetchedSplits.{IsLentOf, over}
use Rattle.root_search.proofs.PartViews.{blocks_held, part_of}
use Rattle.root_search.proofs.SameFooters.{listed_alike}
use Rattle.root_search.proofs.fetching.lists_of.Goals as goal

pub returns-in-Ok-clause-step : goal.returns-in-Ok-clause-step
returns-in-Ok-clause-step c = λ documents p is foot ask holds.
    let v = c.gather-view.result in
    let same : v.footer ≡ c.args.footer.now = c.gather-view.ensures.footer ∙ c.in_ok-copy.ensures in
    let lent : AllZip IsLentOf c.args.blocks.now v.pieces = subst (λ (ps : List FilePiece). AllZip IsLentOf c.args.blocks.now ps) (sym c.gather-view.ensures.pieces) c.in_ok-pieces.ensures in
    let part = part_of v c.args.schema.now documents p c.args.footer.now c.args.blocks.now holds.blocks is foot same holds.pieces lent in
    listed_alike v (over c.args.footer.now) c.args.schema.now documents p c.args.request.now c.in-Ok.lists same (c.in-Ok.ensures.only documents p part ask)

pub returns-in-Err-clause-step : goal.returns-in-Err-clause-step
returns-in-Err-clause-step c = λ documents p is foot ask holds.
    let v = c.gather-view.result in
    let same : v.footer ≡ c.args.footer.now = c.gather-view.ensures.footer ∙ c.in_ok-copy.ensures in
    let lent : AllZip IsLentOf c.args.blocks.now v.pieces = subst (λ (ps : List FilePiece). AllZip IsLentOf c.args.blocks.now ps) (sym c.gather-view.ensures.pieces) c.in_ok-pieces.ensures in
    let part = part_of v c.args.schema.now documents p c.args.footer.now c.args.blocks.now holds.blocks is foot same holds.pieces lent in
    c.leaf_fault.ensures.memory
    (held_memory (NeedsBlocks v c.args.schema.now documents p c.args.request.now) v.pieces c.in-Err.fault (blocks_held c.args.schema.now c.args.request.now documents p c.args.footer.now c.args.blocks.now v ask holds part same lent)
    (c.in-Err.ensures.only documents p part ask))
