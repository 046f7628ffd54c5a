use Rattle.std.proofs.Common.{◌≡◌, ◌++◌, List, sym, subst, ◌∙◌}
use Rattle.std.specs.List.{AllZip}
use Rattle.split_bundle.specs.declared.pieces.FilePiece.{FilePiece}
use Rattle.leaf_search.specs.Shown.{NeedsStarts}
use Rattle.leaf_search.proofs.Suffices.{held_memory}
use Rattle.root_search.specs.FetchedSplits.{IsLentOf}
use Rattle.root_search.proofs.PartViews.{part_of, starts_held}
use Rattle.root_search.proofs.fetching.documents_of.Goals as goal

pub returns-in-Ok-clause-step : goal.returns-in-Ok-clause-step
returns-in-Ok-clause-step c = λ s r documents p is foot holds few.
    let v = c.gather-view.result in
    let same : v.footer ≡ c.args.footer.now = c.gather-view.ensures.footer ∙ c.in_ok-copy.ensures in
    let lent : AllZip IsLentOf c.args.kept.now v.pieces = subst (λ (ps : List FilePiece). AllZip IsLentOf c.args.kept.now ps) (sym c.gather-view.ensures.pieces) c.in_ok-pieces.ensures in
    let part = part_of v s documents p c.args.footer.now c.args.kept.now (holds.before ++ holds.starts) is foot same holds.pieces lent in
    c.in-Ok.ensures.only s documents p r part few

pub returns-in-Err-clause-step : goal.returns-in-Err-clause-step
returns-in-Err-clause-step c = λ s r documents p is foot holds few.
    let v = c.gather-view.result in
    let same : v.footer ≡ c.args.footer.now = c.gather-view.ensures.footer ∙ c.in_ok-copy.ensures in
    let lent : AllZip IsLentOf c.args.kept.now v.pieces = subst (λ (ps : List FilePiece). AllZip IsLentOf c.args.kept.now ps) (sym c.gather-view.ensures.pieces) c.in_ok-pieces.ensures in
    let part = part_of v s documents p c.args.footer.now c.args.kept.now (holds.before ++ holds.starts) is foot same holds.pieces lent in
    c.leaf_fault.ensures.memory
    (held_memory (NeedsStarts v s documents r) v.pieces c.in-Err.fault (starts_held s r documents p c.args.footer.now c.args.kept.now v holds part same lent)
    (c.in-Err.ensures.only s documents p r part few))
