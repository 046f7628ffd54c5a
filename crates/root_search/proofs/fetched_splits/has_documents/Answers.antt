use Rattle.std.proofs.Common.{ap, ◌∙◌}
use Rattle.root_search.proofs.DocumentsHeld.{documents_held}
use Rattle.root_search.proofs.fetched_splits.has_documents.Goals as goal

pub returns-then-is_section : goal.returns-then-is_section
returns-then-is_section c =
    let size = ap (λ s. s.documents) c.sections-size.ensures ∙ ap (λ f. f.layout.sections.documents) c.footer.ensures in
    documents_held c.args.view.now c.args.split.now.pieces c.as_slice-piece-items.result.now c.loop-piece.piece-index c.piece-item.result c.sections-size.result.documents c.requires c.as_slice-piece-items.ensures c.loop-piece-test.true c.piece-item.is size c.if-is_section.ensures.0
    c.if-is_section.ensures.1
