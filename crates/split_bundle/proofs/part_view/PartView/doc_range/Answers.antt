use Rattle.split_bundle.proofs.DocsLent.{range_lent}
use Rattle.split_bundle.proofs.part_view.PartView.doc_range.Goals as goal

pub returns-clause-only : goal.returns-clause-only
returns-clause-only c = λ s documents p d part here.
    rw (c.doc_range.ensures, c.as_slice.ensures)
    (range_lent s documents p part.is_split c.args.self.now.footer.layout part.footer.layout c.args.self.now.pieces part.pieces c.args.doc d here)
