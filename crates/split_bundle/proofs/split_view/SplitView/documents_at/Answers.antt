use Rattle.std.proofs.Common.{subst, sym}
use Rattle.split_bundle.specs.Lists.{posting_list}
use Rattle.split_bundle.specs.Lending.{IsListAt, LendsDocuments}
use Rattle.split_bundle.specs.SplitViews.{pieces_of}
use Rattle.split_bundle.proofs.Infos.{info_found}
use Rattle.split_bundle.proofs.WholeFiles.{documents_there}
use Rattle.split_bundle.proofs.ViewsLent.{pieces_are, all_there, documents_stand}
use Rattle.split_bundle.proofs.split_view.SplitView.documents_at.Goals as goal

pub returns-clause-only : goal.returns-clause-only
returns-clause-only c s documents p key is found keeps =
    let v = c.args.self.now in
    let list = posting_list s documents key in
    let at = subst (λ k. IsListAt p c.args.info.now k list) (sym keeps) (info_found s documents p key c.args.info.now is.is_split found) in
    let lends : LendsDocuments v.layout.sections (pieces_of v) c.args.info.now list c.documents_over.result = rw (sym c.piece.ensures) (c.documents_over.ensures.only p list (rw c.piece.ensures (pieces_are v s documents p is)) is.layout.sections at) in
    documents_stand v.layout.sections (pieces_of v) c.args.info.now list c.documents_over.result
    (documents_there p v.layout.sections (pieces_of v) c.args.info.now c.args.positions list c.documents_over.result is.layout.sections at (all_there v s documents p is) lends) lends
