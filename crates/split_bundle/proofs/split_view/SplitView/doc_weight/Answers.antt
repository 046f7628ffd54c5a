use Rattle.split_bundle.specs.Documents.{placed_bytes, weight}
use Rattle.split_bundle.specs.Files.{file_bytes}
use Rattle.split_bundle.specs.DocReading.{doc_part, weight_of}
use Rattle.split_bundle.specs.DocLending.{starts_place, doc_place}
use Rattle.split_bundle.specs.SplitViews.{pieces_of}
use Rattle.split_bundle.proofs.DocsLent.{doc_lent, doc_within, weight_read}
use Rattle.split_bundle.proofs.ViewsLent.{pieces_are, all_there, weight_given}
use Rattle.split_bundle.proofs.split_view.SplitView.doc_weight.Goals as goal

pub returns-clause-only : goal.returns-clause-only
unfolding weight_of
returns-clause-only c s documents p d is here =
    let v = c.args.self.now in
    let within = doc_within s documents p is.is_split v.layout is.layout (pieces_of v) (pieces_are v s documents p is) c.args.doc d here in
    let lent = doc_lent s documents p is.is_split v.layout is.layout (pieces_of v) (pieces_are v s documents p is) c.args.doc d here in
    let read = weight_read s documents p is.is_split v.layout is.layout (pieces_of v) (pieces_are v s documents p is) c.args.doc d here in
    rw c.weight_of.ensures (rw c.piece.ensures (weight_given (file_bytes p) (pieces_of v) (starts_place c.args.doc) (doc_place p documents c.args.doc) (weight d) (placed_bytes p.partitions d) (doc_part v.layout (pieces_of v) c.args.doc) within.0 within.1 (all_there v s documents p is) lent read))
