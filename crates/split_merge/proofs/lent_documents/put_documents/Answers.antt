use Rattle.std.proofs.Common.{◌∙◌, ◌++◌, List, ℕ, ap}
use Rattle.split_bundle.specs.Documents.{joined}
use Rattle.split_merge.specs.LentDocuments.{in_bytes}
use Rattle.split_merge.proofs.LentLemmas.{document_end, document_step, numbered_at}
use Rattle.split_merge.proofs.lent_documents.put_documents.Goals as goal

pub bounds-places-name : goal.bounds-places-name
bounds-places-name c = numbered_at c.args.places.now c.args.documents.now c.loop-document.document-index _ c.loop-document-test.true c.loop-document.invariant.numbered

pub loop-document-preserved : goal.loop-document-preserved
loop-document-preserved c =
    let step = document_step c.args.places.now c.args.documents.now c.loop-document.document-index _ c.loop-document.out.items c.extend_from_slice.new.self.items c.extend_from_slice-in-loop-document.new.self.items c.args.out.now.items _ c.index-places-name.result
    c.loop-document-test.true c.loop-document.invariant.numbered c.index-places-name.is (c.in_ok-extend_from_slice.ensures.items ∙ ap (λ (l : List ℕ). c.loop-document.out.items ++ l) c.as_slice.ensures) c.in_ok-extend_from_slice-2.ensures.items
    c.loop-document.invariant.put in
    record { numbered = step.0; put = step.1 }

pub returns : goal.returns
returns c =
    document_end c.args.places.now c.args.documents.now c.loop-document.document-index c.loop-document.out.items c.args.out.now.items (joined (in_bytes c.args.places.now c.args.documents.now)) c.loop-document-test.false c.loop-document.invariant.put
