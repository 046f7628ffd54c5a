use Rattle.std.specs.List.{flat_map}
use Rattle.byte_fields.specs.Spelling.{eight}
use Rattle.split_bundle.specs.Documents.{starts}
use Rattle.split_merge.specs.LentDocuments.{in_bytes}
use Rattle.split_merge.proofs.LentLemmas.{numbered_at, start_end, start_step}
use Rattle.split_merge.proofs.lent_documents.put_starts.Goals as goal

pub bounds-places-name : goal.bounds-places-name
bounds-places-name c = numbered_at c.args.places.now c.args.documents.now c.loop-document.document-index _ c.loop-document-test.true c.loop-document.invariant.numbered

pub loop-document-preserved : goal.loop-document-preserved
loop-document-preserved c =
    let step = start_step c.args.places.now c.args.documents.now c.loop-document.document-index _ c.loop-document.out.items c.put_eight.new.out.items c.args.out.now.items _ c.loop-document.start c.in_ok-next.next c.index-places-name.result
    c.loop-document-test.true c.loop-document.invariant.numbered c.index-places-name.is c.in_ok-put_eight.ensures.ok c.in_ok-next.ensures c.loop-document.invariant.put in
    record { numbered = step.0; put = step.1 }

pub returns : goal.returns
returns c =
    start_end c.args.places.now c.args.documents.now c.loop-document.document-index c.loop-document.out.items c.put_eight-2.new.out.items c.args.out.now.items (flat_map eight (starts 0 (in_bytes c.args.places.now c.args.documents.now))) c.loop-document.start
    c.loop-document-test.false c.loop-document.invariant.put c.in_ok-put_eight-2.ensures.ok
