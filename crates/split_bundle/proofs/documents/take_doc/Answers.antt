use Rattle.std.proofs.Common.{◌+◌, arith, refl}
use Rattle.split_bundle.specs.DocReading.{doc_fields_at}
use Rattle.split_bundle.proofs.DocLoops.{fields_begun, fields_end, fields_more, fields_fault}
use Rattle.split_bundle.proofs.documents.take_doc.Goals as goal

pub loop-taken-init : goal.loop-taken-init
loop-taken-init c = record {
  so_far = fields_begun c.args.fields.now c.args.bytes.now c.args.count c.args.from c.vacant-doc.result c.vacant-doc.ensures;
  within = c.requires;
}

pub loop-taken-preserved : goal.loop-taken-preserved
loop-taken-preserved c = record {
  so_far = rw (c.in_ok-push-in-Ok.ensures.ok) (fields_more c.args.fields.now c.args.bytes.now c.args.count c.loop-taken.taken c.loop-taken.least c.loop-taken.at c.loop-taken.doc (doc_fields_at c.args.fields.now 0 c.args.count c.args.bytes.now c.args.from)
      c.loop-taken.invariant.so_far c.in-Ok.field c.in-Ok.next (c.in-Ok.field.number + 1) (omega arith) refl c.in-Ok.ensures.exact);
  within = c.in-Ok.ensures.within;
}

pub returns-in-Err-clause-exact : goal.returns-in-Err-clause-exact
returns-in-Err-clause-exact c =
    fields_fault c.args.fields.now c.args.bytes.now c.args.count c.loop-taken.taken c.loop-taken.least c.loop-taken.at c.loop-taken.doc (doc_fields_at c.args.fields.now 0 c.args.count c.args.bytes.now c.args.from) c.loop-taken.invariant.so_far
    c.in-Err.fault (omega arith) c.in-Err.ensures.exact

pub returns-clause-exact : goal.returns-clause-exact
returns-clause-exact c =
    fields_end c.args.fields.now c.args.bytes.now c.args.count c.loop-taken.taken c.loop-taken.least c.loop-taken.at c.loop-taken.doc (doc_fields_at c.args.fields.now 0 c.args.count c.args.bytes.now c.args.from) c.loop-taken.invariant.so_far (omega arith)
