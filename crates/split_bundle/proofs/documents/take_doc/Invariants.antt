use Rattle.std.proofs.Common.{◌≡◌, ◌≤◌, ◌-◌, length}
use Rattle.split_bundle.specs.DocReading.{doc_fields_at}
use Rattle.split_bundle.proofs.DocLoops.{prepended}
use Rattle.split_bundle.proofs.documents.take_doc.Given as goal

abbrev pub invariant-loop-taken : goal.invariant-loop-taken
invariant-loop-taken l = record {
  so_far : prepended l.doc (doc_fields_at l.fields l.least (l.count - l.taken) l.bytes l.at) ≡ doc_fields_at l.fields 0 l.count l.bytes l.from;
  within : l.at ≤ length l.bytes;
}
