use Rattle.std.proofs.Common.{◌≡◌, ◌++◌, drop}
use Rattle.std.specs.List.{AllByRecursion, flat_map}
use Rattle.byte_fields.specs.Spelling.{eight}
use Rattle.split_bundle.specs.Documents.{starts}
use Rattle.split_merge.specs.LentDocuments.{IsNumbered, in_bytes}
use Rattle.split_merge.proofs.lent_documents.put_starts.Given as goal

abbrev pub invariant-loop-document : goal.invariant-loop-document
invariant-loop-document l = record {
  numbered : AllByRecursion (IsNumbered l.places) (drop l.document-index l.documents);
  put : l.out.items ++ flat_map eight (starts l.start (in_bytes l.places (drop l.document-index l.documents))) ≡ l.initial.out.items ++ flat_map eight (starts 0 (in_bytes l.places l.documents));
}
