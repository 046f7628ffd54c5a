use Rattle.std.proofs.Common.{◌≡◌, ◌++◌, drop}
use Rattle.std.specs.List.{AllByRecursion}
use Rattle.split_bundle.specs.Documents.{joined}
use Rattle.split_merge.specs.LentDocuments.{IsNumbered, in_bytes}
use Rattle.split_merge.proofs.lent_documents.put_documents.Given as goal

abbrev pub invariant-loop-document : goal.invariant-loop-document
invariant-loop-document l = record {
  numbered : AllByRecursion (IsNumbered l.places) (drop l.document-index l.documents);
  put : l.out.items ++ joined (in_bytes l.places (drop l.document-index l.documents)) ≡ l.initial.out.items ++ joined (in_bytes l.places l.documents);
}
