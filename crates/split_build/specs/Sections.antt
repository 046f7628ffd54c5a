-- What was taken of documents, and the parts of their split.
use Rattle.std.specs.Prelude.{◌≡◌, List}
use Rattle.doc_value.specs.declared.schema.Schema.{Schema}
use Rattle.split_bundle.specs.declared.placed.Placed.{Placed}
use Rattle.split_bundle.specs.Columns.{AreColumns, fast_fields}
use Rattle.split_bundle.specs.Documents.{documents_section}
use Rattle.split_bundle.specs.Splits.{AreDocumentsOf, ArePartitions}
use Rattle.split_build.specs.declared.columns.ColumnLog.{ColumnLog}
use Rattle.split_build.specs.declared.documents.DocumentLog.{DocumentLog}
use Rattle.split_build.specs.declared.file.FileParts.{FileParts}
use Rattle.split_build.specs.declared.terms.TermLog.{TermLog}
use Rattle.split_build.specs.HeldColumns.{HasColumns}
use Rattle.split_build.specs.HeldDocuments.{HasDocuments}
use Rattle.split_build.specs.HeldTerms.{HasSaid}
use Rattle.split_build.specs.Said.{said_from}
use Rattle.split_build.specs.WrittenTerms.{AreTermParts}

-- the logs of documents that a split can hold
pub record AreLogs (s : Schema) (ds : List Placed) (documents : DocumentLog) (terms : TermLog) (columns : List ColumnLog) : Type 0 where
  pub are_documents : AreDocumentsOf s ds
  pub bodies : HasDocuments documents ds
  pub said : HasSaid terms s (said_from s 0 ds)
  pub columns_are : HasColumns ds (fast_fields s) columns

-- the parts of the split of documents
pub record ArePartsOf (s : Schema) (ds : List Placed) (f : FileParts) : Type 0 where
  pub partitions : ArePartitions ds f.partitions.items
  pub documents_are : f.documents.items ≡ documents_section f.partitions.items ds
  pub terms : AreTermParts s ds f.terms
  pub columns : AreColumns ds 0 (fast_fields s) f.columns.starts.items f.columns.bytes.items
