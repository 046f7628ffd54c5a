-- The documents that are kept, as far as they are read.
use Rattle.std.specs.Prelude.{◌≡◌, ◌++◌, List, min, Result, Ok, Err, ⊤}
use Rattle.std.specs.List.{AllByRecursion}
use Rattle.doc_value.specs.declared.schema.Schema.{Schema}
use Rattle.doc_value.specs.Documents.{IsOfSchema}
use Rattle.split_bundle.specs.declared.placed.Placed.{Placed}
use Rattle.split_bundle.specs.declared.split_error.SplitError.{SplitError}
use Rattle.split_bundle.specs.declared.split_error.SplitError.TheVariants as split
use Rattle.split_bundle.specs.Columns.{AreColumns, fast_fields}
use Rattle.split_bundle.specs.Documents.{documents_section, total_weight}
use Rattle.split_bundle.specs.Files.{head}
use Rattle.split_bundle.specs.Held.{IsHeld}
use Rattle.split_bundle.specs.Splits.{AreDocumentsOf, ArePartitions}
use Rattle.split_build.specs.declared.columns.ColumnLog.{ColumnLog}
use Rattle.split_build.specs.declared.file.FileBegun.{FileBegun}
use Rattle.split_build.specs.HeldColumns.{HasColumns}
use Rattle.split_build.specs.Limits.{most}
use Rattle.split_merge.specs.declared.kept.KeptDocuments.{KeptDocuments}
use Rattle.split_merge.specs.declared.lent_documents.LentDocuments.{LentDocuments}
use Rattle.split_merge.specs.LentDocuments.{HasLent}
use Rattle.split_merge.specs.Facts.{HasFacts}
use Rattle.split_merge.specs.declared.merge_error.MergeError.{MergeError}
use Rattle.split_merge.specs.declared.merge_error.MergeError.TheVariants.{Memory, Split, Build}

-- these documents were taken, in this order
pub record HasKept (k : KeptDocuments) (s : Schema) (documents : List Placed) : Type 0 where
  pub of_schema : AllByRecursion (λ d. IsOfSchema s d.doc) documents
  pub held : AllByRecursion IsHeld documents
  pub weight : k.weight ≡ min (total_weight documents) most
  pub bodies : HasLent k.documents documents
  pub facts : HasFacts k.facts s documents

-- what is read was taken, or its fault was met, or memory ran out
abbrev pub Keeps : {X : Type 0} → KeptDocuments → Schema → Result X SplitError → Result (List Placed) SplitError → Type 0
Keeps k s (Ok x) read = (documents : List Placed) × (read ≡ Ok documents) × HasKept k s documents
Keeps k s (Err (split.Memory a)) read = ⊤
Keeps k s (Err split.BadMagic) read = read ≡ Err split.BadMagic
Keeps k s (Err (split.Truncated at)) read = read ≡ Err (split.Truncated at)
Keeps k s (Err (split.BadSection number)) read = read ≡ Err (split.BadSection number)
Keeps k s (Err (split.BadVersion version)) read = read ≡ Err (split.BadVersion version)

-- the same of views
abbrev pub KeepsAll : Schema → Result KeptDocuments MergeError → Result (List Placed) MergeError → Type 0
KeepsAll s (Ok k) read = (documents : List Placed) × (read ≡ Ok documents) × HasKept k s documents
KeepsAll s (Err (Memory a)) read = ⊤
KeepsAll s (Err (Split number e)) read = read ≡ Err (Split number e)
KeepsAll s (Err (Build e)) read = ⊥

-- what was taken of documents that a split can hold, and is to be written
pub record AreToWrite (s : Schema) (documents : List Placed) (log : LentDocuments) (columns : List ColumnLog) : Type 0 where
  pub are_documents : AreDocumentsOf s documents
  pub bodies : HasLent log documents
  pub columns_are : HasColumns documents (fast_fields s) columns

-- the sections of these documents and of their columns
pub record AreSectionsOf (s : Schema) (documents : List Placed) (f : FileBegun) : Type 0 where
  pub partitions : ArePartitions documents f.partitions.items
  pub begun_is : f.begun.items ≡ head ++ documents_section f.partitions.items documents
  pub columns : AreColumns documents 0 (fast_fields s) f.columns.starts.items f.columns.bytes.items
