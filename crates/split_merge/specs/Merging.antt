-- What merging gives, and why it gives none.
use Rattle.std.specs.Prelude.{◌≡◌, ℕ, List, length, Some, Result, Ok, Err, slice_get, ⊤}
use Rattle.doc_value.specs.declared.schema.Schema.{Schema}
use Rattle.split_bundle.specs.declared.placed.Placed.{Placed}
use Rattle.split_bundle.specs.declared.split_error.SplitError.{SplitError}
use Rattle.split_bundle.specs.declared.split_error.SplitError.TheVariants as split
use Rattle.split_bundle.specs.declared.split_view.SplitView.{SplitView}
use Rattle.split_bundle.specs.Columns.{AreColumns, fast_fields}
use Rattle.split_bundle.specs.Documents.{documents_section}
use Rattle.split_bundle.specs.Files.{Parts, file_bytes}
use Rattle.split_bundle.specs.Splits.{ArePartitions}
use Rattle.split_merge.specs.declared.merge_error.MergeError.{MergeError}
use Rattle.split_merge.specs.declared.merge_error.MergeError.TheVariants.{Memory, Split, Build}
use Rattle.split_build.specs.declared.build_error.BuildError.{BuildError}
use Rattle.split_build.specs.declared.build_error.BuildError.TheVariants as build
use Rattle.split_build.specs.declared.builder.BuiltSplit.{BuiltSplit}
use Rattle.split_build.specs.Builders.{IsBuilt}
use Rattle.split_build.specs.Facts.{AreFacts}
use Rattle.split_build.specs.Limits.{AreWithin, MakeNone}
use Rattle.split_merge.specs.Keeping.{ViewsSplit}

-- what a fault of the view with a number is to the merge
abbrev pub fault_of : ℕ → SplitError → MergeError
fault_of number (split.Memory a) = Memory a
fault_of number split.BadMagic = Split number split.BadMagic
fault_of number (split.Truncated at) = Split number (split.Truncated at)
fault_of number (split.BadSection section) = Split number (split.BadSection section)
fault_of number (split.BadVersion version) = Split number (split.BadVersion version)

-- want of memory
abbrev pub IsMemory : MergeError → Type 0
IsMemory (Memory a) = ⊤
IsMemory (Split number e) = ⊥
IsMemory (Build e) = ⊥

-- some view is of no split of documents, and its bytes have a fault
pub record IsFaulty (s : Schema) (views : List SplitView) (number : ℕ) : Type 0 where
  pub view : SplitView
  pub is_there : slice_get views number ≡ Some view
  pub is_none : (documents : List Placed) → ViewsSplit s view documents → ⊥

abbrev pub HasFault : Schema → List SplitView → ℕ → SplitError → Type 0
HasFault s views number (split.Memory a) = ⊥
HasFault s views number split.BadMagic = IsFaulty s views number
HasFault s views number (split.Truncated at) = IsFaulty s views number
HasFault s views number (split.BadSection section) = IsFaulty s views number
HasFault s views number (split.BadVersion version) = IsFaulty s views number

-- a split is named only where it is of no documents
abbrev pub IsMergeFault : Schema → List SplitView → MergeError → Type 0
IsMergeFault s views (Memory a) = ⊤
IsMergeFault s views (Split number e) = HasFault s views number e
IsMergeFault s views (Build e) = ⊤

-- want of memory, or a fault of a split that is named only where it is of no documents
abbrev pub Blames : Schema → List SplitView → MergeError → Type 0
Blames s views (Memory a) = ⊤
Blames s views (Split number e) = HasFault s views number e
Blames s views (Build e) = ⊥

-- what a refusal of the builder is to the merge
abbrev pub refusal_of : BuildError → MergeError
refusal_of (build.Memory a) = Memory a
refusal_of (build.TooManyDocs count) = Build (build.TooManyDocs count)
refusal_of (build.TooLarge weight) = Build (build.TooLarge weight)

-- the split of these documents, or want of memory, or that they pass the limits of a split
abbrev pub Merges : Schema → List Placed → Result BuiltSplit MergeError → Type 0
Merges s documents (Ok built) = IsBuilt s documents built
Merges s documents (Err (Memory a)) = ⊤
Merges s documents (Err (Split number e)) = ⊥
Merges s documents (Err (Build (build.Memory a))) = ⊥
Merges s documents (Err (Build (build.TooManyDocs count))) = MakeNone documents (build.TooManyDocs count)
Merges s documents (Err (Build (build.TooLarge weight))) = MakeNone documents (build.TooLarge weight)

-- The documents of the file and its columns are these and no others, with their facts and within the limits, whatever stands in the
-- dictionary and the lists.
pub record HoldsDocuments (s : Schema) (documents : List Placed) (b : BuiltSplit) : Type 0 where
  pub parts : Parts
  pub bytes_are : b.bytes ≡ file_bytes parts
  pub docs : parts.docs ≡ length documents
  pub partitions : ArePartitions documents parts.partitions
  pub documents_are : parts.documents ≡ documents_section parts.partitions documents
  pub columns : AreColumns documents 0 (fast_fields s) parts.column_starts parts.columns
  pub facts : AreFacts s documents 0 b.bytes b.facts
  pub within : AreWithin documents

-- a file of these documents, or want of memory, or that they pass the limits of a split, or a fault that is no document's
abbrev pub MergesRead : Schema → List Placed → Result BuiltSplit MergeError → Type 0
MergesRead s documents (Ok built) = HoldsDocuments s documents built
MergesRead s documents (Err (Memory a)) = ⊤
MergesRead s documents (Err (Split number e)) = ⊤
MergesRead s documents (Err (Build (build.Memory a))) = ⊥
MergesRead s documents (Err (Build (build.TooManyDocs count))) = MakeNone documents (build.TooManyDocs count)
MergesRead s documents (Err (Build (build.TooLarge weight))) = MakeNone documents (build.TooLarge weight)

-- this fault, or want of memory
abbrev pub Faults : MergeError → Result BuiltSplit MergeError → Type 0
Faults fault (Ok built) = ⊥
Faults fault (Err (Memory a)) = ⊤
Faults fault (Err (Split number e)) = fault ≡ Split number e
Faults fault (Err (Build e)) = ⊥

-- what is merged of what was read: of its documents, or its fault
abbrev pub MergesAs : Schema → Result (List Placed) MergeError → Result BuiltSplit MergeError → Type 0
MergesAs s (Ok documents) result = MergesRead s documents result
MergesAs s (Err fault) result = Faults fault result
