-- A builder of a split, and the split that is built.
use Rattle.std.specs.Prelude.{◌≡◌, List, [], ◌∷◌, ◌++◌, length, ⊤}
use Rattle.doc_value.specs.declared.schema.Schema.{Schema}
use Rattle.split_bundle.specs.declared.placed.Placed.{Placed}
use Rattle.split_bundle.specs.Columns.{fast_fields}
use Rattle.split_bundle.specs.Documents.{total_weight}
use Rattle.split_bundle.specs.Splits.{AreDocumentsOf, IsSplit}
use Rattle.split_build.specs.declared.builder.Builder.{Builder}
use Rattle.split_build.specs.declared.builder.BuiltSplit.{BuiltSplit}
use Rattle.split_build.specs.declared.build_error.BuildError.{BuildError}
use Rattle.split_build.specs.declared.build_error.BuildError.TheVariants.{Memory, TooManyDocs, TooLarge}
use Rattle.split_build.specs.Facts.{AreFacts}
use Rattle.split_build.specs.HeldDocuments.{HasDocuments}
use Rattle.split_build.specs.HeldTerms.{HasSaid}
use Rattle.split_build.specs.HeldColumns.{HasColumns}
use Rattle.split_build.specs.HeldTags.{HasTags}
use Rattle.split_build.specs.Bodies.{body_of}
use Rattle.split_build.specs.Said.{said_from}
use Rattle.split_bundle.specs.Tagged.{tag_numbers}
use Rattle.split_build.specs.Times.{AreTimes, seconds_in}
use Rattle.split_build.specs.Limits.{AreWithin}

-- the builder has taken these documents, in this order
pub record HasTaken (b : Builder) (s : Schema) (documents : List Placed) : Type 0 where
  pub schema : b.schema ≡ s
  pub are_documents : AreDocumentsOf s documents
  pub count : b.count ≡ length documents
  pub weight : b.weight ≡ total_weight documents
  pub bodies : HasDocuments b.documents documents
  pub said : HasSaid b.terms s (said_from s 0 documents)
  pub columns : HasColumns documents (fast_fields s) b.columns.items
  pub tags : HasTags documents (tag_numbers 0 s.fields) b.tags.items
  pub times : AreTimes (seconds_in s.timestamp documents) b.times

-- after an error that is no want of memory the builder has what it had
abbrev pub KeepsTaken : Builder → Schema → List Placed → BuildError → Type 0
KeepsTaken b s documents (Memory a) = ⊤
KeepsTaken b s documents (TooManyDocs count) = HasTaken b s documents
KeepsTaken b s documents (TooLarge weight) = HasTaken b s documents

-- a split of these documents, within the limits of a split, and its facts
pub record IsBuilt (s : Schema) (documents : List Placed) (b : BuiltSplit) : Type 0 where
  pub split : IsSplit s b.bytes documents
  pub facts : AreFacts s documents 0 b.bytes b.facts
  pub within : AreWithin documents

-- a document stands in bytes in the buffer of a builder, and with those that were taken it is within the limits
pub record CanTake (b : Builder) (s : Schema) (documents : List Placed) (d : Placed) : Type 0 where
  pub taken : HasTaken b s documents
  pub body : b.body.items ≡ body_of d
  pub are_documents : AreDocumentsOf s (documents ++ d ∷ [])
