-- What is read of documents in place.
use Rattle.std.specs.Prelude.{◌≡◌, ◌==◌, ℕ, ◌+◌, List, [], ◌∷◌, ◌++◌, length, drop, Result, Ok, Err, ⊤, if◌then◌else◌}
use Rattle.std.specs.List.{AllByRecursion, flat_map}
use Rattle.byte_fields.specs.declared.corrupt.Corrupt.{Corrupt}
use Rattle.byte_fields.specs.Spelling.{SpelledAt}
use Rattle.byte_fields.specs.Steps.{◌>>=◌, corrupt_at, number_at}
use Rattle.doc_value.specs.declared.doc.DocField.{DocField}
use Rattle.doc_value.specs.declared.doc.Value.{Value}
use Rattle.doc_value.specs.declared.schema.Field.{Field}
use Rattle.doc_value.specs.declared.schema.Schema.{Schema}
use Rattle.split_bundle.specs.declared.placed.Placed.{Placed}
use Rattle.split_bundle.specs.declared.split_error.SplitError.{SplitError}
use Rattle.split_bundle.specs.declared.split_error.SplitError.TheVariants.{Memory, BadMagic, Truncated, BadSection, BadVersion}
use Rattle.split_bundle.specs.DocReading.{doc_fields_at, kind_at, may_have}
use Rattle.split_bundle.specs.Documents.{field_bytes, value_bytes}
use Rattle.split_bundle.specs.Held.{AreHeld, IsHeld, IsHeldValue}
use Rattle.split_build.specs.Bodies.{body_of}
use Rattle.split_merge.specs.declared.facts.FieldFacts.{FieldFacts}
use Rattle.split_merge.specs.declared.scanning.DocHead.{DocHead}
use Rattle.split_merge.specs.declared.scanning.FieldHead.{FieldHead}
use Rattle.split_merge.specs.Facts.{HasFacts}

-- what was read, and what holds of what was returned and of it, or a fault of the section of documents, or want of memory
abbrev pub Scans : {X Y : Type 0} → (X → Y → Type 0) → Result X SplitError → Result Y Corrupt → Type 0
Scans {X} {Y} holds (Ok x) read = (y : Y) × (read ≡ Ok y) × holds x y
Scans holds (Err (Memory a)) read = ⊤
Scans holds (Err BadMagic) read = ⊥
Scans holds (Err (Truncated at)) read = ⊥
Scans holds (Err (BadSection number)) read = (number ≡ 1) × (c : Corrupt) × (read ≡ Err c)
Scans holds (Err (BadVersion version)) read = ⊥

-- a field of a document without its values
unfoldable pub field_head_at : List Field → ℕ → List ℕ → ℕ → Result FieldHead Corrupt
field_head_at fields least bytes at = do
  number ← number_at bytes at
  kind ← kind_at fields least number.0 at
  count ← number_at bytes number.1
  if may_have kind count.0 then Ok (record { number = number.0; kind = kind; count = count.0; from = count.1 }) else corrupt_at number.1

-- what stands in front of the fields of a document
unfoldable pub doc_head_at : List ℕ → Result DocHead Corrupt
doc_head_at bytes = do
  place ← number_at bytes 0
  offset ← number_at bytes place.1
  count ← number_at bytes offset.1
  Ok (record { place = place.0; behind = place.1; offset = offset.0; count = count.0; from = count.1 })

-- a document that is all of the bytes: the place of its partition, its offset and its fields
unfoldable pub document_at : List Field → List ℕ → Result (ℕ × (ℕ × List DocField)) Corrupt
document_at fields bytes = do
  head ← doc_head_at bytes
  doc ← doc_fields_at fields 0 head.count bytes head.from
  if doc.1 == length bytes then Ok (head.place, (head.offset, doc.0)) else corrupt_at doc.1

-- a document of a partition
abbrev pub placed_at : List ℕ → ℕ × List DocField → Placed
placed_at partition x = record { partition = partition; offset = x.0; doc = x.1 }

-- a document with these fields
abbrev pub holding : List DocField → Placed
holding doc = record { partition = []; offset = 0; doc = doc }

-- the values of a field behind others of the last document, up to a place
pub record HasValues (f : FieldFacts) (s : Schema) (documents : List Placed) (fs : List DocField) (head : FieldHead) (bytes : List ℕ) (next : ℕ) (read : List Value × ℕ) : Type 0 where
  pub next_is : next ≡ read.1
  pub count : length read.0 ≡ head.count
  pub spelled : SpelledAt bytes head.from (flat_map value_bytes read.0) next
  pub held : AllByRecursion IsHeldValue read.0
  pub facts : HasFacts f s (documents ++ holding (fs ++ record { number = head.number; values = read.0 } ∷ []) ∷ [])

-- a field behind others of the last document
pub record HasTaken (f : FieldFacts) (s : Schema) (documents : List Placed) (fs : List DocField) (bytes : List ℕ) (at : ℕ) (next : ℕ × ℕ) (read : DocField × ℕ) : Type 0 where
  pub above : next.0 ≡ read.0.number + 1
  pub next_is : next.1 ≡ read.1
  pub spelled : SpelledAt bytes at (field_bytes read.0) next.1
  pub held : AllByRecursion IsHeldValue read.0.values
  pub facts : HasFacts f s (documents ++ holding (fs ++ read.0 ∷ []) ∷ [])

-- so many fields of the last document
pub record HasTakenAll (f : FieldFacts) (s : Schema) (documents : List Placed) (total : ℕ) (bytes : List ℕ) (from next : ℕ) (read : List DocField × ℕ) : Type 0 where
  pub next_is : next ≡ read.1
  pub count : length read.0 ≡ total
  pub spelled : SpelledAt bytes from (flat_map field_bytes read.0) next
  pub held : AreHeld read.0
  pub facts : HasFacts f s (documents ++ holding read.0 ∷ [])

-- a document behind others: the place of its partition, and its bytes behind that
pub record HasStored (f : FieldFacts) (s : Schema) (documents : List Placed) (bytes : List ℕ) (found : ℕ × ℕ) (read : ℕ × (ℕ × List DocField)) : Type 0 where
  pub place : found.0 ≡ read.0
  pub body : (partition : List ℕ) → drop found.1 bytes ≡ body_of (placed_at partition read.1)
  pub held : (partition : List ℕ) → IsHeld (placed_at partition read.1)
  pub facts : (partition : List ℕ) → HasFacts f s (documents ++ placed_at partition read.1 ∷ [])
