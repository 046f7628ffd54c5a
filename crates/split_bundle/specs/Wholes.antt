-- Views of a whole file.
use Rattle.std.specs.Prelude.{◌≡◌, ℕ, ◌+◌, ◌≤◌, List, [], ◌∷◌, length, take, drop, Some, Result, Ok, Err, ⊤}
use Rattle.doc_value.specs.declared.schema.Schema.{Schema}
use Rattle.split_bundle.specs.declared.part_view.PartView.{PartView}
use Rattle.split_bundle.specs.declared.pieces.FilePiece.{FilePiece}
use Rattle.split_bundle.specs.declared.placed.Placed.{Placed}
use Rattle.split_bundle.specs.declared.split_error.SplitError.{SplitError}
use Rattle.split_bundle.specs.declared.split_error.SplitError.TheVariants.{Memory, BadMagic, BadSection, BadVersion, Truncated}
use Rattle.split_bundle.specs.Files.{Parts}
use Rattle.split_bundle.specs.Reading.{Held, and_then, footer_of}
use Rattle.split_bundle.specs.Heads.{head_in}
use Rattle.split_bundle.specs.Pieces.{held_in}
use Rattle.split_bundle.specs.Lending.{IsPartOf}

-- the footer of a whole file
unfoldable pub whole_of : List ℕ → Result Held SplitError
whole_of bytes = and_then (head_in bytes) (λ _. footer_of (length bytes) bytes)

-- a piece that is the whole file
pub record IsWholePiece (file : List ℕ) (piece : FilePiece) : Type 0 where
  pub start : piece.start ≡ 0
  pub bytes : piece.bytes.now ≡ file

-- the view has one piece, which is the whole file
abbrev pub HasWhole : List ℕ → PartView → Type 0
HasWhole file v = (piece : FilePiece) × (v.pieces ≡ piece ∷ []) × IsWholePiece file piece

-- the pieces have every part of a file
abbrev pub HaveAll : List ℕ → List FilePiece → Type 0
HaveAll file pieces = (at len : ℕ) → at + len ≤ length file → held_in pieces at len ≡ Some (take len (drop at file))

-- the view of a split of these documents, or want of memory
abbrev pub ReadsWhole : Schema → List Placed → Parts → Result PartView SplitError → Type 0
ReadsWhole s documents p (Ok v) = IsPartOf v s documents p
ReadsWhole s documents p (Err (Memory a)) = ⊤
ReadsWhole s documents p (Err BadMagic) = ⊥
ReadsWhole s documents p (Err (Truncated at)) = ⊥
ReadsWhole s documents p (Err (BadSection number)) = ⊥
ReadsWhole s documents p (Err (BadVersion number)) = ⊥

-- nothing but want of memory hinders
abbrev pub IsThere : {A : Type 0} → Result A SplitError → Type 0
IsThere (Ok x) = ⊤
IsThere (Err (Memory a)) = ⊤
IsThere (Err BadMagic) = ⊥
IsThere (Err (Truncated at)) = ⊥
IsThere (Err (BadSection number)) = ⊥
IsThere (Err (BadVersion number)) = ⊥
