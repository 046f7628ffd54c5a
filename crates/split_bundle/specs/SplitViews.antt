-- The view of a whole file that is read in place, and what it lends.
use Rattle.std.specs.Prelude.{◌≡◌, ℕ, true, false, List, [], ◌∷◌, length, Option, Some, None, Result, Ok, Err, ⊤}
use Rattle.doc_value.specs.declared.schema.Field.{Field}
use Rattle.doc_value.specs.declared.schema.Schema.{Schema}
use Rattle.fast_fields.specs.Readers.{IsOf}
use Rattle.fast_fields.specs.declared.column.Column.{Column}
use Rattle.term_dict.specs.declared.index.BlockStart.{BlockStart}
use Rattle.split_bundle.specs.declared.pieces.FilePiece.{FilePiece}
use Rattle.split_bundle.specs.declared.placed.Placed.{Placed}
use Rattle.split_bundle.specs.declared.split_error.SplitError.{SplitError}
use Rattle.split_bundle.specs.declared.split_error.SplitError.TheVariants.{Memory, BadMagic, BadSection, BadVersion, Truncated}
use Rattle.split_bundle.specs.declared.split_view.SplitView.{SplitView}
use Rattle.split_bundle.specs.Columns.{column_rows}
use Rattle.split_bundle.specs.Files.{Parts, file_bytes, footer_bytes}
use Rattle.split_bundle.specs.Splits.{IsSplitOf}
use Rattle.split_bundle.specs.Views.{IsLayoutOf}
use Rattle.split_bundle.specs.Reading.{Laid, and_then, laid_in}
use Rattle.split_bundle.specs.Heads.{head_in}

-- the footer of a whole file, and what it says
unfoldable pub split_of : List ℕ → Result Laid SplitError
split_of bytes = and_then (head_in bytes) (λ _. laid_in (length bytes) bytes)

abbrev pub laid : SplitView → Laid
laid v = record { bytes = v.footer.now; layout = v.layout }

-- the file as one piece
abbrev pub whole_piece : SplitView → FilePiece
whole_piece v = record { start = 0; bytes = v.bytes }

abbrev pub pieces_of : SplitView → List FilePiece
pieces_of v = whole_piece v ∷ []

-- the view is one of the file of a split of these documents
pub record IsViewOf (v : SplitView) (s : Schema) (documents : List Placed) (p : Parts) : Type 0 where
  pub is_split : IsSplitOf s documents p
  pub bytes : v.bytes.now ≡ file_bytes p
  pub footer : v.footer.now ≡ footer_bytes p
  pub layout : IsLayoutOf p v.layout

-- this index, or want of memory
abbrev pub ReadsIndex : List BlockStart → Result (List BlockStart) SplitError → Type 0
ReadsIndex index (Ok found) = found ≡ index
ReadsIndex index (Err (Memory a)) = ⊤
ReadsIndex index (Err BadMagic) = ⊥
ReadsIndex index (Err (Truncated at)) = ⊥
ReadsIndex index (Err (BadSection number)) = ⊥
ReadsIndex index (Err (BadVersion number)) = ⊥

-- this document, or want of memory
abbrev pub ReadsPlaced : Placed → Result Placed SplitError → Type 0
ReadsPlaced d (Ok found) = found ≡ d
ReadsPlaced d (Err (Memory a)) = ⊤
ReadsPlaced d (Err BadMagic) = ⊥
ReadsPlaced d (Err (Truncated at)) = ⊥
ReadsPlaced d (Err (BadSection number)) = ⊥
ReadsPlaced d (Err (BadVersion number)) = ⊥

-- a column of the values of the field with a number
abbrev pub GivesColumn : ℕ → List Placed → Result (Option Column) SplitError → Type 0
GivesColumn number documents (Ok (Some column)) = IsOf column (column_rows number documents)
GivesColumn number documents (Ok None) = ⊥
GivesColumn number documents (Err e) = ⊥

-- the column of a field that there may be: none of no fast field
abbrev pub GivesFast : ℕ → List Placed → Option Field → Result (Option Column) SplitError → Type 0
GivesFast number documents None result = result ≡ Ok None
GivesFast number documents (Some f) result = ((f.fast ≡ false) → result ≡ Ok None) × ((f.fast ≡ true) → GivesColumn number documents result)
