-- Pieces of a file beside its footer, and the reading of its whole dictionary.
use Rattle.std.specs.Prelude.{◌≡◌, ℕ, List, Result}
use Rattle.term_dict.specs.Chosen.{dict_of}
use Rattle.term_dict.specs.declared.index.BlockStart.{BlockStart}
use Rattle.split_bundle.specs.declared.layout.Layout.{Layout}
use Rattle.split_bundle.specs.declared.layout.Sections.{Sections}
use Rattle.split_bundle.specs.declared.pieces.FilePiece.{FilePiece}
use Rattle.split_bundle.specs.declared.pieces.Section.TheVariants.{Dictionary}
use Rattle.split_bundle.specs.declared.split_error.SplitError.{SplitError}
use Rattle.split_bundle.specs.Files.{Parts, file_bytes, footer_bytes}
use Rattle.split_bundle.specs.Views.{IsLayoutOf}
use Rattle.split_bundle.specs.Reading.{and_then, of_section}
use Rattle.split_bundle.specs.Pieces.{section_part, ArePieces}

-- the footer of these parts, what it says, and pieces of their file
pub record IsLaidOut (p : Parts) (layout : Layout) (footer : List ℕ) (pieces : List FilePiece) : Type 0 where
  pub layout_is : IsLayoutOf p layout
  pub footer_is : footer ≡ footer_bytes p
  pub are_pieces : ArePieces (file_bytes p) pieces

-- the dictionary, by an index of its blocks
unfoldable pub dict_read : Sections → List FilePiece → List BlockStart → Result (List ℕ × List BlockStart) SplitError
dict_read sections pieces index = and_then (section_part Dictionary sections pieces 0 sections.dictionary) (λ area. of_section 2 (dict_of area index))
