-- What the parts of a split file lend.
use Rattle.std.specs.Prelude.{◌≡◌, ℕ, ◌+◌, ◌-◌, ◌*◌, ◌≤◌, ◌==◌, Bool, true, false, List, [], ◌∷◌, length, take, drop, Option, Some, None, Result, Ok, Err, nat_lt, slice_get, ◌⊎◌, if◌then◌else◌}
use Rattle.byte_fields.specs.Steps.{◌>>=◌}
use Rattle.doc_value.specs.declared.schema.Schema.{Schema}
use Rattle.doc_value.specs.declared.schema.Field.{Field}
use Rattle.doc_value.specs.declared.schema.Kind.{Kind}
use Rattle.doc_value.specs.declared.schema.Kind.TheVariants as kinds
use Rattle.term_dict.specs.Reading.{block_of}
use Rattle.term_dict.specs.Readers.{IsBlock}
use Rattle.term_dict.specs.Terms.{area}
use Rattle.term_dict.specs.Bounds.{place_in}
use Rattle.term_dict.specs.declared.block.Block.{Block}
use Rattle.term_dict.specs.declared.term.Term.{Term}
use Rattle.term_dict.specs.declared.term.TermInfo.{TermInfo}
use Rattle.term_dict.specs.declared.index.BlockStart.{BlockStart}
use Rattle.term_postings.specs.Postings.{AreDocuments, list_bytes, position_bytes}
use Rattle.term_postings.specs.Cursors.{StandsBefore}
use Rattle.term_postings.specs.Reading.{Walk, over_of}
use Rattle.term_postings.specs.declared.cursor.Cursor.{Cursor}
use Rattle.term_postings.specs.declared.list.Posting.{Posting}
use Rattle.fast_fields.specs.Reading.{Parts as ColumnParts, column_at}
use Rattle.fast_fields.specs.Readers.{IsOf, parts}
use Rattle.fast_fields.specs.Columns.{IsColumn}
use Rattle.fast_fields.specs.declared.column.Column.{Column}
use Rattle.fast_fields.specs.declared.rows.ColumnRow.{ColumnRow}
use Rattle.split_bundle.specs.declared.layout.Sections.{Sections}
use Rattle.split_bundle.specs.declared.layout.Table.{Table}
use Rattle.split_bundle.specs.declared.layout.ColumnStart.{ColumnStart}
use Rattle.split_bundle.specs.declared.pieces.FilePiece.{FilePiece}
use Rattle.split_bundle.specs.declared.pieces.Section.TheVariants.{Dictionary, Postings, Positions, Columns}
use Rattle.split_bundle.specs.declared.split_error.SplitError.{SplitError}
use Rattle.split_bundle.specs.declared.split_error.SplitError.TheVariants.{BadSection, Truncated}
use Rattle.split_bundle.specs.declared.placed.Placed.{Placed}
use Rattle.split_bundle.specs.declared.part_view.PartView.{PartView}
use Rattle.split_bundle.specs.Columns.{column_rows}
use Rattle.split_bundle.specs.Files.{Parts, file_bytes}
use Rattle.split_bundle.specs.Splits.{IsSplitOf}
use Rattle.split_bundle.specs.Views.{sections_of, IsFooterOf}
use Rattle.split_bundle.specs.Reading.{and_then, of_section, column_among}
use Rattle.split_bundle.specs.Pieces.{section_part, held_in, start_of, ArePieces}

-- no piece has so many bytes from a place of the file on
abbrev pub IsMissing : List FilePiece → ℕ → ℕ → SplitError → Type 0
IsMissing pieces at len e = (e ≡ Truncated at) × (held_in pieces at len ≡ None)

-- ---- a block

-- the bytes of a block from a place of the section to another
unfoldable pub block_part : Sections → List FilePiece → ℕ → ℕ → Result (List ℕ) SplitError
block_part sections pieces start end = and_then (section_part Dictionary sections pieces start (end - start)) (λ bytes. of_section 2 (block_of bytes))

-- the bytes of the block with a number
unfoldable pub block_in : Sections → List FilePiece → List BlockStart → ℕ → Result (List ℕ) SplitError
block_in sections pieces index number = and_then (of_section 2 (place_in sections.dictionary index number)) (λ place. block_part sections pieces place.0 place.1)

-- a block of these terms, or that no piece has its bytes
abbrev pub LendsBlock : List FilePiece → ℕ → List Term → Result Block SplitError → Type 0
LendsBlock pieces at terms (Ok b) = IsBlock b terms
LendsBlock pieces at terms (Err e) = IsMissing pieces at (length (area terms)) e

-- ---- a list

-- the positions of a term, where they are wanted
unfoldable pub places_part : Bool → Sections → List FilePiece → TermInfo → Result (List ℕ) SplitError
places_part wanted sections pieces info = if wanted then section_part Positions sections pieces info.positions info.positions_len else Ok []

-- a cursor over the list of a term
unfoldable pub cursor_in : Sections → List FilePiece → TermInfo → Bool → Result Walk SplitError
cursor_in sections pieces info positions =
    and_then (section_part Postings sections pieces info.postings info.postings_len)
    (λ lists. and_then (places_part positions sections pieces info) (λ places. Ok (over_of lists places info.docs positions)))

-- a cursor before these documents, or that no piece has the list's bytes or those of the positions that are wanted
abbrev pub LendsCursor : Sections → List FilePiece → TermInfo → Bool → List Posting → Result Cursor SplitError → Type 0
LendsCursor sections pieces info positions list (Ok c) = StandsBefore true c list []
LendsCursor sections pieces info positions list (Err e) =
    IsMissing pieces (start_of Postings sections + info.postings) info.postings_len e
    ⊎ ((positions ≡ true) × IsMissing pieces (start_of Positions sections + info.positions) info.positions_len e)

-- a cursor over the list of a term, without its positions
unfoldable pub documents_in : Sections → List FilePiece → TermInfo → Bool → Result Walk SplitError
documents_in sections pieces info counted =
    and_then (section_part Postings sections pieces info.postings info.postings_len) (λ lists. Ok (over_of lists [] info.docs counted))

-- a cursor before these documents that gives no positions, or that no piece has the list's bytes
abbrev pub LendsDocuments : Sections → List FilePiece → TermInfo → List Posting → Result Cursor SplitError → Type 0
LendsDocuments sections pieces info list (Ok c) = StandsBefore false c list []
LendsDocuments sections pieces info list (Err e) = IsMissing pieces (start_of Postings sections + info.postings) info.postings_len e

-- ---- a column

-- the column from a place of the section to another
unfoldable pub column_part : Kind → Sections → List FilePiece → ℕ → ℕ → Result ColumnParts SplitError
column_part kind sections pieces start end =
    if nat_lt end start then Err (BadSection 5)
    else and_then (section_part Columns sections pieces start (end - start)) (λ bytes. of_section 5 (column_at kind bytes >>= λ column. Ok column.0))

-- a column at a place that was found
abbrev pub column_there : Kind → Sections → List FilePiece → Option (ℕ × ℕ) → Result ColumnParts SplitError
column_there kind sections pieces (Some place) = column_part kind sections pieces place.0 place.1
column_there kind sections pieces None = Err (BadSection 6)

-- the column of a field with a number
unfoldable pub column_in : Kind → Sections → List FilePiece → List ℕ → Table → ℕ → Result ColumnParts SplitError
column_in kind sections pieces footer table number =
    and_then (of_section 6 (column_among table.count number sections.columns footer table.at)) (column_there kind sections pieces)

-- where the column of a field starts
abbrev pub start_of_column : ℕ → List ColumnStart → ℕ
start_of_column number [] = 0
start_of_column number (c ∷ cs) = if c.number == number then c.start else start_of_column number cs

-- where the next column starts, or behind the last one where the section ends
abbrev pub next_start : ℕ → List ColumnStart → ℕ
next_start size [] = size
next_start size (c ∷ cs) = c.start

-- how many bytes the column of a field has, in a section of so many
abbrev pub length_of_column : ℕ → ℕ → List ColumnStart → ℕ
length_of_column number size [] = 0
length_of_column number size (c ∷ cs) = if c.number == number then next_start size cs - c.start else length_of_column number size cs

-- ---- a view

-- the list of some documents stands in the sections where the numbers of a term say
pub record IsListAt (p : Parts) (info : TermInfo) (counted : Bool) (list : List Posting) : Type 0 where
  pub are_documents : AreDocuments counted list
  pub docs : info.docs ≡ length list
  pub postings_within : info.postings + info.postings_len ≤ length p.postings
  pub postings : take info.postings_len (drop info.postings p.postings) ≡ list_bytes counted list
  pub positions_within : info.positions + info.positions_len ≤ length p.positions
  pub positions : take info.positions_len (drop info.positions p.positions) ≡ position_bytes list

-- a column of these documents stands in its section from a place to another
pub record IsColumnAt (p : Parts) (kind : Kind) (rows : List ColumnRow) (start end : ℕ) : Type 0 where
  pub column : List ℕ
  pub is_column : IsColumn kind column rows
  pub end_is : end ≡ start + length column
  pub within : end ≤ length p.columns
  pub bytes_are : take (end - start) (drop start p.columns) ≡ column

-- the pieces and the footer are those of a split of these documents
pub record IsPartOf (v : PartView) (s : Schema) (documents : List Placed) (p : Parts) : Type 0 where
  pub is_split : IsSplitOf s documents p
  pub footer : IsFooterOf p v.footer
  pub pieces : ArePieces (file_bytes p) v.pieces

-- where the block with a number starts in the file
abbrev pub block_place : Parts → List Term → ℕ → ℕ
block_place p terms number = start_of Dictionary (sections_of p) + length (area (take (64 * number) terms))

-- a column of these documents, or that no piece has its bytes, so many from there on
abbrev pub LendsColumn : List FilePiece → ℕ → ℕ → List ColumnRow → Result Column SplitError → Type 0
LendsColumn pieces at len rows (Ok column) = IsOf column rows
LendsColumn pieces at len rows (Err e) = IsMissing pieces at len e

-- the same of a column that there is
abbrev pub LendsSome : List FilePiece → ℕ → ℕ → List ColumnRow → Result (Option Column) SplitError → Type 0
LendsSome pieces at len rows (Ok (Some column)) = IsOf column rows
LendsSome pieces at len rows (Ok None) = ⊥
LendsSome pieces at len rows (Err e) = IsMissing pieces at len e

-- what is lent of the column of a field that there may be: none of no fast field
abbrev pub LendsFast : List FilePiece → ℕ → ℕ → ℕ → List Placed → Option Field → Result (Option Column) SplitError → Type 0
LendsFast pieces at len number documents None result = result ≡ Ok None
LendsFast pieces at len number documents (Some f) result =
    ((f.fast ≡ false) → result ≡ Ok None) × ((f.fast ≡ true) → LendsSome pieces at len (column_rows number documents) result)

-- the column of a field of a schema, if it is a fast one
abbrev pub column_if : Option Field → Result ColumnParts SplitError → Result (Option ColumnParts) SplitError
column_if None read = Ok None
column_if (Some f) read = if f.fast then and_then read (λ column. Ok (Some column)) else Ok None

abbrev pub kind_or : Option Field → Kind
kind_or None = kinds.Bool
kind_or (Some f) = f.kind

unfoldable pub column_read : Schema → Sections → List FilePiece → List ℕ → Table → ℕ → Result (Option ColumnParts) SplitError
column_read s sections pieces footer table number = column_if (slice_get s.fields number) (column_in (kind_or (slice_get s.fields number)) sections pieces footer table number)

abbrev pub parts_of : Option Column → Option ColumnParts
parts_of None = None
parts_of (Some column) = Some (parts column)
