-- Why there is no answer over a view of a split.
use Rattle.std.specs.Prelude.{◌≡◌, ℕ, ◌+◌, ◌⊎◌, List, None, Some, length, slice_get, Contains, Option, ⊤}
use Rattle.split_bundle.specs.declared.part_view.PartView.{PartView}
use Rattle.split_bundle.specs.declared.pieces.FilePiece.{FilePiece}
use Rattle.split_bundle.specs.declared.placed.Placed.{Placed}
use Rattle.split_bundle.specs.declared.split_error.SplitError.{SplitError}
use Rattle.split_bundle.specs.declared.split_error.SplitError.TheVariants.{Memory, BadMagic, BadSection, BadVersion, Truncated}
use Rattle.split_bundle.specs.DocLending.{starts_place, doc_place}
use Rattle.split_bundle.specs.Documents.{placed_bytes}
use Rattle.split_bundle.specs.Files.{Parts}
use Rattle.split_bundle.specs.Lending.{IsMissing, start_of_column, length_of_column}
use Rattle.split_bundle.specs.Pieces.{held_in}
use Rattle.split_bundle.specs.declared.layout.Sections.{Sections}
use Rattle.doc_tallies.specs.declared.hit_order.HitOrder.{HitOrder}
use Rattle.doc_tallies.specs.Near.{shown}
use Rattle.doc_tallies.specs.Orders.{sort_field}

-- want of memory, or a part that is asked for, by its start and its length, and that no piece has
abbrev pub LacksPart : (ℕ → ℕ → Type 0) → List FilePiece → SplitError → Type 0
LacksPart asked pieces (Memory a) = ⊤
LacksPart asked pieces BadMagic = ⊥
LacksPart asked pieces (Truncated at) = (len : ℕ) × asked at len × (held_in pieces at len ≡ None)
LacksPart asked pieces (BadSection number) = ⊥
LacksPart asked pieces (BadVersion number) = ⊥

-- where the section of columns starts in the file
abbrev pub columns_start : Sections → ℕ
columns_start s = 4 + s.documents + s.dictionary + s.postings + s.positions

-- the column of a field is asked for
pub record AsksColumn (v : PartView) (p : Parts) (number at len : ℕ) : Type 0 where
  pub at_is : at ≡ columns_start v.footer.layout.sections + start_of_column number p.column_starts
  pub len_is : len ≡ length_of_column number (length p.columns) p.column_starts

-- the column of a field that there may be is asked for
pub record AsksField (v : PartView) (p : Parts) (field : Option ℕ) (at len : ℕ) : Type 0 where
  pub number : ℕ
  pub is_field : field ≡ Some number
  pub column : AsksColumn v p number at len

-- where a document starts and the next one does, or its bytes, are asked for
abbrev pub AsksDocument : Parts → List Placed → ℕ → ℕ → ℕ → Type 0
AsksDocument p documents number at len =
    ((at ≡ starts_place number) × (len ≡ 16))
    ⊎ ((d : Placed) × (slice_get documents number ≡ Some d) × (at ≡ doc_place p documents number) × (len ≡ length (placed_bytes p.partitions d)))

-- that of one of some numbers
pub record AsksDocuments (p : Parts) (documents : List Placed) (numbers : List ℕ) (at len : ℕ) : Type 0 where
  pub number : ℕ
  pub among : Contains numbers number
  pub document : AsksDocument p documents number at len

-- the column by which hits are sorted, if they are sorted by one, or a document that may be shown of those of the numbers is asked for
abbrev pub AsksHits : PartView → Parts → List Placed → Option HitOrder → (wanted : ℕ) → (numbers : List ℕ) → ℕ → ℕ → Type 0
AsksHits v p documents order wanted numbers at len = AsksField v p (sort_field order) at len ⊎ AsksDocuments p documents (shown order wanted documents numbers) at len

-- no piece has where a document starts and the next one does, or its bytes
abbrev pub LacksDocument : List FilePiece → Parts → List Placed → ℕ → Placed → SplitError → Type 0
LacksDocument pieces p documents number d e =
    IsMissing pieces (starts_place number) 16 e ⊎ IsMissing pieces (doc_place p documents number) (length (placed_bytes p.partitions d)) e
