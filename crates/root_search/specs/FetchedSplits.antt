-- What is kept of a split file: its footer, and the ranges that a request needs.
use Rattle.std.specs.Prelude.{◌≡◌, ◌≢◌, ℕ, ◌+◌, ◌-◌, ◌≤◌, List, [], ◌++◌, length, map, take, drop, min, Option, None}
use Rattle.std.specs.List.{AllZip}
use Rattle.std.specs.Option.{IfSome}
use Rattle.doc_value.specs.declared.schema.Schema.{Schema}
use Rattle.leaf_search.specs.FileRanges.{AreRangesOf}
use Rattle.leaf_search.specs.Needs.{NeedsBlocks}
use Rattle.leaf_search.specs.Shown.{NeedsListed, NeedsShown, NeedsStarts}
use Rattle.leaf_search.specs.declared.file_ranges.FileRange.{FileRange}
use Rattle.leaf_search.specs.declared.request.LeafRequest.{LeafRequest}
use Rattle.split_bundle.specs.Files.{Parts, file_bytes, footer_bytes}
use Rattle.split_bundle.specs.Pieces.{held_in}
use Rattle.split_bundle.specs.Splits.{IsSplitOf}
use Rattle.split_bundle.specs.Views.{IsFooterOf}
use Rattle.split_bundle.specs.declared.footer.Footer.{Footer}
use Rattle.split_bundle.specs.declared.part_view.PartView.{PartView}
use Rattle.split_bundle.specs.declared.pieces.FilePiece.{FilePiece}
use Rattle.split_bundle.specs.declared.placed.Placed.{Placed}
use Rattle.root_search.specs.declared.fetched_splits.FetchedPieces.{FetchedPieces}
use Rattle.root_search.specs.declared.fetched_splits.FetchedSplit.{FetchedSplit}
use Rattle.root_search.specs.declared.fetched_splits.KeptPiece.{KeptPiece}

-- so many bytes of a file from a place on, as far as it has them
abbrev pub piece_at : List ℕ → FileRange → KeptPiece
piece_at file r = record { start = min r.start (length file); bytes = take r.len (drop r.start file) }

abbrev pub pieces_at : List ℕ → List FileRange → List KeptPiece
pieces_at file rs = map (piece_at file) rs

-- the view of a footer without pieces
abbrev pub over : Footer → PartView
over footer = record { footer = footer; pieces = [] }

-- what is kept is what the request needs of the split of these documents: the footer, and exactly the ranges that it needs
pub record HasNeeded (s : Schema) (r : LeafRequest) (part : FetchedSplit) (documents : List Placed) : Type 0 where
  pub parts : Parts
  pub is_split : IsSplitOf s documents parts
  pub footer : IsFooterOf parts part.footer
  pub blocks : List FileRange
  pub listed : List FileRange
  pub starts : List FileRange
  pub shown : List FileRange
  pub are_blocks : AreRangesOf (NeedsBlocks (over part.footer) s documents parts r) blocks
  pub are_listed : AreRangesOf (NeedsListed (over part.footer) s documents parts r) listed
  pub are_starts : AreRangesOf (NeedsStarts (over part.footer) s documents r) starts
  pub are_shown : AreRangesOf (NeedsShown s documents parts r) shown
  pub pieces : part.pieces ≡ pieces_at (file_bytes parts) ((blocks ++ listed) ++ (starts ++ shown))

-- the blocks that the request needs are kept
pub record HoldsBlocks (s : Schema) (r : LeafRequest) (documents : List Placed) (p : Parts) (footer : Footer) (kept : List KeptPiece) : Type 0 where
  pub blocks : List FileRange
  pub are_blocks : AreRangesOf (NeedsBlocks (over footer) s documents p r) blocks
  pub pieces : kept ≡ pieces_at (file_bytes p) blocks

-- the lists and the columns too
pub record HoldsListed (s : Schema) (r : LeafRequest) (documents : List Placed) (p : Parts) (footer : Footer) (kept : List KeptPiece) : Type 0 where
  pub blocks : List FileRange
  pub listed : List FileRange
  pub are_blocks : AreRangesOf (NeedsBlocks (over footer) s documents p r) blocks
  pub are_listed : AreRangesOf (NeedsListed (over footer) s documents p r) listed
  pub pieces : kept ≡ pieces_at (file_bytes p) (blocks ++ listed)

-- among what is kept are the starts of the documents that may be shown, where these are few
pub record HoldsStarts (s : Schema) (r : LeafRequest) (documents : List Placed) (p : Parts) (footer : Footer) (kept : List KeptPiece) : Type 0 where
  pub before : List FileRange
  pub starts : List FileRange
  pub are_starts : AreRangesOf (NeedsStarts (over footer) s documents r) starts
  pub pieces : kept ≡ pieces_at (file_bytes p) (before ++ starts)

-- a view lends what is kept
pub record IsLentOf (kept : KeptPiece) (piece : FilePiece) : Type 0 where
  pub start : piece.start ≡ kept.start
  pub bytes : piece.bytes.now ≡ kept.bytes

-- and a view lends all that is kept of a split beside its footer
abbrev pub IsLentBy : FetchedPieces → PartView → Type 0
IsLentBy split view = AllZip IsLentOf split.pieces view.pieces

-- the pieces of a view have each part of the section of documents
abbrev pub HasDocuments : PartView → Type 0
HasDocuments v = (at len : ℕ) → 4 ≤ at → at + len ≤ 4 + v.footer.layout.sections.documents → held_in v.pieces at len ≢ None

-- what is kept beside its footer
abbrev pub beside_footer : FetchedSplit → FetchedPieces
beside_footer part = record { number = part.number; pieces = part.pieces }

-- the footers of parts, and what is kept beside them
abbrev pub IsParted : List FetchedSplit → List Footer → List FetchedPieces → Type 0
IsParted parts footers splits = (footers ≡ map (λ part. part.footer) parts) × (splits ≡ map beside_footer parts)

-- ---- footers of files

-- the bytes are the split of some documents
pub record IsFile (bytes : List ℕ) : Type 0 where
  pub schema : Schema
  pub documents : List Placed
  pub parts : Parts
  pub is_split : IsSplitOf schema documents parts
  pub bytes_are : bytes ≡ file_bytes parts

-- of whatever documents the bytes are the split, this is its footer
abbrev pub IsFooterIn : List ℕ → Footer → Type 0
IsFooterIn bytes footer = (s : Schema) (documents : List Placed) (p : Parts) → IsSplitOf s documents p → bytes ≡ file_bytes p → IsFooterOf p footer

-- and here its footer starts
abbrev pub StartsFooter : List ℕ → ℕ → Type 0
StartsFooter bytes start = (s : Schema) (documents : List Placed) (p : Parts) → IsSplitOf s documents p → bytes ≡ file_bytes p → start ≡ length bytes - 12 - length (footer_bytes p)

-- a footer that is known is the file's
abbrev pub IsKnown : List ℕ → Option Footer → Type 0
IsKnown bytes known = IfSome known (IsFooterIn bytes)
