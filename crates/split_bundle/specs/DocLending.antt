-- What a split lends of its documents.
use Rattle.std.specs.Prelude.{◌≡◌, ℕ, ◌+◌, ◌*◌, List, length, take, Result, Ok, Err, ⊤, ◌⊎◌}
use Rattle.split_bundle.specs.declared.pieces.FilePiece.{FilePiece}
use Rattle.split_bundle.specs.declared.placed.Address.{Address}
use Rattle.split_bundle.specs.declared.placed.Placed.{Placed}
use Rattle.split_bundle.specs.declared.split_error.SplitError.{SplitError}
use Rattle.split_bundle.specs.declared.split_error.SplitError.TheVariants.{Memory, BadMagic, BadSection, BadVersion, Truncated}
use Rattle.split_bundle.specs.Documents.{each_in_bytes, joined}
use Rattle.split_bundle.specs.Files.{Parts}
use Rattle.split_bundle.specs.Lending.{IsMissing}

-- where the start of a document stands in the file, with the next one behind it
abbrev pub starts_place : ℕ → ℕ
starts_place number = 4 + 8 * number

-- where the bytes of a document stand in the file
abbrev pub doc_place : Parts → List Placed → ℕ → ℕ
doc_place p documents number = 4 + (8 * (length documents + 1) + length (joined (take number (each_in_bytes p.partitions documents))))

-- these bytes of a document, or that no piece has its start and the next one, or its bytes
abbrev pub LendsDoc : List FilePiece → ℕ → ℕ → List ℕ → Result (List ℕ) SplitError → Type 0
LendsDoc pieces starts at bytes (Ok found) = found ≡ bytes
LendsDoc pieces starts at bytes (Err e) = IsMissing pieces starts 16 e ⊎ IsMissing pieces at (length bytes) e

-- this place and so many bytes, or that no piece has the start of a document and the next one
abbrev pub LendsRange : List FilePiece → ℕ → ℕ → ℕ → Result (ℕ × ℕ) SplitError → Type 0
LendsRange pieces starts at len (Ok range) = (range.0 ≡ at) × (range.1 ≡ len)
LendsRange pieces starts at len (Err e) = IsMissing pieces starts 16 e

-- this document, or want of memory, or that no piece has its start and the next one, or its bytes
abbrev pub LendsPlaced : List FilePiece → ℕ → ℕ → ℕ → Placed → Result Placed SplitError → Type 0
LendsPlaced pieces starts at len d (Ok found) = found ≡ d
LendsPlaced pieces starts at len d (Err (Memory a)) = ⊤
LendsPlaced pieces starts at len d (Err BadMagic) = ⊥
LendsPlaced pieces starts at len d (Err (Truncated place)) = IsMissing pieces starts 16 (Truncated place) ⊎ IsMissing pieces at len (Truncated place)
LendsPlaced pieces starts at len d (Err (BadSection number)) = ⊥
LendsPlaced pieces starts at len d (Err (BadVersion number)) = ⊥

-- where this document's record stands, or that no piece has its start and the next one, or its bytes
abbrev pub LendsAddress : List FilePiece → ℕ → ℕ → ℕ → Placed → Result Address SplitError → Type 0
LendsAddress pieces starts at len d (Ok found) = (found.partition ≡ d.partition) × (found.offset ≡ d.offset)
LendsAddress pieces starts at len d (Err e) = IsMissing pieces starts 16 e ⊎ IsMissing pieces at len e
