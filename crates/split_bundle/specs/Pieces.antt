-- Pieces of a file, and the parts of its sections in them.
use Rattle.std.specs.Prelude.{◌≡◌, ℕ, ◌+◌, ◌-◌, List, [], ◌∷◌, ◌++◌, length, take, drop, Option, Some, None, Result, Ok, Err, nat_lt, if◌then◌else◌}
use Rattle.std.specs.List.{AllByRecursion}
use Rattle.std.specs.Borrow.{Bor}
use Rattle.split_bundle.specs.declared.layout.Sections.{Sections}
use Rattle.split_bundle.specs.declared.pieces.FilePiece.{FilePiece}
use Rattle.split_bundle.specs.declared.pieces.Section.{Section}
use Rattle.split_bundle.specs.declared.pieces.Section.TheVariants.{Documents, Dictionary, Postings, Positions, Columns}
use Rattle.split_bundle.specs.declared.split_error.SplitError.{SplitError}
use Rattle.split_bundle.specs.declared.split_error.SplitError.TheVariants.{BadSection, Truncated}
use Rattle.split_bundle.specs.Files.{Parts}

-- what is lent, if anything is
abbrev pub Lent : Option (Bor (List ℕ)) → Option (List ℕ) → Type 0
Lent None None = Unit {0}
Lent (Some b) (Some bytes) = b.now ≡ bytes
Lent None (Some bytes) = ⊥
Lent (Some b) None = ⊥

-- so many bytes from a place of the file on, if the piece has them
abbrev pub part_in : FilePiece → ℕ → ℕ → Option (List ℕ)
part_in piece start len =
    if nat_lt start piece.start then None
    else if nat_lt (length piece.bytes.now) (start - piece.start) then None
    else if nat_lt (length piece.bytes.now - (start - piece.start)) len then None
    else Some (take len (drop (start - piece.start) piece.bytes.now))

abbrev pub or_else : Option (List ℕ) → Option (List ℕ) → Option (List ℕ)
or_else (Some bytes) other = Some bytes
or_else None other = other

-- the same of the first piece that has them
abbrev pub held_in : List FilePiece → ℕ → ℕ → Option (List ℕ)
held_in [] start len = None
held_in (p ∷ ps) start len = or_else (part_in p start len) (held_in ps start len)

-- the bytes from a place on, or that they are not there
abbrev pub held_or : ℕ → Option (List ℕ) → Result (List ℕ) SplitError
held_or at (Some bytes) = Ok bytes
held_or at None = Err (Truncated at)

-- ---- the sections

abbrev pub number_of : Section → ℕ
number_of Documents = 1
number_of Dictionary = 2
number_of Postings = 3
number_of Positions = 4
number_of Columns = 5

-- how many bytes a section has
abbrev pub size_of : Section → Sections → ℕ
size_of Documents s = s.documents
size_of Dictionary s = s.dictionary
size_of Postings s = s.postings
size_of Positions s = s.positions
size_of Columns s = s.columns

-- where a section starts in the file
abbrev pub start_of : Section → Sections → ℕ
start_of Documents s = 4
start_of Dictionary s = 4 + s.documents
start_of Postings s = 4 + s.documents + s.dictionary
start_of Positions s = 4 + s.documents + s.dictionary + s.postings
start_of Columns s = 4 + s.documents + s.dictionary + s.postings + s.positions

-- the bytes of a section
abbrev pub bytes_of : Section → Parts → List ℕ
bytes_of Documents p = p.documents
bytes_of Dictionary p = p.dictionary
bytes_of Postings p = p.postings
bytes_of Positions p = p.positions
bytes_of Columns p = p.columns

-- so many bytes of a section from a place in it on
unfoldable pub section_part : Section → Sections → List FilePiece → ℕ → ℕ → Result (List ℕ) SplitError
section_part section sections pieces from len =
    if nat_lt (size_of section sections) from then Err (BadSection (number_of section))
    else if nat_lt (size_of section sections - from) len then Err (BadSection (number_of section))
    else held_or (start_of section sections + from) (held_in pieces (start_of section sections + from) len)

-- the file has these bytes at that place
pub record IsPieceOf (file : List ℕ) (p : FilePiece) : Type 0 where
  pub before : List ℕ
  pub behind : List ℕ
  pub parts : file ≡ before ++ (p.bytes.now ++ behind)
  pub start : p.start ≡ length before

abbrev pub ArePieces : List ℕ → List FilePiece → Type 0
ArePieces file ps = AllByRecursion (IsPieceOf file) ps

-- these bytes, or that no piece has them, with the place where they start
abbrev pub LendsPart : List FilePiece → ℕ → List ℕ → Result (List ℕ) SplitError → Type 0
LendsPart pieces at bytes (Ok found) = found ≡ bytes
LendsPart pieces at bytes (Err e) = (e ≡ Truncated at) × (held_in pieces at (length bytes) ≡ None)
