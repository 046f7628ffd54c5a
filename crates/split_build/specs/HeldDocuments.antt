-- The documents taken so far, in bytes.
use Rattle.std.specs.Prelude.{◌≡◌, ℕ, List, [], ◌∷◌, length, slice_get, Some, ⊤}
use Rattle.std.specs.List.{AllByRecursion, flat_map}
use Rattle.std.specs.Ordering.{nat_cmp, match_ordering}
use Rattle.std.specs.Cmp.Lexicographic.{slice_cmp}
use Rattle.split_bundle.specs.declared.placed.Placed.{Placed}
use Rattle.split_bundle.specs.Splits.{names_of}
use Rattle.split_build.specs.declared.documents.Piece.{Piece}
use Rattle.split_build.specs.declared.documents.DocumentLog.{DocumentLog}
use Rattle.split_build.specs.Bodies.{body_of}
use Rattle.split_build.specs.Members.{IsAmong}

-- of each document its partition's number among the names, and its length
abbrev pub ArePieces : List (List ℕ) → List Piece → List Placed → Type 0
ArePieces names [] [] = ⊤
ArePieces names [] (d ∷ ds) = ⊥
ArePieces names (b ∷ bs) [] = ⊥
ArePieces names (b ∷ bs) (d ∷ ds) = (slice_get names b.name ≡ Some d.partition) × (b.len ≡ length (body_of d)) × ArePieces names bs ds

-- these are the names of the partitions of documents
pub record AreNamesOf (documents : List Placed) (names : List (List ℕ)) : Type 0 where
  pub known : AllByRecursion (IsAmong (names_of documents)) names
  pub all : AllByRecursion (IsAmong names) (names_of documents)

pub record HasDocuments (l : DocumentLog) (documents : List Placed) : Type 0 where
  pub bodies : l.bodies.items ≡ flat_map body_of documents
  pub pieces : ArePieces l.names.items l.pieces.items documents
  pub names : AllByRecursion (IsAmong (names_of documents)) l.names.items

-- a name at its place in the order of bytes, once
abbrev pub with_name : List ℕ → List (List ℕ) → List (List ℕ)
with_name name [] = name ∷ []
with_name name (other ∷ names) =
    match_ordering (slice_cmp nat_cmp name other) (name ∷ other ∷ names) (other ∷ names) (other ∷ with_name name names)

-- so many names put in order, one after the other
abbrev pub with_names : List (List ℕ) → List (List ℕ) → List (List ℕ)
with_names sorted [] = sorted
with_names sorted (name ∷ names) = with_names (with_name name sorted) names
