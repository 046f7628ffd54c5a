-- The documents that are kept, in the bytes of their splits.
use Rattle.std.specs.Prelude.{◌≡◌, ◌<◌, ℕ, List, [], ◌∷◌, ◌++◌, length, get_or, slice_get, Some, ⊤}
use Rattle.std.specs.List.{AllByRecursion}
use Rattle.split_bundle.specs.declared.placed.Placed.{Placed}
use Rattle.split_bundle.specs.Splits.{names_of}
use Rattle.split_build.specs.Bodies.{body_of}
use Rattle.split_build.specs.Members.{IsAmong}
use Rattle.split_merge.specs.declared.lent_documents.LentDocument.{LentDocument}
use Rattle.split_merge.specs.declared.lent_documents.LentDocuments.{LentDocuments}

-- the number of a document's partition is that of one of these
abbrev pub IsNumbered : List (List ℕ) → LentDocument → Type 0
IsNumbered places d = d.name < length places

-- documents, each behind the spelled place of its partition
abbrev pub in_bytes : List (List ℕ) → List LentDocument → List (List ℕ)
in_bytes places [] = []
in_bytes places (d ∷ ds) = (get_or places d.name [] ++ d.body.now) ∷ in_bytes places ds

-- of each document its partition's number among the names, and its bytes behind the place of the partition
abbrev pub AreLent : List (List ℕ) → List LentDocument → List Placed → Type 0
AreLent names [] [] = ⊤
AreLent names [] (d ∷ ds) = ⊥
AreLent names (b ∷ bs) [] = ⊥
AreLent names (b ∷ bs) (d ∷ ds) = (slice_get names b.name ≡ Some d.partition) × (b.body.now ≡ body_of d) × AreLent names bs ds

pub record HasLent (l : LentDocuments) (documents : List Placed) : Type 0 where
  pub lent : AreLent l.names.items l.documents.items documents
  pub names : AllByRecursion (IsAmong (names_of documents)) l.names.items
