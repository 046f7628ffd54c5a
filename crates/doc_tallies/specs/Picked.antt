-- The documents of some numbers.
use Rattle.std.specs.Prelude.{ℕ, ◌<◌, List, [], ◌∷◌, ◌++◌, map, slice_get}
use Rattle.std.specs.List.{All}
use Rattle.std.specs.Option.{option_to_list}
use Rattle.doc_value.specs.declared.doc.DocField.{DocField}
use Rattle.split_bundle.specs.declared.placed.Placed.{Placed}

-- the documents of these numbers, in order
abbrev pub picked : List ℕ → List Placed → List Placed
picked [] documents = []
picked (n ∷ ns) documents = option_to_list (slice_get documents n) ++ picked ns documents

-- what each of some documents says
abbrev pub docs_of : List Placed → List (List DocField)
docs_of documents = map (λ d. d.doc) documents

-- each number is below a count
abbrev pub AllBelow : ℕ → List ℕ → Type 0
AllBelow count numbers = All (λ n. n < count) numbers
