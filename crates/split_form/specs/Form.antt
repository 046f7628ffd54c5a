-- The file of documents.
use Rattle.std.specs.Prelude.{ℕ, ◌+◌, List, [], ◌∷◌, length, map}
use Rattle.std.specs.List.{flat_map}
use Rattle.doc_value.specs.declared.schema.Schema.{Schema}
use Rattle.term_dict.specs.Terms.{area}
use Rattle.split_bundle.specs.declared.placed.Placed.{Placed}
use Rattle.split_bundle.specs.declared.layout.ColumnStart.{ColumnStart}
use Rattle.split_bundle.specs.Columns.{FastField, fast_fields, column_rows}
use Rattle.split_bundle.specs.Documents.{documents_section}
use Rattle.split_bundle.specs.Files.{Parts, file_bytes}
use Rattle.split_bundle.specs.Keys.{keys_of}
use Rattle.split_bundle.specs.Lists.{list_of, places_in, terms_of}
use Rattle.split_bundle.specs.Splits.{names_of}
use Rattle.split_form.specs.Sorted.{sorted}
use Rattle.split_form.specs.Blocks.{index_of}
use Rattle.split_form.specs.Spelled.{column_bytes}

-- the partitions that have a document, rising
unfoldable pub partitions_of : List Placed → List (List ℕ)
partitions_of documents = sorted (names_of documents)

-- each key that a document says, as often as it says it
abbrev pub said_by : Schema → List Placed → List (List ℕ)
said_by s documents = flat_map (λ d. map (λ o. o.key) (keys_of s d.doc)) documents

-- the keys that some document says, rising
unfoldable pub keys_in : Schema → List Placed → List (List ℕ)
keys_in s documents = sorted (said_by s documents)

-- the column of a fast field
abbrev pub column_of : List Placed → FastField → List ℕ
column_of documents f = column_bytes f.field.kind (column_rows f.number documents)

-- the columns of fast fields, one behind the other
abbrev pub columns_of : List Placed → List FastField → List ℕ
columns_of documents fs = flat_map (column_of documents) fs

-- the numbers of fast fields, and where their columns start, the first at that start
abbrev pub starts_of : List Placed → ℕ → List FastField → List ColumnStart
starts_of documents start [] = []
starts_of documents start (f ∷ fs) = record { number = f.number; start = start } ∷ starts_of documents (start + length (column_of documents f)) fs

-- what the split of these documents is made of
unfoldable pub parts_of : Schema → List Placed → Parts
parts_of s documents = record {
  docs = length documents;
  documents = documents_section (partitions_of documents) documents;
  dictionary = area (terms_of s documents (keys_in s documents));
  postings = flat_map (list_of s documents) (keys_in s documents);
  positions = flat_map (places_in s documents) (keys_in s documents);
  columns = columns_of documents (fast_fields s);
  partitions = partitions_of documents;
  keys = keys_in s documents;
  index = index_of (terms_of s documents (keys_in s documents));
  column_starts = starts_of documents 0 (fast_fields s);
}

-- the file of these documents
unfoldable pub file_of : Schema → List Placed → List ℕ
file_of s documents = file_bytes (parts_of s documents)
