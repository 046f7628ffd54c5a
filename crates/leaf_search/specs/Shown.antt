-- The documents that a request may show, and the ranges of a split file that only these need.
use Rattle.std.specs.Prelude.{◌≡◌, ℕ, ◌+◌, Bool, true, false, nat_le, ◌⊎◌, List, length, Some, slice_get, sum_by, Contains}
use Rattle.std.specs.Option.{option_map_or}
use Rattle.doc_value.specs.declared.schema.Schema.{Schema}
use Rattle.split_bundle.specs.declared.part_view.PartView.{PartView}
use Rattle.split_bundle.specs.declared.placed.Placed.{Placed}
use Rattle.split_bundle.specs.DocLending.{starts_place, doc_place}
use Rattle.split_bundle.specs.Documents.{placed_bytes}
use Rattle.split_bundle.specs.Files.{Parts}
use Rattle.doc_sets.specs.Asking.{AsksLists, AsksLookups}
use Rattle.doc_tallies.specs.Near.{shown}
use Rattle.leaf_search.specs.Answers.{AsksTimes, passes}
use Rattle.leaf_search.specs.Counts.{request_lookups}
use Rattle.leaf_search.specs.Needs.{NeedsColumns, NeedsDocuments, NeedsOrder}
use Rattle.leaf_search.specs.Numbers.{numbers_of}
use Rattle.leaf_search.specs.declared.request.LeafRequest.{LeafRequest}

-- the numbers of the documents that may be shown: of those that match, the ones with fewer than are wanted ahead of them by the order's
-- value; without an order all that match; and none where none are wanted
abbrev pub shown_of : Schema → LeafRequest → List Placed → List ℕ
shown_of s r documents = shown r.order r.wanted documents (numbers_of (passes s r) documents)

-- they are so few that each is named on its own: at most 256
abbrev pub are_few : Schema → LeafRequest → List Placed → Bool
are_few s r documents = nat_le (length (shown_of s r documents)) 256

-- these numbers are those of the few documents that may be shown
abbrev pub AreFew : Schema → LeafRequest → List Placed → List ℕ → Type 0
AreFew s r documents numbers = (are_few s r documents ≡ true) × (numbers ≡ shown_of s r documents)

-- a document's entry in the table of starts, with the next one
abbrev pub StartOf : ℕ → ℕ → ℕ → Type 0
StartOf number at len = (at ≡ starts_place number) × (len ≡ 16)

-- a document's bytes
abbrev pub BytesOf : Parts → List Placed → ℕ → ℕ → ℕ → Type 0
BytesOf p documents number at len =
    (d : Placed) × (slice_get documents number ≡ Some d) × (at ≡ doc_place p documents number) × (len ≡ length (placed_bytes p.partitions d))

-- this part of one of some numbers
pub record OfEach (part : ℕ → ℕ → ℕ → Type 0) (numbers : List ℕ) (at len : ℕ) : Type 0 where
  pub number : ℕ
  pub among : Contains numbers number
  pub is_part : part number at len

-- the lists and the columns
abbrev pub NeedsListed : PartView → Schema → List Placed → Parts → LeafRequest → ℕ → ℕ → Type 0
NeedsListed v s documents p r at len = AsksLists v s documents p (request_lookups v.footer s r) at len ⊎ NeedsColumns v s p r at len

-- what tells which documents may be shown: what the query looks up, and the columns of the times and of the order
abbrev pub TellsShown : PartView → Schema → List Placed → Parts → LeafRequest → ℕ → ℕ → Type 0
TellsShown v s documents p r at len =
    AsksLookups v s documents p (request_lookups v.footer s r) at len ⊎ (AsksTimes v p s r.times at len ⊎ NeedsOrder v p r at len)

-- where the documents that may be shown are few their entries in the table of starts, else the whole section of documents
abbrev pub NeedsStarts : PartView → Schema → List Placed → LeafRequest → ℕ → ℕ → Type 0
NeedsStarts v s documents r at len =
    ((are_few s r documents ≡ true) × OfEach StartOf (shown_of s r documents) at len) ⊎ ((are_few s r documents ≡ false) × NeedsDocuments v r at len)

-- where they are few their bytes
abbrev pub NeedsShown : Schema → List Placed → Parts → LeafRequest → ℕ → ℕ → Type 0
NeedsShown s documents p r at len = (are_few s r documents ≡ true) × OfEach (BytesOf p documents) (shown_of s r documents) at len

-- how many bytes a document has, with its entry in the table of starts
abbrev pub document_cost : Parts → List Placed → ℕ → ℕ
document_cost p documents number = 16 + option_map_or (λ d. length (placed_bytes p.partitions d)) (slice_get documents number) 0

-- those of the documents that may be shown
abbrev pub shown_cost : Schema → LeafRequest → List Placed → Parts → ℕ
shown_cost s r documents p = sum_by (document_cost p documents) (shown_of s r documents)
