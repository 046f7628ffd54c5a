-- Which ranges of a split file a request needs.
use Rattle.doc_sets.specs.declared.dictionary_lookup.Lookup.TheVariants.{Count, Documents, Places, Values, Walk}
use Rattle.doc_sets.specs.declared.dictionary_lookup.Lookup.{Lookup}
use Rattle.term_dict.specs.declared.term.TermInfo.{TermInfo}
use Rattle.doc_sets.specs.Reads.{Finds, ReadsWalk}
use Rattle.std.specs.Prelude.{◌≡◌, ◌≢◌, ℕ, ◌<◌, ◌⊎◌, List, map, None, [], ◌∷◌, Option, Ok}
use Rattle.std.specs.List.{AllByRecursion}
use Rattle.doc_value.specs.declared.schema.Schema.{Schema}
use Rattle.agg_nested.specs.Checking.{field_of}
use Rattle.agg_nested.specs.declared.request.NamedFlat.{NamedFlat}
use Rattle.split_bundle.specs.declared.part_view.PartView.{PartView}
use Rattle.split_bundle.specs.declared.pieces.FilePiece.{FilePiece}
use Rattle.split_bundle.specs.declared.placed.Placed.{Placed}
use Rattle.split_bundle.specs.Files.{Parts}
use Rattle.split_bundle.specs.Pieces.{held_in}
use Rattle.doc_sets.specs.Asking.{AsksBlocks, AsksLists}
use Rattle.doc_tallies.specs.AggColumns.{AsksFields}
use Rattle.doc_tallies.specs.Causes.{AsksField}
use Rattle.doc_tallies.specs.Orders.{sort_field}
use Rattle.leaf_search.specs.Answers.{AsksTimes}
use Rattle.leaf_search.specs.Counts.{request_lookups}
use Rattle.leaf_search.specs.declared.file_ranges.FileRange.{FileRange}
use Rattle.leaf_search.specs.declared.request.LeafRequest.{LeafRequest}

-- the blocks of the dictionary
abbrev pub NeedsBlocks : PartView → Schema → List Placed → Parts → LeafRequest → ℕ → ℕ → Type 0
NeedsBlocks v s documents p r at len = AsksBlocks v s documents p (request_lookups v.footer s r) at len

-- the column by which hits are sorted, where some are wanted
abbrev pub NeedsOrder : PartView → Parts → LeafRequest → ℕ → ℕ → Type 0
NeedsOrder v p r at len = (0 < r.wanted) × AsksField v p (sort_field r.order) at len

-- the whole section of documents, where hits are wanted
abbrev pub NeedsDocuments : PartView → LeafRequest → ℕ → ℕ → Type 0
NeedsDocuments v r at len = (0 < r.wanted) × (at ≡ 4) × (len ≡ v.footer.layout.sections.documents)

-- the fields of nested aggregations
abbrev pub fields_nested : List NamedFlat → List ℕ
fields_nested nested = map (λ named. field_of named.agg) nested

-- the columns of the timestamp, of the aggregations and of the order
abbrev pub NeedsColumns : PartView → Schema → Parts → LeafRequest → ℕ → ℕ → Type 0
NeedsColumns v s p r at len = AsksTimes v p s r.times at len ⊎ (AsksFields v p r.aggs at len ⊎ NeedsOrder v p r at len)

-- the lists and columns of what is looked up, the other columns, and the documents where hits are wanted
abbrev pub NeedsLists : PartView → Schema → List Placed → Parts → LeafRequest → ℕ → ℕ → Type 0
NeedsLists v s documents p r at len =
    AsksLists v s documents p (request_lookups v.footer s r) at len ⊎ (NeedsColumns v s p r at len ⊎ NeedsDocuments v r at len)

-- each range has a piece that holds it
abbrev pub AreHeld : List FilePiece → List FileRange → Type 0
AreHeld pieces rs = AllByRecursion (λ r. held_in pieces r.start r.len ≢ None) rs

-- each block that can have keys which begin so is read, and its terms up to the first one behind them
abbrev pub IsWalkFound : PartView → List ℕ → Type 0
IsWalkFound v prefix = ReadsWalk v (λ t. Ok []) prefix (Ok [])

-- the dictionary is read at the key of what is looked up, where its list is named, and of a walk at all its keys
abbrev pub IsFound : PartView → Lookup → Type 0
IsFound v (Count key) = Unit {0}
IsFound v (Documents key) = (found : Option TermInfo) × Finds v key (Ok found)
IsFound v (Places key) = (found : Option TermInfo) × Finds v key (Ok found)
IsFound v (Walk prefix wanted) = IsWalkFound v prefix
IsFound v (Values number range) = Unit {0}

abbrev pub AreFound : PartView → List Lookup → Type 0
AreFound v [] = Unit {0}
AreFound v (l ∷ ls) = IsFound v l × AreFound v ls
