-- What a split answers to a request, over its list of documents: those that match are counted, the first of them in order are
-- given, and they are counted for the aggregations.
use Rattle.std.specs.Prelude.{◌≡◌, ℕ, ◌<◌, ◌⊎◌, Bool, false, ◌&&◌, List, length, filter}
use Rattle.doc_value.specs.declared.schema.Schema.{Schema}
use Rattle.doc_value.specs.declared.doc.DocField.{DocField}
use Rattle.doc_value.specs.declared.facts.TimeRange.{TimeRange}
use Rattle.query_ast.specs.Meaning.{meaning, within_times, is_unlimited}
use Rattle.query_ast.specs.Sought.{view}
use Rattle.agg_nested.specs.Checking.{CanCount}
use Rattle.query_ast.specs.Askable.{CanAsk}
use Rattle.agg_nested.specs.Buckets.{NestedStands}
use Rattle.split_bundle.specs.declared.placed.Placed.{Placed}
use Rattle.split_bundle.specs.declared.part_view.PartView.{PartView}
use Rattle.split_bundle.specs.Files.{Parts}
use Rattle.doc_tallies.specs.AggColumns.{AsksFields}
use Rattle.doc_tallies.specs.Causes.{AsksField, AsksHits}
use Rattle.doc_tallies.specs.Orders.{firsts, IsSortable}
use Rattle.doc_tallies.specs.Picked.{docs_of}
use Rattle.doc_sets.specs.Asking.{AsksBlocks, AsksLists}
use Rattle.doc_sets.specs.declared.dictionary_lookup.Lookup.{Lookup}
use Rattle.leaf_search.specs.Counts.{request_lookups}
use Rattle.leaf_search.specs.Numbers.{numbers_of}
use Rattle.leaf_search.specs.declared.request.LeafRequest.{LeafRequest}
use Rattle.leaf_search.specs.declared.request.LeafAnswer.{LeafAnswer}

-- a document matches the query and lies in the times
abbrev pub passes : Schema → LeafRequest → List DocField → Bool
passes s r doc = meaning s doc (view r.query) && within_times s r.times doc

-- the documents that do, in their order
abbrev pub found : Schema → LeafRequest → List Placed → List Placed
found s r documents = filter (λ d. passes s r d.doc) documents

-- their count, the first of them in the request's order, and a partial that stands for them
pub record IsAnswerOf (s : Schema) (r : LeafRequest) (documents : List Placed) (a : LeafAnswer) : Type 0 where
  pub count : a.count ≡ length (found s r documents)
  pub hits : a.hits ≡ firsts r.wanted r.order (found s r documents)
  pub partial : NestedStands r.aggs a.partial (docs_of (found s r documents))

-- a request that a split of the schema can answer: its query can be asked, hits are sorted by a fast field, and no aggregation
-- is refused
pub record IsAsked (s : Schema) (r : LeafRequest) : Type 0 where
  pub query : CanAsk s (view r.query)
  pub order : IsSortable s r.order
  pub aggs : CanCount s r.aggs

-- the column of the timestamp field is read only where the times have an edge
pub record AsksTimes (v : PartView) (p : Parts) (s : Schema) (times : TimeRange) (at len : ℕ) : Type 0 where
  pub limited : is_unlimited times.start times.end ≡ false
  pub asks : AsksField v p s.timestamp at len

-- hits are read only where some are wanted
pub record AsksWanted (v : PartView) (s : Schema) (documents : List Placed) (p : Parts) (r : LeafRequest) (at len : ℕ) : Type 0 where
  pub wanted : 0 < r.wanted
  pub asks : AsksHits v p documents r.order r.wanted (numbers_of (passes s r) documents) at len

-- what is asked for beside the blocks of the dictionary where these are looked up: their lists and columns, the columns of the
-- timestamp and of the aggregations, and what tells and shows the first hits
abbrev pub AsksBeside : PartView → Schema → List Placed → Parts → LeafRequest → List Lookup → ℕ → ℕ → Type 0
AsksBeside v s documents p r ls at len =
    AsksLists v s documents p ls at len ⊎ (AsksTimes v p s r.times at len ⊎ (AsksFields v p r.aggs at len ⊎ AsksWanted v s documents p r at len))

-- what is asked for where these are looked up
abbrev pub AsksWith : PartView → Schema → List Placed → Parts → LeafRequest → List Lookup → ℕ → ℕ → Type 0
AsksWith v s documents p r ls at len = AsksBlocks v s documents p ls at len ⊎ AsksBeside v s documents p r ls at len

-- what a request asks for
abbrev pub AsksLeaf : PartView → Schema → List Placed → Parts → LeafRequest → ℕ → ℕ → Type 0
AsksLeaf v s documents p r at len = AsksWith v s documents p r (request_lookups v.footer s r) at len
