-- Which keys stand where in a request, and the first one that doesn't.
use Rattle.std.specs.Prelude.{ℕ, ◌||◌, ◌&&◌, not, Bool, List, [], ◌∷◌, Option, Some, None, is_some, codes, if◌then◌else◌}
use Rattle.std.specs.Str.{bytes_eq}
use Rattle.serde_json.specs.Data.{Data, Items, no_items, item, Members, no_members, member}
use Rattle.serde_json.specs.Find.{as_array, as_object, get}
use Rattle.search_api.specs.declared.keys.AggKind.{AggKind}
use Rattle.search_api.specs.declared.keys.AggKind.TheVariants as agg_kinds
use Rattle.search_api.specs.declared.keys.KeyPlace.{KeyPlace}
use Rattle.search_api.specs.declared.keys.KeyPlace.TheVariants as places

-- the keys of a delete, which a search has too
abbrev pub is_selection_key : List ℕ → Bool
is_selection_key k = bytes_eq k (codes "query") || bytes_eq k (codes "search_field") || bytes_eq k (codes "start_timestamp") || bytes_eq k (codes "end_timestamp")

abbrev pub is_search_key : List ℕ → Bool
is_search_key k = is_selection_key k || bytes_eq k (codes "start_offset") || bytes_eq k (codes "max_hits") || bytes_eq k (codes "sort_by") || bytes_eq k (codes "aggs")

abbrev pub key_of : AggKind → List ℕ
key_of agg_kinds.DateHistogram = codes "date_histogram"
key_of agg_kinds.Histogram = codes "histogram"
key_of agg_kinds.Max = codes "max"
key_of agg_kinds.Min = codes "min"
key_of agg_kinds.Range = codes "range"
key_of agg_kinds.Sum = codes "sum"
key_of agg_kinds.Terms = codes "terms"
key_of agg_kinds.ValueCount = codes "value_count"

-- the kinds of aggregations, in byte order of their keys
abbrev pub all_kinds : List AggKind
all_kinds =
    agg_kinds.DateHistogram ∷ agg_kinds.Histogram ∷ agg_kinds.Max ∷ agg_kinds.Min ∷ agg_kinds.Range ∷ agg_kinds.Sum ∷ agg_kinds.Terms
    ∷ agg_kinds.ValueCount ∷ []

abbrev pub is_bucket_key : List ℕ → Bool
is_bucket_key k = bytes_eq k (codes "terms") || bytes_eq k (codes "histogram") || bytes_eq k (codes "date_histogram") || bytes_eq k (codes "range")

abbrev pub is_metric_key : List ℕ → Bool
is_metric_key k = bytes_eq k (codes "min") || bytes_eq k (codes "max") || bytes_eq k (codes "sum") || bytes_eq k (codes "value_count")

abbrev pub is_kind_key : List ℕ → Bool
is_kind_key k = is_bucket_key k || is_metric_key k

-- those of an aggregation that has buckets
abbrev pub is_nesting_key : List ℕ → Bool
is_nesting_key k = is_kind_key k || bytes_eq k (codes "aggs")

abbrev pub is_terms_key : List ℕ → Bool
is_terms_key k = bytes_eq k (codes "field") || bytes_eq k (codes "size")

abbrev pub is_histogram_key : List ℕ → Bool
is_histogram_key k = bytes_eq k (codes "field") || bytes_eq k (codes "interval") || bytes_eq k (codes "offset") || bytes_eq k (codes "min_doc_count")

abbrev pub is_date_histogram_key : List ℕ → Bool
is_date_histogram_key k = bytes_eq k (codes "field") || bytes_eq k (codes "fixed_interval") || bytes_eq k (codes "offset") || bytes_eq k (codes "min_doc_count")

abbrev pub is_range_key : List ℕ → Bool
is_range_key k = bytes_eq k (codes "field") || bytes_eq k (codes "ranges")

abbrev pub is_key_in : AggKind → List ℕ → Bool
is_key_in agg_kinds.DateHistogram k = is_date_histogram_key k
is_key_in agg_kinds.Histogram k = is_histogram_key k
is_key_in agg_kinds.Max k = bytes_eq k (codes "field")
is_key_in agg_kinds.Min k = bytes_eq k (codes "field")
is_key_in agg_kinds.Range k = is_range_key k
is_key_in agg_kinds.Sum k = bytes_eq k (codes "field")
is_key_in agg_kinds.Terms k = is_terms_key k
is_key_in agg_kinds.ValueCount k = bytes_eq k (codes "field")

abbrev pub is_edge_key : List ℕ → Bool
is_edge_key k = bytes_eq k (codes "from") || bytes_eq k (codes "to")

abbrev pub is_known : KeyPlace → List ℕ → Bool
is_known places.AroundSearch k = bytes_eq k (codes "search")
is_known places.AroundDelete k = bytes_eq k (codes "delete")
is_known places.Search k = is_search_key k
is_known places.Delete k = is_selection_key k
is_known places.Aggregation k = is_kind_key k
is_known places.Nesting k = is_nesting_key k
is_known (places.Kind kind) k = is_key_in kind k
is_known places.Edges k = is_edge_key k

abbrev pub first_of : {A : Type 0} → Option A → Option A → Option A
first_of None later = later
first_of (Some x) later = Some x

-- the first of an object's keys that doesn't stand at its place; the members are in byte order of their keys
abbrev pub first_unknown : KeyPlace → Members → Option (List ℕ)
first_unknown place no_members = None
first_unknown place (member k d ms) = if is_known place k then first_unknown place ms else Some k

-- no value but an object has keys
abbrev pub unknown_among : KeyPlace → Option Members → Option (List ℕ)
unknown_among place None = None
unknown_among place (Some ms) = first_unknown place ms

abbrev pub unknown_in : KeyPlace → Data → Option (List ℕ)
unknown_in place d = unknown_among place (as_object d)

abbrev pub unknown_within : (Data → Option (List ℕ)) → Option Data → Option (List ℕ)
unknown_within unknown None = None
unknown_within unknown (Some d) = unknown d

abbrev pub unknown_in_items : Items → Option (List ℕ)
unknown_in_items no_items = None
unknown_in_items (item d ds) = first_of (unknown_in places.Edges d) (unknown_in_items ds)

abbrev pub unknown_among_items : Option Items → Option (List ℕ)
unknown_among_items None = None
unknown_among_items (Some ds) = unknown_in_items ds

abbrev pub unknown_in_ranges : Data → Option (List ℕ)
unknown_in_ranges d = unknown_among_items (as_array d)

-- a kind's own keys, then those of each of its ranges
unfoldable pub unknown_of : AggKind → Data → Option (List ℕ)
unknown_of kind d = first_of (unknown_in (places.Kind kind) d) (unknown_within unknown_in_ranges (get (codes "ranges") d))

abbrev pub unknown_in_kinds : List AggKind → Data → Option (List ℕ)
unknown_in_kinds [] d = None
unknown_in_kinds (kind ∷ kinds) d = first_of (unknown_within (unknown_of kind) (get (key_of kind) d)) (unknown_in_kinds kinds d)

-- an aggregation's own keys, then those of its kinds in byte order of the kinds
unfoldable pub unknown_in_flat : KeyPlace → Data → Option (List ℕ)
unknown_in_flat place d = first_of (unknown_in place d) (unknown_in_kinds all_kinds d)

abbrev pub has : List ℕ → Data → Bool
has key d = is_some (get key d)

-- a kind of buckets stands there and no metric, so that others may be nested
unfoldable pub is_nesting : Data → Bool
is_nesting d =
    (has (codes "terms") d || has (codes "histogram") d || has (codes "date_histogram") d || has (codes "range") d)
    && not (has (codes "min") d || has (codes "max") d || has (codes "sum") d || has (codes "value_count") d)

abbrev pub place_of : Data → KeyPlace
place_of d = if is_nesting d then places.Nesting else places.Aggregation

abbrev pub unknown_in_nested : Members → Option (List ℕ)
unknown_in_nested no_members = None
unknown_in_nested (member name d ms) = first_of (unknown_in_flat places.Aggregation d) (unknown_in_nested ms)

abbrev pub unknown_among_nested : Option Members → Option (List ℕ)
unknown_among_nested None = None
unknown_among_nested (Some ms) = unknown_in_nested ms

abbrev pub unknown_in_inner : Data → Option (List ℕ)
unknown_in_inner d = unknown_among_nested (as_object d)

-- an aggregation's own keys and those of its kinds, then those of its nested ones by their names
unfoldable pub unknown_in_agg : Data → Option (List ℕ)
unknown_in_agg d = first_of (unknown_in_flat (place_of d) d) (unknown_within unknown_in_inner (get (codes "aggs") d))

abbrev pub unknown_in_each : Members → Option (List ℕ)
unknown_in_each no_members = None
unknown_in_each (member name d ms) = first_of (unknown_in_agg d) (unknown_in_each ms)

abbrev pub unknown_among_aggs : Option Members → Option (List ℕ)
unknown_among_aggs None = None
unknown_among_aggs (Some ms) = unknown_in_each ms

unfoldable pub unknown_in_aggs : Data → Option (List ℕ)
unknown_in_aggs d = unknown_among_aggs (as_object d)

-- a search's own keys, then those of its aggregations by their names
unfoldable pub unknown_in_search : Data → Option (List ℕ)
unknown_in_search d = first_of (unknown_in places.Search d) (unknown_within unknown_in_aggs (get (codes "aggs") d))

-- the outer object's keys, then those within; where a delete stands, a search beside it is an unknown key
abbrev pub unknown_around : Data → Option Data → Option (List ℕ)
unknown_around d (Some asked) = first_of (unknown_in places.AroundDelete d) (unknown_in places.Delete asked)
unknown_around d None = first_of (unknown_in places.AroundSearch d) (unknown_within unknown_in_search (get (codes "search") d))

unfoldable pub unknown_key : Data → Option (List ℕ)
unknown_key d = unknown_around d (get (codes "delete") d)
