-- What a request asks of a schema, or its first refusal.
use Rattle.std.specs.Prelude.{ℕ, ◌^◌, ◌&&◌, ◌||◌, not, nat_lt, Bool, false, List, [], ◌∷◌, map, slice_get, Option, Some, None, is_some, option_and_then, Result, Ok, Err, if◌then◌else◌}
use Rattle.std.specs.Option.{option_map_or}
use Rattle.doc_value.specs.declared.schema.Field.{Field}
use Rattle.doc_value.specs.declared.schema.Schema.{Schema}
use Rattle.doc_value.specs.declared.facts.TimeRange.{TimeRange}
use Rattle.doc_value.specs.Documents.{number_of}
use Rattle.query_ast.specs.Meaning.{is_text}
use Rattle.query_ast.specs.Sought.{Sought}
use Rattle.query_ast.specs.Sought as sought
use Rattle.query_reader.specs.declared.refusal.QueryError.{QueryError}
use Rattle.query_reader.specs.Resolve.{query_of}
use Rattle.agg_model.specs.declared.agg_error.AggError.{AggError}
use Rattle.agg_model.specs.declared.request.Agg.TheVariants as counted
use Rattle.agg_nested.specs.Checking.{first_refusal}
use Rattle.agg_nested.specs.declared.request.FlatAgg.{FlatAgg}
use Rattle.agg_nested.specs.declared.request.FlatAgg.TheVariants as flats
use Rattle.agg_nested.specs.declared.request.MetricKind.TheVariants as metrics
use Rattle.agg_nested.specs.declared.request.NamedFlat.{NamedFlat}
use Rattle.agg_nested.specs.declared.request.NestedAgg.{NestedAgg}
use Rattle.search_api.specs.declared.request.AggShape.{AggShape}
use Rattle.search_api.specs.declared.request.AggShape.TheVariants as shapes
use Rattle.search_api.specs.declared.request.AskedAgg.{AskedAgg}
use Rattle.search_api.specs.declared.request.AskedFlat.{AskedFlat}
use Rattle.search_api.specs.declared.request.Request.{Request}
use Rattle.search_api.specs.declared.request.Request.TheVariants as requests
use Rattle.search_api.specs.declared.request.SearchRequest.{SearchRequest}
use Rattle.search_api.specs.declared.request.Selection.{Selection}
use Rattle.search_api.specs.declared.request.SortBy.{SortBy}
use Rattle.search_api.specs.declared.reply.Refusal.TheVariants.{UnknownField, NotFast, NoTimestampField}
use Rattle.search_api.specs.declared.resolved.SortField.{SortField}
use Rattle.search_api.specs.declared.resolved.SearchAsk.{SearchAsk}
use Rattle.search_api.specs.declared.resolved.Deletion.{Deletion}
use Rattle.search_api.specs.declared.resolved.Resolved.{Resolved}
use Rattle.search_api.specs.declared.resolved.Resolved.TheVariants as given
use Rattle.search_api.specs.declared.unanswered.Unanswered.{Unanswered}
use Rattle.search_api.specs.declared.unanswered.Unanswered.TheVariants.{Refused}
use Rattle.search_api.specs.Kinds.{◌>>=◌}
use Rattle.search_api.specs.Unanswered.{of_query, of_aggs}

-- a search over a schema; the query without where it lies in memory
pub record Search : Type 0 where
  pub query : Sought
  pub times : TimeRange
  pub start_offset : ℕ
  pub max_hits : ℕ
  pub sort : Option SortField
  pub aggs : List NestedAgg

pub data Asked : Type 0 where
  IsSearch : Search → Asked
  IsDelete : Deletion → Asked

abbrev pub search_view : SearchAsk → Search
search_view s =
    record { query = sought.view s.query; times = s.times; start_offset = s.start_offset; max_hits = s.max_hits; sort = s.sort; aggs = s.aggs }

abbrev pub view : Resolved → Asked
view (given.Search s) = IsSearch (search_view s)
view (given.Delete d) = IsDelete d

-- ---- fields

abbrev pub known : List ℕ → Option ℕ → Result ℕ Unanswered
known path None = Err (Refused (UnknownField path))
known path (Some n) = Ok n

abbrev pub has_text : List Field → ℕ → Bool
has_text fields n = option_map_or (λ f. is_text f.kind) (slice_get fields n) false

abbrev pub is_fast : List Field → ℕ → Bool
is_fast fields n = option_map_or (λ f. f.fast) (slice_get fields n) false

-- a field without texts isn't searched by a clause without a field
abbrev pub text_number : List Field → List ℕ → Result ℕ Unanswered
text_number fields path = known path (number_of fields path) >>= λ n. (if has_text fields n then Ok n else Err (Refused (UnknownField path)))

abbrev pub text_numbers : List Field → List (List ℕ) → Result (List ℕ) Unanswered
text_numbers fields [] = Ok []
text_numbers fields (path ∷ paths) = text_number fields path >>= λ n. text_numbers fields paths >>= λ ns. Ok (n ∷ ns)

-- the fields that a clause without one asks: those that are given, or else the default fields
abbrev pub searched : List Field → List ℕ → Option (List (List ℕ)) → Result (List ℕ) Unanswered
searched fields defaults None = Ok defaults
searched fields defaults (Some paths) = text_numbers fields paths

abbrev pub sort_of : List Field → Option SortBy → Result (Option SortField) Unanswered
sort_of fields None = Ok None
sort_of fields (Some sort) = known sort.path (number_of fields sort.path) >>= λ n. Ok (Some (record { field = n; descending = sort.descending }))

-- an aggregation's field has a number below 2^32, as each of a schema has
abbrev pub narrow : ℕ → Option ℕ
narrow n = if nat_lt n (2 ^ 32) then Some n else None

abbrev pub flat_over : ℕ → AggShape → FlatAgg
flat_over n (shapes.Terms size) = flats.Counted (counted.Terms n size)
flat_over n (shapes.Histogram interval offset least dated) = flats.Counted (counted.Histogram n interval offset least dated)
flat_over n shapes.Min = flats.Metric metrics.Min n
flat_over n shapes.Max = flats.Metric metrics.Max n
flat_over n shapes.Sum = flats.Metric metrics.Sum n
flat_over n shapes.ValueCount = flats.Metric metrics.ValueCount n
flat_over n (shapes.Range ranges) = flats.Ranges n ranges

abbrev pub counted_number : List Field → List ℕ → Result ℕ Unanswered
counted_number fields path = known path (option_and_then narrow (number_of fields path))

abbrev pub flat_of : List Field → AskedFlat → Result NamedFlat Unanswered
flat_of fields asked = counted_number fields asked.path >>= λ n. Ok (record { name = asked.name; agg = flat_over n asked.shape })

abbrev pub flats_of : List Field → List AskedFlat → Result (List NamedFlat) Unanswered
flats_of fields [] = Ok []
flats_of fields (asked ∷ rest) = flat_of fields asked >>= λ flat. flats_of fields rest >>= λ more. Ok (flat ∷ more)

-- an aggregation's field, then those of its nested ones
abbrev pub agg_of : List Field → AskedAgg → Result NestedAgg Unanswered
agg_of fields asked =
    counted_number fields asked.path >>= λ n.
    flats_of fields asked.nested >>= λ nested.
    Ok (record { name = asked.name; agg = flat_over n asked.shape; nested = nested })

abbrev pub aggs_of : List Field → List AskedAgg → Result (List NestedAgg) Unanswered
aggs_of fields [] = Ok []
aggs_of fields (asked ∷ rest) = agg_of fields asked >>= λ agg. aggs_of fields rest >>= λ more. Ok (agg ∷ more)

-- ---- what the fields are to be

-- what is sorted by is fast
abbrev pub fast_sort : List Field → Option SortBy → Option SortField → Result (Option SortField) Unanswered
fast_sort fields (Some asked) (Some sort) = if is_fast fields sort.field then Ok (Some sort) else Err (Refused (NotFast asked.path))
fast_sort fields (Some asked) None = Ok None
fast_sort fields None sort = Ok sort

-- times need a timestamp field
abbrev pub timed : Schema → TimeRange → Result TimeRange Unanswered
timed schema times =
    if (is_some times.start || is_some times.end) && not (is_some schema.timestamp) then Err (Refused NoTimestampField) else Ok times

abbrev pub query_or : Result Sought QueryError → Result Sought Unanswered
query_or (Ok query) = Ok query
query_or (Err error) = Err (of_query error)

abbrev pub query_in : Schema → List ℕ → List ℕ → Result Sought Unanswered
query_in schema numbers text = query_or (query_of schema numbers text)

abbrev pub unless_refused : List NestedAgg → Option AggError → Result (List NestedAgg) Unanswered
unless_refused aggs None = Ok aggs
unless_refused aggs (Some error) = Err (of_aggs error)

abbrev pub checked : Schema → List NestedAgg → Result (List NestedAgg) Unanswered
checked schema aggs = unless_refused aggs (first_refusal schema.fields aggs)

-- ---- requests

-- in this order: the fields, a fast one to sort by, a timestamp field, the query, the aggregations
unfoldable pub search_in : Schema → List ℕ → SearchRequest → Result Search Unanswered
search_in schema defaults s =
    searched schema.fields defaults s.selection.fields >>= λ numbers.
    sort_of schema.fields s.sort_by >>= λ named.
    aggs_of schema.fields s.aggs >>= λ aggs.
    fast_sort schema.fields s.sort_by named >>= λ sort.
    timed schema s.selection.times >>= λ times.
    query_in schema numbers s.selection.query >>= λ query.
    checked schema aggs >>= λ aggs.
    Ok (record { query = query; times = times; start_offset = s.start_offset; max_hits = s.max_hits; sort = sort; aggs = aggs })

-- the path of a field; a number without a field has none
abbrev pub path_at : List Field → ℕ → List ℕ
path_at fields n = option_map_or (λ f. f.path) (slice_get fields n) []

abbrev pub searched_paths : List Field → List ℕ → Option (List (List ℕ)) → List (List ℕ)
searched_paths fields defaults None = map (path_at fields) defaults
searched_paths fields defaults (Some paths) = paths

unfoldable pub delete_in : Schema → List ℕ → Selection → Result Deletion Unanswered
delete_in schema defaults s =
    searched schema.fields defaults s.fields >>= λ numbers.
    timed schema s.times >>= λ times.
    query_in schema numbers s.query >>= λ query.
    Ok (record { text = s.query; fields = searched_paths schema.fields defaults s.fields; times = times })

-- a request over a schema with these default fields
abbrev pub resolved : Schema → List ℕ → Request → Result Asked Unanswered
resolved schema defaults (requests.Search s) = search_in schema defaults s >>= λ search. Ok (IsSearch search)
resolved schema defaults (requests.Delete s) = delete_in schema defaults s >>= λ deletion. Ok (IsDelete deletion)
