-- What a request is refused for, once it is read, is of its text.
use Rattle.std.proofs.Common.{ℕ, ◌&&◌, ◌||◌, Bool, true, false, not, List, [], ◌∷◌, Option, Some, None, Result, Ok, Err, is_some, if◌then◌else◌, option_and_then}
use Rattle.doc_value.specs.declared.schema.Field.{Field}
use Rattle.doc_value.specs.declared.schema.Schema.{Schema}
use Rattle.doc_value.specs.declared.facts.TimeRange.{TimeRange}
use Rattle.doc_value.specs.Documents.{number_of}
use Rattle.query_ast.specs.Sought.{Sought}
use Rattle.query_reader.specs.Resolve.{query_of}
use Rattle.query_reader.specs.declared.refusal.QueryError.{QueryError}
use Rattle.query_reader.specs.declared.refusal.QueryError.TheVariants as query_errors
use Rattle.agg_nested.specs.declared.request.NestedAgg.{NestedAgg}
use Rattle.agg_nested.specs.Checking.{first_refusal}
use Rattle.agg_model.specs.declared.agg_error.AggError.{AggError}
use Rattle.agg_model.specs.declared.agg_error.AggError.TheVariants as agg_errors
use Rattle.search_api.specs.Kinds.{◌>>=◌}
use Rattle.search_api.specs.Resolved.{known, has_text, text_number, text_numbers, searched, sort_of, narrow, counted_number, flat_of, flats_of, agg_of, aggs_of, is_fast, fast_sort, timed, query_or, query_in, unless_refused, checked, search_in, delete_in, resolved}
use Rattle.search_api.specs.declared.reply.Refusal.TheVariants as refusals
use Rattle.search_api.specs.declared.request.AskedAgg.{AskedAgg}
use Rattle.search_api.specs.declared.request.AskedFlat.{AskedFlat}
use Rattle.search_api.specs.declared.request.Request.{Request}
use Rattle.search_api.specs.declared.request.Request.TheVariants as requests
use Rattle.search_api.specs.declared.request.SearchRequest.{SearchRequest}
use Rattle.search_api.specs.declared.request.Selection.{Selection}
use Rattle.search_api.specs.declared.request.SortBy.{SortBy}
use Rattle.search_api.specs.declared.resolved.SortField.{SortField}
use Rattle.search_api.specs.declared.unanswered.Unanswered.{Unanswered}
use Rattle.search_api.specs.declared.unanswered.Unanswered.TheVariants.{Refused, Memory}
use Rattle.request_laws.specs.OfText.{OfText}

pub bind_of : {A B : Type 0} (r : Result A Unanswered) (k : A → Result B Unanswered) → OfText r → ((x : A) → OfText (k x)) → OfText (r >>= k)
bind_of (Ok x) k h more = more x
bind_of (Err (Refused refusal)) k h more = h
bind_of (Err (Memory e)) k h more = tt

-- ---- the fields

known_of : (path : List ℕ) (n : Option ℕ) → OfText (known path n)
known_of path None = tt
known_of path (Some n) = tt

text_if : (b : Bool) (n : ℕ) (path : List ℕ) → OfText (if b then Ok n else Err (Refused (refusals.UnknownField path)))
text_if true n path = tt
text_if false n path = tt

number_of_text : (fields : List Field) (path : List ℕ) → OfText (text_number fields path)
number_of_text fields path = bind_of (known path (number_of fields path)) _ (known_of path (number_of fields path)) (λ n. text_if (has_text fields n) n path)

numbers_of : (fields : List Field) (paths : List (List ℕ)) → OfText (text_numbers fields paths)
numbers_of fields [] = tt
numbers_of fields (path ∷ paths) =
    bind_of (text_number fields path) _ (number_of_text fields path) (λ n. bind_of (text_numbers fields paths) _ (numbers_of fields paths) (λ ns. tt))

searched_of : (fields : List Field) (defaults : List ℕ) (paths : Option (List (List ℕ))) → OfText (searched fields defaults paths)
searched_of fields defaults None = tt
searched_of fields defaults (Some paths) = numbers_of fields paths

sort_of_text : (fields : List Field) (sort : Option SortBy) → OfText (sort_of fields sort)
sort_of_text fields None = tt
sort_of_text fields (Some sort) = bind_of (known sort.path (number_of fields sort.path)) _ (known_of sort.path (number_of fields sort.path)) (λ n. tt)

counted_of : (fields : List Field) (path : List ℕ) → OfText (counted_number fields path)
counted_of fields path = known_of path (option_and_then narrow (number_of fields path))

flat_of_text : (fields : List Field) (asked : AskedFlat) → OfText (flat_of fields asked)
flat_of_text fields asked = bind_of (counted_number fields asked.path) _ (counted_of fields asked.path) (λ n. tt)

flats_of_text : (fields : List Field) (asked : List AskedFlat) → OfText (flats_of fields asked)
flats_of_text fields [] = tt
flats_of_text fields (asked ∷ rest) =
    bind_of (flat_of fields asked) _ (flat_of_text fields asked) (λ flat. bind_of (flats_of fields rest) _ (flats_of_text fields rest) (λ more. tt))

agg_of_text : (fields : List Field) (asked : AskedAgg) → OfText (agg_of fields asked)
agg_of_text fields asked =
    bind_of (counted_number fields asked.path) _ (counted_of fields asked.path) (λ n. bind_of (flats_of fields asked.nested) _ (flats_of_text fields asked.nested) (λ nested. tt))

aggs_of_text : (fields : List Field) (asked : List AskedAgg) → OfText (aggs_of fields asked)
aggs_of_text fields [] = tt
aggs_of_text fields (asked ∷ rest) =
    bind_of (agg_of fields asked) _ (agg_of_text fields asked) (λ agg. bind_of (aggs_of fields rest) _ (aggs_of_text fields rest) (λ more. tt))

fast_if : (b : Bool) (sort : SortField) (path : List ℕ) → OfText (if b then Ok (Some sort) else Err (Refused (refusals.NotFast path)))
fast_if true sort path = tt
fast_if false sort path = tt

fast_of : (fields : List Field) (asked : Option SortBy) (named : Option SortField) → OfText (fast_sort fields asked named)
fast_of fields (Some asked) (Some sort) = fast_if (is_fast fields sort.field) sort asked.path
fast_of fields (Some asked) None = tt
fast_of fields None named = tt

-- ---- times, query and aggregations

timed_if : (b : Bool) (times : TimeRange) → OfText (if b then Err (Refused refusals.NoTimestampField) else Ok times)
timed_if true times = tt
timed_if false times = tt

timed_of : (s : Schema) (times : TimeRange) → OfText (timed s times)
timed_of s times = timed_if ((is_some times.start || is_some times.end) && not (is_some s.timestamp)) times

query_or_of : (r : Result Sought QueryError) → OfText (query_or r)
query_or_of (Ok query) = tt
query_or_of (Err (query_errors.Syntax place)) = tt
query_or_of (Err (query_errors.UnknownField name)) = tt
query_or_of (Err (query_errors.BadValue place)) = tt
query_or_of (Err (query_errors.NoDefaultField place)) = tt
query_or_of (Err (query_errors.NoPositions place)) = tt
query_or_of (Err (query_errors.TooDeep place)) = tt
query_or_of (Err (query_errors.NotIndexed place)) = tt
query_or_of (Err (query_errors.Memory e)) = tt

refused_of : (aggs : List NestedAgg) (error : Option AggError) → OfText (unless_refused aggs error)
refused_of aggs None = tt
refused_of aggs (Some (agg_errors.NotFast field)) = tt
refused_of aggs (Some (agg_errors.BadInterval name)) = tt
refused_of aggs (Some (agg_errors.TooManyBuckets count)) = tt
refused_of aggs (Some (agg_errors.Memory e)) = tt

-- ---- a request

search_in_of : (s : Schema) (defaults : List ℕ) (x : SearchRequest) → OfText (search_in s defaults x)
unfolding search_in
search_in_of s defaults x =
    bind_of (searched s.fields defaults x.selection.fields) _ (searched_of s.fields defaults x.selection.fields) (λ numbers.
    bind_of (sort_of s.fields x.sort_by) _ (sort_of_text s.fields x.sort_by) (λ named.
    bind_of (aggs_of s.fields x.aggs) _ (aggs_of_text s.fields x.aggs) (λ aggs.
    bind_of (fast_sort s.fields x.sort_by named) _ (fast_of s.fields x.sort_by named) (λ sort.
    bind_of (timed s x.selection.times) _ (timed_of s x.selection.times) (λ times.
    bind_of (query_in s numbers x.selection.query) _ (query_or_of (query_of s numbers x.selection.query)) (λ query.
    bind_of (checked s aggs) _ (refused_of aggs (first_refusal s.fields aggs)) (λ aggs. tt)))))))

delete_in_of : (s : Schema) (defaults : List ℕ) (x : Selection) → OfText (delete_in s defaults x)
unfolding delete_in
delete_in_of s defaults x =
    bind_of (searched s.fields defaults x.fields) _ (searched_of s.fields defaults x.fields) (λ numbers.
    bind_of (timed s x.times) _ (timed_of s x.times) (λ times.
    bind_of (query_in s numbers x.query) _ (query_or_of (query_of s numbers x.query)) (λ query. tt)))

pub resolved_of : (s : Schema) (defaults : List ℕ) (request : Request) → OfText (resolved s defaults request)
resolved_of s defaults (requests.Search x) = bind_of (search_in s defaults x) _ (search_in_of s defaults x) (λ search. tt)
resolved_of s defaults (requests.Delete x) = bind_of (delete_in s defaults x) _ (delete_in_of s defaults x) (λ deletion. tt)
