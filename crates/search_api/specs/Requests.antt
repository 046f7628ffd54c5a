-- The request that a text is, or its first refusal.
use Rattle.std.specs.Prelude.{ℕ, ◌+◌, ◌==◌, nat_le, true, false, List, [], ◌∷◌, Option, Some, None, is_some, unwrap_or, option_map, codes, Result, Ok, Err, if◌then◌else◌}
use Rattle.std.specs.Str.{is_utf8}
use Rattle.serde_json.specs.Data.{Data}
use Rattle.serde_json.specs.Find.{as_str, as_object, get}
use Rattle.serde_json.specs.Read.{read}
use Rattle.search_api.specs.declared.request.Request.{Request}
use Rattle.search_api.specs.declared.request.Request.TheVariants as requests
use Rattle.search_api.specs.declared.request.SearchRequest.{SearchRequest}
use Rattle.search_api.specs.declared.request.Selection.{Selection}
use Rattle.search_api.specs.declared.request.SortBy.{SortBy}
use Rattle.search_api.specs.declared.request_error.RequestError.{RequestError}
use Rattle.search_api.specs.declared.request_error.RequestError.TheVariants.{NotJson, UnknownKey, WrongKind, TooManyHits, MissingKey}
use Rattle.search_api.specs.Keys.{unknown_key}
use Rattle.search_api.specs.Kinds.{◌>>=◌, second_of, count_of, paths_of, at, needed}
use Rattle.search_api.specs.Aggregations.{max_count, aggs_at}

-- which documents: the query's text, the fields of a clause without one, and the times
unfoldable pub selection_of : Data → Result Selection RequestError
selection_of d =
    needed (codes "query") as_str d >>= λ query.
    at (codes "search_field") paths_of d >>= λ fields.
    at (codes "start_timestamp") second_of d >>= λ start.
    at (codes "end_timestamp") second_of d >>= λ end.
    Ok (record { query = query; fields = fields; times = record { start = start; end = end } })

-- a path, or a minus sign and a path
abbrev pub sort_of : List ℕ → SortBy
sort_of [] = record { path = []; descending = false }
sort_of (c ∷ cs) = if c == 45 then record { path = cs; descending = true } else record { path = c ∷ cs; descending = false }

abbrev pub sort_at : Data → Result (Option SortBy) RequestError
sort_at d = at (codes "sort_by") as_str d >>= λ text. Ok (option_map sort_of text)

-- a search as it is written, however many hits it wants
unfoldable pub written_search : Data → Result SearchRequest RequestError
written_search d =
    selection_of d >>= λ selection.
    at (codes "start_offset") (count_of 0 max_count) d >>= λ offset.
    at (codes "max_hits") (count_of 0 max_count) d >>= λ hits.
    sort_at d >>= λ sort.
    aggs_at d >>= λ aggs.
    Ok (record { selection = selection; start_offset = unwrap_or offset 0; max_hits = unwrap_or hits 20; sort_by = sort; aggs = aggs })

abbrev pub max_wanted : ℕ
max_wanted = 10000

-- the hits that are passed over and those that are shown are at most so many
abbrev pub within_reach : SearchRequest → Result Request RequestError
within_reach s =
    if nat_le (s.start_offset + s.max_hits) max_wanted then Ok (requests.Search s) else Err (TooManyHits (s.start_offset + s.max_hits))

unfoldable pub search_of : Data → Result Request RequestError
search_of d = if is_some (as_object d) then (written_search d >>= within_reach) else Err (WrongKind (codes "search"))

unfoldable pub delete_of : Data → Result Request RequestError
delete_of d = if is_some (as_object d) then (selection_of d >>= λ s. Ok (requests.Delete s)) else Err (WrongKind (codes "delete"))

-- one of the two is asked
abbrev pub asked : Option Data → Option Data → Result Request RequestError
asked (Some delete) search = delete_of delete
asked None (Some search) = search_of search
asked None None = Err (MissingKey (codes "search"))

-- all unknown keys are refused before any value
abbrev pub with_known_keys : Option (List ℕ) → Data → Result Request RequestError
with_known_keys (Some key) d = Err (UnknownKey key)
with_known_keys None d = asked (get (codes "delete") d) (get (codes "search") d)

abbrev pub request_in : Option Data → Result Request RequestError
request_in None = Err NotJson
request_in (Some d) = if is_some (as_object d) then with_known_keys (unknown_key d) d else Err (WrongKind (codes "request"))

-- the JSON value of bytes
abbrev pub value_of : List ℕ → Option Data
value_of bytes = if is_utf8 bytes then read bytes else None

-- the request that these bytes are
abbrev pub request_of : List ℕ → Result Request RequestError
request_of bytes = request_in (value_of bytes)
