-- Requests that only count the documents of one token.
use Rattle.std.specs.Prelude.{ℕ, ◌==◌, Bool, ◌&&◌, List, [], ◌∷◌, length, Option, None, slice_get, if◌then◌else◌}
use Rattle.std.specs.Option.{option_and_then, option_map_or}
use Rattle.doc_value.specs.declared.schema.Schema.{Schema}
use Rattle.query_ast.specs.Meaning.{is_unlimited}
use Rattle.query_ast.specs.Sought.{Sought, view}
use Rattle.query_ast.specs.Sought as sought
use Rattle.split_bundle.specs.declared.footer.Footer.{Footer}
use Rattle.doc_sets.specs.Texts.{one_token}
use Rattle.doc_sets.specs.declared.dictionary_lookup.Lookup.{Lookup}
use Rattle.doc_sets.specs.declared.dictionary_lookup.Lookup.TheVariants.{Count}
use Rattle.leaf_search.specs.Asks.{lookups_of}
use Rattle.leaf_search.specs.declared.request.LeafRequest.{LeafRequest}

-- the key of the token of a query that is one text of one token
abbrev pub one_key : Schema → Sought → Option (List ℕ)
one_key s (sought.Word n text) = option_and_then (λ f. one_token f n text) (slice_get s.fields n)
one_key s (sought.Quoted n text) = option_and_then (λ f. one_token f n text) (slice_get s.fields n)
one_key s sought.All = None
one_key s sought.Nothing = None
one_key s (sought.Prefix n text) = None
one_key s (sought.Exists n) = None
one_key s (sought.Range n low high) = None
one_key s (sought.AnyOf n items) = None
one_key s (sought.Not q) = None
one_key s (sought.And qs) = None
one_key s (sought.Or qs) = None

-- no hit is wanted, the times have no edge, and nothing is aggregated
abbrev pub only_counts : LeafRequest → Bool
only_counts r = (r.wanted == 0) && (is_unlimited r.times.start r.times.end && (length r.aggs == 0))

-- the key of which a request counts the documents, where it asks nothing else
abbrev pub counted_key : Schema → LeafRequest → Option (List ℕ)
counted_key s r = if only_counts r then one_key s (view r.query) else None

-- what a request looks up: of a key that is only counted how many documents have it
abbrev pub request_lookups : Footer → Schema → LeafRequest → List Lookup
request_lookups footer s r = option_map_or (λ key. Count key ∷ []) (counted_key s r) (lookups_of footer s (view r.query))

-- what is read to count the documents of a query: of one token its block alone
abbrev pub plain_lookups : Footer → Schema → Sought → List Lookup
plain_lookups footer s q = option_map_or (λ key. Count key ∷ []) (one_key s q) (lookups_of footer s q)

-- the same, where those of a NOT are counted as the others
abbrev pub count_lookups : Footer → Schema → Sought → List Lookup
count_lookups footer s (sought.Not q) = plain_lookups footer s q
count_lookups footer s sought.All = plain_lookups footer s sought.All
count_lookups footer s sought.Nothing = plain_lookups footer s sought.Nothing
count_lookups footer s (sought.Word n text) = plain_lookups footer s (sought.Word n text)
count_lookups footer s (sought.Quoted n text) = plain_lookups footer s (sought.Quoted n text)
count_lookups footer s (sought.Prefix n text) = plain_lookups footer s (sought.Prefix n text)
count_lookups footer s (sought.Exists n) = plain_lookups footer s (sought.Exists n)
count_lookups footer s (sought.Range n low high) = plain_lookups footer s (sought.Range n low high)
count_lookups footer s (sought.AnyOf n items) = plain_lookups footer s (sought.AnyOf n items)
count_lookups footer s (sought.And qs) = plain_lookups footer s (sought.And qs)
count_lookups footer s (sought.Or qs) = plain_lookups footer s (sought.Or qs)

-- what is read to answer a request by its query
abbrev pub evaluated_lookups : Footer → Schema → LeafRequest → List Lookup
evaluated_lookups footer s r = if only_counts r then count_lookups footer s (view r.query) else lookups_of footer s (view r.query)

-- what is read to answer a request: of a key that is only counted its block
abbrev pub read_lookups : Footer → Schema → LeafRequest → List Lookup
read_lookups footer s r = option_map_or (λ key. Count key ∷ []) (counted_key s r) (evaluated_lookups footer s r)
