-- The aggregations of a search, or the first refusal of one.
use Rattle.std.specs.Prelude.{ℕ, suc, nat_le, Bool, true, false, ◌&&◌, ◌||◌, List, [], ◌∷◌, filter, Option, Some, None, is_some, unwrap_or, ℤ, pos, codes, Result, Ok, Err, if◌then◌else◌}
use Rattle.std.specs.Str.{bytes_eq}
use Rattle.serde_json.specs.Data.{Data, Items, no_items, item, Members, no_members, member}
use Rattle.serde_json.specs.Find.{as_str, as_array, as_object, get}
use Rattle.agg_nested.specs.declared.request.WholeRange.{WholeRange}
use Rattle.search_api.specs.declared.keys.AggKind.{AggKind}
use Rattle.search_api.specs.declared.keys.AggKind.TheVariants as agg_kinds
use Rattle.search_api.specs.declared.request.AggShape.{AggShape}
use Rattle.search_api.specs.declared.request.AggShape.TheVariants as shapes
use Rattle.search_api.specs.declared.request.AggShape.TheVariants.{Terms, Histogram}
use Rattle.search_api.specs.declared.request.AskedAgg.{AskedAgg}
use Rattle.search_api.specs.declared.request.AskedFlat.{AskedFlat}
use Rattle.search_api.specs.declared.request_error.RequestError.{RequestError}
use Rattle.search_api.specs.declared.request_error.RequestError.TheVariants.{WrongKind, MissingKey}
use Rattle.search_api.specs.Intervals.{seconds_of, signed_seconds}
use Rattle.search_api.specs.Keys.{all_kinds, has, key_of}
use Rattle.search_api.specs.Kinds.{◌>>=◌, whole_of, count_of, at, needed}

abbrev pub max_aggs : ℕ
max_aggs = 16

abbrev pub max_ranges : ℕ
max_ranges = 1000

abbrev pub max_count : ℕ
max_count = 4294967295

-- at most so many buckets, 10 where none is given
unfoldable pub terms_shape : Data → Result AggShape RequestError
terms_shape d = at (codes "size") (count_of 1 65000) d >>= λ size. Ok (Terms (unwrap_or size 10))

unfoldable pub histogram_shape : Data → Result AggShape RequestError
histogram_shape d =
    needed (codes "interval") whole_of d >>= λ interval.
    at (codes "offset") whole_of d >>= λ offset.
    at (codes "min_doc_count") (count_of 0 max_count) d >>= λ least.
    Ok (Histogram interval (unwrap_or offset (pos 0)) (unwrap_or least 0) false)

abbrev pub offset_of : Option (List ℕ) → Option ℤ
offset_of None = Some (pos 0)
offset_of (Some text) = signed_seconds text

-- where a text is of another form, the interval is 0
abbrev pub dated_by : Option ℕ → Option ℤ → ℕ → AggShape
dated_by (Some seconds) (Some offset) least = Histogram (pos seconds) offset least true
dated_by (Some seconds) None least = Histogram (pos 0) (pos 0) least true
dated_by None offset least = Histogram (pos 0) (pos 0) least true

abbrev pub dated_shape : List ℕ → Option (List ℕ) → ℕ → AggShape
dated_shape interval offset least = dated_by (seconds_of interval) (offset_of offset) least

unfoldable pub date_histogram_shape : Data → Result AggShape RequestError
date_histogram_shape d =
    needed (codes "fixed_interval") as_str d >>= λ interval.
    at (codes "offset") as_str d >>= λ offset.
    at (codes "min_doc_count") (count_of 0 max_count) d >>= λ least.
    Ok (dated_shape interval offset (unwrap_or least 0))

-- a range has an edge at least
abbrev pub edged : Option ℤ → Option ℤ → Result WholeRange RequestError
edged None None = Err (WrongKind (codes "ranges"))
edged (Some from) to = Ok (record { from = Some from; to = to })
edged None (Some to) = Ok (record { from = None; to = Some to })

-- a member that is no object has none
unfoldable pub range_of : Data → Result WholeRange RequestError
range_of d = at (codes "from") whole_of d >>= λ from. at (codes "to") whole_of d >>= λ to. edged from to

abbrev pub ranges_of : Items → Result (List WholeRange) RequestError
ranges_of no_items = Ok []
ranges_of (item d ds) = range_of d >>= λ range. ranges_of ds >>= λ more. Ok (range ∷ more)

abbrev pub count_items : Items → ℕ
count_items no_items = 0
count_items (item d ds) = suc (count_items ds)

-- a list of at least one range and not too many
abbrev pub few_ranges : Option Items → Result (List WholeRange) RequestError
few_ranges None = Err (WrongKind (codes "ranges"))
few_ranges (Some ds) =
    if nat_le 1 (count_items ds) && nat_le (count_items ds) max_ranges then ranges_of ds else Err (WrongKind (codes "ranges"))

abbrev pub ranges_in : Option Data → Result (List WholeRange) RequestError
ranges_in None = Err (MissingKey (codes "ranges"))
ranges_in (Some d) = few_ranges (as_array d)

unfoldable pub range_shape : Data → Result AggShape RequestError
range_shape d = ranges_in (get (codes "ranges") d) >>= λ ranges. Ok (shapes.Range ranges)

abbrev pub shape_of : AggKind → Data → Result AggShape RequestError
shape_of agg_kinds.DateHistogram d = date_histogram_shape d
shape_of agg_kinds.Histogram d = histogram_shape d
shape_of agg_kinds.Max d = Ok shapes.Max
shape_of agg_kinds.Min d = Ok shapes.Min
shape_of agg_kinds.Range d = range_shape d
shape_of agg_kinds.Sum d = Ok shapes.Sum
shape_of agg_kinds.Terms d = terms_shape d
shape_of agg_kinds.ValueCount d = Ok shapes.ValueCount

-- a kind's value: its field, and then its other keys
abbrev pub with_field : List ℕ → AggKind → Data → Result AskedFlat RequestError
with_field name kind d =
    needed (codes "field") as_str d >>= λ path.
    shape_of kind d >>= λ shape.
    Ok (record { name = name; path = path; shape = shape })

abbrev pub kind_of : List ℕ → AggKind → Data → Result AskedFlat RequestError
kind_of name kind d = if is_some (as_object d) then with_field name kind d else Err (WrongKind name)

abbrev pub of_kind_at : List ℕ → AggKind → Option Data → Result AskedFlat RequestError
of_kind_at name kind None = Err (WrongKind name)
of_kind_at name kind (Some d) = kind_of name kind d

-- the only member of a list
abbrev pub alone : {A : Type 0} → List A → Option A
alone [] = None
alone (x ∷ []) = Some x
alone (x ∷ y ∷ ys) = None

-- an aggregation has one kind
abbrev pub of_only : List ℕ → Option AggKind → Data → Result AskedFlat RequestError
of_only name None d = Err (WrongKind name)
of_only name (Some kind) d = of_kind_at name kind (get (key_of kind) d)

-- an aggregation without its nested ones
unfoldable pub flat_of : List ℕ → Data → Result AskedFlat RequestError
flat_of name d = of_only name (alone (filter (λ kind. has (key_of kind) d) all_kinds)) d

-- each member by its name
abbrev pub each_of : {A : Type 0} → (List ℕ → Data → Result A RequestError) → Members → Result (List A) RequestError
each_of agg no_members = Ok []
each_of agg (member name d ms) = agg name d >>= λ first. each_of agg ms >>= λ more. Ok (first ∷ more)

abbrev pub count_members : Members → ℕ
count_members no_members = 0
count_members (member name d ms) = suc (count_members ms)

abbrev pub few_aggs : {A : Type 0} → (List ℕ → Data → Result A RequestError) → Option Members → Result (List A) RequestError
few_aggs agg None = Err (WrongKind (codes "aggs"))
few_aggs agg (Some ms) = if nat_le (count_members ms) max_aggs then each_of agg ms else Err (WrongKind (codes "aggs"))

abbrev pub aggs_in : {A : Type 0} → (List ℕ → Data → Result A RequestError) → Option Data → Result (List A) RequestError
aggs_in agg None = Ok []
aggs_in agg (Some d) = few_aggs agg (as_object d)

-- a bucket has these keys itself
abbrev pub is_own_key : List ℕ → Bool
is_own_key k = bytes_eq k (codes "doc_count") || bytes_eq k (codes "from") || bytes_eq k (codes "key") || bytes_eq k (codes "to")

unfoldable pub nested_of : List ℕ → Data → Result AskedFlat RequestError
nested_of name d = if is_own_key name then Err (WrongKind name) else flat_of name d

abbrev pub nesting : AskedFlat → List AskedFlat → AskedAgg
nesting flat nested = record { name = flat.name; path = flat.path; shape = flat.shape; nested = nested }

-- an aggregation, then those that are nested in it
unfoldable pub agg_of : List ℕ → Data → Result AskedAgg RequestError
agg_of name d = flat_of name d >>= λ flat. aggs_in nested_of (get (codes "aggs") d) >>= λ nested. Ok (nesting flat nested)

unfoldable pub aggs_at : Data → Result (List AskedAgg) RequestError
aggs_at d = aggs_in agg_of (get (codes "aggs") d)
