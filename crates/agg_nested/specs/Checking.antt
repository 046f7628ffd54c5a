-- Which aggregations are refused.
use Rattle.std.specs.Prelude.{◌≡◌, ℕ, ◌<◌, Bool, true, false, ◌&&◌, List, [], ◌∷◌, length, Option, Some, None, slice_get, if◌then◌else◌, int_lt}
use Rattle.std.specs.List.{All, list_all}
use Rattle.std.specs.Option.{option_or, option_and_then, option_map_or}
use Rattle.doc_value.specs.declared.schema.Field.{Field}
use Rattle.doc_value.specs.declared.schema.Schema.{Schema}
use Rattle.agg_model.specs.Checking as counted
use Rattle.agg_model.specs.declared.agg_error.AggError.{AggError}
use Rattle.agg_model.specs.declared.agg_error.AggError.TheVariants as refusals
use Rattle.agg_nested.specs.declared.request.FlatAgg.{FlatAgg}
use Rattle.agg_nested.specs.declared.request.FlatAgg.TheVariants.{Counted, Metric, Ranges}
use Rattle.agg_nested.specs.declared.request.MetricKind.TheVariants as kinds
use Rattle.agg_nested.specs.declared.request.NamedFlat.{NamedFlat}
use Rattle.agg_nested.specs.declared.request.NestedAgg.{NestedAgg}
use Rattle.agg_nested.specs.declared.request.WholeRange.{WholeRange}

abbrev pub field_of : FlatAgg → ℕ
field_of (Counted agg) = counted.field_of agg
field_of (Metric kind field) = field
field_of (Ranges field ranges) = field

-- a number of values takes any fast field, the other metrics and ranges those of whole numbers and datetimes
abbrev pub takes : FlatAgg → Field → Bool
takes (Counted agg) f = counted.takes agg f
takes (Metric kinds.ValueCount field) f = f.fast
takes (Metric kind field) f = f.fast && counted.has_steps false f.kind
takes (Ranges field ranges) f = f.fast && counted.has_steps false f.kind

-- its start lies below its end, where it has both
abbrev pub rises : WholeRange → Bool
rises r = option_map_or (λ from. option_map_or (int_lt from) r.to true) r.from true

-- its interval is at least 1, and each of its ranges rises
abbrev pub is_sound : FlatAgg → Bool
is_sound (Counted agg) = counted.has_interval agg
is_sound (Metric kind field) = true
is_sound (Ranges field ranges) = list_all rises ranges

-- why an aggregation of this name is refused over its field
abbrev pub refusal_over : List ℕ → FlatAgg → Field → Option AggError
refusal_over name agg f =
    if takes agg f then (if is_sound agg then None else Some (refusals.BadInterval name)) else Some (refusals.NotFast f.path)

abbrev pub refusal_of : List Field → List ℕ → FlatAgg → Option AggError
refusal_of fields name agg = option_and_then (refusal_over name agg) (slice_get fields (field_of agg))

-- the first refusal of any
abbrev pub first_of : {X : Type 0} → (X → Option AggError) → List X → Option AggError
first_of refusal [] = None
first_of refusal (x ∷ xs) = option_or (refusal x) (first_of refusal xs)

-- of nested aggregations
abbrev pub first_nested : List Field → List NamedFlat → Option AggError
first_nested fields nested = first_of (λ named. refusal_of fields named.name named.agg) nested

-- of an aggregation, before that of its nested ones
abbrev pub refusal_within : List Field → NestedAgg → Option AggError
refusal_within fields asked = option_or (refusal_of fields asked.name asked.agg) (first_nested fields asked.nested)

-- the refusal of the first aggregation that is refused, a nested one behind its parent
abbrev pub first_refusal : List Field → List NestedAgg → Option AggError
first_refusal fields request = first_of (refusal_within fields) request

-- the field of each aggregation is one of so many
abbrev pub HaveFields : ℕ → List NestedAgg → Type 0
HaveFields many request = All (λ asked. (field_of asked.agg < many) × All (λ named. field_of named.agg < many) asked.nested) request

-- the interval of a histogram is at least 1
abbrev pub HasStep : FlatAgg → Type 0
HasStep (Counted agg) = counted.HasInterval agg
HasStep (Metric kind field) = Unit {0}
HasStep (Ranges field ranges) = Unit {0}

-- that of each histogram of a request is
abbrev pub HaveSteps : List NestedAgg → Type 0
HaveSteps request = All (λ asked. HasStep asked.agg × All (λ named. HasStep named.agg) asked.nested) request

-- each aggregation is over one of the schema's fields, a nested one too, and none is refused
pub record CanCount (s : Schema) (aggs : List NestedAgg) : Type 0 where
  pub over : HaveFields (length s.fields) aggs
  pub none : first_refusal s.fields aggs ≡ None
