-- Which aggregations are refused.
use Rattle.std.specs.Prelude.{◌≡◌, ℕ, Bool, true, false, ◌&&◌, List, [], ◌∷◌, Option, Some, None, slice_get, if◌then◌else◌, pos, int_le, ◌≤ℤ◌}
use Rattle.std.specs.List.{All}
use Rattle.std.specs.Option.{option_or, option_and_then}
use Rattle.doc_value.specs.declared.schema.Field.{Field}
use Rattle.doc_value.specs.declared.schema.Kind.{Kind}
use Rattle.doc_value.specs.declared.schema.Kind.TheVariants as kinds
use Rattle.agg_model.specs.declared.agg_error.AggError.{AggError}
use Rattle.agg_model.specs.declared.agg_error.AggError.TheVariants as refusals
use Rattle.agg_model.specs.declared.request.Agg.{Agg}
use Rattle.agg_model.specs.declared.request.Agg.TheVariants.{Terms, Histogram}
use Rattle.agg_model.specs.declared.request.NamedAgg.{NamedAgg}

abbrev pub field_of : Agg → ℕ
field_of (Terms field size) = field
field_of (Histogram field interval offset least dated) = field

-- a dated histogram takes datetimes, another one numbers too
abbrev pub has_steps : Bool → Kind → Bool
has_steps dated kinds.Datetime = true
has_steps false kinds.I64 = true
has_steps false kinds.U64 = true
has_steps _ _ = false

-- the aggregation takes the field
abbrev pub takes : Agg → Field → Bool
takes (Terms field size) f = f.fast
takes (Histogram field interval offset least dated) f = f.fast && has_steps dated f.kind

-- its interval is at least 1
abbrev pub HasInterval : Agg → Type 0
HasInterval (Terms field size) = Unit {0}
HasInterval (Histogram field interval offset least dated) = pos 1 ≤ℤ interval

-- the same as a test
abbrev pub has_interval : Agg → Bool
has_interval (Terms field size) = true
has_interval (Histogram field interval offset least dated) = int_le (pos 1) interval

-- each interval of a request is at least 1
abbrev pub HaveIntervals : List NamedAgg → Type 0
HaveIntervals request = All (λ named. HasInterval named.agg) request

-- why an aggregation is refused over its field
abbrev pub refusal_over : NamedAgg → Field → Option AggError
refusal_over named f =
    if takes named.agg f then (if has_interval named.agg then None else Some (refusals.BadInterval named.name)) else Some (refusals.NotFast f.path)

abbrev pub refusal_of : List Field → NamedAgg → Option AggError
refusal_of fields named = option_and_then (refusal_over named) (slice_get fields (field_of named.agg))

-- the refusal of the first aggregation that is refused
abbrev pub first_refusal : List Field → List NamedAgg → Option AggError
first_refusal fields [] = None
first_refusal fields (named ∷ rest) = option_or (refusal_of fields named) (first_refusal fields rest)

-- an error is this refusal, or want of memory
abbrev pub IsGiven : Option AggError → AggError → Type 0
IsGiven r (refusals.Memory m) = Unit {0}
IsGiven r (refusals.NotFast field) = r ≡ Some (refusals.NotFast field)
IsGiven r (refusals.BadInterval name) = r ≡ Some (refusals.BadInterval name)
IsGiven r (refusals.TooManyBuckets count) = ⊥
