-- Requests of which each histogram's interval is at least 1.
use Rattle.std.specs.Prelude.{Bool, true, ◌&&◌, List}
use Rattle.std.specs.List.{list_all}
use Rattle.agg_model.specs.Checking.{has_interval}
use Rattle.agg_nested.specs.declared.request.FlatAgg.{FlatAgg}
use Rattle.agg_nested.specs.declared.request.FlatAgg.TheVariants.{Counted, Metric, Ranges}
use Rattle.agg_nested.specs.declared.request.NestedAgg.{NestedAgg}

abbrev pub has_step : FlatAgg → Bool
has_step (Counted agg) = has_interval agg
has_step (Metric kind field) = true
has_step (Ranges field ranges) = true

-- that of each aggregation, and of each nested one
abbrev pub have_steps : List NestedAgg → Bool
have_steps request = list_all (λ asked. has_step asked.agg && list_all (λ named. has_step named.agg) asked.nested) request
