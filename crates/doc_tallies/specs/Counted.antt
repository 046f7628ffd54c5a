-- What is counted for requests of agg_model's aggregations.
use Rattle.std.specs.Prelude.{ℕ, List, map}
use Rattle.doc_value.specs.declared.doc.DocField.{DocField}
use Rattle.agg_model.specs.Checking.{field_of}
use Rattle.agg_model.specs.Partials.{StandsFor}
use Rattle.agg_model.specs.declared.partial.Partial.{Partial}
use Rattle.agg_model.specs.declared.request.NamedAgg.{NamedAgg}

-- the field of each aggregation
abbrev pub agg_fields : List NamedAgg → List ℕ
agg_fields aggs = map (λ named. field_of named.agg) aggs

-- a partial stands for some documents
abbrev pub IsKnown : List NamedAgg → Partial → Type 0
IsKnown aggs partial = (shown : List (List DocField)) × StandsFor aggs partial shown
