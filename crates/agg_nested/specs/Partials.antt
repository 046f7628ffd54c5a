-- Which documents a part stands for.
use Rattle.std.specs.Prelude.{◌≡◌, ℕ, ◌*◌, ◌^◌, ◌≤◌, List, [], ◌∷◌, length, map, count_by}
use Rattle.std.specs.List.{AllZip}
use Rattle.doc_value.specs.declared.doc.DocField.{DocField}
use Rattle.agg_metrics.specs.Metrics.{IsMetricOf}
use Rattle.agg_model.specs.Partials.{IsPartialOf, StandsFor}
use Rattle.agg_metrics.specs.declared.metric_part.MetricPart.{MetricPart}
use Rattle.agg_model.specs.declared.partial.Partial.{Partial}
use Rattle.agg_model.specs.declared.request.Agg.{Agg}
use Rattle.agg_model.specs.declared.request.NamedAgg.{NamedAgg}
use Rattle.agg_nested.specs.Answers.{values_counted, firsts}
use Rattle.agg_nested.specs.Spots.{lies_within}
use Rattle.agg_nested.specs.declared.flat_part.FlatPart.{FlatPart}
use Rattle.agg_nested.specs.declared.flat_part.FlatPart.TheVariants as parts
use Rattle.agg_nested.specs.declared.request.FlatAgg.{FlatAgg}
use Rattle.agg_nested.specs.declared.request.FlatAgg.TheVariants.{Counted, Metric, Ranges}
use Rattle.agg_nested.specs.declared.request.NamedFlat.{NamedFlat}
use Rattle.agg_nested.specs.declared.request.WholeRange.{WholeRange}

-- the request of an aggregation alone, under no name
abbrev pub alone : Agg → List NamedAgg
alone agg = record { name = []; agg = agg } ∷ []

-- agg_model's partial of the aggregation alone stands for the documents
pub record CountsStand (agg : Agg) (asked : List NamedAgg) (partial : Partial) (documents : List (List DocField)) : Type 0 where
  pub is : asked ≡ alone agg
  pub known : IsPartialOf (alone agg) partial
  pub stands : StandsFor (alone agg) partial documents

-- all values of the documents are counted, and their first whole numbers are added; of no document there are 2^63 values
pub record MetricStands (field : ℕ) (part : MetricPart) (documents : List (List DocField)) : Type 0 where
  pub few : values_counted field documents ≤ length documents * 2 ^ 63
  pub stands : IsMetricOf (values_counted field documents) (firsts field documents) part

-- in each range so many documents lie
abbrev pub ranges_counted : ℕ → List WholeRange → List (List DocField) → List ℕ
ranges_counted field ranges documents = map (λ r. count_by (lies_within field r) documents) ranges

-- a part of an aggregation stands for documents
abbrev pub FlatStands : FlatAgg → FlatPart → List (List DocField) → Type 0
FlatStands (Counted agg) (parts.Counted asked partial) documents = CountsStand agg asked partial documents
FlatStands (Metric kind field) (parts.Metric part) documents = MetricStands field part documents
FlatStands (Ranges field ranges) (parts.Ranges counts) documents = counts ≡ ranges_counted field ranges documents
FlatStands agg part documents = ⊥

-- each part of some aggregations does
abbrev pub AreStanding : List NamedFlat → List FlatPart → List (List DocField) → Type 0
AreStanding nested parts documents = AllZip (λ named part. FlatStands named.agg part documents) nested parts
