-- Which searches the index of a schema can answer.
use Rattle.std.specs.Prelude.{◌≡◌, true, IsSome}
use Rattle.std.specs.Option.{IfSome}
use Rattle.doc_value.specs.declared.facts.TimeRange.{TimeRange}
use Rattle.doc_value.specs.declared.schema.Schema.{Schema}
use Rattle.query_ast.specs.Askable.{CanAsk}
use Rattle.query_ast.specs.Queries.{HasField}
use Rattle.agg_nested.specs.Checking.{CanCount, HaveSteps}
use Rattle.search_api.specs.Resolved.{Search, Asked, IsSearch, IsDelete}

-- times stand only where the schema has a timestamp field
pub record AreTimed (schema : Schema) (times : TimeRange) : Type 0 where
  pub start : IsSome times.start → IsSome schema.timestamp
  pub end : IsSome times.end → IsSome schema.timestamp

-- what a search asks of a schema can be answered from what is kept of documents
pub record IsAnswerable (schema : Schema) (search : Search) : Type 0 where
  pub query : CanAsk schema search.query
  -- hits are sorted by a fast field
  pub sort : IfSome search.sort (λ sort. HasField schema sort.field (λ f. f.fast ≡ true))
  pub times : AreTimed schema search.times
  pub aggs : CanCount schema search.aggs
  pub steps : HaveSteps search.aggs

-- the same of a request; a delete has times alone to be asked of more than texts
abbrev pub CanAnswer : Schema → Asked → Type 0
CanAnswer schema (IsSearch search) = IsAnswerable schema search
CanAnswer schema (IsDelete deletion) = AreTimed schema deletion.times
