-- What the index of a schema can sort by, a split of the schema can.
use Rattle.std.proofs.Common.{◌≡◌, true, Option, Some, None}
use Rattle.std.specs.Option.{IfSome}
use Rattle.doc_value.specs.declared.schema.Schema.{Schema}
use Rattle.doc_tallies.specs.Orders.{IsSortable}
use Rattle.search_api.specs.declared.resolved.SortField.{SortField}
use Rattle.query_ast.specs.Queries.{HasField}
use Rattle.root_search.specs.Answer.{order_of}

pub can_sort : (s : Schema) (sort : Option SortField) → IfSome sort (λ sort. HasField s sort.field (λ f. f.fast ≡ true)) → IsSortable s (order_of sort)
can_sort s None h = tt
can_sort s (Some sort) h = h
