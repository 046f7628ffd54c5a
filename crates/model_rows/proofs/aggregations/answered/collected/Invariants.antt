use Rattle.std.proofs.Common.{◌≡◌}
use Rattle.agg_nested.specs.Buckets.{IsNestedPartial, documents_counted}
use Rattle.model_rows.proofs.aggregations.answered.collected.Given as goal

abbrev pub invariant-loop-row : goal.invariant-loop-row
invariant-loop-row l = IsNestedPartial l.asked l.partial × (documents_counted l.partial ≡ l.row-index)
