use Rattle.std.proofs.Common.{◌≡◌}
use Rattle.agg_model.specs.Partials.{IsPartialOf, documents_in}
use Rattle.model_rows.proofs.aggregations.counted.collected.Given as goal

abbrev pub invariant-loop-word : goal.invariant-loop-word
invariant-loop-word l = IsPartialOf l.asked l.partial × (documents_in l.partial ≡ l.word-index)
