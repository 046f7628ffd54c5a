use Rattle.std.proofs.Common.{◌≡◌, drop}
use Rattle.agg_nested.specs.Checking.{first_refusal}
use Rattle.agg_nested.proofs.checking.check_nested.Given as goal

abbrev pub invariant-loop-asked : goal.invariant-loop-asked
invariant-loop-asked l = first_refusal l.schema.fields l.request ≡ first_refusal l.schema.fields (drop l.asked-index l.request)
