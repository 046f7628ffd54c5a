use Rattle.std.proofs.Common.{◌≡◌, drop}
use Rattle.agg_model.specs.Checking.{first_refusal}
use Rattle.agg_model.proofs.checking.check_aggs.Given as goal

abbrev pub invariant-loop-named : goal.invariant-loop-named
invariant-loop-named l = first_refusal l.schema.fields l.request ≡ first_refusal l.schema.fields (drop l.named-index l.request)
