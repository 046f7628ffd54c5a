use Rattle.std.proofs.Common.{◌≡◌, drop}
use Rattle.agg_nested.specs.Checking.{first_nested}
use Rattle.agg_nested.proofs.checking.check_each.Given as goal

abbrev pub invariant-loop-named : goal.invariant-loop-named
invariant-loop-named l = first_nested l.schema.fields l.nested ≡ first_nested l.schema.fields (drop l.named-index l.nested)
