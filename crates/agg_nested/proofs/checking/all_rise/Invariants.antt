use Rattle.std.proofs.Common.{◌≡◌, drop}
use Rattle.std.specs.List.{list_all}
use Rattle.agg_nested.specs.Checking.{rises}
use Rattle.agg_nested.proofs.checking.all_rise.Given as goal

abbrev pub invariant-loop-range : goal.invariant-loop-range
invariant-loop-range l = list_all rises l.ranges ≡ list_all rises (drop l.range-index l.ranges)
