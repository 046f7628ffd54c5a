use Rattle.std.proofs.Common.{◌≤◌}
use Rattle.split_merge.specs.Walking.{WasFront}
use Rattle.split_merge.proofs.StandLemmas.{StandsBehind}
use Rattle.split_merge.proofs.terms.join_walks.Given as goal

abbrev pub invariant-loop-turn : goal.invariant-loop-turn
invariant-loop-turn l = record {
  count : l.terms.count ≤ l._turn;
  stands : StandsBehind l.schema l.numbers l.views l.walks l.terms;
  front : WasFront l.before l.walks;
}
