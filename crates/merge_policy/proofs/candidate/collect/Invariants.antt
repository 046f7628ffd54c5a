use Rattle.std.proofs.Common.{◌≡◌, ◌++◌, filter, length}
use Rattle.std.specs.List.{AllByRecursion}
use Rattle.merge_policy.specs.Choice.{is_candidate}
use Rattle.merge_policy.specs.Walk.{rows_of, IsRanked}
use Rattle.merge_policy.proofs.candidate.collect.Given as goal

abbrev pub invariant-loop-row : goal.invariant-loop-row
invariant-loop-row l = record {
  so_far : rows_of l.list.items ++ filter (is_candidate l.policy l.docs_target l.now) l.rest ≡ filter (is_candidate l.policy l.docs_target l.now) l.rows;
  ranked : AllByRecursion (IsRanked l.policy) l.list.items;
}

abbrev pub decreases-loop-row : goal.decreases-loop-row
decreases-loop-row l = length l.rest
