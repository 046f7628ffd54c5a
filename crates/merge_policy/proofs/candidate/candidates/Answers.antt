use Rattle.std.proofs.Common.{rules, ap, subst, is_lt, IsPermutation}
use Rattle.std.proofs.lemmas.List.Elements.{All-from_recursion}
use Rattle.std.proofs.lemmas.List.Sorted.{answers_always, ranks_by, All-permutation, IsPermutation-map}
use Rattle.merge_policy.specs.declared.candidate.Candidate.{Candidate}
use Rattle.merge_policy.specs.Walk.{rows_of, IsRanked, candidate_order}
use Rattle.merge_policy.proofs.Orders.{candidate_order_total}
use Rattle.merge_policy.proofs.candidate.candidates.Goals as goal

pub returns-clause-rows : goal.returns-clause-rows
returns-clause-rows c =
    subst (λ rows. IsPermutation rows (rows_of c.sort_by.new.self.items)) c.in_ok-list.ensures.rows
    (IsPermutation-map (λ (d : Candidate). d.row.now) c.in_ok-list.list.items c.sort_by.new.self.items c.in_ok-sort_by.ensures.permutation)

pub returns-clause-levels : goal.returns-clause-levels
returns-clause-levels c =
    All-permutation (IsRanked c.args.policy.now) c.in_ok-list.list.items c.sort_by.new.self.items c.in_ok-sort_by.ensures.permutation
    (All-from_recursion (IsRanked c.args.policy.now) c.in_ok-list.list.items c.in_ok-list.ensures.levels)

pub returns-clause-order : goal.returns-clause-order
returns-clause-order c =
    c.in_ok-sort_by.ensures.sorted (λ x y. is_lt (candidate_order x y)) (ranks_by candidate_order_total (λ (x : Candidate). x)) (answers_always _ _ _ (λ f a r q k. ap is_lt (search rules)))
