use Rattle.std.proofs.Common.{refl}
use Rattle.leaf_search.specs.Answers.{found}
use Rattle.root_search.proofs.Joining.{pair_joined, two_joined}
use Rattle.root_search.proofs.joins.merged.Goals as goal

pub returns-clause-only : goal.returns-clause-only
returns-clause-only c = λ s xs ys one other.
    two_joined s c.args.request.now xs ys c.args.one c.args.other _ one other refl (c.in_ok-merged_hits.ensures.only (found s c.args.request.now xs) (found s c.args.request.now ys) one.hits other.hits)
    (c.in_ok-merge_nested.ensures.stands _ _ one.partial other.partial)

pub returns-clause-joined : goal.returns-clause-joined
returns-clause-joined c =
    pair_joined c.args.request.now c.args.one c.args.other _ refl c.in_ok-merged_hits.ensures.drawn (λ xs ys one other. c.in_ok-merged_hits.ensures.only xs ys one other) (λ mine yours one other. c.in_ok-merge_nested.ensures.stands mine yours one other)
