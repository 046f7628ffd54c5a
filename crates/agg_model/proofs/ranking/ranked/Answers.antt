use Rattle.std.proofs.Common.{◌≡◌, rules}
use Rattle.std.proofs.lemmas.List.Sorted.{answers_always}
use Rattle.std.specs.Ordering.{is_lt}
use Rattle.agg_model.specs.Answers.{rank}
use Rattle.agg_model.proofs.Order.{rank_order}
use Rattle.agg_model.proofs.ranking.ranked.Goals as goal

pub returns-clause-order : goal.returns-clause-order
returns-clause-order c =
    c.sort_unstable_by.ensures.sorted (λ a b. is_lt (rank a b)) rank_order
    (answers_always _ (λ a r. is_lt r ≡ is_lt (rank a.0.now a.1.0.now)) _ (λ f a r f' k. search rules))
