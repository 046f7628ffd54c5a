use Rattle.agg_nested.proofs.Filled.{filled_spots}
use Rattle.agg_nested.proofs.totals.filled_buckets.Goals as goal

pub returns-in_ok-answer-in-Counted-Counted : goal.returns-in_ok-answer-in-Counted-Counted
returns-in_ok-answer-in-Counted-Counted c =
    rw (c.in-Counted-Counted.is-0, c.in-Counted-Counted.is-1) (λ documents h.
    filled_spots c.in-Counted-Counted.agg c.without_empty.result c.in-Counted-Counted.asked-1 c.in-Counted-Counted.partial documents c.in_ok-answer-in-Counted-Counted.answer
    c.without_empty.ensures c.in_ok-answer-in-Counted-Counted.ensures h)
