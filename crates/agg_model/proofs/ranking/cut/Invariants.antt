use Rattle.std.proofs.Common.{◌≡◌, ◌≤◌, ◌*◌, ◌^◌, map, take, drop, length}
use Rattle.std.specs.List.{sum_by}
use Rattle.agg_model.specs.Answers.{value_bucket}
use Rattle.agg_model.proofs.ranking.cut.Given as goal

abbrev pub invariant-loop-ranked : goal.invariant-loop-ranked
invariant-loop-ranked l =
    (l.buckets ≡ map value_bucket (take l.size l.yielded)) × (l.others ≡ sum_by (λ r. r.count) (drop l.size l.yielded)) × (l.others ≤ length l.yielded * 2 ^ 64)
