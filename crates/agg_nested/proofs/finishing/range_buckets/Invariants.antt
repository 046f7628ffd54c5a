use Rattle.std.proofs.Common.{◌≡◌, ℕ, List, map, take}
use Rattle.doc_value.specs.declared.doc.DocField.{DocField}
use Rattle.agg_nested.specs.Answers.{range_bucket}
use Rattle.agg_nested.specs.Partials.{ranges_counted}
use Rattle.agg_nested.proofs.finishing.range_buckets.Given as goal

abbrev pub invariant-loop-i : goal.invariant-loop-i
invariant-loop-i l = (field : ℕ) (documents : List (List DocField)) → l.counts ≡ ranges_counted field l.ranges documents → l.buckets ≡ map (range_bucket field documents) (take l.i l.ranges)
