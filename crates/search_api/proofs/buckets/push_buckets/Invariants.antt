use Rattle.std.proofs.Common.{◌≡◌, ◌++◌, true, drop, map}
use Rattle.search_api.specs.Replies.{with_commas, bucket_texts, value_pairs}
use Rattle.search_api.proofs.buckets.push_buckets.Given as goal

abbrev pub invariant-loop-bucket : goal.invariant-loop-bucket
invariant-loop-bucket l = l.out ++ with_commas l.first (bucket_texts (map value_pairs (drop l.bucket-index l.buckets)) l.rest)
    ≡ l.initial.out ++ with_commas true (bucket_texts (map value_pairs l.buckets) l.nested)
