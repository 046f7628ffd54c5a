use Rattle.std.proofs.Common.{◌≡◌, ◌≤◌, ◌^◌, ◌<◌, ◌++◌, ℕ, List, length, drop}
use Rattle.std.specs.List.{AllByRecursion}
use Rattle.term_postings.specs.Postings.{varints}
use Rattle.split_merge.proofs.spelling.behind_numbers.Given as goal

abbrev pub invariant-loop-number : goal.invariant-loop-number
invariant-loop-number l = (l.at ≤ length l.bytes)
    × ((numbers rest : List ℕ) → l.count ≡ length numbers → AllByRecursion (λ n. n < 2 ^ 64) numbers → drop l.from l.bytes ≡ varints numbers ++ rest → drop l.at l.bytes ≡ varints (drop l._number numbers) ++ rest)
