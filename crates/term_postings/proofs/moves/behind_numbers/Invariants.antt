use Rattle.std.proofs.Common.{◌≡◌, ◌≤◌, ◌-◌, ◌^◌, ◌<◌, ◌++◌, ℕ, List, length, drop}
use Rattle.std.specs.List.{AllByRecursion}
use Rattle.term_postings.specs.Postings.{varints}
use Rattle.term_postings.specs.Reading.{numbers_behind}
use Rattle.term_postings.proofs.moves.behind_numbers.Given as goal

abbrev pub invariant-loop-number : goal.invariant-loop-number
invariant-loop-number l = (l.at ≤ length l.bytes) × ((numbers rest : List ℕ) → l.count ≡ length numbers → AllByRecursion (λ n. n < 2 ^ 64) numbers
    → drop l.from l.bytes ≡ varints numbers ++ rest → drop l.at l.bytes ≡ varints (drop l._number numbers) ++ rest)
    × (numbers_behind (l.count - l._number) l.bytes l.at ≡ numbers_behind l.count l.bytes l.from)
