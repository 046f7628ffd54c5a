use Rattle.std.proofs.Common.{◌≡◌, ℕ, ◌<◌, ◌||◌, drop}
use Rattle.std.specs.List.{AllByRecursion}
use Rattle.doc_sets.specs.Bits.{has}
use Rattle.doc_sets.specs.Reads.{are_below}
use Rattle.doc_sets.specs.Sets.{is_one_of}
use Rattle.doc_sets.proofs.lists.put_each.Given as goal

abbrev pub invariant-loop-number : goal.invariant-loop-number
invariant-loop-number l = record {
  size : l.bits.size ≡ l.fn.bits.size;
  only : AllByRecursion (λ n. n < l.fn.bits.size) l.numbers
      → AllByRecursion (λ n. n < l.fn.bits.size) (drop l.number-index l.numbers) × ((k : ℕ) → has l.bits k || is_one_of k (drop l.number-index l.numbers) ≡ has l.fn.bits k || is_one_of k l.numbers);
  below : are_below l.fn.bits.size (drop l.number-index l.numbers) ≡ are_below l.fn.bits.size l.numbers;
  exact : (k : ℕ) → has l.bits k || is_one_of k (drop l.number-index l.numbers) ≡ has l.fn.bits k || is_one_of k l.numbers;
}
