use Rattle.std.proofs.Common.{◌≡◌, ℕ, ◌+◌, ◌<◌, ◌≤◌, ◌||◌, false, List, [], drop, length}
use Rattle.std.specs.List.{AllByRecursion}
use Rattle.term_postings.specs.declared.list.Posting.{Posting}
use Rattle.term_postings.specs.Cursors.{StandsBefore}
use Rattle.doc_sets.specs.Bits.{has}
use Rattle.term_postings.specs.Reading.{walk}
use Rattle.doc_sets.specs.Reads.{in_front_of, numbers_in}
use Rattle.doc_sets.specs.Sets.{is_in, is_one_of}
use Rattle.doc_sets.proofs.lists.fill.Given as goal

abbrev pub invariant-loop-passed : goal.invariant-loop-passed
invariant-loop-passed l = record {
  size : l.bits.size ≡ l.fn.bits.size;
  only : (list : List Posting) → StandsBefore false l.fn.cursor list [] → l.docs ≡ length list → AllByRecursion (λ p. p.document < l.fn.bits.size) list
      → (n : ℕ) × (l.passed ≤ n) × ((left : List ℕ) × StandsBefore false l.cursor (drop n list) left) × ((k : ℕ) → has l.bits k || is_in k (drop n list) ≡ has l.fn.bits k || is_in k list);
  exact : (left : ℕ) × (left + l.passed ≡ l.docs)
      × ((given : List ℕ) × (numbers_in l.docs l.fn.bits.size (walk l.fn.cursor) ≡ in_front_of given (numbers_in left l.fn.bits.size (walk l.cursor)))
      × ((k : ℕ) → has l.bits k ≡ has l.fn.bits k || is_one_of k given));
}
