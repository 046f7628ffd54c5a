use Rattle.std.proofs.Common.{◌≡◌, ℕ, ◌+◌, ◌-◌, ◌<◌, ◌≤◌, ◌++◌}
use Rattle.split_merge.specs.Keeping.{is_named, RiseFrom}
use Rattle.split_merge.specs.Numbering.{kept_count, no_number, table_of}
use Rattle.split_merge.proofs.numbers.numbered.Given as goal

abbrev pub invariant-loop-doc : goal.invariant-loop-doc
invariant-loop-doc l = record {
  place : l.place ≡ l.first + l.doc;
  rise : RiseFrom l.place l.rest;
  same : (m : ℕ) → l.place < m + 1 → is_named m l.rest ≡ is_named m l.places;
  table : l.table.items ++ table_of l.rest l.place l.number (l.docs - l.doc) ≡ table_of l.places l.first l.next l.docs;
  small : l.number ≤ no_number;
  count : l.number + kept_count l.rest l.place (l.docs - l.doc) ≡ l.next + kept_count l.places l.first l.docs;
}
