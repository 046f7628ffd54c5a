use Rattle.std.proofs.Common.{◌≡◌, ◌+◌, ◌*◌, ◌^◌, ◌++◌, ◌≤◌, drop}
use Rattle.split_merge.specs.Keeping.{RiseFrom}
use Rattle.split_merge.specs.Numbering.{kept_in, no_number, tables_of}
use Rattle.split_merge.proofs.numbers.numbers_of.Given as goal

abbrev pub invariant-loop-view : goal.invariant-loop-view
invariant-loop-view l = record {
  room : l.first ≤ l.view-index * 2 ^ 32;
  rise : RiseFrom l.first l.places;
  tables : l.tables.items ++ tables_of l.places l.first l.next (drop l.view-index l.views) ≡ tables_of l.dropped 0 0 l.views;
  small : l.next ≤ no_number;
  few : l.next + kept_in l.places l.first (drop l.view-index l.views) ≡ kept_in l.dropped 0 l.views;
}
