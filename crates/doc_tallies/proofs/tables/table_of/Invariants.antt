use Rattle.std.proofs.Common.{◌≡◌, vec_len}
use Rattle.std.specs.List.{All}
use Rattle.doc_tallies.specs.Tables.{IsTable}
use Rattle.doc_tallies.proofs.tables.table_of.Given as goal

abbrev pub invariant-loop-place : goal.invariant-loop-place
invariant-loop-place l = record {
  size : vec_len l.cells ≡ l.place;
  none : All (λ c. c.count ≡ 0) l.cells.items;
  table : IsTable l.agg l.kind l.span l.cells.items;
}
