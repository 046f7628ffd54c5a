use Rattle.std.proofs.Common.{◌≡◌, ◌<◌, ◌++◌, ℕ, List, take, vec_len}
use Rattle.fast_fields.specs.Readers.{Holds}
use Rattle.fast_fields.specs.declared.entries.Entry.{Entry}
use Rattle.doc_tallies.specs.Classes.{AreClasses, class_sum}
use Rattle.doc_tallies.specs.Picked.{AllBelow}
use Rattle.doc_tallies.specs.Tables.{IsTable}
use Rattle.doc_tallies.proofs.tables.tabled.Given as goal

abbrev pub invariant-loop-number : goal.invariant-loop-number
invariant-loop-number l = record {
  size : 0 < vec_len l.classes;
  column : l.values.column ≡ l.field.column;
  table : IsTable l.agg l.field.kind l.span l.cells.items;
  total : class_sum (l.cells.items ++ l.classes.items) ≡ l.number-index;
  only : (texts : List (List ℕ)) (entries : List Entry) (bound : ℕ) → Holds l.field.column texts entries → AllBelow bound l.numbers
      → AreClasses l.agg l.field.kind entries bound (take l.number-index l.numbers) (l.cells.items ++ l.classes.items);
}
