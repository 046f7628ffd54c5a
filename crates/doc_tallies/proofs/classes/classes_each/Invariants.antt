use Rattle.std.proofs.Common.{◌≡◌, ◌<◌, ℕ, List, take, vec_len}
use Rattle.fast_fields.specs.Readers.{Holds}
use Rattle.fast_fields.specs.declared.entries.Entry.{Entry}
use Rattle.doc_tallies.specs.Classes.{AreClasses, class_sum}
use Rattle.doc_tallies.specs.Picked.{AllBelow}
use Rattle.doc_tallies.proofs.classes.classes_each.Given as goal

abbrev pub invariant-loop-number : goal.invariant-loop-number
invariant-loop-number l = record {
  size : 0 < vec_len l.classes;
  total : class_sum l.classes.items ≡ l.number-index;
  only : (texts : List (List ℕ)) (entries : List Entry) (bound : ℕ) → Holds l.field.column texts entries → AllBelow bound l.numbers
      → AreClasses l.agg l.field.kind entries bound (take l.number-index l.numbers) l.classes.items;
}
