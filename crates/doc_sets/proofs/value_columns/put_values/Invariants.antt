use Rattle.std.proofs.Common.{◌≡◌, ℕ, ◌-◌, ◌<◌, ◌||◌, List, drop}
use Rattle.std.specs.List.{AllByRecursion}
use Rattle.fast_fields.specs.Readers.{Holds}
use Rattle.fast_fields.specs.declared.entries.Entry.{Entry}
use Rattle.doc_sets.specs.Bits.{has}
use Rattle.doc_sets.specs.Ranged.{documents_from, some_is_of}
use Rattle.doc_sets.specs.Reads.{are_below}
use Rattle.doc_sets.specs.Sets.{is_one_of}
use Rattle.doc_sets.proofs.value_columns.put_values.Given as goal

abbrev pub invariant-loop-place : goal.invariant-loop-place
invariant-loop-place l = record {
  size : l.bits.size ≡ l.fn.bits.size;
  only : (texts : List (List ℕ)) (entries : List Entry) → Holds l.column texts entries → AllByRecursion (λ e. e.document < l.fn.bits.size) entries
      → (k : ℕ) → has l.bits k || some_is_of l.range k (drop l.place entries) ≡ has l.fn.bits k || some_is_of l.range k entries;
  below : are_below l.fn.bits.size (documents_from l.range l.column (l.column.count - l.place) l.place) ≡ are_below l.fn.bits.size (documents_from l.range l.column l.column.count 0);
  exact : (k : ℕ) → has l.bits k || is_one_of k (documents_from l.range l.column (l.column.count - l.place) l.place) ≡ has l.fn.bits k || is_one_of k (documents_from l.range l.column l.column.count 0);
}
