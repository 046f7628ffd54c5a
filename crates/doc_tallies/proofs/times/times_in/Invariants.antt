use Rattle.std.proofs.Common.{◌≡◌, ℕ, List, Some, false, length, take}
use Rattle.doc_value.specs.declared.schema.Schema.{Schema}
use Rattle.query_ast.specs.Meaning.{is_unlimited}
use Rattle.fast_fields.specs.Readers.{IsOf}
use Rattle.split_bundle.specs.Columns.{column_rows}
use Rattle.split_bundle.specs.declared.placed.Placed.{Placed}
use Rattle.split_bundle.specs.Splits.{AreDocumentsOf}
use Rattle.doc_tallies.specs.Picked.{AllBelow}
use Rattle.doc_tallies.specs.Times.{numbers_within}
use Rattle.doc_tallies.proofs.times.times_in.Given as goal

abbrev pub invariant-loop-number : goal.invariant-loop-number
invariant-loop-number l =
    (s : Schema) (documents : List Placed) (field : ℕ) → AreDocumentsOf s documents → s.timestamp ≡ Some field → IsOf l.column (column_rows field documents)
    → is_unlimited l.times.start l.times.end ≡ false → AllBelow (length documents) l.numbers → l.within.items ≡ numbers_within s l.times documents (take l.number-index l.numbers)
