use Rattle.std.proofs.Common.{◌≡◌, ℕ, List, drop, max}
use Rattle.fast_fields.specs.Columns.{numbers, greatest_of}
use Rattle.fast_fields.specs.declared.entries.Entry.{Entry}
use Rattle.fast_fields.specs.Readers.{Holds}
use Rattle.fast_fields.specs.Lookups.{greatest_before}
use Rattle.fast_fields.proofs.column.Column.greatest.Given as goal

abbrev pub invariant-loop-place : goal.invariant-loop-place
invariant-loop-place l = ((texts : List (List ℕ)) (entries : List Entry) → Holds l.self texts entries
    → max (greatest_of (numbers (drop l.place entries))) l.greatest ≡ greatest_of (numbers entries)) × (l.greatest ≡ greatest_before l.self l.place)
