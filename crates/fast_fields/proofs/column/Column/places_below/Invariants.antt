use Rattle.std.proofs.Common.{◌≤◌, ◌<◌, ◌-◌, ℕ, List}
use Rattle.fast_fields.specs.declared.entries.Entry.{Entry}
use Rattle.fast_fields.specs.Readers.{Holds, count_below}
use Rattle.fast_fields.specs.Lookups.{document_of}
use Rattle.fast_fields.proofs.column.Column.places_below.Given as goal

abbrev pub invariant-loop-low : goal.invariant-loop-low
invariant-loop-low l = (l.low ≤ l.high) × (l.high ≤ l.self.count)
    × ((texts : List (List ℕ)) (entries : List Entry) → Holds l.self texts entries → (l.low ≤ count_below l.document entries) × (count_below l.document entries ≤ l.high))
    × (0 < l.low → document_of l.self (l.low - 1) < l.document) × (l.high < l.self.count → l.document ≤ document_of l.self l.high)

abbrev pub decreases-loop-low : goal.decreases-loop-low
decreases-loop-low l = l.high - l.low
