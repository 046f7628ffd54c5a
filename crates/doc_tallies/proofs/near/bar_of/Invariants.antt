use Rattle.std.proofs.Common.{ℕ, List, take}
use Rattle.fast_fields.specs.Readers.{Holds}
use Rattle.fast_fields.specs.declared.entries.Entry.{Entry}
use Rattle.doc_tallies.specs.Least.{AreLeast}
use Rattle.doc_tallies.specs.Ranks.{keys_of}
use Rattle.doc_tallies.proofs.near.bar_of.Given as goal

abbrev pub invariant-loop-number : goal.invariant-loop-number
invariant-loop-number l = (texts : List (List ℕ)) (entries : List Entry) → Holds l.sort.field.column texts entries → AreLeast l.wanted (keys_of l.sort.descending entries (take l.number-index l.numbers)) l.best.data.items
