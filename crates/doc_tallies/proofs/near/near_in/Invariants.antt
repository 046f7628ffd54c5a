use Rattle.std.proofs.Common.{◌≡◌, ℕ, List, Contains, take}
use Rattle.std.specs.List.{filter}
use Rattle.fast_fields.specs.Readers.{Holds}
use Rattle.fast_fields.specs.declared.entries.Entry.{Entry}
use Rattle.doc_tallies.specs.Least.{is_near}
use Rattle.doc_tallies.specs.Ranks.{key_at}
use Rattle.doc_tallies.proofs.near.near_in.Given as goal

abbrev pub invariant-loop-number : goal.invariant-loop-number
invariant-loop-number l = record {
  column : l.values.column ≡ l.column;
  only : (texts : List (List ℕ)) (entries : List Entry) → Holds l.column texts entries → l.near.items ≡ filter (λ n. is_near l.bar (key_at l.descending entries n)) (take l.number-index l.numbers);
  among : (n : ℕ) → Contains l.near.items n → Contains l.numbers n;
}
