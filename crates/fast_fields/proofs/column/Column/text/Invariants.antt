use Rattle.std.proofs.Common.{◌≡◌, ◌≤◌, ◌-◌, ℕ, List, length, drop, Ok}
use Rattle.std.specs.List.{flat_map}
use Rattle.byte_fields.specs.Spelling.{byte_string}
use Rattle.fast_fields.specs.declared.entries.Entry.{Entry}
use Rattle.fast_fields.specs.Readers.{Holds}
use Rattle.fast_fields.specs.Reading.{behind_texts}
use Rattle.fast_fields.specs.Lookups.{text_behind}
use Rattle.fast_fields.proofs.column.Column.text.Given as goal

abbrev pub invariant-loop-number : goal.invariant-loop-number
invariant-loop-number l = (l.at ≤ length l.self.texts.now)
    × ((texts : List (List ℕ)) (entries : List Entry) → Holds l.self texts entries → drop l.at l.self.texts.now ≡ flat_map byte_string (drop l._number texts))
    × (text_behind (l.ordinal - l._number) l.self.texts.now l.at ≡ text_behind l.ordinal l.self.texts.now 0)
    × (behind_texts (l.self.text_count - l._number) l.self.texts.now l.at ≡ Ok (length l.self.texts.now))
