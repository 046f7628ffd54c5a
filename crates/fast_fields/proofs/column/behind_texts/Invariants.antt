use Rattle.std.proofs.Common.{◌≡◌, ◌≤◌, ◌++◌, ◌-◌, ℕ, List, length, drop}
use Rattle.std.specs.Prelude.{IsUtf8}
use Rattle.std.specs.List.{flat_map, AllByRecursion}
use Rattle.byte_fields.specs.Spelling.{byte_string}
use Rattle.fast_fields.specs.Reading.{behind_texts}
use Rattle.fast_fields.proofs.column.behind_texts.Given as goal

abbrev pub invariant-loop-number : goal.invariant-loop-number
invariant-loop-number l = (l.from ≤ l.at) × (l.at ≤ length l.bytes) × ((texts : List (List ℕ)) (rest : List ℕ) → AllByRecursion IsUtf8 texts → l.count ≡ length texts
    → drop l.from l.bytes ≡ flat_map byte_string texts ++ rest → drop l.at l.bytes ≡ flat_map byte_string (drop l._number texts) ++ rest)
    × (behind_texts (l.count - l._number) l.bytes l.at ≡ behind_texts l.count l.bytes l.from)
