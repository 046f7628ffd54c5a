-- The documents of a range of times.
use Rattle.std.specs.Prelude.{ℕ, Bool, false, List, slice_get}
use Rattle.std.specs.List.{filter}
use Rattle.std.specs.Option.{option_map_or}
use Rattle.doc_value.specs.declared.schema.Schema.{Schema}
use Rattle.doc_value.specs.declared.facts.TimeRange.{TimeRange}
use Rattle.query_ast.specs.Meaning.{within_times}
use Rattle.split_bundle.specs.declared.placed.Placed.{Placed}

-- the document with a number lies in the range
abbrev pub lies_within : Schema → TimeRange → List Placed → ℕ → Bool
lies_within s times documents n = option_map_or (λ d. within_times s times d.doc) (slice_get documents n) false

-- those of some numbers whose documents lie in the range
abbrev pub numbers_within : Schema → TimeRange → List Placed → List ℕ → List ℕ
numbers_within s times documents numbers = filter (lies_within s times documents) numbers
