-- The lines of an input, and the limits on its bytes.
use Rattle.std.specs.Prelude.{◌≡◌, ℕ, zero, suc, ◌+◌, ◌<◌, ◌≤◌, ◌==◌, List, [], ◌∷◌, length, Option, Some, min, if◌then◌else◌, bytes_eq}
use Rattle.std.specs.List.{list_any}

abbrev pub onto_line : ℕ → List (List ℕ) → List (List ℕ)
onto_line c [] = (c ∷ []) ∷ []
onto_line c (line ∷ lines) = (c ∷ line) ∷ lines

-- the lines of a text; each ends with a line feed, which the last may lack
abbrev pub raw_lines : List ℕ → List (List ℕ)
raw_lines [] = []
raw_lines (c ∷ text) = if c == 10 then [] ∷ raw_lines text else onto_line c (raw_lines text)

abbrev pub max_input : ℕ
max_input = 1073741824

abbrev pub max_line : ℕ
max_line = 2097152

abbrev pub max_clients : ℕ
max_clients = 10000

abbrev pub with_client_name : List ℕ → List (List ℕ) → List (List ℕ)
with_client_name name names = if list_any (bytes_eq name) names then names else name ∷ names

-- how many bytes stand up to and with the line feed of this line, which the last line of an input may lack
abbrev pub end_of : ℕ → ℕ → List ℕ → ℕ
end_of total at raw = min (at + length raw + 1) total

-- a line within the two limits on bytes, where so many bytes stand before it
abbrev pub Within : ℕ → ℕ → List ℕ → Type 0
Within total at raw = (length raw ≤ max_line) × (end_of total at raw ≤ max_input)

-- the limit on a line is passed, and at no later byte than the one on the input
abbrev pub PassesLine : ℕ → List ℕ → Type 0
PassesLine at raw = (max_line < length raw) × (at + max_line ≤ max_input)

-- the limit on the input is passed, and the one on a line at no byte up to there
abbrev pub PassesInput : ℕ → ℕ → List ℕ → Type 0
PassesInput total at raw = (max_input < end_of total at raw) × (PassesLine at raw → ⊥)

-- how many bytes stand before the line feed of the line behind so many lines, or all where there is none
abbrev pub feed_behind : ℕ → List (List ℕ) → (lines : ℕ) → ℕ
feed_behind at [] lines = at
feed_behind at (raw ∷ raws) zero = at + length raw
feed_behind at (raw ∷ raws) (suc lines) = feed_behind (at + length raw + 1) raws lines

-- The input failed in the line behind so many lines: this is left of it, and the line feed of that line was not read.
abbrev pub FailsAfter : List ℕ → Option (List ℕ) → (lines : ℕ) → Type 0
FailsAfter input left lines = (rest : List ℕ) × (left ≡ Some rest) × (length input ≤ feed_behind 0 (raw_lines input) lines + length rest)
