-- The words of a text of ASCII, taken byte by byte.
use Rattle.std.specs.Prelude.{ℕ, suc, Option, Some, None, List, [], ◌∷◌, ◌++◌, length, nat_le, if◌then◌else◌}
use Rattle.std.specs.Char.{is_ascii_alphanumeric, to_ascii_lowercase}
use Rattle.text_tokens.specs.Tokens.{max_token}
use Rattle.split_bundle.specs.Keys.{Occurrence, field_key, value_place}

-- a letter or digit with its case folded
abbrev pub letter_of : ℕ → Option ℕ
letter_of b = if is_ascii_alphanumeric b then Some (to_ascii_lowercase b) else None

-- what a word says that ends, if there is one and it is not too long
abbrev pub of_word : ℕ → ℕ → ℕ → List ℕ → List Occurrence
of_word number value position [] = []
of_word number value position (b ∷ bs) =
    if nat_le (length (b ∷ bs)) max_token then record { key = field_key number (b ∷ bs); place = value_place value position } ∷ [] else []

-- the position behind it
abbrev pub position_behind : ℕ → List ℕ → ℕ
position_behind position [] = position
position_behind position (b ∷ bs) = suc position

-- what a byte behind a word says, the word behind it, and that one's position
abbrev pub of_byte : ℕ → ℕ → ℕ → List ℕ → ℕ → List Occurrence
of_byte number value position word b = if is_ascii_alphanumeric b then [] else of_word number value position word

abbrev pub next_word : List ℕ → ℕ → List ℕ
next_word word b = if is_ascii_alphanumeric b then word ++ to_ascii_lowercase b ∷ [] else []

abbrev pub next_position : ℕ → List ℕ → ℕ → ℕ
next_position position word b = if is_ascii_alphanumeric b then position else position_behind position word

-- what bytes behind a word say
abbrev pub of_bytes : ℕ → ℕ → ℕ → List ℕ → List ℕ → List Occurrence
of_bytes number value position word [] = of_word number value position word
of_bytes number value position word (b ∷ bs) = of_byte number value position word b ++ of_bytes number value (next_position position word b) (next_word word b) bs
