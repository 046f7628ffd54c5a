-- The one spelling of each field.
use Rattle.std.specs.Prelude.{◌≡◌, ℕ, ℤ, pos, negsuc, zero, suc, ◌+◌, ◌*◌, ◌≤◌, ◌/◌, ◌%◌, Bool, true, false, List, [], ◌∷◌, ◌++◌, length, drop, nat_lt, if◌then◌else◌}
use Rattle.std.specs.Int.{w32, w64, to_le_bytes}

-- seven bits a byte, the low bits first, the high bit set on all but the last; the first number bounds the steps
abbrev pub varint_within : ℕ → ℕ → List ℕ
varint_within zero n = n ∷ []
varint_within (suc steps) n = if nat_lt n 128 then n ∷ [] else (n % 128 + 128) ∷ varint_within steps (n / 128)

-- a number has fewer digits than it is large
unfoldable pub varint : ℕ → List ℕ
varint n = varint_within n n

-- 0, -1, 1, -2 become 0, 1, 2, 3
abbrev pub zigzag : ℤ → ℕ
zigzag (pos n) = 2 * n
zigzag (negsuc n) = 2 * n + 1

-- a signed number
abbrev pub signed : ℤ → List ℕ
signed z = varint (zigzag z)

-- the length, and the bytes
abbrev pub byte_string : List ℕ → List ℕ
byte_string bytes = varint (length bytes) ++ bytes

-- one byte, 0 or 1
abbrev pub flag : Bool → List ℕ
flag false = 0 ∷ []
flag true = 1 ∷ []

-- four bytes, the low one first
abbrev pub four : ℕ → List ℕ
four n = to_le_bytes w32 n

-- eight bytes, the low one first
abbrev pub eight : ℕ → List ℕ
eight n = to_le_bytes w64 n

-- from the first place to the next the bytes are this text
pub record SpelledAt (bytes : List ℕ) (at : ℕ) (text : List ℕ) (next : ℕ) : Type 0 where
  pub parts : drop at bytes ≡ text ++ drop next bytes
  pub next_is : next ≡ at + length text
  pub within : next ≤ length bytes
