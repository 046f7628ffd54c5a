-- Numbers of a fixed width in the fewest bytes.
use Rattle.std.specs.Prelude.{ℕ, zero, suc, ◌+◌, ◌*◌, ◌/◌, ◌^◌, List, length, map, nat_le, if◌then◌else◌}
use Rattle.std.specs.List.{range_with_len}
use Rattle.fast_fields.specs.Packed.{packed_bit}

-- the number of bits of a number that has at most so many
abbrev pub bits_up_to : ℕ → ℕ → ℕ
bits_up_to zero n = 0
bits_up_to (suc most) n = if nat_le (2 ^ most) n then suc most else bits_up_to most n

-- the number of bits of a number below 2 ^ 64
unfoldable pub width_of : ℕ → ℕ
width_of n = bits_up_to 64 n

-- the number that has so many bits, the low ones first
unfoldable pub of_bits : ℕ → (ℕ → ℕ) → ℕ
of_bits zero bits = 0
of_bits (suc k) bits = of_bits k bits + 2 ^ k * bits k

-- a byte of the area of packed numbers
abbrev pub packed_byte : ℕ → List ℕ → ℕ → ℕ
packed_byte width numbers place = of_bits 8 (λ i. packed_bit width numbers (8 * place + i))

-- the numbers one behind the other, the low bits first
unfoldable pub packed : ℕ → List ℕ → List ℕ
packed width numbers = map (packed_byte width numbers) (range_with_len 0 ((width * length numbers + 7) / 8))
