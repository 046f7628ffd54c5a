-- Bits of numbers that are packed.
use Rattle.std.proofs.Common.{◌≡◌, subst, ℕ, zero, suc, ◌+◌, ◌-◌, ◌*◌, ◌/◌, ◌%◌, ◌^◌, ◌<◌, ◌≤◌, List, length, get_or, refl, sym, ◌∙◌, ap, arith, inl, inr}
use Rattle.std.proofs.lemmas.Bool.{cases_lt, lt-ltb}
use Rattle.std.proofs.lemmas.Nat.{div-mul-add, pow-add}
use Rattle.std.proofs.Math.Nat.{div-one, div-div-eq-div-mul, mul-add-mod_self_right, mod-eq_of_lt, mul-le-mul_left, div-eq_of_lt, pow-le-pow_right}
use Rattle.fast_fields.specs.Packed.{bit, IsPacked, IsWidth}
use Rattle.fast_fields.specs.Lookups.{bits_at}

-- a number above a bit is twice what stands above the next one, and the bit
pub bit_step : (x low : ℕ) → x / 2 ^ low ≡ x / 2 ^ (low + 1) * 2 + bit x low
bit_step x low =
    let half : x / 2 ^ (low + 1) ≡ x / 2 ^ low / 2 = ap (λ (p : ℕ). x / p) (pow-add 2 low 1) ∙ sym (div-div-eq-div-mul x (2 ^ low) 2) in
    omega (arith, half)

-- where a number's bits stand
pub place_within : (width place count low : ℕ) → place < count → low < width → width * place + low < width * count
place_within width place count low lt small =
    let more : width * (place + 1) ≤ width * count = mul-le-mul_left width (omega arith) in
    omega arith

pub packed_read : (width : ℕ) (ns bytes : List ℕ) (place low : ℕ) → IsPacked width ns bytes → place < length ns → low < width
    → bit (get_or bytes ((width * place + low) / 8) 0) ((width * place + low) % 8) ≡ bit (get_or ns place 0) low
packed_read width ns bytes place low p lt small =
    let within = place_within width place (length ns) low lt small in
    let turned : width * place + low ≡ place * width + low = omega arith in
    let where_is : (width * place + low) / width ≡ place = ap (λ (n : ℕ). n / width) turned ∙ div-mul-add place width low small in
    let bit_is : (width * place + low) % width ≡ low = ap (λ (n : ℕ). n % width) turned ∙ mul-add-mod_self_right place width low ∙ mod-eq_of_lt small in
    p.bits (width * place + low) (omega (arith, p.size)) ∙ (rw (lt-ltb (width * place + low) (width * length ns) within, where_is, bit_is) refl)

pub above_all : (x width : ℕ) → x < 2 ^ width → x / 2 ^ width ≡ 0
above_all x width lt = div-eq_of_lt lt

-- a number below 2 ^ 64 has at most 64 bits
pub width_within : (n width : ℕ) → IsWidth n width → n < 2 ^ 64 → width ≤ 64
width_within n width h small = elim (cases_lt 64 width) [
  | inl over ↦
      let some : 0 < 2 = omega arith in
      let up : 64 ≤ width - 1 = omega arith in
      let most : 2 ^ 64 ≤ 2 ^ (width - 1) = pow-le-pow_right {n = 2} some {i = 64} {j = width - 1} up in
      absurd (omega (arith, h.fewest (omega arith), most))
  | inr le ↦ le
]

-- ---- numbers in a row of bits

-- the high bits of a number that is packed
high_bits : (w : ℕ) (ns bytes : List ℕ) (place k from : ℕ) → IsPacked w ns bytes → place < length ns → get_or ns place 0 < 2 ^ w → k + from ≡ w → bits_at k bytes (w * place + from) ≡ get_or ns place 0 / 2 ^ from
unfolding bits_at
high_bits w ns bytes place zero from p lt small all =
    sym (above_all (get_or ns place 0) from (subst (λ (n : ℕ). get_or ns place 0 < 2 ^ n) (let same : w ≡ from = omega arith in same) small))
high_bits w ns bytes place (suc k) from p lt small all =
    let this = packed_read w ns bytes place from p lt (omega arith) in
    let next : w * place + from + 1 ≡ w * place + (from + 1) = omega arith in
    let rest : bits_at k bytes (w * place + from + 1) ≡ get_or ns place 0 / 2 ^ (from + 1) = ap (λ (n : ℕ). bits_at k bytes n) next ∙ high_bits w ns bytes place k (from + 1) p lt small (omega arith) in
    omega (arith, this, rest, bit_step (get_or ns place 0) from)

-- a packed number is read from its first bit on
pub number_there : (w : ℕ) (ns bytes : List ℕ) (place : ℕ) → IsPacked w ns bytes → place < length ns → get_or ns place 0 < 2 ^ w → bits_at w bytes (w * place) ≡ get_or ns place 0
number_there w ns bytes place p lt small =
    let start : w * place ≡ w * place + 0 = omega arith in
    ap (λ (n : ℕ). bits_at w bytes n) start ∙ high_bits w ns bytes place w 0 p lt small (omega arith) ∙ div-one (get_or ns place 0)

-- a number's bits stand among those of all
pub bits_within : (w place count size : ℕ) → place < count → size ≡ (w * count + 7) / 8 → w * place + w ≤ 8 * size
bits_within w place count size lt is =
    let more : w * (place + 1) ≤ w * count = mul-le-mul_left w (omega arith) in
    omega (arith, is)
