-- A number's width, and packed numbers, are known by their bits.
use Rattle.std.proofs.Common.{◌≡◌, ℕ, zero, suc, ◌+◌, ◌-◌, ◌*◌, ◌/◌, ◌%◌, ◌^◌, ◌<◌, ◌≤◌, List, length, get_or, refl, sym, ◌∙◌, ap, subst, arith, inl, inr, mod-eq_of_lt}
use Rattle.std.specs.List.{AllByRecursion}
use Rattle.std.proofs.lemmas.Bool.{cases_lt, le-leb, lt-leb}
use Rattle.std.proofs.lemmas.List.Elements.{All-from_recursion}
use Rattle.std.proofs.lemmas.List.FromFn.{fill_by_all}
use Rattle.std.proofs.lemmas.Nat.{mod-pow-add}
use Rattle.std.proofs.Math.Nat.{pow-le-pow_right}
use Rattle.fast_fields.specs.Packed.{IsPacked, IsWidth, bit, packed_bit}
use Rattle.fast_fields.proofs.Bits.{width_within}
use Rattle.split_form.specs.Packing.{bits_up_to, width_of, of_bits, packed_byte, packed}

-- ---- the width

bits_one : (most n w : ℕ) → IsWidth n w → w ≤ most → w ≡ bits_up_to most n
bits_one zero n w h le = omega arith
bits_one (suc most) n w h le = elim (cases_lt most w) [
  | inl full ↦
      let last : w - 1 ≡ most = omega arith in
      let some : 2 ^ most ≤ n = subst (λ (m : ℕ). 2 ^ m ≤ n) last (h.fewest (omega arith)) in
      let all : w ≡ suc most = omega arith in
      all ∙ rw (le-leb (2 ^ most) n some) refl
  | inr less ↦
      let two : 0 < 2 = omega arith in
      let room : 2 ^ w ≤ 2 ^ most = pow-le-pow_right {n = 2} two {i = w} {j = most} less in
      let none : n < 2 ^ most = omega (arith, h.within) in
      bits_one most n w h less ∙ rw (lt-leb (2 ^ most) n none) refl
]

pub width_one : (n w : ℕ) → IsWidth n w → n < 2 ^ 64 → w ≡ width_of n
unfolding width_of
width_one n w h small = bits_one 64 n w h (width_within n w h small)

-- ---- a byte by its bits

same_bits : (k : ℕ) (f g : ℕ → ℕ) → ((i : ℕ) → i < k → f i ≡ g i) → of_bits k f ≡ of_bits k g
unfolding of_bits
same_bits zero f g h = refl
same_bits (suc k) f g h =
    let rest = same_bits k f g (λ i lt. h i (omega arith)) in
    let this : f k ≡ g k = h k (omega arith) in
    rw (rest, this) refl

low_bits : (k n : ℕ) → n % 2 ^ k ≡ of_bits k (bit n)
unfolding of_bits
low_bits zero n = omega arith
low_bits (suc k) n =
    let more : suc k ≡ 1 + k = omega arith in
    ap (λ (m : ℕ). n % 2 ^ m) more ∙ mod-pow-add n 1 k ∙ omega (arith, low_bits k n)

byte_one : (n : ℕ) (f : ℕ → ℕ) → n < 256 → ((i : ℕ) → i < 8 → bit n i ≡ f i) → n ≡ of_bits 8 f
byte_one n f small h = sym (mod-eq_of_lt small) ∙ low_bits 8 n ∙ same_bits 8 (bit n) f h

-- ---- packed numbers

pub packed_one : (width : ℕ) (ns bytes : List ℕ) → IsPacked width ns bytes → AllByRecursion (λ b. b < 256) bytes → bytes ≡ packed width ns
unfolding packed
packed_one width ns bytes p small = fill_by_all (packed_byte width ns) bytes ((width * length ns + 7) / 8) 0 p.size each
  where
    each : (k : ℕ) → k < (width * length ns + 7) / 8 → get_or bytes k 0 ≡ packed_byte width ns k
    each k lt =
        byte_one (get_or bytes k 0) (λ i. packed_bit width ns (8 * k + i)) (All-from_recursion (λ b. b < 256) bytes small k 0 (omega (arith, p.size)))
        (λ i less.
        (let place : (8 * k + i) / 8 ≡ k = omega arith in
        let low : (8 * k + i) % 8 ≡ i = omega arith in
        subst (λ (m : ℕ). bit (get_or bytes m 0) i ≡ packed_bit width ns (8 * k + i)) place
        (subst (λ (m : ℕ). bit (get_or bytes ((8 * k + i) / 8) 0) m ≡ packed_bit width ns (8 * k + i)) low (p.bits (8 * k + i) (omega (arith, p.size))))))
