-- Numbers that are packed one behind the other.
use Rattle.std.proofs.Common.{◌≡◌, ℕ, zero, suc, ◌+◌, ◌-◌, ◌*◌, ◌/◌, ◌%◌, ◌^◌, ◌<◌, ◌≤◌, List, [], ◌∷◌, ◌++◌, length, take, drop, get_or, refl, sym, ◌∙◌, ap, subst, arith, inl, inr, length-append, append_assoc}
use Rattle.std.specs.Int.{w64, to_le_bytes, byte_at}
use Rattle.std.proofs.lemmas.Bool.{cases_lt, lt-ltb, le-ltb}
use Rattle.std.proofs.lemmas.Nat.{pow-add, pow_pos, field_of, mul-le, shr_below, mod_low, from_le_bytes-to_le_bytes_8}
use Rattle.std.proofs.lemmas.List.{append-nil, take-append-drop, take_more, take_all, length-take-le}
use Rattle.std.proofs.Math.Nat.{div-div-eq-div-mul, div-eq_of_lt, mod-eq_of_lt, mul-add-mod_self_right, mul-add-div, mod-add-div, pow-le-pow_right}
use Rattle.fast_fields.specs.Packed.{bit, packed_bit, number, IsPacked, AreNarrow}
use Rattle.byte_fields.proofs.Taken.{IsBytes}
use Rattle.fast_fields.proofs.Numbers.{bit_number, number-append, number_small, number_eight, above_none, divided, bytes_taken}

-- the number that all of these are, each of so many bits, the first one low
pub packed_number : ℕ → List ℕ → ℕ
packed_number w [] = 0
packed_number w (n ∷ ns) = n + 2 ^ w * packed_number w ns

bit_none : (i : ℕ) → bit 0 i ≡ 0
bit_none i = ap (λ (n : ℕ). n % 2) (div-eq_of_lt (pow_pos i))

low_bit : (n more w i : ℕ) → i < w → bit (n + 2 ^ w * more) i ≡ bit n i
low_bit n more w i lt = sym (field_of (n + 2 ^ w * more) 1 i) ∙ ap (λ (m : ℕ). m / 2 ^ i) (above_none n more w (1 + i) (omega arith)) ∙ field_of n 1 i

high_bit : (n more w i : ℕ) → n < 2 ^ w → w ≤ i → bit (n + 2 ^ w * more) i ≡ bit more (i - w)
high_bit n more w i small le =
    let power : 2 ^ i ≡ 2 ^ w * 2 ^ (i - w) = ap (λ (k : ℕ). 2 ^ k) (let whole : i ≡ w + (i - w) = omega arith in whole) ∙ pow-add 2 w (i - w) in
    let over : (n + 2 ^ w * more) / 2 ^ w ≡ n / 2 ^ w + 2 ^ (w - w) * more = divided n more w w (omega arith) in
    let none : n / 2 ^ w ≡ 0 = div-eq_of_lt small in
    let same : w - w ≡ 0 = omega arith in
    let one : 2 ^ (w - w) * more ≡ more = ap (λ (k : ℕ). 2 ^ k * more) same ∙ (let single : 1 * more ≡ more = omega arith in single) in
    ap (λ (p : ℕ). (n + 2 ^ w * more) / p % 2) power ∙ ap (λ (m : ℕ). m % 2) (sym (div-div-eq-div-mul (n + 2 ^ w * more) (2 ^ w) (2 ^ (i - w))))
    ∙ ap (λ (m : ℕ). m / 2 ^ (i - w) % 2) (over ∙ (let sum : n / 2 ^ w + 2 ^ (w - w) * more ≡ more = omega (arith, none, one) in sum))

none_packed : (ns : List ℕ) → AreNarrow 0 ns → packed_number 0 ns ≡ 0
unfolding packed_number
none_packed [] h = refl
none_packed (n ∷ ns) h =
    let rest = none_packed ns h.1 in
    let this : n < 2 ^ 0 = h.0 in
    omega (arith, rest, this)

behind : (w L i : ℕ) → 0 < w → w ≤ i → (i - w < w * L → i < w * suc L) × (w * L ≤ i - w → w * suc L ≤ i)
behind w L i some le = (λ h. omega (arith, h), λ h. omega (arith, h))

pub bit_packed : (w : ℕ) (ns : List ℕ) (i : ℕ) → AreNarrow w ns → packed_bit w ns i ≡ bit (packed_number w ns) i
unfolding packed_number
bit_packed zero ns i h =
    let past : 0 * length ns ≤ i = omega arith in
    let none = none_packed ns h in
    (rw (le-ltb i (0 * length ns) past) refl) ∙ sym (bit_none i) ∙ ap (λ (n : ℕ). bit n i) (sym none)
bit_packed (suc v) [] i h =
    let past : suc v * 0 ≤ i = omega arith in
    (rw (le-ltb i (suc v * 0) past) refl) ∙ sym (bit_none i)
bit_packed (suc v) (n ∷ ns) i h = elim (cases_lt i (suc v)) [
  | inl lt ↦
      let within : i < suc v * suc (length ns) = omega (arith, mul-le (suc v) 1 (suc v) (suc (length ns)) (omega arith) (omega arith)) in
      let first : i / suc v ≡ 0 = div-eq_of_lt lt in
      let low : i % suc v ≡ i = mod-eq_of_lt lt in
      (rw (lt-ltb i (suc v * suc (length ns)) within) refl) ∙ ap (λ (k : ℕ). bit (get_or (n ∷ ns) k 0) (i % suc v)) first ∙ ap (λ (k : ℕ). bit n k) low
      ∙ sym (low_bit n (packed_number (suc v) ns) (suc v) i lt)
  | inr up ↦
      let j = i - suc v in
      let parts : i ≡ suc v * 1 + (i - suc v) = omega arith in
      let turned : i ≡ 1 * suc v + (i - suc v) = omega arith in
      let next : i / suc v ≡ 1 + (i - suc v) / suc v = ap (λ (k : ℕ). k / suc v) parts ∙ mul-add-div {m = suc v} (omega arith) 1 (i - suc v) in
      let place : i / suc v ≡ suc ((i - suc v) / suc v) = omega (arith, next) in
      let low : i % suc v ≡ (i - suc v) % suc v = ap (λ (k : ℕ). k % suc v) turned ∙ mul-add-mod_self_right 1 (suc v) (i - suc v) in
      let rest = bit_packed (suc v) ns (i - suc v) h.1 in
      let high = high_bit n (packed_number (suc v) ns) (suc v) i h.0 up in
      let moved = behind (suc v) (length ns) i (omega arith) up in
      elim (cases_lt (i - suc v) (suc v * length ns)) [
        | inl lt ↦
            let back : packed_bit (suc v) ns (i - suc v) ≡ bit (get_or ns ((i - suc v) / suc v) 0) ((i - suc v) % suc v) = rw (lt-ltb (i - suc v) (suc v * length ns) lt) refl in
            (rw (lt-ltb i (suc v * suc (length ns)) (moved.0 lt)) refl) ∙ ap (λ (k : ℕ). bit (get_or (n ∷ ns) k 0) (i % suc v)) place
            ∙ ap (λ (k : ℕ). bit (get_or ns ((i - suc v) / suc v) 0) k) low ∙ sym back ∙ rest ∙ sym high
        | inr over ↦
            let back : packed_bit (suc v) ns (i - suc v) ≡ 0 = rw (le-ltb (i - suc v) (suc v * length ns) over) refl in
            (rw (le-ltb i (suc v * suc (length ns)) (moved.1 over)) refl) ∙ sym back ∙ rest ∙ sym high
      ]
]

packed_number-push : (w : ℕ) (ns : List ℕ) (n : ℕ) → packed_number w (ns ++ n ∷ []) ≡ packed_number w ns + 2 ^ (w * length ns) * n
unfolding packed_number
packed_number-push w [] n =
    let none : 2 ^ (w * 0) * n ≡ 2 ^ 0 * n = ap (λ (k : ℕ). 2 ^ k * n) (let z : w * 0 ≡ 0 = omega arith in z) in
    let zeros : 2 ^ w * 0 ≡ 0 = omega arith in
    let one : 2 ^ 0 * n ≡ n = omega arith in
    omega (arith, none, zeros, one)
packed_number-push w (m ∷ ms) n =
    let rest = packed_number-push w ms n in
    let more : w * suc (length ms) ≡ w + w * length ms = omega arith in
    let power : 2 ^ (w * suc (length ms)) * n ≡ 2 ^ w * 2 ^ (w * length ms) * n = ap (λ (k : ℕ). 2 ^ k * n) more ∙ ap (λ (p : ℕ). p * n) (pow-add 2 w (w * length ms)) in
    let spread : 2 ^ w * packed_number w (ms ++ n ∷ []) ≡ 2 ^ w * (packed_number w ms + 2 ^ (w * length ms) * n) = ap (λ (k : ℕ). 2 ^ w * k) rest in
    omega (arith, power, spread)

-- the first numbers were put: some bytes of them stand, and the bits behind these are held
pub record Packing (start out : List ℕ) (w : ℕ) (ns : List ℕ) (i held bits : ℕ) : Type 0 where
  pub packed : List ℕ
  pub out_is : out ≡ start ++ packed
  pub whole : number packed + 2 ^ (8 * length packed) * held ≡ packed_number w (take i ns)
  pub bits_are : 8 * length packed + bits ≡ w * i
  pub small : held < 2 ^ bits
  pub fits : IsBytes packed

pub no_numbers : (start : List ℕ) (w : ℕ) (ns : List ℕ) → Packing start start w ns 0 0 0
unfolding packed_number number
no_numbers start w ns = record {
  packed = [];
  out_is = sym (append-nil start);
  whole = refl;
  bits_are = omega arith;
  small = omega arith;
  fits = λ i. omega arith;
}

pub one_number : (start out : List ℕ) (w : ℕ) (ns : List ℕ) (i held bits n : ℕ) → Packing start out w ns i held bits → i < length ns → n ≡ get_or ns i 0 → n < 2 ^ w → Packing start out w ns (i + 1) (held + n * 2 ^ bits) (bits + w)
one_number start out w ns i held bits n h lt is narrow =
    let L = 8 * length h.packed in
    let more : take (i + 1) ns ≡ take i ns ++ n ∷ [] = take_more ns i 0 lt ∙ ap (λ (k : ℕ). take i ns ++ k ∷ []) (sym is) in
    let size : length (take i ns) ≡ i = length-take-le i ns (omega arith) in
    let pushed : packed_number w (take (i + 1) ns) ≡ packed_number w (take i ns) + 2 ^ (w * i) * n =
    ap (λ (l : List ℕ). packed_number w l) more ∙ packed_number-push w (take i ns) n ∙ ap (λ (k : ℕ). packed_number w (take i ns) + 2 ^ (w * k) * n) size in
    let power : 2 ^ (w * i) ≡ 2 ^ (8 * length h.packed) * 2 ^ bits = ap (λ (k : ℕ). 2 ^ k) (sym h.bits_are) ∙ pow-add 2 (8 * length h.packed) bits in
    let product : 2 ^ (w * i) * n ≡ 2 ^ (8 * length h.packed) * 2 ^ bits * n = ap (λ (p : ℕ). p * n) power in
    let up : (n + 1) * 2 ^ bits ≤ 2 ^ w * 2 ^ bits = mul-le (n + 1) (2 ^ bits) (2 ^ w) (2 ^ bits) (omega arith) (omega arith) in
    let joined : 2 ^ (bits + w) ≡ 2 ^ w * 2 ^ bits = ap (λ (k : ℕ). 2 ^ k) (let turned : bits + w ≡ w + bits = omega arith in turned) ∙ pow-add 2 w bits in
    record {
      packed = h.packed;
      out_is = h.out_is;
      whole = omega (arith, h.whole, pushed, product);
      bits_are = omega (arith, h.bits_are);
      small = omega (arith, h.small, up, joined);
      fits = h.fits;
    }

pub bytes_joined : (xs ys : List ℕ) → IsBytes xs → IsBytes ys → IsBytes (xs ++ ys)
bytes_joined [] ys f g i = g i
bytes_joined (x ∷ xs) ys f g zero = f 0
bytes_joined (x ∷ xs) ys f g (suc i) = bytes_joined xs ys (λ k. f (suc k)) g i

eight_fit : (n : ℕ) → IsBytes (to_le_bytes w64 n)
eight_fit n zero = omega arith
eight_fit n (suc zero) = omega arith
eight_fit n (suc (suc zero)) = omega arith
eight_fit n (suc (suc (suc zero))) = omega arith
eight_fit n (suc (suc (suc (suc zero)))) = omega arith
eight_fit n (suc (suc (suc (suc (suc zero))))) = omega arith
eight_fit n (suc (suc (suc (suc (suc (suc zero)))))) = omega arith
eight_fit n (suc (suc (suc (suc (suc (suc (suc zero))))))) = omega arith
eight_fit n (suc (suc (suc (suc (suc (suc (suc (suc i)))))))) = omega arith

eight_is : (n : ℕ) → n < 2 ^ 64 → number (to_le_bytes w64 n) ≡ n
eight_is n small = sym (number_eight (byte_at 0 n) (byte_at 1 n) (byte_at 2 n) (byte_at 3 n) (byte_at 4 n) (byte_at 5 n) (byte_at 6 n) (byte_at 7 n)) ∙ from_le_bytes-to_le_bytes_8 n small

-- eight bytes of what is held are put
pub eight_put : (start out next : List ℕ) (w : ℕ) (ns : List ℕ) (i held bits : ℕ) → Packing start out w ns i held bits → 64 ≤ bits → next ≡ out ++ to_le_bytes w64 (held % 2 ^ 64)
    → Packing start next w ns i (held / 2 ^ 64) (bits - 64)
eight_put start out next w ns i held bits h full next_is =
    let low = held % 2 ^ 64 in
    let bytes = to_le_bytes w64 (held % 2 ^ 64) in
    let value : number (to_le_bytes w64 (held % 2 ^ 64)) ≡ held % 2 ^ 64 = eight_is (held % 2 ^ 64) (omega arith) in
    let parts : number (h.packed ++ to_le_bytes w64 (held % 2 ^ 64)) ≡ number h.packed + 2 ^ (8 * length h.packed) * (held % 2 ^ 64) =
    number-append h.packed (to_le_bytes w64 (held % 2 ^ 64)) ∙ ap (λ (n : ℕ). number h.packed + 2 ^ (8 * length h.packed) * n) value in
    let size : length (h.packed ++ to_le_bytes w64 (held % 2 ^ 64)) ≡ length h.packed + 8 = length-append h.packed (to_le_bytes w64 (held % 2 ^ 64)) in
    let power : 2 ^ (8 * length (h.packed ++ to_le_bytes w64 (held % 2 ^ 64))) ≡ 2 ^ (8 * length h.packed) * 2 ^ 64 =
    ap (λ (n : ℕ). 2 ^ (8 * n)) size ∙ ap (λ (n : ℕ). 2 ^ n) (let spread : 8 * (length h.packed + 8) ≡ 8 * length h.packed + 64 = omega arith in spread) ∙ pow-add 2 (8 * length h.packed) 64 in
    let product : 2 ^ (8 * length (h.packed ++ to_le_bytes w64 (held % 2 ^ 64))) * (held / 2 ^ 64) ≡ 2 ^ (8 * length h.packed) * 2 ^ 64 * (held / 2 ^ 64) = ap (λ (p : ℕ). p * (held / 2 ^ 64)) power in
    let joined : 2 ^ (8 * length h.packed) * (held % 2 ^ 64 + 2 ^ 64 * (held / 2 ^ 64)) ≡ 2 ^ (8 * length h.packed) * held = ap (λ (n : ℕ). 2 ^ (8 * length h.packed) * n) (mod-add-div held (2 ^ 64)) in
    let room : held < 2 ^ (bits - 64 + 64) = subst (λ (n : ℕ). held < 2 ^ n) (let back : bits ≡ bits - 64 + 64 = omega arith in back) h.small in
    record {
      packed = h.packed ++ to_le_bytes w64 (held % 2 ^ 64);
      out_is = next_is ∙ ap (λ (l : List ℕ). l ++ to_le_bytes w64 (held % 2 ^ 64)) h.out_is ∙ append_assoc start h.packed (to_le_bytes w64 (held % 2 ^ 64));
      whole = omega (arith, h.whole, parts, product, joined);
      bits_are = omega (arith, h.bits_are, size);
      small = shr_below held (bits - 64) 64 room;
      fits = bytes_joined h.packed (to_le_bytes w64 (held % 2 ^ 64)) h.fits (eight_fit (held % 2 ^ 64));
    }

front_is : (n k : ℕ) → k ≤ 8 → n < 2 ^ 64 → n < 2 ^ (8 * k) → number (take k (to_le_bytes w64 n)) ≡ n
front_is n k few small narrow =
    let bytes = to_le_bytes w64 n in
    let size : length (take k (to_le_bytes w64 n)) ≡ k = length-take-le k (to_le_bytes w64 n) few in
    let parts : number (take k (to_le_bytes w64 n)) + 2 ^ (8 * k) * number (drop k (to_le_bytes w64 n)) ≡ n =
    ap (λ (m : ℕ). number (take k (to_le_bytes w64 n)) + 2 ^ (8 * m) * number (drop k (to_le_bytes w64 n))) (sym size) ∙ sym (number-append (take k (to_le_bytes w64 n)) (drop k (to_le_bytes w64 n)))
    ∙ ap (λ (l : List ℕ). number l) (take-append-drop k (to_le_bytes w64 n)) ∙ eight_is n small in
    let front : number (take k (to_le_bytes w64 n)) < 2 ^ (8 * k) = subst (λ (m : ℕ). number (take k (to_le_bytes w64 n)) < 2 ^ (8 * m)) size (number_small (take k (to_le_bytes w64 n)) (bytes_taken k (to_le_bytes w64 n) (eight_fit n))) in
    let turned : number (drop k (to_le_bytes w64 n)) * 2 ^ (8 * k) + number (take k (to_le_bytes w64 n)) ≡ n = omega (arith, parts) in
    sym (mod_low (number (drop k (to_le_bytes w64 n))) (8 * k) (number (take k (to_le_bytes w64 n))) front) ∙ ap (λ (m : ℕ). m % 2 ^ (8 * k)) turned ∙ mod-eq_of_lt narrow

-- the last bits that are held are put
pub last_put : (start out next : List ℕ) (w : ℕ) (ns : List ℕ) (i held bits : ℕ) → Packing start out w ns i held bits → length ns ≤ i → i ≤ length ns → bits < 64 → AreNarrow w ns
    → next ≡ out ++ take ((bits + 7) / 8) (to_le_bytes w64 held) → (packed : List ℕ) × (next ≡ start ++ packed) × IsPacked w ns packed
last_put start out next w ns i held bits h all within few narrow next_is =
    let k = (bits + 7) / 8 in
    let tail = take ((bits + 7) / 8) (to_le_bytes w64 held) in
    let up : bits ≤ 8 * ((bits + 7) / 8) = omega arith in
    let least : (bits + 7) / 8 ≤ 8 = omega arith in
    let some : 0 < 2 = omega arith in
    let most : 2 ^ bits ≤ 2 ^ 64 = pow-le-pow_right {n = 2} some {i = bits} {j = 64} (omega arith) in
    let wide : 2 ^ bits ≤ 2 ^ (8 * ((bits + 7) / 8)) = pow-le-pow_right {n = 2} some {i = bits} {j = 8 * ((bits + 7) / 8)} up in
    let value : number (take ((bits + 7) / 8) (to_le_bytes w64 held)) ≡ held = front_is held ((bits + 7) / 8) least (omega (arith, h.small, most)) (omega (arith, h.small, wide)) in
    let size : length (take ((bits + 7) / 8) (to_le_bytes w64 held)) ≡ (bits + 7) / 8 = length-take-le ((bits + 7) / 8) (to_le_bytes w64 held) least in
    let whole : number (h.packed ++ take ((bits + 7) / 8) (to_le_bytes w64 held)) ≡ packed_number w ns =
    number-append h.packed (take ((bits + 7) / 8) (to_le_bytes w64 held)) ∙ ap (λ (n : ℕ). number h.packed + 2 ^ (8 * length h.packed) * n) value ∙ h.whole
    ∙ ap (λ (l : List ℕ). packed_number w l) (take_all i ns all) in
    let fit = bytes_joined h.packed (take ((bits + 7) / 8) (to_le_bytes w64 held)) h.fits (bytes_taken ((bits + 7) / 8) (to_le_bytes w64 held) (eight_fit held)) in
    let count : i ≡ length ns = omega arith in
    let total : 8 * length h.packed + bits ≡ w * length ns = h.bits_are ∙ ap (λ (n : ℕ). w * n) count in (
      h.packed ++ take ((bits + 7) / 8) (to_le_bytes w64 held),
      next_is ∙ ap (λ (l : List ℕ). l ++ take ((bits + 7) / 8) (to_le_bytes w64 held)) h.out_is ∙ append_assoc start h.packed (take ((bits + 7) / 8) (to_le_bytes w64 held)),
      record {
        size = omega (arith, length-append h.packed (take ((bits + 7) / 8) (to_le_bytes w64 held)), size, total);
        bits = λ j lt. bit_number (h.packed ++ take ((bits + 7) / 8) (to_le_bytes w64 held)) j fit ∙ ap (λ (n : ℕ). bit n j) whole ∙ sym (bit_packed w ns j narrow);
      },
    )
