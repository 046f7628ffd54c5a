-- Bytes as one number, and its bits.
use Rattle.std.proofs.Common.{◌≡◌, ℕ, zero, suc, ◌+◌, ◌-◌, ◌*◌, ◌/◌, ◌%◌, ◌^◌, ◌<◌, ◌≤◌, List, [], ◌∷◌, ◌++◌, length, take, drop, get_or, refl, sym, ◌∙◌, ap, subst, arith, inl, inr}
use Rattle.std.specs.Int.{w64, from_le_bytes}
use Rattle.std.proofs.Common.{bit_and, get_or-drop, length-drop, drop-cons}
use Rattle.std.proofs.lemmas.Bool.{cases_lt}
use Rattle.std.proofs.lemmas.Nat.{pow-add, shr-shr, mod-pow-add, shr_high, pow_pos, and_mask}
use Rattle.std.proofs.lemmas.List.{take-append-drop, take_all, drop_all, length-take-le}
use Rattle.std.proofs.Math.Nat.{div-one, div-eq_of_lt, mul-add-mod_self_right, add-mul-div_right, pow-le-pow_right}
use Rattle.fast_fields.specs.Packed.{bit, number}
use Rattle.fast_fields.specs.Lookups.{bits_at}
use Rattle.byte_fields.proofs.Taken.{IsBytes}

bit_none : (i : ℕ) → bit 0 i ≡ 0
bit_none i = ap (λ (n : ℕ). n % 2) (div-eq_of_lt (pow_pos i))

-- the low bits of a byte and more behind it
byte_low : (b more i : ℕ) → i < 8 → bit (b + 256 * more) i ≡ bit b i
byte_low b more zero lt = omega (arith, div-one (b + 256 * more), div-one b)
byte_low b more (suc zero) lt = omega arith
byte_low b more (suc (suc zero)) lt = omega arith
byte_low b more (suc (suc (suc zero))) lt = omega arith
byte_low b more (suc (suc (suc (suc zero)))) lt = omega arith
byte_low b more (suc (suc (suc (suc (suc zero))))) lt = omega arith
byte_low b more (suc (suc (suc (suc (suc (suc zero)))))) lt = omega arith
byte_low b more (suc (suc (suc (suc (suc (suc (suc zero))))))) lt = omega arith
byte_low b more (suc (suc (suc (suc (suc (suc (suc (suc i)))))))) lt = absurd (omega arith)

byte_high : (b more i j : ℕ) → b < 256 → i ≡ 8 + j → bit (b + 256 * more) i ≡ bit more j
byte_high b more i j small e =
    let whole : (b + 256 * more) / 2 ^ 8 ≡ more = omega arith in
    ap (λ (k : ℕ). (b + 256 * more) / 2 ^ k % 2) e ∙ ap (λ (n : ℕ). n % 2) (sym (shr-shr (b + 256 * more) 8 j)) ∙ ap (λ (n : ℕ). n / 2 ^ j % 2) whole

-- a bit of some bytes is one of their number
pub bit_number : (bs : List ℕ) (i : ℕ) → IsBytes bs → bit (get_or bs (i / 8) 0) (i % 8) ≡ bit (number bs) i
unfolding number
bit_number [] i fits = bit_none (i % 8) ∙ sym (bit_none i)
bit_number (b ∷ bs) i fits = elim (cases_lt i 8) [
  | inl lt ↦
      let first : i / 8 ≡ 0 = omega arith in
      let low : i % 8 ≡ i = omega arith in
      ap (λ (k : ℕ). bit (get_or (b ∷ bs) k 0) (i % 8)) first ∙ ap (λ (k : ℕ). bit b k) low ∙ sym (byte_low b (number bs) i lt)
  | inr up ↦
      let next : i / 8 ≡ suc ((i - 8) / 8) = omega arith in
      let low : i % 8 ≡ (i - 8) % 8 = omega arith in
      ap (λ (k : ℕ). bit (get_or (b ∷ bs) k 0) (i % 8)) next ∙ ap (λ (k : ℕ). bit (get_or bs ((i - 8) / 8) 0) k) low ∙ bit_number bs (i - 8) (λ k. fits (suc k))
      ∙ sym (byte_high b (number bs) i (i - 8) (fits 0) (omega arith))
]

-- so many bits from one on
pub bits_number : (count : ℕ) (bs : List ℕ) (start : ℕ) → IsBytes bs → bits_at count bs start ≡ number bs / 2 ^ start % 2 ^ count
unfolding bits_at
bits_number zero bs start fits = omega arith
bits_number (suc more) bs start fits =
    let y = number bs / 2 ^ start in
    let one : suc more ≡ more + 1 = omega arith in
    let parts : number bs / 2 ^ start % 2 ^ (more + 1) ≡ (number bs / 2 ^ start / 2 ^ 1 % 2 ^ more) * 2 ^ 1 + number bs / 2 ^ start % 2 ^ 1 = mod-pow-add (number bs / 2 ^ start) more 1 in
    let half : number bs / 2 ^ start / 2 ^ 1 ≡ number bs / 2 ^ (start + 1) = shr-shr (number bs) start 1 in
    let rest = bits_number more bs (start + 1) fits in
    let this : bit (get_or bs (start / 8) 0) (start % 8) ≡ number bs / 2 ^ start % 2 = bit_number bs start fits in
    let high : number bs / 2 ^ start / 2 ^ 1 % 2 ^ more ≡ bits_at more bs (start + 1) = ap (λ (n : ℕ). n % 2 ^ more) half ∙ sym rest in
    let whole : number bs / 2 ^ start % 2 ^ suc more ≡ (number bs / 2 ^ start / 2 ^ 1 % 2 ^ more) * 2 ^ 1 + number bs / 2 ^ start % 2 ^ 1 = ap (λ (n : ℕ). number bs / 2 ^ start % 2 ^ n) one ∙ parts in
    let low : number bs / 2 ^ start % 2 ^ 1 ≡ number bs / 2 ^ start % 2 = refl in
    omega (arith, this, high, whole, low)

power_more : (n : ℕ) → 2 ^ (8 * suc n) ≡ 256 * 2 ^ (8 * n)
power_more n = ap (λ (k : ℕ). 2 ^ k) (omega arith) ∙ pow-add 2 8 (8 * n)

pub number-append : (xs ys : List ℕ) → number (xs ++ ys) ≡ number xs + 2 ^ (8 * length xs) * number ys
unfolding number
number-append [] ys = omega arith
number-append (x ∷ xs) ys =
    let rest = number-append xs ys in
    let power : 2 ^ (8 * suc (length xs)) * number ys ≡ 256 * 2 ^ (8 * length xs) * number ys = ap (λ (p : ℕ). p * number ys) (power_more (length xs)) in
    omega (arith, rest, power)

pub number_small : (xs : List ℕ) → IsBytes xs → number xs < 2 ^ (8 * length xs)
unfolding number
number_small [] fits = omega arith
number_small (x ∷ xs) fits =
    let rest = number_small xs (λ i. fits (suc i)) in
    let first : x < 256 = fits 0 in
    let power = power_more (length xs) in
    omega (arith, rest, first, power)

-- a number of eight bytes
pub number_eight : (a b c d e f g h : ℕ) → from_le_bytes w64 (a ∷ b ∷ c ∷ d ∷ e ∷ f ∷ g ∷ h ∷ []) ≡ number (a ∷ b ∷ c ∷ d ∷ e ∷ f ∷ g ∷ h ∷ [])
unfolding number
number_eight a b c d e f g h = omega arith

-- what stands above so many bits has no part in the low ones
pub above_none : (a x k w : ℕ) → w ≤ k → (a + 2 ^ k * x) % 2 ^ w ≡ a % 2 ^ w
above_none a x k w le =
    let power : 2 ^ k ≡ 2 ^ (k - w) * 2 ^ w = ap (λ (n : ℕ). 2 ^ n) (omega arith) ∙ pow-add 2 (k - w) w in
    let turned : a + 2 ^ k * x ≡ (x * 2 ^ (k - w)) * 2 ^ w + a = omega (arith, ap (λ (p : ℕ). p * x) power) in
    ap (λ (n : ℕ). n % 2 ^ w) turned ∙ mul-add-mod_self_right (x * 2 ^ (k - w)) (2 ^ w) a

pub divided : (a x k s : ℕ) → s ≤ k → (a + 2 ^ k * x) / 2 ^ s ≡ a / 2 ^ s + 2 ^ (k - s) * x
divided a x k s le =
    let power : 2 ^ k ≡ 2 ^ (k - s) * 2 ^ s = ap (λ (n : ℕ). 2 ^ n) (omega arith) ∙ pow-add 2 (k - s) s in
    let turned : a + 2 ^ k * x ≡ a + (2 ^ (k - s) * x) * 2 ^ s = omega (arith, ap (λ (p : ℕ). p * x) power) in
    ap (λ (n : ℕ). n / 2 ^ s) turned ∙ add-mul-div_right a (2 ^ (k - s) * x) {z = 2 ^ s} (pow_pos s)

-- ---- what is read at a place

-- the bytes from a place on: the first eight, and those behind them
pub eight_and_more : (xs : List ℕ) → number xs ≡ number (take 8 xs) + 2 ^ 64 * number (drop 8 xs)
unfolding number
eight_and_more xs = elim (cases_lt (length xs) 8) [
  | inl short ↦
      let all : take 8 xs ≡ xs = take_all 8 xs (omega arith) in
      let none : drop 8 xs ≡ [] = drop_all 8 xs (omega arith) in
      let a : number (take 8 xs) ≡ number xs = ap (λ (l : List ℕ). number l) all in
      let b : number (drop 8 xs) ≡ 0 = ap (λ (l : List ℕ). number l) none in
      omega (arith, a, b)
  | inr long ↦
      let size : length (take 8 xs) ≡ 8 = length-take-le 8 xs long in
      let parts : number (take 8 xs ++ drop 8 xs) ≡ number (take 8 xs) + 2 ^ (8 * length (take 8 xs)) * number (drop 8 xs) = number-append (take 8 xs) (drop 8 xs) in
      ap (λ (l : List ℕ). number l) (sym (take-append-drop 8 xs)) ∙ parts ∙ ap (λ (n : ℕ). number (take 8 xs) + 2 ^ (8 * n) * number (drop 8 xs)) size
]

pub bytes_taken : (n : ℕ) (xs : List ℕ) → IsBytes xs → IsBytes (take n xs)
bytes_taken zero xs fits i = omega arith
bytes_taken (suc n) [] fits i = omega arith
bytes_taken (suc n) (x ∷ xs) fits zero = fits 0
bytes_taken (suc n) (x ∷ xs) fits (suc i) = bytes_taken n xs (λ k. fits (suc k)) i

-- what stands from a byte on
pub from_byte : (bs : List ℕ) (at s : ℕ) → IsBytes bs → at ≤ length bs → number bs / 2 ^ (8 * at + s) ≡ number (drop at bs) / 2 ^ s
from_byte bs at s fits le =
    let size : length (take at bs) ≡ at = length-take-le at bs le in
    let low : number (take at bs) < 2 ^ (8 * at) = subst (λ (n : ℕ). number (take at bs) < 2 ^ (8 * n)) size (number_small (take at bs) (bytes_taken at bs fits)) in
    let parts : number bs ≡ number (take at bs) + 2 ^ (8 * at) * number (drop at bs) =
    ap (λ (l : List ℕ). number l) (sym (take-append-drop at bs)) ∙ number-append (take at bs) (drop at bs) ∙ ap (λ (n : ℕ). number (take at bs) + 2 ^ (8 * n) * number (drop at bs)) size in
    let turned : number bs ≡ number (drop at bs) * 2 ^ (8 * at) + number (take at bs) = omega (arith, parts) in
    sym (shr-shr (number bs) (8 * at) s) ∙ ap (λ (n : ℕ). n / 2 ^ (8 * at) / 2 ^ s) turned ∙ ap (λ (n : ℕ). n / 2 ^ s) (shr_high (number (drop at bs)) (8 * at) (number (take at bs)) low)

pub bits_from_byte : (w : ℕ) (bs : List ℕ) (at s : ℕ) → IsBytes bs → at ≤ length bs → bits_at w bs (8 * at + s) ≡ number (drop at bs) / 2 ^ s % 2 ^ w
bits_from_byte w bs at s fits le = bits_number w bs (8 * at + s) fits ∙ ap (λ (n : ℕ). n % 2 ^ w) (from_byte bs at s fits le)

-- eight bytes have them all
pub read_in_eight : (bs : List ℕ) (at s w window start : ℕ) → IsBytes bs → at ≤ length bs → s + w ≤ 64 → start ≡ 8 * at + s → window ≡ number (take 8 (drop at bs)) → window / 2 ^ s % 2 ^ w ≡ bits_at w bs start
read_in_eight bs at s w window start fits le few start_is is =
    let more = number (drop 8 (drop at bs)) in
    let parts : number (drop at bs) ≡ window + 2 ^ 64 * number (drop 8 (drop at bs)) = omega (arith, eight_and_more (drop at bs), is) in
    let low : (window + 2 ^ 64 * number (drop 8 (drop at bs))) / 2 ^ s ≡ window / 2 ^ s + 2 ^ (64 - s) * number (drop 8 (drop at bs)) = divided window (number (drop 8 (drop at bs))) 64 s (omega arith) in
    let narrow : (window / 2 ^ s + 2 ^ (64 - s) * number (drop 8 (drop at bs))) % 2 ^ w ≡ window / 2 ^ s % 2 ^ w = above_none (window / 2 ^ s) (number (drop 8 (drop at bs))) (64 - s) w (omega arith) in
    sym (ap (λ (n : ℕ). bits_at w bs n) start_is ∙ bits_from_byte w bs at s fits le ∙ ap (λ (n : ℕ). n / 2 ^ s % 2 ^ w) parts ∙ ap (λ (n : ℕ). n % 2 ^ w) low ∙ narrow)

ninth : (xs : List ℕ) → 8 < length xs → number (drop 8 xs) ≡ get_or xs 8 0 + 256 * number (drop 9 xs)
unfolding number
ninth xs lt = ap (λ (l : List ℕ). number l) (drop-cons xs 8 0 lt)

wrapped : (a b w : ℕ) → w ≤ 64 → (a + b % 2 ^ 64) % 2 ^ 64 % 2 ^ w ≡ (a + b) % 2 ^ w
wrapped a b w le =
    let whole : (a + b % 2 ^ 64) % 2 ^ 64 ≡ (a + b) % 2 ^ 64 = omega arith in
    let parts : (a + b) ≡ (a + b) % 2 ^ 64 + 2 ^ 64 * ((a + b) / 2 ^ 64) = omega arith in
    ap (λ (n : ℕ). n % 2 ^ w) whole ∙ sym (above_none ((a + b) % 2 ^ 64) ((a + b) / 2 ^ 64) 64 w le) ∙ ap (λ (n : ℕ). n % 2 ^ w) (sym parts)

-- nine have them
pub read_in_nine : (bs : List ℕ) (at s w window start : ℕ) → IsBytes bs → at + 8 < length bs → s < 8 → w ≤ 64 → start ≡ 8 * at + s → window ≡ number (take 8 (drop at bs))
    → (window / 2 ^ s + get_or bs (at + 8) 0 * 2 ^ (64 - s) % 2 ^ 64) % 2 ^ 64 % 2 ^ w ≡ bits_at w bs start
read_in_nine bs at s w window start fits lt shift narrow start_is is =
    let byte : get_or (drop at bs) 8 0 ≡ get_or bs (at + 8) 0 = get_or-drop at bs 8 0 in
    let more = number (drop 9 (drop at bs)) in
    let there : 8 < length (drop at bs) = omega (arith, length-drop at bs) in
    let high : number (drop 8 (drop at bs)) ≡ get_or bs (at + 8) 0 + 256 * number (drop 9 (drop at bs)) = ninth (drop at bs) there ∙ ap (λ (n : ℕ). n + 256 * number (drop 9 (drop at bs))) byte in
    let parts : number (drop at bs) ≡ window + 2 ^ 64 * number (drop 8 (drop at bs)) = omega (arith, eight_and_more (drop at bs), is) in
    let low : (window + 2 ^ 64 * number (drop 8 (drop at bs))) / 2 ^ s ≡ window / 2 ^ s + 2 ^ (64 - s) * number (drop 8 (drop at bs)) = divided window (number (drop 8 (drop at bs))) 64 s (omega arith) in
    let power : 2 ^ (64 - s) * 256 ≡ 2 ^ (72 - s) = sym (ap (λ (n : ℕ). 2 ^ n) (omega arith) ∙ pow-add 2 (64 - s) 8) in
    let regrouped : window / 2 ^ s + 2 ^ (64 - s) * (get_or bs (at + 8) 0 + 256 * number (drop 9 (drop at bs)))
    ≡ (window / 2 ^ s + get_or bs (at + 8) 0 * 2 ^ (64 - s)) + 2 ^ (72 - s) * number (drop 9 (drop at bs)) = omega (arith, ap (λ (p : ℕ). p * number (drop 9 (drop at bs))) power) in
    let dropped = above_none (window / 2 ^ s + get_or bs (at + 8) 0 * 2 ^ (64 - s)) (number (drop 9 (drop at bs))) (72 - s) w (omega arith) in
    wrapped (window / 2 ^ s) (get_or bs (at + 8) 0 * 2 ^ (64 - s)) w narrow
    ∙ sym (ap (λ (n : ℕ). bits_at w bs n) start_is ∙ bits_from_byte w bs at s fits (omega arith) ∙ ap (λ (n : ℕ). n / 2 ^ s % 2 ^ w) parts ∙ ap (λ (n : ℕ). n % 2 ^ w) low
    ∙ ap (λ (n : ℕ). (window / 2 ^ s + 2 ^ (64 - s) * n) % 2 ^ w) high ∙ ap (λ (n : ℕ). n % 2 ^ w) regrouped ∙ dropped)

-- the greatest number of 64 bits without its low ones
pub mask_is : (w : ℕ) → w ≤ 64 → (2 ^ 64 - 1) / 2 ^ (64 - w) ≡ 2 ^ w - 1
mask_is w le =
    let whole : 64 ≡ w + (64 - w) = omega arith in
    let power : 2 ^ 64 ≡ 2 ^ w * 2 ^ (64 - w) = ap (λ (n : ℕ). 2 ^ n) whole ∙ pow-add 2 w (64 - w) in
    let some : 0 < 2 ^ w = pow_pos w in
    let other : 0 < 2 ^ (64 - w) = pow_pos (64 - w) in
    let product : (2 ^ w - 1) * 2 ^ (64 - w) + 2 ^ (64 - w) ≡ 2 ^ w * 2 ^ (64 - w) = omega (arith, ap (λ (n : ℕ). n * 2 ^ (64 - w)) (let back : 2 ^ w - 1 + 1 ≡ 2 ^ w = omega arith in back)) in
    let turned : 2 ^ 64 - 1 ≡ (2 ^ w - 1) * 2 ^ (64 - w) + (2 ^ (64 - w) - 1) = omega (arith, power, product) in
    ap (λ (n : ℕ). n / 2 ^ (64 - w)) turned ∙ shr_high (2 ^ w - 1) (64 - w) (2 ^ (64 - w) - 1) (omega arith)

-- one byte more in front
pub byte_before : (bs : List ℕ) (at value : ℕ) → at < length bs → value ≡ number (drop (at + 1) bs) → get_or bs at 0 + 256 * value ≡ number (drop at bs)
unfolding number
byte_before bs at value lt is =
    let next : at + 1 ≡ suc at = omega arith in
    sym (ap (λ (l : List ℕ). number l) (drop-cons bs at 0 lt) ∙ ap (λ (n : ℕ). get_or bs at 0 + 256 * number (drop n bs)) (sym next) ∙ ap (λ (n : ℕ). get_or bs at 0 + 256 * n) (sym is))

eight_list : (xs : List ℕ) → length xs ≡ 8 → from_le_bytes w64 (get_or xs 0 0 ∷ get_or xs 1 0 ∷ get_or xs 2 0 ∷ get_or xs 3 0 ∷ get_or xs 4 0 ∷ get_or xs 5 0 ∷ get_or xs 6 0 ∷ get_or xs 7 0 ∷ []) ≡ number xs
eight_list (a ∷ b ∷ c ∷ d ∷ e ∷ f ∷ g ∷ h ∷ []) size = number_eight a b c d e f g h
eight_list [] size = absurd (omega arith)
eight_list (a ∷ []) size = absurd (omega arith)
eight_list (a ∷ b ∷ []) size = absurd (omega arith)
eight_list (a ∷ b ∷ c ∷ []) size = absurd (omega arith)
eight_list (a ∷ b ∷ c ∷ d ∷ []) size = absurd (omega arith)
eight_list (a ∷ b ∷ c ∷ d ∷ e ∷ []) size = absurd (omega arith)
eight_list (a ∷ b ∷ c ∷ d ∷ e ∷ f ∷ []) size = absurd (omega arith)
eight_list (a ∷ b ∷ c ∷ d ∷ e ∷ f ∷ g ∷ []) size = absurd (omega arith)
eight_list (a ∷ b ∷ c ∷ d ∷ e ∷ f ∷ g ∷ h ∷ i ∷ more) size = absurd (omega arith)

-- eight bytes that stand at a place
pub eight_there : (bs piece : List ℕ) (at : ℕ) → at + 8 ≤ length bs → piece ≡ take (at + 8 - at) (drop at bs)
    → from_le_bytes w64 (get_or piece 0 0 ∷ get_or piece 1 0 ∷ get_or piece 2 0 ∷ get_or piece 3 0 ∷ get_or piece 4 0 ∷ get_or piece 5 0 ∷ get_or piece 6 0 ∷ get_or piece 7 0 ∷ []) ≡ number (take 8 (drop at bs))
eight_there bs piece at le is =
    let eight : at + 8 - at ≡ 8 = omega arith in
    let here : piece ≡ take 8 (drop at bs) = is ∙ ap (λ (n : ℕ). take n (drop at bs)) eight in
    let size : length piece ≡ 8 = ap (λ (l : List ℕ). length l) here ∙ length-take-le 8 (drop at bs) (omega (arith, length-drop at bs)) in
    eight_list piece size ∙ ap (λ (l : List ℕ). number l) here

-- fewer than eight bytes at the end
pub few_left : (bs : List ℕ) (at : ℕ) → length bs - at < 8 → number (drop at bs) ≡ number (take 8 (drop at bs))
few_left bs at few = sym (ap (λ (l : List ℕ). number l) (take_all 8 (drop at bs) (omega (arith, length-drop at bs))))

pub none_left : (bs : List ℕ) (at : ℕ) → length bs ≤ at → 0 ≡ number (drop at bs)
unfolding number
none_left bs at le = sym (ap (λ (l : List ℕ). number l) (drop_all at bs le))

bytes_dropped : (n : ℕ) (xs : List ℕ) → IsBytes xs → IsBytes (drop n xs)
bytes_dropped n xs fits i = rw (get_or-drop n xs i 0) (fits (n + i))

-- one byte more, where a number has eight of them
pub byte_joined : (bs : List ℕ) (at more value next : ℕ) → IsBytes bs → at < length bs → length bs ≤ at + 8 → more ≡ at + 1 → value ≡ number (drop more bs) → next ≡ (value * 256 % 2 ^ 64 + get_or bs at 0) % 2 ^ 64
    → next ≡ number (drop at bs)
byte_joined bs at more value next fits lt few more_is is next_is =
    let small : number (drop more bs) < 2 ^ (8 * length (drop more bs)) = number_small (drop more bs) (bytes_dropped more bs fits) in
    let some : 0 < 2 = omega arith in
    let most : 2 ^ (8 * length (drop more bs)) ≤ 2 ^ 56 = pow-le-pow_right {n = 2} some {i = 8 * length (drop more bs)} {j = 56} (omega (arith, length-drop more bs)) in
    let byte : get_or bs at 0 < 256 = fits at in
    let joined = byte_before bs at value lt (is ∙ ap (λ (n : ℕ). number (drop n bs)) more_is) in
    let whole : next ≡ get_or bs at 0 + 256 * value = omega (arith, next_is, is, small, most, byte) in
    whole ∙ joined
