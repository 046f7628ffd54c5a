-- A number of several bytes, from its last byte to its first.
use Rattle.std.proofs.Common.{◌≡◌, ℕ, zero, suc, ◌+◌, ◌-◌, ◌*◌, ◌^◌, ◌≤◌, ◌<◌, List, length, get_or, Ok, Err, refl, sym, subst, ◌∙◌, arith, inl, inr}
use Rattle.std.proofs.Common.{◌≢◌}
use Rattle.std.proofs.lemmas.Bool.{cases_lt, lt-ltb, ne_eqb}
use Rattle.byte_fields.specs.declared.field_error.FieldError.{FieldError}
use Rattle.byte_fields.specs.declared.field_error.FieldError.TheVariants.{Short, NotMinimal, TooLarge}
use Rattle.byte_fields.specs.Long.{EndsAt}
use Rattle.byte_fields.specs.Reading.{varint_part}
use Rattle.byte_fields.proofs.Taken.{part_spent, part_short, part_last, part_more, part_too_large}

-- the bytes from a place on go on, up to a second place
abbrev pub GoOn : List ℕ → ℕ → ℕ → Type 0
GoOn bytes from to = (i : ℕ) → from ≤ i → i < to → 128 ≤ get_or bytes i 0

-- a fault behind bytes that go on is the fault of the whole
pub fault_before : (k left : ℕ) (bytes : List ℕ) (at start : ℕ) (e : FieldError) → at + k ≤ length bytes → GoOn bytes at (at + k) → varint_part left bytes (at + k) start ≡ Err e
    → varint_part (left + k) bytes at start ≡ Err e
fault_before zero left bytes at start e within high read =
    let m : left + 0 ≡ left = omega arith in
    let n : at + 0 ≡ at = omega arith in
    rw m (rw n at read)
fault_before (suc k) left bytes at start e within high read =
    let place : at + suc k ≡ (at + 1) + k = omega arith in
    let inner : varint_part (left + k) bytes (at + 1) start ≡ Err e = fault_before k left bytes (at + 1) start e (omega arith) (λ i lo hi. high i (omega arith) (omega arith)) (rw place at read) in
    let n : left + suc k - 1 ≡ left + k = omega arith in
    let ge : 128 ≤ get_or bytes at 0 = high at (omega arith) (omega arith) in
    part_more (left + suc k) at start bytes (omega arith) (omega arith) ge ∙ rw (n, inner) refl

-- one more byte in front
pub one_before : (left at start value next : ℕ) (bytes : List ℕ) → at < length bytes → 128 ≤ get_or bytes at 0 → value ≢ 0 → value < 2 ^ 57 → varint_part left bytes (at + 1) start ≡ Ok (value, next)
    → varint_part (left + 1) bytes at start ≡ Ok (get_or bytes at 0 - 128 + 128 * value, next)
one_before left at start value next bytes lt ge pos small read =
    let n : left + 1 - 1 ≡ left = omega arith in
    part_more (left + 1) at start bytes (omega arith) lt ge ∙ rw (n, read, ne_eqb value 0 pos, lt-ltb value (2 ^ 57) small) refl

pub too_large_before : (left at start value next : ℕ) (bytes : List ℕ) → at < length bytes → 128 ≤ get_or bytes at 0 → value ≢ 0 → 2 ^ 57 ≤ value → varint_part left bytes (at + 1) start ≡ Ok (value, next)
    → varint_part (left + 1) bytes at start ≡ Err (TooLarge start)
too_large_before left at start value next bytes lt ge pos large read =
    let n : left + 1 - 1 ≡ left = omega arith in
    let read_less : Ok (value, next) ≡ varint_part (left + 1 - 1) bytes (at + 1) start = rw n (sym read) in
    sym (part_too_large (left + 1) at start value next bytes (omega arith) lt ge read_less pos large)

pub not_minimal_before : (left at start next : ℕ) (bytes : List ℕ) → at < length bytes → 128 ≤ get_or bytes at 0 → varint_part left bytes (at + 1) start ≡ Ok (0, next)
    → varint_part (left + 1) bytes at start ≡ Err (NotMinimal start)
not_minimal_before left at start next bytes lt ge read =
    let n : left + 1 - 1 ≡ left = omega arith in
    part_more (left + 1) at start bytes (omega arith) lt ge ∙ rw (n, read) refl

-- ---- the bytes of a number

pub go_on_more : (bytes : List ℕ) (from to : ℕ) → GoOn bytes from to → 128 ≤ get_or bytes to 0 → GoOn bytes from (to + 1)
go_on_more bytes from to h ge i lo hi = elim (cases_lt i to) [
  | inl lt ↦ h i lo lt
  | inr le ↦ let same : to ≡ i = omega arith in subst (λ (n : ℕ). 128 ≤ get_or bytes n 0) same ge
]

-- a fault at a place of the number is the fault of the whole
whole_fault : (bytes : List ℕ) (start at : ℕ) (e : FieldError) → start ≤ at → at ≤ start + 10 → at ≤ length bytes → GoOn bytes start at → varint_part (10 + start - at) bytes at start ≡ Err e → varint_part 10 bytes start start ≡ Err e
whole_fault bytes start at e lo hi within high read =
    let place : start + (at - start) ≡ at = omega arith in
    let all : (10 + start - at) + (at - start) ≡ 10 = omega arith in
    let here : varint_part (10 + start - at) bytes (start + (at - start)) start ≡ Err e = rw place read in
    let high_here : GoOn bytes start (start + (at - start)) = rw place high in
    rw all at (fault_before (at - start) (10 + start - at) bytes start start e (omega arith) high_here here)

pub too_long : (bytes : List ℕ) (start last : ℕ) → last ≡ start + 9 → last < length bytes → GoOn bytes start last → 128 ≤ get_or bytes last 0 → varint_part 10 bytes start start ≡ Err (TooLarge start)
too_long bytes start last nine lt high ge =
    let none : 10 + start - (last + 1) ≡ 0 = omega arith in
    whole_fault bytes start (last + 1) (TooLarge start) (omega arith) (omega arith) (omega arith) (go_on_more bytes start last high ge) (part_spent (10 + start - (last + 1)) (last + 1) start bytes none)

pub too_short : (bytes : List ℕ) (start last : ℕ) → start ≤ last → last ≤ start + 9 → length bytes ≡ last → GoOn bytes start last → varint_part 10 bytes start start ≡ Err (Short last)
too_short bytes start last lo hi len high =
    let read : varint_part (10 + start - last) bytes last start ≡ Err (Short last) = part_short (10 + start - last) last start bytes (omega arith) (omega arith) ∙ rw len refl in
    whole_fault bytes start last (Short last) lo (omega arith) (omega arith) high read

pub last_read : (bytes : List ℕ) (start last value : ℕ) → EndsAt bytes start last → value ≡ get_or bytes last 0 → varint_part (10 + start - last) bytes last start ≡ Ok (value, last + 1)
last_read bytes start last value e is = part_last (10 + start - last) last start bytes (omega (arith, e.few)) e.within e.ends ∙ rw (← is) refl

pub not_minimal : (bytes : List ℕ) (start last : ℕ) → EndsAt bytes start last → start < last → 0 ≡ get_or bytes last 0 → varint_part 10 bytes start start ≡ Err (NotMinimal start)
not_minimal bytes start last e lt zero_last =
    let next : last - 1 + 1 ≡ last = omega arith in
    let left : 10 + start - last + 1 ≡ 10 + start - (last - 1) = omega (arith, e.few) in
    let read : varint_part (10 + start - last) bytes (last - 1 + 1) start ≡ Ok (0, last + 1) = rw next (last_read bytes start last 0 e zero_last) in
    let ge : 128 ≤ get_or bytes (last - 1) 0 = e.go_on (last - 1) (omega arith) (omega arith) in
    let fault = not_minimal_before (10 + start - last) (last - 1) start (last + 1) bytes (omega (arith, e.within)) ge read in
    whole_fault bytes start (last - 1) (NotMinimal start) (omega arith) (omega (arith, e.few)) (omega (arith, e.within)) (λ i lo hi. e.go_on i lo (omega arith)) (rw left at fault)

pub too_large : (bytes : List ℕ) (start last at value : ℕ) → EndsAt bytes start last → start < at → at ≤ last → value ≢ 0 → 2 ^ 57 ≤ value → varint_part (10 + start - at) bytes at start ≡ Ok (value, last + 1)
    → varint_part 10 bytes start start ≡ Err (TooLarge start)
too_large bytes start last at value e lt le pos large read =
    let next : at - 1 + 1 ≡ at = omega arith in
    let left : 10 + start - at + 1 ≡ 10 + start - (at - 1) = omega (arith, e.few) in
    let here : varint_part (10 + start - at) bytes (at - 1 + 1) start ≡ Ok (value, last + 1) = rw next read in
    let ge : 128 ≤ get_or bytes (at - 1) 0 = e.go_on (at - 1) (omega arith) (omega arith) in
    let fault = too_large_before (10 + start - at) (at - 1) start value (last + 1) bytes (omega (arith, e.within)) ge pos large here in
    whole_fault bytes start (at - 1) (TooLarge start) (omega arith) (omega (arith, e.few)) (omega (arith, e.within)) (λ i lo hi. e.go_on i lo (omega arith)) (rw left at fault)

pub one_more : (bytes : List ℕ) (start last at value : ℕ) → EndsAt bytes start last → start < at → at ≤ last → value ≢ 0 → value < 2 ^ 57 → varint_part (10 + start - at) bytes at start ≡ Ok (value, last + 1)
    → varint_part (10 + start - (at - 1)) bytes (at - 1) start ≡ Ok (get_or bytes (at - 1) 0 - 128 + 128 * value, last + 1)
one_more bytes start last at value e lt le pos small read =
    let next : at - 1 + 1 ≡ at = omega arith in
    let left : 10 + start - at + 1 ≡ 10 + start - (at - 1) = omega (arith, e.few) in
    let here : varint_part (10 + start - at) bytes (at - 1 + 1) start ≡ Ok (value, last + 1) = rw next read in
    let ge : 128 ≤ get_or bytes (at - 1) 0 = e.go_on (at - 1) (omega arith) (omega arith) in
    rw left at (one_before (10 + start - at) (at - 1) start value (last + 1) bytes (omega (arith, e.within)) ge pos small here)
