-- What is read is spelled there, and what is spelled there is read.
use Rattle.std.proofs.Common.{◌≡◌, ℕ, zero, suc, ◌+◌, ◌-◌, ◌*◌, ◌^◌, ◌≤◌, ◌<◌, ◌/◌, ◌%◌, Bool, true, false, cond, eqb, ltb, leb, List, [], ◌∷◌, ◌++◌, length, get_or, take, drop, Result, Ok, Err, refl, sym, ap, subst, ◌∙◌, append_assoc, arith, inl, inr}
use Rattle.std.proofs.Common.{◌≢◌}
use Rattle.std.proofs.lemmas.Bool.{cases_lt, lt-ltb, le-ltb, le-leb, lt-leb, leb-false, eqb-false, ltb-true, ltb-false, ne_eqb}
use Rattle.std.specs.Prelude.{IfOk}
use Rattle.std.proofs.lemmas.Nat.{div_below, le_bytes_8, from_le_bytes-to_le_bytes_8}
use Rattle.std.specs.Int.{w64, from_le_bytes}
use Rattle.std.proofs.Math.Nat.{pow-suc}
use Rattle.std.proofs.lemmas.List.{length-append, length-drop, length-take, drop_more, drop-drop, drop_at, take_at, take-append-drop, get_or-drop, get_or-take, get_or_past}
use Rattle.std.proofs.Common.{add-zero}
use Rattle.byte_fields.proofs.Varint.{varint-small, varint-large}
use Rattle.byte_fields.specs.declared.field_error.FieldError.{FieldError}
use Rattle.byte_fields.specs.declared.field_error.FieldError.TheVariants.{Short, NotMinimal, TooLarge}
use Rattle.byte_fields.specs.Spelling.{varint, byte_string, eight, SpelledAt}
use Rattle.byte_fields.specs.Reading.{◌>>=◌, Gives, joined, varint_part, varint_at, bytes_at, eight_at}

-- ---- one step of reading, by its cases

pub part_spent : (left at start : ℕ) (bytes : List ℕ) → left ≡ 0 → varint_part left bytes at start ≡ Err (TooLarge start)
unfolding varint_part
part_spent left at start bytes e = rw e refl

pub part_short : (left at start : ℕ) (bytes : List ℕ) → left ≢ 0 → length bytes ≤ at → varint_part left bytes at start ≡ Err (Short (length bytes))
unfolding varint_part
part_short zero at start bytes ne le = absurd (ne refl)
part_short (suc left) at start bytes ne le = rw (le-leb (length bytes) at le) refl

pub part_last : (left at start : ℕ) (bytes : List ℕ) → left ≢ 0 → at < length bytes → get_or bytes at 0 < 128 → varint_part left bytes at start ≡ Ok (get_or bytes at 0, at + 1)
unfolding varint_part
part_last zero at start bytes ne lt small = absurd (ne refl)
part_last (suc left) at start bytes ne lt small = rw (lt-leb (length bytes) at lt, lt-ltb (get_or bytes at 0) 128 small) refl

pub part_more : (left at start : ℕ) (bytes : List ℕ) → left ≢ 0 → at < length bytes → 128 ≤ get_or bytes at 0
    → varint_part left bytes at start ≡ (varint_part (left - 1) bytes (at + 1) start >>= joined (get_or bytes at 0) start)
unfolding varint_part
part_more zero at start bytes ne lt large = absurd (ne refl)
part_more (suc left) at start bytes ne lt large =
    let e : suc left - 1 ≡ left = omega arith in
    rw (lt-leb (length bytes) at lt, le-ltb (get_or bytes at 0) 128 large, e) refl

pub part_too_large : (left at start high next : ℕ) (bytes : List ℕ) → left ≢ 0 → at < length bytes → 128 ≤ get_or bytes at 0 → Ok (high, next) ≡ varint_part (left - 1) bytes (at + 1) start
    → high ≢ 0 → 2 ^ 57 ≤ high → Err (TooLarge start) ≡ varint_part left bytes at start
part_too_large left at start high next bytes ne lt large read pos ge =
    let e : varint_part left bytes at start ≡ Err (TooLarge start) = part_more left at start bytes ne lt large ∙ rw (← read, ne_eqb high 0 pos, le-ltb high (2 ^ 57) ge) refl in
    sym e

-- a number of two bytes
pub two_read : (bytes : List ℕ) (start : ℕ) → start + 1 < length bytes → 128 ≤ get_or bytes start 0 → get_or bytes (start + 1) 0 < 128 → get_or bytes (start + 1) 0 ≢ 0
    → varint_part 10 bytes start start ≡ Ok (get_or bytes start 0 - 128 + 128 * get_or bytes (start + 1) 0, start + 2)
two_read bytes start lt large small pos =
    let below : get_or bytes (start + 1) 0 < 2 ^ 57 = omega arith in
    let place : (start + 1) + 1 ≡ start + 2 = omega arith in
    part_more 10 start start bytes (omega arith) (omega arith) large
    ∙ rw (part_last 9 (start + 1) start bytes (omega arith) lt small, ne_eqb (get_or bytes (start + 1) 0) 0 pos, lt-ltb (get_or bytes (start + 1) 0) (2 ^ 57) below, place) refl

pub ruleset parts = (part_spent, part_short, part_last, part_more)

-- ---- both directions

abbrev pub IsBytes : List ℕ → Type 0
IsBytes bytes = (i : ℕ) → get_or bytes i 0 < 256

pub IsBytes-drop : (n : ℕ) (bytes : List ℕ) → IsBytes bytes → IsBytes (drop n bytes)
IsBytes-drop n bytes h i = rw get_or-drop (h (n + i))

pub IsBytes-take : (n : ℕ) (bytes : List ℕ) → IsBytes bytes → IsBytes (take n bytes)
IsBytes-take n bytes h i =
    elim (cases_lt i n) [
      | inl lt ↦ rw (get_or-take n bytes i 0 lt) (h i)
      | inr le ↦ rw (get_or_past (take n bytes) i 0 (omega (arith, length-take n bytes))) (omega arith)
    ]

from_le_below : (bytes : List ℕ) → IsBytes bytes → from_le_bytes w64 bytes < 2 ^ 64
from_le_below bytes fits = omega (arith, fits 0, fits 1, fits 2, fits 3, fits 4, fits 5, fits 6, fits 7)

pub bind_ok : {A B : Type 0} (r : Result A FieldError) (f : A → Result B FieldError) (y : B) → (r >>= f) ≡ Ok y → (x : A) × (r ≡ Ok x) × (f x ≡ Ok y)
bind_ok (Ok x) f y e = (x, refl, e)
bind_ok (Err d) f y e = absurd cc

-- a value and the place behind it
abbrev done : ℕ × ℕ → Result (ℕ × ℕ) FieldError
done x = Ok x

pub ok_is : {A : Type 0} (x y : A) → ◌≡◌ {A = Result A FieldError} (Ok x) (Ok y) → x ≡ y
ok_is x y e = cc

pub guard_ok : {A : Type 0} (b : Bool) (d : FieldError) (r : Result A FieldError) (y : A) → cond b (Err d) r ≡ Ok y → (b ≡ false) × (r ≡ Ok y)
guard_ok true d r y e = absurd cc
guard_ok false d r y e = (refl, e)

pub guard_else_ok : {A : Type 0} (b : Bool) (d : FieldError) (r : Result A FieldError) (y : A) → cond b r (Err d) ≡ Ok y → (b ≡ true) × (r ≡ Ok y)
guard_else_ok true d r y e = (refl, e)
guard_else_ok false d r y e = absurd cc

-- a field, and one behind it
pub SpelledAt-then : (bytes : List ℕ) (a b c : ℕ) (x y : List ℕ) → SpelledAt bytes a x b → SpelledAt bytes b y c → SpelledAt bytes a (x ++ y) c
SpelledAt-then bytes a b c x y p q = record {
  parts = p.parts ∙ ap (λ (t : List ℕ). x ++ t) q.parts ∙ sym (append_assoc x y (drop c bytes));
  next_is = omega (arith, p.next_is, q.next_is, length-append x y);
  within = q.within;
}

-- one byte
pub SpelledAt-byte : (bytes : List ℕ) (at : ℕ) → at < length bytes → SpelledAt bytes at (get_or bytes at 0 ∷ []) (at + 1)
SpelledAt-byte bytes at lt = record { parts = drop_more bytes at 0 lt; next_is = refl; within = omega arith }

last_digit : (bytes : List ℕ) (at n next : ℕ) → at < length bytes → get_or bytes at 0 < 128 → done (get_or bytes at 0, at + 1) ≡ done (n, next) → SpelledAt bytes at (varint n) next × (n < 2 ^ 64)
last_digit bytes at n next lt small e =
    subst (λ (x : ℕ × ℕ). SpelledAt bytes at (varint x.0) x.1 × (x.0 < 2 ^ 64)) (ok_is (get_or bytes at 0, at + 1) (n, next) e)
    (rw (varint-small (get_or bytes at 0) small) (SpelledAt-byte bytes at lt), omega arith)

more_digits : (bytes : List ℕ) (at high next : ℕ) (b n : ℕ) → b ≡ get_or bytes at 0 → at < length bytes → 128 ≤ b → b < 256 → 0 < high → high < 2 ^ 57 → n ≡ b - 128 + 128 * high → SpelledAt bytes (at + 1) (varint high) next
    → SpelledAt bytes at (varint n) next × (n < 2 ^ 64)
more_digits bytes at high next b n is lt large byte pos fits n_is rest =
    let low : n % 128 + 128 ≡ b = omega arith in
    let up : n / 128 ≡ high = omega arith in
    let whole : varint n ≡ (b ∷ []) ++ varint high = varint-large n (omega arith) ∙ ap (λ (d : ℕ). d ∷ varint (n / 128)) low ∙ ap (λ (h : ℕ). b ∷ varint h) up in
    let first : SpelledAt bytes at (b ∷ []) (at + 1) = rw is (SpelledAt-byte bytes at lt) in
    (rw whole (SpelledAt-then bytes at (at + 1) next (b ∷ []) (varint high) first rest), omega arith)

pub part_takes : (left : ℕ) (bytes : List ℕ) (at start n next : ℕ) → IsBytes bytes → varint_part left bytes at start ≡ Ok (n, next) → SpelledAt bytes at (varint n) next × (n < 2 ^ 64)
unfolding varint_part
part_takes zero bytes at start n next fits e = absurd cc
part_takes (suc left) bytes at start n next fits e =
    let a = guard_ok (leb (length bytes) at) (Short (length bytes)) (cond (ltb (get_or bytes at 0) 128) (Ok (get_or bytes at 0, at + 1)) (varint_part left bytes (at + 1) start >>= joined (get_or bytes at 0) start)) (n, next) e in
    let lt : at < length bytes = leb-false (length bytes) at a.0 in
    elim (cases_lt (get_or bytes at 0) 128) [
      | inl small ↦ last_digit bytes at n next lt small (rw (lt-ltb (get_or bytes at 0) 128 small) at a.1)
      | inr large ↦
          let more : (varint_part left bytes (at + 1) start >>= joined (get_or bytes at 0) start) ≡ Ok (n, next) = rw (le-ltb (get_or bytes at 0) 128 large) at a.1 in
          let high = bind_ok (varint_part left bytes (at + 1) start) (joined (get_or bytes at 0) start) (n, next) more in
          let g = guard_ok (eqb high.0.0 0) (NotMinimal start) (cond (ltb high.0.0 (2 ^ 57)) (Ok (get_or bytes at 0 - 128 + 128 * high.0.0, high.0.1)) (Err (TooLarge start))) (n, next) high.2 in
          let h = guard_else_ok (ltb high.0.0 (2 ^ 57)) (TooLarge start) (Ok (get_or bytes at 0 - 128 + 128 * high.0.0, high.0.1)) (n, next) g.1 in
          let ne : high.0.0 ≢ 0 = eqb-false _ _ g.0 in
          let small : high.0.0 < 2 ^ 57 = ltb-true _ _ h.0 in
          let rest = part_takes left bytes (at + 1) start high.0.0 high.0.1 fits high.1 in
          let is = ok_is (get_or bytes at 0 - 128 + 128 * high.0.0, high.0.1) (n, next) h.1 in
          let byte : get_or bytes at 0 < 256 = fits at in
          subst (λ (x : ℕ × ℕ). SpelledAt bytes at (varint x.0) x.1 × (x.0 < 2 ^ 64)) is
          (more_digits bytes at high.0.0 high.0.1 (get_or bytes at 0) _ refl lt large byte (omega arith) small refl rest.0)
    ]

-- the head of what stands at a place
pub head_at : (bytes : List ℕ) (at : ℕ) (b : ℕ) (rest : List ℕ) → drop at bytes ≡ b ∷ rest → (at < length bytes) × (get_or bytes at 0 ≡ b) × (drop (at + 1) bytes ≡ rest)
head_at bytes at b rest e =
    let long : length (drop at bytes) ≡ suc (length rest) = ap length e in
    let first : get_or (drop at bytes) 0 0 ≡ b = ap (λ (l : List ℕ). get_or l 0 0) e in (
      omega (arith, long, length-drop at bytes),
      ap (λ (k : ℕ). get_or bytes k 0) (sym (add-zero at)) ∙ sym (get_or-drop at bytes 0 0) ∙ first,
      sym (drop-drop 1 at bytes) ∙ ap (drop 1) e,
    )

more_again : (left : ℕ) (bytes : List ℕ) (at start n : ℕ) (rest : List ℕ) → 128 ≤ n → n < 2 ^ 64 → drop at bytes ≡ varint n ++ rest
    → varint_part left bytes (at + 1) start ≡ Ok (n / 128, (at + 1) + length (varint (n / 128))) → varint_part (suc left) bytes at start ≡ Ok (n, at + length (varint n))
more_again left bytes at start n rest large fits e read =
    let digits = varint-large n large in
    let head = head_at bytes at (n % 128 + 128) (varint (n / 128) ++ rest) (e ∙ ap (λ (l : List ℕ). l ++ rest) digits) in
    let byte : get_or bytes at 0 ≡ n % 128 + 128 = head.1 in
    let less : suc left - 1 ≡ left = omega arith in
    let big : 128 ≤ get_or bytes at 0 = omega arith in
    let pos : n / 128 ≢ 0 = omega arith in
    let small : n / 128 < 2 ^ 57 = omega arith in
    let value : n % 128 + 128 - 128 + 128 * (n / 128) ≡ n = omega arith in
    let place : (at + 1) + length (varint (n / 128)) ≡ at + length (varint n) = omega (arith, ap length digits) in
    part_more (suc left) at start bytes (omega arith) head.0 big
    ∙ rw (less, read, byte, ne_eqb (n / 128) 0 pos, lt-ltb (n / 128) (2 ^ 57) small, value, place) refl

small_again : (left : ℕ) (bytes : List ℕ) (at start n : ℕ) (rest : List ℕ) → n < 128 → drop at bytes ≡ varint n ++ rest → varint_part (suc left) bytes at start ≡ Ok (n, at + length (varint n))
small_again left bytes at start n rest small e =
    let digits = varint-small n small in
    let head = head_at bytes at n rest (e ∙ ap (λ (l : List ℕ). l ++ rest) digits) in
    let byte : get_or bytes at 0 < 128 = omega (arith, head.1) in
    part_last (suc left) at start bytes (omega arith) head.0 byte ∙ rw (head.1, digits) refl

pub part_again : (left : ℕ) (bytes : List ℕ) (at start n : ℕ) (rest : List ℕ) → n < 128 ^ suc left → n < 2 ^ 64 → drop at bytes ≡ varint n ++ rest → varint_part (suc left) bytes at start ≡ Ok (n, at + length (varint n))
part_again zero bytes at start n rest few fits e = small_again zero bytes at start n rest few e
part_again (suc left) bytes at start n rest few fits e = elim (cases_lt n 128) [
  | inl small ↦ small_again (suc left) bytes at start n rest small e
  | inr large ↦
      let digits = varint-large n large in
      let head = head_at bytes at (n % 128 + 128) (varint (n / 128) ++ rest) (e ∙ ap (λ (l : List ℕ). l ++ rest) digits) in
      let fewer : n / 128 < 128 ^ suc left = div_below n 128 (128 ^ suc left) (omega arith) (subst (λ (k : ℕ). n < k) (pow-suc 128 (suc left)) few) in
      more_again (suc left) bytes at start n rest large fits e (part_again left bytes (at + 1) start (n / 128) rest fewer (omega arith) head.2)
]

pub varint_found : (bytes : List ℕ) (at : ℕ) (r : Result (ℕ × ℕ) FieldError) → IsBytes bytes → r ≡ varint_at bytes at → IfOk r (λ x. SpelledAt bytes at (varint x.0) x.1)
unfolding varint_at
varint_found bytes at (Ok x) fits e = (part_takes 10 bytes at at x.0 x.1 fits (sym e)).0
varint_found bytes at (Err f) fits e = tt

pub varint_again : (bytes : List ℕ) (at n : ℕ) (rest : List ℕ) → n < 2 ^ 64 → drop at bytes ≡ varint n ++ rest → varint_at bytes at ≡ Ok (n, at + length (varint n))
unfolding varint_at
varint_again bytes at n rest fits e = part_again 9 bytes at at n rest (omega arith) fits e

-- what a number that is read is, for readers that go on
pub varint_takes : (bytes : List ℕ) (at n next : ℕ) → IsBytes bytes → varint_at bytes at ≡ Ok (n, next) → SpelledAt bytes at (varint n) next × (n < 2 ^ 64)
unfolding varint_at
varint_takes bytes at n next fits e = part_takes 10 bytes at at n next fits e

-- what stands between two places
pub SpelledAt-piece : (bytes : List ℕ) (at n : ℕ) → n + at ≤ length bytes → SpelledAt bytes at (take n (drop at bytes)) (at + n)
SpelledAt-piece bytes at n fits = record {
  parts = sym (take-append-drop n (drop at bytes)) ∙ ap (λ (l : List ℕ). take n (drop at bytes) ++ l) (drop-drop n at bytes);
  next_is = omega (arith, length-take n (drop at bytes), length-drop at bytes);
  within = omega arith;
}

pub bytes_takes : (bytes : List ℕ) (at : ℕ) (x : List ℕ × ℕ) → IsBytes bytes → bytes_at bytes at ≡ Ok x → SpelledAt bytes at (byte_string x.0) x.1 × (length x.0 < 2 ^ 64)
unfolding bytes_at
bytes_takes bytes at x fits e =
    let n = bind_ok (varint_at bytes at) (λ n. cond (ltb (length bytes - n.1) n.0) (Err (Short (length bytes))) (Ok (take n.0 (drop n.1 bytes), n.1 + n.0))) x e in
    let g = guard_ok (ltb (length bytes - n.0.1) n.0.0) (Short (length bytes)) (Ok (take n.0.0 (drop n.0.1 bytes), n.0.1 + n.0.0)) x n.2 in
    let first = varint_takes bytes at n.0.0 n.0.1 fits n.1 in
    let enough : n.0.0 ≤ length bytes - n.0.1 = ltb-false _ _ g.0 in
    let piece = SpelledAt-piece bytes n.0.1 n.0.0 (omega (arith, first.0.within)) in
    let len : length (take n.0.0 (drop n.0.1 bytes)) ≡ n.0.0 = omega (arith, length-take n.0.0 (drop n.0.1 bytes), length-drop n.0.1 bytes) in
    let made : List ℕ × ℕ = (take n.0.0 (drop n.0.1 bytes), n.0.1 + n.0.0) in
    let both = SpelledAt-then bytes at n.0.1 (n.0.1 + n.0.0) (varint n.0.0) (take n.0.0 (drop n.0.1 bytes)) first.0 piece in
    let whole : SpelledAt bytes at (byte_string made.0) made.1 = rw len both in
    subst (λ (y : List ℕ × ℕ). SpelledAt bytes at (byte_string y.0) y.1 × (length y.0 < 2 ^ 64)) (ok_is made x g.1) (whole, omega (arith, len, first.1))

pub bytes_again : (bytes : List ℕ) (at : ℕ) (text rest : List ℕ) → length text < 2 ^ 64 → drop at bytes ≡ byte_string text ++ rest → bytes_at bytes at ≡ Ok (text, at + length (byte_string text))
unfolding bytes_at
bytes_again bytes at text rest fits e =
    let regrouped : drop at bytes ≡ varint (length text) ++ (text ++ rest) = e ∙ append_assoc (varint (length text)) text rest in
    let read = varint_again bytes at (length text) (text ++ rest) fits regrouped in
    let behind : drop (at + length (varint (length text))) bytes ≡ text ++ rest = sym (drop-drop (length (varint (length text))) at bytes) ∙ ap (drop (length (varint (length text)))) regrouped ∙ drop_at (varint (length text)) (text ++ rest) _ refl in
    let long : length bytes - (at + length (varint (length text))) ≡ length text + length rest = sym (length-drop (at + length (varint (length text))) bytes) ∙ ap length behind ∙ length-append text rest in
    let enough : ltb (length text + length rest) (length text) ≡ false = le-ltb _ _ (omega arith) in
    let end : (at + length (varint (length text))) + length text ≡ at + length (byte_string text) = omega (arith, length-append (varint (length text)) text) in
    rw (read, long, enough, behind, take_at text rest (length text) refl, end) refl

pub bytes_found : {X : Type 0} (view : X → List ℕ × ℕ) (bytes : List ℕ) (at : ℕ) (r : Result X FieldError) → IsBytes bytes → Gives view r (bytes_at bytes at) → IfOk r (λ x. SpelledAt bytes at (byte_string (view x).0) (view x).1)
bytes_found view bytes at (Ok x) fits e = (bytes_takes bytes at (view x) fits e).0
bytes_found view bytes at (Err f) fits e = tt

-- ---- eight bytes

pub eight_takes : (bytes : List ℕ) (at : ℕ) (x : ℕ × ℕ) → IsBytes bytes → eight_at bytes at ≡ Ok x → SpelledAt bytes at (eight x.0) x.1 × (x.0 < 2 ^ 64)
unfolding eight_at
eight_takes bytes at x fits e =
    let g = guard_ok (ltb (length bytes - at) 8) (Short (length bytes)) (Ok (from_le_bytes w64 (take 8 (drop at bytes)), at + 8)) x e in
    let enough : 8 ≤ length bytes - at = ltb-false _ _ g.0 in
    let piece = SpelledAt-piece bytes at 8 (omega arith) in
    let fits8 : IsBytes (take 8 (drop at bytes)) = IsBytes-take 8 (drop at bytes) (IsBytes-drop at bytes fits) in
    let len : length (take 8 (drop at bytes)) ≡ 8 = omega (arith, length-take 8 (drop at bytes), length-drop at bytes) in
    let back : eight (from_le_bytes w64 (take 8 (drop at bytes))) ≡ take 8 (drop at bytes) = le_bytes_8 (take 8 (drop at bytes)) _ len fits8 refl in
    let below : from_le_bytes w64 (take 8 (drop at bytes)) < 2 ^ 64 = from_le_below (take 8 (drop at bytes)) fits8 in
    let whole : SpelledAt bytes at (eight (from_le_bytes w64 (take 8 (drop at bytes)))) (at + 8) = subst (λ (t : List ℕ). SpelledAt bytes at t (at + 8)) (sym back) piece in
    subst (λ (y : ℕ × ℕ). SpelledAt bytes at (eight y.0) y.1 × (y.0 < 2 ^ 64)) (ok_is (from_le_bytes w64 (take 8 (drop at bytes)), at + 8) x g.1) (whole, below)

pub eight_again : (bytes : List ℕ) (at n : ℕ) (rest : List ℕ) → n < 2 ^ 64 → drop at bytes ≡ eight n ++ rest → eight_at bytes at ≡ Ok (n, at + 8)
unfolding eight_at
eight_again bytes at n rest fits e =
    let long : length bytes - at ≡ 8 + length rest = sym (length-drop at bytes) ∙ ap length e ∙ length-append (eight n) rest in
    let enough : ltb (8 + length rest) 8 ≡ false = le-ltb _ _ (omega arith) in
    let front : take 8 (drop at bytes) ≡ eight n = ap (take 8) e ∙ take_at (eight n) rest 8 refl in
    rw (long, enough, front, from_le_bytes-to_le_bytes_8 n fits) refl

pub eight_found : (bytes : List ℕ) (at : ℕ) (r : Result (ℕ × ℕ) FieldError) → IsBytes bytes → r ≡ eight_at bytes at → IfOk r (λ x. SpelledAt bytes at (eight x.0) x.1)
eight_found bytes at (Ok x) fits e = (eight_takes bytes at x fits (sym e)).0
eight_found bytes at (Err f) fits e = tt
