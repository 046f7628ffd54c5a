-- The fields beside numbers and byte strings: what is read is spelled there, and what is spelled there is read.
use Rattle.std.proofs.Common.{◌≡◌, ℕ, ℤ, pos, negsuc, ◌+◌, ◌-◌, ◌*◌, ◌^◌, ◌≤◌, ◌<◌, ◌/◌, ◌%◌, Bool, true, false, cond, eqb, ltb, leb, List, [], ◌∷◌, ◌++◌, length, get_or, take, drop, Result, Ok, Err, refl, sym, ap, subst, ◌∙◌, arith, inl, inr, ◌⊎◌}
use Rattle.std.specs.Prelude.{IfOk}
use Rattle.std.specs.Int.{w32, from_le_bytes}
use Rattle.std.specs.Str.{IsUtf8, is_utf8}
use Rattle.std.proofs.lemmas.Bool.{le-ltb, lt-leb, leb-false, eqb-true, ltb-false}
use Rattle.std.proofs.lemmas.Nat.{le_bytes_4, from_le_bytes-to_le_bytes_4}
use Rattle.std.proofs.lemmas.Str.{IsUtf8-from_is_utf8, is_utf8-from_IsUtf8}
use Rattle.std.proofs.lemmas.List.{length-append, length-drop, length-take, take_at}
use Rattle.byte_fields.specs.declared.field_error.FieldError.{FieldError}
use Rattle.byte_fields.specs.declared.field_error.FieldError.TheVariants.{Short, BadFlag, NotText}
use Rattle.byte_fields.specs.Spelling.{zigzag, signed, byte_string, flag, four, SpelledAt}
use Rattle.byte_fields.specs.Reading.{Gives, varint_at, bytes_at, text_at, unzigzag, signed_at, flag_at, four_at}
use Rattle.byte_fields.proofs.Taken.{IsBytes, IsBytes-take, IsBytes-drop, SpelledAt-byte, SpelledAt-piece, bind_ok, ok_is, guard_ok, guard_else_ok, head_at, varint_takes, varint_again, bytes_takes, bytes_again}

-- ---- texts

not_true : (b : Bool) → (b ≡ true → ⊥) → b ≡ false
not_true true h = absurd (h refl)
not_true false h = refl

pub text_is : (bytes : List ℕ) (at : ℕ) (text : List ℕ) (next : ℕ) → bytes_at bytes at ≡ Ok (text, next) → IsUtf8 text → text_at bytes at ≡ Ok (text, next)
unfolding text_at
text_is bytes at text next read utf8 = rw (read, is_utf8-from_IsUtf8 text utf8) refl

pub text_is_not : (bytes : List ℕ) (at : ℕ) (text : List ℕ) (next : ℕ) → bytes_at bytes at ≡ Ok (text, next) → ¬ (IsUtf8 text) → text_at bytes at ≡ Err (NotText at)
unfolding text_at
text_is_not bytes at text next read other = rw (read, not_true (is_utf8 text) (λ e. other (IsUtf8-from_is_utf8 text e))) refl

pub text_takes : (bytes : List ℕ) (at : ℕ) (x : List ℕ × ℕ) → IsBytes bytes → text_at bytes at ≡ Ok x → SpelledAt bytes at (byte_string x.0) x.1 × IsUtf8 x.0
unfolding text_at
text_takes bytes at x fits e =
    let read = bind_ok (bytes_at bytes at) (λ text. cond (is_utf8 text.0) (Ok text) (Err (NotText at))) x e in
    let g = guard_else_ok (is_utf8 read.0.0) (NotText at) (Ok read.0) x read.2 in
    let same : read.0 ≡ x = ok_is read.0 x g.1 in
    subst (λ (y : List ℕ × ℕ). SpelledAt bytes at (byte_string y.0) y.1 × IsUtf8 y.0) same ((bytes_takes bytes at read.0 fits read.1).0, IsUtf8-from_is_utf8 read.0.0 g.0)

pub text_found : {X : Type 0} (view : X → List ℕ × ℕ) (bytes : List ℕ) (at : ℕ) (r : Result X FieldError) → IsBytes bytes → Gives view r (text_at bytes at) → IfOk r (λ x. SpelledAt bytes at (byte_string (view x).0) (view x).1)
text_found view bytes at (Ok x) fits e = (text_takes bytes at (view x) fits e).0
text_found view bytes at (Err f) fits e = tt

pub text_again : (bytes : List ℕ) (at : ℕ) (text rest : List ℕ) → length text < 2 ^ 64 → IsUtf8 text → drop at bytes ≡ byte_string text ++ rest → text_at bytes at ≡ Ok (text, at + length (byte_string text))
text_again bytes at text rest fits utf8 e = text_is bytes at text (at + length (byte_string text)) (bytes_again bytes at text rest fits e) utf8

-- ---- signed numbers

even_or_odd : (n : ℕ) → (n % 2 ≡ 0) ⊎ (n % 2 ≡ 1)
even_or_odd n = by (n % 2) (omega arith)
  where
    by : (m : ℕ) → m < 2 → (m ≡ 0) ⊎ (m ≡ 1)
    by m h = grind arith

pub zigzag-unzigzag : (n : ℕ) → zigzag (unzigzag n) ≡ n
zigzag-unzigzag n = elim (even_or_odd n) [
  | inl even ↦ rw even (omega (arith, even))
  | inr odd ↦ rw odd (omega (arith, odd))
]

pub unzigzag-zigzag : (z : ℤ) → unzigzag (zigzag z) ≡ z
unzigzag-zigzag (pos n) =
    let even : 2 * n % 2 ≡ 0 = omega arith in
    let half : 2 * n / 2 ≡ n = omega arith in
    rw (even, half) refl
unzigzag-zigzag (negsuc n) =
    let odd : (2 * n + 1) % 2 ≡ 1 = omega arith in
    let half : (2 * n + 1) / 2 ≡ n = omega arith in
    rw (odd, half) refl

pub signed_takes : (bytes : List ℕ) (at : ℕ) (x : ℤ × ℕ) → IsBytes bytes → signed_at bytes at ≡ Ok x → SpelledAt bytes at (signed x.0) x.1 × (zigzag x.0 < 2 ^ 64)
unfolding signed_at
signed_takes bytes at x fits e =
    let read = bind_ok (varint_at bytes at) (λ n. Ok (unzigzag n.0, n.1)) x e in
    let made : ℤ × ℕ = (unzigzag read.0.0, read.0.1) in
    let same : made ≡ x = ok_is made x read.2 in
    let again = zigzag-unzigzag read.0.0 in
    subst (λ (y : ℤ × ℕ). SpelledAt bytes at (signed y.0) y.1 × (zigzag y.0 < 2 ^ 64)) same (rw again (varint_takes bytes at read.0.0 read.0.1 fits read.1))

pub signed_found : (bytes : List ℕ) (at : ℕ) (r : Result (ℤ × ℕ) FieldError) → IsBytes bytes → r ≡ signed_at bytes at → IfOk r (λ x. SpelledAt bytes at (signed x.0) x.1)
signed_found bytes at (Ok x) fits e = (signed_takes bytes at x fits (sym e)).0
signed_found bytes at (Err f) fits e = tt

pub signed_again : (bytes : List ℕ) (at : ℕ) (z : ℤ) (rest : List ℕ) → zigzag z < 2 ^ 64 → drop at bytes ≡ signed z ++ rest → signed_at bytes at ≡ Ok (z, at + length (signed z))
unfolding signed_at
signed_again bytes at z rest fits e = rw (varint_again bytes at (zigzag z) rest fits e, unzigzag-zigzag z) refl

-- ---- flags

pub flag_takes : (bytes : List ℕ) (at : ℕ) (x : Bool × ℕ) → flag_at bytes at ≡ Ok x → SpelledAt bytes at (flag x.0) x.1
unfolding flag_at
flag_takes bytes at x e = by (eqb (get_or bytes at 0) 0) refl (eqb (get_or bytes at 0) 1) refl
  where
    a : (leb (length bytes) at ≡ false) × (cond (eqb (get_or bytes at 0) 0) (Ok (false, at + 1)) (cond (eqb (get_or bytes at 0) 1) (Ok (true, at + 1)) (Err (BadFlag at))) ≡ Ok x)
    a = guard_ok (leb (length bytes) at) (Short (length bytes)) _ x e

    byte : SpelledAt bytes at (get_or bytes at 0 ∷ []) (at + 1)
    byte = SpelledAt-byte bytes at (leb-false (length bytes) at a.0)

    whole : (b : Bool) (d : ℕ) → get_or bytes at 0 ≡ d → flag b ≡ d ∷ [] → (b, at + 1) ≡ x → SpelledAt bytes at (flag x.0) x.1
    whole b d is spelled same =
        subst (λ (y : Bool × ℕ). SpelledAt bytes at (flag y.0) y.1) same (subst (λ (t : List ℕ). SpelledAt bytes at t (at + 1)) (ap (λ (k : ℕ). k ∷ []) is ∙ sym spelled) byte)

    by : (p : Bool) → eqb (get_or bytes at 0) 0 ≡ p → (q : Bool) → eqb (get_or bytes at 0) 1 ≡ q → SpelledAt bytes at (flag x.0) x.1
    by true h q g = let e : cond true (Ok (false, at + 1)) (cond (eqb (get_or bytes at 0) 1) (Ok (true, at + 1)) (Err (BadFlag at))) ≡ Ok x = rw h at a.1 in whole false 0 (eqb-true _ _ h) refl (ok_is (false, at + 1) x e)
    by false h true g = let e : cond false (Ok (false, at + 1)) (cond true (Ok (true, at + 1)) (Err (BadFlag at))) ≡ Ok x = rw (h, g) at a.1 in whole true 1 (eqb-true _ _ g) refl (ok_is (true, at + 1) x e)
    by false h false g = let e : cond false (Ok (false, at + 1)) (cond false (Ok (true, at + 1)) (Err (BadFlag at))) ≡ Ok x = rw (h, g) at a.1 in absurd cc

pub flag_found : (bytes : List ℕ) (at : ℕ) (r : Result (Bool × ℕ) FieldError) → r ≡ flag_at bytes at → IfOk r (λ x. SpelledAt bytes at (flag x.0) x.1)
flag_found bytes at (Ok x) e = flag_takes bytes at x (sym e)
flag_found bytes at (Err f) e = tt

pub flag_again : (bytes : List ℕ) (at : ℕ) (b : Bool) (rest : List ℕ) → drop at bytes ≡ flag b ++ rest → flag_at bytes at ≡ Ok (b, at + 1)
unfolding flag_at
flag_again bytes at false rest e =
    let head = head_at bytes at 0 rest e in
    rw (lt-leb (length bytes) at head.0, head.1) refl
flag_again bytes at true rest e =
    let head = head_at bytes at 1 rest e in
    rw (lt-leb (length bytes) at head.0, head.1) refl

-- ---- four bytes

four_below : (bytes : List ℕ) → IsBytes bytes → from_le_bytes w32 bytes < 2 ^ 32
four_below bytes fits = omega (arith, fits 0, fits 1, fits 2, fits 3)

pub four_takes : (bytes : List ℕ) (at : ℕ) (x : ℕ × ℕ) → IsBytes bytes → four_at bytes at ≡ Ok x → SpelledAt bytes at (four x.0) x.1 × (x.0 < 2 ^ 32)
unfolding four_at
four_takes bytes at x fits e =
    let g = guard_ok (ltb (length bytes - at) 4) (Short (length bytes)) (Ok (from_le_bytes w32 (take 4 (drop at bytes)), at + 4)) x e in
    let enough : 4 ≤ length bytes - at = ltb-false _ _ g.0 in
    let piece = SpelledAt-piece bytes at 4 (omega arith) in
    let small : IsBytes (take 4 (drop at bytes)) = IsBytes-take 4 (drop at bytes) (IsBytes-drop at bytes fits) in
    let len : length (take 4 (drop at bytes)) ≡ 4 = omega (arith, length-take 4 (drop at bytes), length-drop at bytes) in
    let back : four (from_le_bytes w32 (take 4 (drop at bytes))) ≡ take 4 (drop at bytes) = le_bytes_4 (take 4 (drop at bytes)) _ len small refl in
    let below : from_le_bytes w32 (take 4 (drop at bytes)) < 2 ^ 32 = four_below (take 4 (drop at bytes)) small in
    let whole : SpelledAt bytes at (four (from_le_bytes w32 (take 4 (drop at bytes)))) (at + 4) = subst (λ (t : List ℕ). SpelledAt bytes at t (at + 4)) (sym back) piece in
    subst (λ (y : ℕ × ℕ). SpelledAt bytes at (four y.0) y.1 × (y.0 < 2 ^ 32)) (ok_is (from_le_bytes w32 (take 4 (drop at bytes)), at + 4) x g.1) (whole, below)

pub four_again : (bytes : List ℕ) (at n : ℕ) (rest : List ℕ) → n < 2 ^ 32 → drop at bytes ≡ four n ++ rest → four_at bytes at ≡ Ok (n, at + 4)
unfolding four_at
four_again bytes at n rest fits e =
    let long : length bytes - at ≡ 4 + length rest = sym (length-drop at bytes) ∙ ap length e ∙ length-append (four n) rest in
    let enough : ltb (4 + length rest) 4 ≡ false = le-ltb _ _ (omega arith) in
    let front : take 4 (drop at bytes) ≡ four n = ap (take 4) e ∙ take_at (four n) rest 4 refl in
    rw (long, enough, front, from_le_bytes-to_le_bytes_4 n fits) refl

pub four_found : (bytes : List ℕ) (at : ℕ) (r : Result (ℕ × ℕ) FieldError) → IsBytes bytes → r ≡ four_at bytes at → IfOk r (λ x. SpelledAt bytes at (four x.0) x.1)
four_found bytes at (Ok x) fits e = (four_takes bytes at x fits (sym e)).0
four_found bytes at (Err f) fits e = tt
