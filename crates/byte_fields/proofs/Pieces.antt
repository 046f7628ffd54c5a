-- A count and a piece: what is read is spelled there, and what is spelled there is read.
use Rattle.std.proofs.Common.{◌≡◌, ℕ, ◌+◌, ◌^◌, ◌<◌, Bool, true, false, cond, ltb, List, ◌++◌, length, take, drop, Result, Ok, Err, sym, ap, ◌∙◌, refl, arith}
use Rattle.std.specs.Prelude.{IfOk}
use Rattle.std.proofs.lemmas.Bool.{lt-ltb}
use Rattle.std.proofs.lemmas.List.{drop-drop, drop_at, take_at}
use Rattle.byte_fields.specs.declared.field_error.FieldError.{FieldError}
use Rattle.byte_fields.specs.declared.corrupt.Corrupt.{Corrupt}
use Rattle.byte_fields.specs.Spelling.{varint, SpelledAt}
use Rattle.byte_fields.specs.Reading.{varint_at}
use Rattle.byte_fields.specs.Steps.{◌>>=◌, field, corrupt_at, count_at}
use Rattle.byte_fields.proofs.Taken.{IsBytes, varint_takes, varint_again}

only_small : {A : Type 0} (b : Bool) (c : Corrupt) (y x : A) → ◌≡◌ {A = Result A Corrupt} (cond b (Ok y) (Err c)) (Ok x) → y ≡ x
only_small true c y x e = cc
only_small false c y x e = absurd cc

count_ok : (v : Result (ℕ × ℕ) FieldError) (at : ℕ) (x : ℕ × ℕ) → (field v >>= λ count. cond (ltb count.0 (2 ^ 32)) (Ok count) (corrupt_at at)) ≡ Ok x → v ≡ Ok x
count_ok (Ok n) at x e = ap (λ (y : ℕ × ℕ). Ok y) (only_small (ltb n.0 (2 ^ 32)) (record { at = at }) n x e)
count_ok (Err f) at x e = absurd cc

pub count_found : (bytes : List ℕ) (at : ℕ) (r : Result (ℕ × ℕ) Corrupt) → IsBytes bytes → r ≡ count_at bytes at → IfOk r (λ x. SpelledAt bytes at (varint x.0) x.1)
unfolding count_at
count_found bytes at (Ok x) fits e = (varint_takes bytes at x.0 x.1 fits (count_ok (varint_at bytes at) at x (sym e))).0
count_found bytes at (Err c) fits e = tt

pub count_again : (bytes : List ℕ) (at n : ℕ) (rest : List ℕ) → n < 2 ^ 32 → drop at bytes ≡ varint n ++ rest → count_at bytes at ≡ Ok (n, at + length (varint n))
unfolding count_at
count_again bytes at n rest small e =
    let fits : n < 2 ^ 64 = omega arith in
    rw (varint_again bytes at n rest fits e, lt-ltb n (2 ^ 32) small) refl

-- behind a piece stands the rest
pub piece_read : (bytes piece rest : List ℕ) (at len : ℕ) → length piece ≡ len → drop at bytes ≡ piece ++ rest → (take len (drop at bytes) ≡ piece) × (drop (at + len) bytes ≡ rest)
piece_read bytes piece rest at len size e =
    (ap (λ (l : List ℕ). take len l) e ∙ take_at piece rest len size, sym (drop-drop len at bytes) ∙ ap (λ (l : List ℕ). drop len l) e ∙ drop_at piece rest len size)
