-- Steps of reading a column.
use Rattle.std.proofs.Common.{◌≡◌, ℕ, zero, suc, ◌+◌, ◌<◌, List, Result, Ok, Err, refl, ap, sym, arith}
use Rattle.std.specs.Prelude.{IsErrAnd}
use Rattle.byte_fields.specs.declared.corrupt.Corrupt.{Corrupt}
use Rattle.byte_fields.specs.declared.field_error.FieldError.{FieldError}
use Rattle.byte_fields.specs.Places.{place_of}
use Rattle.byte_fields.specs.Reading.{text_at}
use Rattle.fast_fields.specs.Reading.{behind_texts}

-- a fault at a place
abbrev fault : ℕ → Corrupt
fault at = record { at = at }

pub corrupt_is : (c : Corrupt) (at : ℕ) → c.at ≡ at → fault at ≡ c
corrupt_is c at e = ap (λ (n : ℕ). fault n) (sym e)

pub texts_more : (left more : ℕ) (bytes : List ℕ) (at : ℕ) (text : List ℕ × ℕ) → left ≡ more + 1 → text_at bytes at ≡ Ok text → behind_texts left bytes at ≡ behind_texts more bytes text.1
unfolding behind_texts
texts_more zero more bytes at text one e = absurd (omega arith)
texts_more (suc left) more bytes at text one e =
    let same : left ≡ more = omega arith in
    rw (same, e) refl

pub texts_fault : (left : ℕ) (bytes : List ℕ) (at : ℕ) (e : FieldError) (r : Result ℕ Corrupt) → 0 < left → text_at bytes at ≡ Err e → IsErrAnd r (λ d. d.at ≡ place_of e) → r ≡ behind_texts left bytes at
unfolding behind_texts
texts_fault zero bytes at e r lt is same = absurd (omega arith)
texts_fault (suc more) bytes at e (Ok x) lt is same = absurd same
texts_fault (suc more) bytes at e (Err d) lt is same = rw is (ap (λ (f : Corrupt). Err f) (sym (corrupt_is d (place_of e) same)))

pub texts_none : (left : ℕ) (bytes : List ℕ) (at : ℕ) → left ≡ 0 → behind_texts left bytes at ≡ Ok at
unfolding behind_texts
texts_none zero bytes at e = refl
texts_none (suc more) bytes at e = absurd (omega arith)
