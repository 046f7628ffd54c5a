-- Reading numbers that stand one behind the other.
use Rattle.std.proofs.Common.{◌≡◌, ℕ, ◌+◌, ◌<◌, List, [], ◌∷◌, ◌++◌, length, drop, zero, suc, ◌^◌, ◌≤◌, append_assoc, Result, Ok, Err, refl, sym, suc-add, ◌∙◌, ap, arith, inl, inr}
use Rattle.std.proofs.lemmas.Bool.{cases_lt}
use Rattle.std.proofs.lemmas.List.{drop-drop, drop_at, drop_all}
use Rattle.std.specs.List.{AllByRecursion}
use Rattle.term_postings.specs.Postings.{varints}
use Rattle.byte_fields.specs.Spelling.{varint}
use Rattle.byte_fields.proofs.Varint.{varint-small, varint-large}
use Rattle.byte_fields.specs.declared.field_error.FieldError.{FieldError}

pub varint_some : (n : ℕ) → 0 < length (varint n)
varint_some n = elim (cases_lt n 128) [
  | inl small ↦ rw (varint-small n small) (omega arith)
  | inr large ↦ rw (varint-large n large) (omega arith)
]

-- behind a piece stands the rest
pub drop_behind : (bytes piece rest : List ℕ) (at : ℕ) → drop at bytes ≡ piece ++ rest → drop (at + length piece) bytes ≡ rest
drop_behind bytes piece rest at e = sym (drop-drop (length piece) at bytes) ∙ ap (λ (l : List ℕ). drop (length piece) l) e ∙ drop_at piece rest (length piece) refl

-- a number and the place behind it
abbrev done : ℕ × ℕ → Result (ℕ × ℕ) FieldError
done x = Ok x

ok_is : (x y : ℕ × ℕ) → done x ≡ done y → x ≡ y
ok_is x y e = cc

pub number_read : (bytes rest : List ℕ) (at n got next : ℕ) → drop at bytes ≡ varint n ++ rest → done (got, next) ≡ done (n, at + length (varint n))
    → (got ≡ n) × (drop next bytes ≡ rest)
number_read bytes rest at n got next e is =
    let same = ok_is (got, next) (n, at + length (varint n)) is in
    (ap (λ (x : ℕ × ℕ). x.0) same, ap (λ (x : ℕ × ℕ). drop x.1 bytes) same ∙ drop_behind bytes (varint n) rest at e)

abbrev failed : FieldError → Result (ℕ × ℕ) FieldError
failed f = Err f

-- what was read is no fault
pub not_failed : (f : FieldError) (x : ℕ × ℕ) → failed f ≡ done x → ⊥
not_failed f x e = cc

-- the first of the numbers from a place on
pub numbers_front : (bytes rest : List ℕ) (at : ℕ) (ns : List ℕ) (i : ℕ) → i < length ns → drop at bytes ≡ varints (drop i ns) ++ rest → AllByRecursion (λ n. n < 2 ^ 64) ns
    → (n : ℕ) × (n < 2 ^ 64) × (drop at bytes ≡ varint n ++ (varints (drop (i + 1) ns) ++ rest))
numbers_front bytes rest at [] i lt e fits = absurd (omega arith)
numbers_front bytes rest at (n ∷ ns) zero lt e fits = (n, fits.0, e ∙ append_assoc (varint n) (varints ns) rest)
numbers_front bytes rest at (n ∷ ns) (suc i) lt e fits = rw suc-add (numbers_front bytes rest at ns i (omega arith) e fits.1)

pub numbers_end : (bytes rest : List ℕ) (at : ℕ) (ns : List ℕ) (i : ℕ) → length ns ≤ i → drop at bytes ≡ varints (drop i ns) ++ rest → drop at bytes ≡ rest
numbers_end bytes rest at ns i le e = e ∙ ap (λ (l : List ℕ). varints l ++ rest) (drop_all i ns le)
