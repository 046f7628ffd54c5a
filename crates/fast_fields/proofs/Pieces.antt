-- Fields that stand one behind the other.
use Rattle.std.proofs.Common.{◌≡◌, ℕ, ◌+◌, ◌≤◌, List, ◌∷◌, ◌++◌, length, take, drop, Result, Ok, Err, ◌-◌, refl, sym, ◌∙◌, ap, arith, append_assoc, length-append, length-drop}
use Rattle.std.proofs.lemmas.List.{drop-drop, drop_at, take_at}
use Rattle.byte_fields.specs.Spelling.{byte_string}
use Rattle.byte_fields.specs.declared.field_error.FieldError.{FieldError}

-- behind a piece stands the rest
pub drop_behind : (bytes piece rest : List ℕ) (at : ℕ) → drop at bytes ≡ piece ++ rest → drop (at + length piece) bytes ≡ rest
drop_behind bytes piece rest at e = sym (drop-drop (length piece) at bytes) ∙ ap (λ (l : List ℕ). drop (length piece) l) e ∙ drop_at piece rest (length piece) refl

-- a number and the place behind it
abbrev done : ℕ × ℕ → Result (ℕ × ℕ) FieldError
done x = Ok x

ok_is : (x y : ℕ × ℕ) → done x ≡ done y → x ≡ y
ok_is x y e = cc

abbrev failed : FieldError → Result (ℕ × ℕ) FieldError
failed f = Err f

-- what was read is no fault
pub not_failed : (f : FieldError) (x : ℕ × ℕ) → failed f ≡ done x → ⊥
not_failed f x e = cc

pub number_read : (bytes piece rest : List ℕ) (at n got next size : ℕ) → size ≡ length piece → drop at bytes ≡ piece ++ rest → done (got, next) ≡ done (n, at + size) → (got ≡ n) × (drop next bytes ≡ rest)
number_read bytes piece rest at n got next size size_is e is =
    let same = ok_is (got, next) (n, at + size) is in
    (ap (λ (x : ℕ × ℕ). x.0) same, ap (λ (x : ℕ × ℕ). drop x.1 bytes) same ∙ ap (λ (i : ℕ). drop (at + i) bytes) size_is ∙ drop_behind bytes piece rest at e)

abbrev got_bytes : List ℕ × ℕ → Result (List ℕ × ℕ) FieldError
got_bytes x = Ok x

bytes_are : (x y : List ℕ × ℕ) → got_bytes x ≡ got_bytes y → x ≡ y
bytes_are x y e = cc

abbrev failed_bytes : FieldError → Result (List ℕ × ℕ) FieldError
failed_bytes f = Err f

pub bytes_not_failed : (x : List ℕ × ℕ) (f : FieldError) → got_bytes x ≡ failed_bytes f → ⊥
bytes_not_failed x f e = cc

pub bytes_read : (bytes rest text got : List ℕ) (at next : ℕ) → drop at bytes ≡ byte_string text ++ rest → got_bytes (text, at + length (byte_string text)) ≡ got_bytes (got, next)
    → (got ≡ text) × (drop next bytes ≡ rest)
bytes_read bytes rest text got at next e is =
    let same = bytes_are (text, at + length (byte_string text)) (got, next) is in
    (sym (ap (λ (x : List ℕ × ℕ). x.0) same), sym (ap (λ (x : List ℕ × ℕ). drop x.1 bytes) same) ∙ drop_behind bytes (byte_string text) rest at e)

pub piece_read : (bytes piece rest : List ℕ) (at len : ℕ) → length piece ≡ len → drop at bytes ≡ piece ++ rest → (take len (drop at bytes) ≡ piece) × (drop (at + len) bytes ≡ rest)
piece_read bytes piece rest at len size e =
    (ap (λ (l : List ℕ). take len l) e ∙ take_at piece rest len size, ap (λ (i : ℕ). drop (at + i) bytes) (sym size) ∙ drop_behind bytes piece rest at e)

-- the parts of a column, with what stands behind it
pub column_parts : (bytes column rest n t d l p : List ℕ) (w : ℕ) → bytes ≡ column ++ rest → column ≡ n ++ (t ++ (d ++ (l ++ (w ∷ p)))) → bytes ≡ n ++ (t ++ (d ++ (l ++ (w ∷ (p ++ rest)))))
column_parts bytes column rest n t d l p w e is = e ∙ ap (λ (c : List ℕ). c ++ rest) is ∙ simp append_assoc

-- where a piece in front of the rest ends
pub end_of : (bytes column rest : List ℕ) (end : ℕ) → bytes ≡ column ++ rest → end ≤ length bytes → drop end bytes ≡ rest → end ≡ length column
end_of bytes column rest end e le behind =
    omega (arith, ap (λ (l : List ℕ). length l) e, ap (λ (l : List ℕ). length l) behind, length-append column rest, length-drop end bytes)

-- what stands between two places
pub between : (bytes piece rest : List ℕ) (from to : ℕ) → drop from bytes ≡ piece ++ rest → drop to bytes ≡ rest → from ≤ to → to ≤ length bytes → take (to - from) (drop from bytes) ≡ piece
between bytes piece rest from to e behind le within =
    let size : length piece ≡ to - from =
    omega (arith, ap (λ (l : List ℕ). length l) e, ap (λ (l : List ℕ). length l) behind, length-append piece rest, length-drop from bytes, length-drop to bytes) in
    ap (λ (l : List ℕ). take (to - from) l) e ∙ take_at piece rest (to - from) size
