-- Terms in bytes, one behind the other.
use Rattle.std.proofs.Common.{◌≡◌, ℕ, ◌+◌, ◌<◌, List, [], ◌∷◌, ◌++◌, length, drop, Result, Ok, Err, refl, sym, ◌∙◌, ap, arith, inl, inr, append_assoc, length-append}
use Rattle.std.proofs.lemmas.Bool.{cases_lt}
use Rattle.std.proofs.lemmas.List.{drop-drop, drop_at}
use Rattle.byte_fields.specs.Spelling.{varint, byte_string}
use Rattle.byte_fields.proofs.Varint.{varint-small, varint-large}
use Rattle.byte_fields.specs.declared.field_error.FieldError.{FieldError}
use Rattle.term_dict.specs.Terms.{area, term_bytes, info_bytes}
use Rattle.term_dict.specs.declared.term.Term.{Term}
use Rattle.term_dict.specs.declared.term.TermInfo.{TermInfo}

pub varint_some : (n : ℕ) → 0 < length (varint n)
varint_some n = elim (cases_lt n 128) [
  | inl small ↦ rw (varint-small n small) (omega arith)
  | inr large ↦ rw (varint-large n large) (omega arith)
]

pub term_some : (t : Term) → 0 < length (term_bytes t)
term_some t = omega (arith, varint_some (length t.key), length-append (byte_string t.key) (info_bytes t.info), length-append (varint (length t.key)) t.key)

-- behind a piece stands the rest
pub drop_behind : (bytes piece rest : List ℕ) (at : ℕ) → drop at bytes ≡ piece ++ rest → drop (at + length piece) bytes ≡ rest
drop_behind bytes piece rest at e = sym (drop-drop (length piece) at bytes) ∙ ap (λ (l : List ℕ). drop (length piece) l) e ∙ drop_at piece rest (length piece) refl

-- a number and the place behind it
abbrev done : ℕ × ℕ → Result (ℕ × ℕ) FieldError
done x = Ok x

ok_is : (x y : ℕ × ℕ) → done x ≡ done y → x ≡ y
ok_is x y e = cc

abbrev failed : FieldError → Result (ℕ × ℕ) FieldError
failed f = Err f

-- what was read is no fault
pub not_failed : (f : FieldError) (x : ℕ × ℕ) → failed f ≡ done x → ⊥
not_failed f x e = cc

pub number_read : (bytes rest : List ℕ) (at n got next : ℕ) → drop at bytes ≡ varint n ++ rest → done (got, next) ≡ done (n, at + length (varint n))
    → (got ≡ n) × (drop next bytes ≡ rest)
number_read bytes rest at n got next e is =
    let same = ok_is (got, next) (n, at + length (varint n)) is in
    (ap (λ (x : ℕ × ℕ). x.0) same, ap (λ (x : ℕ × ℕ). drop x.1 bytes) same ∙ drop_behind bytes (varint n) rest at e)

-- the numbers of a term, the one behind the other
pub info_parts : (bytes rest : List ℕ) (at : ℕ) (i : TermInfo) → drop at bytes ≡ info_bytes i ++ rest
    → drop at bytes ≡ varint i.docs ++ (varint i.postings ++ (varint i.postings_len ++ (varint i.positions ++ (varint i.positions_len ++ rest))))
info_parts bytes rest at i e = e ∙ simp append_assoc

abbrev pub info : ℕ → ℕ → ℕ → ℕ → ℕ → TermInfo
info a b c d e = record { docs = a; postings = b; postings_len = c; positions = d; positions_len = e }

pub same_info : (a b c d e : ℕ) (i : TermInfo) → a ≡ i.docs → b ≡ i.postings → c ≡ i.postings_len → d ≡ i.positions → e ≡ i.positions_len → info a b c d e ≡ i
same_info a b c d e i p q r s t =
    ap (λ (x : ℕ). info x b c d e) p ∙ ap (λ (x : ℕ). info i.docs x c d e) q ∙ ap (λ (x : ℕ). info i.docs i.postings x d e) r
    ∙ ap (λ (x : ℕ). info i.docs i.postings i.postings_len x e) s ∙ ap (λ (x : ℕ). info i.docs i.postings i.postings_len i.positions x) t

abbrev got_bytes : List ℕ × ℕ → Result (List ℕ × ℕ) FieldError
got_bytes x = Ok x

bytes_are : (x y : List ℕ × ℕ) → got_bytes x ≡ got_bytes y → x ≡ y
bytes_are x y e = cc

pub bytes_read : (bytes rest text got : List ℕ) (at next : ℕ) → drop at bytes ≡ byte_string text ++ rest → got_bytes (text, at + length (byte_string text)) ≡ got_bytes (got, next)
    → (got ≡ text) × (drop next bytes ≡ rest)
bytes_read bytes rest text got at next e is =
    let same = bytes_are (text, at + length (byte_string text)) (got, next) is in
    (sym (ap (λ (x : List ℕ × ℕ). x.0) same), sym (ap (λ (x : List ℕ × ℕ). drop x.1 bytes) same) ∙ drop_behind bytes (byte_string text) rest at e)

pub byte_string_some : (text : List ℕ) → 0 < length (byte_string text)
byte_string_some text = omega (arith, varint_some (length text), length-append (varint (length text)) text)

-- no bytes are of no terms
pub area_nil : (ts : List Term) → length (area ts) ≡ 0 → ts ≡ []
area_nil [] e = refl
area_nil (t ∷ ts) e = absurd (omega (arith, term_some t, length-append (term_bytes t) (area ts)))
