-- What the readers of any column answer.
use Rattle.std.proofs.Common.{◌≡◌, ℕ, zero, suc, ◌+◌, ◌-◌, ◌<◌, ◌≤◌, Bool, true, false, ◌&&◌, cond, ltb, List, length, take, drop, Some, None, Result, Ok, Err, max, refl, ap, ◌∙◌, arith}
use Rattle.std.specs.Int.{w32, from_le_bytes}
use Rattle.std.specs.Borrow.{Bor}
use Rattle.std.proofs.lemmas.Bool.{lt-ltb, le-ltb, eq-eqb, ne_eqb}
use Rattle.byte_fields.specs.declared.field_error.FieldError.{FieldError}
use Rattle.byte_fields.specs.Reading.{bytes_at, text_at, four_at}
use Rattle.fast_fields.specs.declared.column.Column.{Column}
use Rattle.fast_fields.specs.Readers.{LendsText}
use Rattle.fast_fields.specs.Lookups.{text_behind, text_of, document_of, value_of, value_there, greatest_before, if_any}

-- four bytes where four stand
pub four_there : (bytes : List ℕ) (at : ℕ) → at + 4 ≤ length bytes → four_at bytes at ≡ Ok (from_le_bytes w32 (take 4 (drop at bytes)), at + 4)
unfolding four_at
four_there bytes at le =
    let enough : ltb (length bytes - at) 4 ≡ false = le-ltb _ _ (omega arith) in
    rw enough refl

-- a number and the place behind it
abbrev done : ℕ × ℕ → Result (ℕ × ℕ) FieldError
done x = Ok x

abbrev failed : FieldError → Result (ℕ × ℕ) FieldError
failed e = Err e

same_done : (x y : ℕ × ℕ) → done x ≡ done y → x ≡ y
same_done x y e = cc

pub four_got : (bytes : List ℕ) (at n next : ℕ) → at + 4 ≤ length bytes → done (n, next) ≡ four_at bytes at → n ≡ from_le_bytes w32 (take 4 (drop at bytes))
four_got bytes at n next le e = ap (λ (x : ℕ × ℕ). x.0) (same_done (n, next) (from_le_bytes w32 (take 4 (drop at bytes)), at + 4) (e ∙ four_there bytes at le))

pub four_fails : (bytes : List ℕ) (at : ℕ) (fault : FieldError) → at + 4 ≤ length bytes → failed fault ≡ four_at bytes at → ⊥
four_fails bytes at fault le e =
    let wrong : failed fault ≡ done (from_le_bytes w32 (take 4 (drop at bytes)), at + 4) = e ∙ four_there bytes at le in
    cc

-- ---- texts

pub text_passed : (left more : ℕ) (bytes : List ℕ) (at : ℕ) (passed : List ℕ × ℕ) → left ≡ more + 1 → bytes_at bytes at ≡ Ok passed → text_behind left bytes at ≡ text_behind more bytes passed.1
unfolding text_behind
text_passed zero more bytes at passed one e = absurd (omega arith)
text_passed (suc left) more bytes at passed one e =
    let same : left ≡ more = omega arith in
    rw (same, e) refl

pub text_failed : (left : ℕ) (bytes : List ℕ) (at : ℕ) (fault : FieldError) → 0 < left → bytes_at bytes at ≡ Err fault → text_behind left bytes at ≡ Err fault
unfolding text_behind
text_failed zero bytes at fault lt e = absurd (omega arith)
text_failed (suc left) bytes at fault lt e = rw e refl

pub text_last : (left : ℕ) (bytes : List ℕ) (at : ℕ) → left ≡ 0 → text_behind left bytes at ≡ text_at bytes at
unfolding text_behind
text_last zero bytes at none = refl
text_last (suc left) bytes at none = absurd (omega arith)

pub text_past : (c : Column) (ordinal : ℕ) → c.text_count ≤ ordinal → LendsText None (text_of c ordinal)
unfolding text_of
text_past c ordinal le = rw (le-ltb ordinal c.text_count le) tt

pub text_got : (c : Column) (ordinal : ℕ) (t : Bor (List ℕ)) (behind : ℕ) → ordinal < c.text_count → text_behind ordinal c.texts.now 0 ≡ Ok (t.now, behind) → LendsText (Some t) (text_of c ordinal)
unfolding text_of
text_got c ordinal t behind lt e = rw (lt-ltb ordinal c.text_count lt, e) refl

pub text_lost : (c : Column) (ordinal : ℕ) (fault : FieldError) → ordinal < c.text_count → text_behind ordinal c.texts.now 0 ≡ Err fault → LendsText None (text_of c ordinal)
unfolding text_of
text_lost c ordinal fault lt e = rw (lt-ltb ordinal c.text_count lt, e) tt

-- ---- the greatest value

pub greatest_none : (c : Column) → 0 ≡ greatest_before c 0
unfolding greatest_before
greatest_none c = refl

pub greatest_more : (c : Column) (place behind : ℕ) → behind ≡ place + 1 → greatest_before c behind ≡ max (value_of c place) (greatest_before c place)
unfolding greatest_before
greatest_more c place behind one =
    let same : behind ≡ suc place = omega arith in
    rw same refl

pub any_is : (c : Column) (n : ℕ) → 0 < c.count → if_any c n ≡ Some n
any_is c n lt = rw (lt-ltb 0 c.count lt) refl

-- ---- the value of a document

pub value_is : (c : Column) (document place : ℕ) → place < c.count → document_of c place ≡ document → value_there c document place ≡ Some (value_of c place)
value_is c document place lt same = rw (lt-ltb place c.count lt, eq-eqb (document_of c place) document same) refl

pub value_past : (c : Column) (document place : ℕ) → c.count ≤ place → value_there c document place ≡ None
value_past c document place le = rw (le-ltb place c.count le) refl

none_of : (b : Bool) (n : ℕ) → cond (b && false) (Some n) None ≡ None
none_of true n = refl
none_of false n = refl

pub value_other : (c : Column) (document place : ℕ) → (document_of c place ≡ document → ⊥) → value_there c document place ≡ None
value_other c document place other = rw (ne_eqb (document_of c place) document other) (none_of (ltb place c.count) (value_of c place))
