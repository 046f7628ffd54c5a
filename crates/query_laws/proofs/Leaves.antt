-- What is asked of a path that no field has: leaf texts, of a field of whole texts.
use Rattle.std.proofs.Common.{◌≡◌, ◌≢◌, ℕ, zero, suc, ◌/◌, ◌%◌, ◌<◌, ◌&&◌, Bool, true, false, not, List, [], ◌∷◌, ◌++◌, length, Option, Some, refl, ap, ◌∙◌, subst, arith, nat_eq, lt-ltb, if◌then◌else◌, IsUtf8}
use Rattle.std.specs.Fmt.{decimal, digits, digits_onto, digit_glyph}
use Rattle.std.specs.Option.{IfSome}
use Rattle.std.specs.Str.{IsAscii}
use Rattle.std.proofs.lemmas.Str.{IsUtf8-append, IsUtf8-from_ascii}
use Rattle.doc_value.specs.Documents.{IsDynamic}
use Rattle.doc_value.specs.declared.schema.Field.{Field}
use Rattle.dynamic_paths.specs.LeafTexts.{leaf_text}
use Rattle.query_ast.specs.Meaning.{is_text}
use Rattle.query_reader.specs.Resolve.{is_unplaced}
use Rattle.query_reader.proofs.Holding.{IsHolder, few_tokens}

-- ---- leaf texts

ascii_more : (c : ℕ) (cs : List ℕ) → c < 128 → IsAscii cs → IsAscii (c ∷ cs)
ascii_more c cs l a zero = l
ascii_more c cs l a (suc i) = a i

ascii_none : IsAscii []
ascii_none i = omega arith

glyph_ascii : (n : ℕ) → digit_glyph false (n % 10) < 128
glyph_ascii n = rw (lt-ltb (n % 10) 10 (omega arith)) (omega arith)

digits_ascii : (k n : ℕ) (acc : List ℕ) → IsAscii acc → IsAscii (digits_onto k 10 false n acc)
digits_ascii zero n acc a = a
digits_ascii (suc k) n acc a =
    pick (nat_eq (n / 10) 0) (digit_glyph false (n % 10) ∷ acc) (digits_onto k 10 false (n / 10) (digit_glyph false (n % 10) ∷ acc))
    (ascii_more (digit_glyph false (n % 10)) acc (glyph_ascii n) a)
    (digits_ascii k (n / 10) (digit_glyph false (n % 10) ∷ acc) (ascii_more (digit_glyph false (n % 10)) acc (glyph_ascii n) a))
  where
    pick : (b : Bool) (xs ys : List ℕ) → IsAscii xs → IsAscii ys → IsAscii (if b then xs else ys)
    pick true xs ys p q = p
    pick false xs ys p q = q

decimal_ascii : (n : ℕ) → IsAscii (decimal n)
unfolding digits
decimal_ascii n = digits_ascii 64 n [] ascii_none

colon_utf8 : (bs : List ℕ) → IsUtf8 bs → IsUtf8 (58 ∷ bs)
colon_utf8 bs u = IsUtf8-append (58 ∷ []) bs (IsUtf8-from_ascii (58 ∷ []) (ascii_more 58 [] (omega arith) ascii_none)) u

-- a leaf text of two texts is a text, with at least one byte
pub leaf_utf8 : (path text : List ℕ) → IsUtf8 path → IsUtf8 text → IsUtf8 (leaf_text path text)
leaf_utf8 path text p t =
    IsUtf8-append (decimal (length path) ++ 58 ∷ path) (58 ∷ text)
    (IsUtf8-append (decimal (length path)) (58 ∷ path) (IsUtf8-from_ascii (decimal (length path)) (decimal_ascii (length path))) (colon_utf8 path p))
    (colon_utf8 text t)

some_behind : (xs ys : List ℕ) (c : ℕ) → xs ++ c ∷ ys ≢ []
some_behind [] ys c e = absurd (let y : c ∷ ys ≡ [] = e in cc)
some_behind (x ∷ xs) ys c e = absurd (let y : x ∷ (xs ++ c ∷ ys) ≡ [] = e in cc)

pub leaf_some : (path text : List ℕ) → leaf_text path text ≢ []
leaf_some path text = some_behind (decimal (length path) ++ 58 ∷ path) text 58

-- ---- the field that holds them

pub if_holder : (fields : List Field) (o : Option ℕ) (n : ℕ) → IfSome o (IsDynamic fields) → o ≡ Some n → IsDynamic fields n
if_holder fields o n h e = subst (λ (x : Option ℕ). IfSome x (IsDynamic fields)) e h

pub and_no : (a : Bool) → a && false ≡ false
and_no true = refl
and_no false = refl

pub holder_placed : (f : Field) (w : List ℕ) → IsHolder f → is_unplaced f w ≡ false
holder_placed f w h =
    ap (λ b. is_text f.kind && (not f.positions && b)) (few_tokens f w h)
    ∙ ap (λ b. is_text f.kind && b) (and_no (not f.positions))
    ∙ and_no (is_text f.kind)
