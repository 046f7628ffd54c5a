-- The area of a column's texts, read by itself.
use Rattle.std.proofs.Common.{◌≡◌, ℕ, zero, suc, ◌+◌, ◌-◌, ◌^◌, ◌<◌, ◌≤◌, cond, List, [], ◌∷◌, ◌++◌, length, take, drop, Result, Ok, Err, refl, sym, ap, subst, ◌∙◌, append_assoc, arith, length-append}
use Rattle.std.specs.List.{flat_map, AllByRecursion}
use Rattle.std.specs.Str.{IsUtf8, is_utf8}
use Rattle.std.proofs.lemmas.List.{append-nil}
use Rattle.byte_fields.specs.declared.corrupt.Corrupt.{Corrupt}
use Rattle.byte_fields.specs.declared.field_error.FieldError.{FieldError}
use Rattle.byte_fields.specs.declared.field_error.FieldError.TheVariants.{NotText}
use Rattle.byte_fields.specs.Spelling.{byte_string, SpelledAt}
use Rattle.byte_fields.specs.Reading.{bytes_at, text_at}
use Rattle.byte_fields.proofs.Taken.{IsBytes, bytes_takes, SpelledAt-then}
use Rattle.byte_fields.proofs.Taken as taken
use Rattle.byte_fields.proofs.Others.{text_takes, text_again}
use Rattle.byte_fields.specs.Steps.{◌>>=◌, field}
use Rattle.fast_fields.specs.Reading.{behind_texts}
use Rattle.fast_fields.proofs.Pieces.{drop_behind, between}

bind_ok : {A B : Type 0} (r : Result A Corrupt) (f : A → Result B Corrupt) (y : B) → (r >>= f) ≡ Ok y → (x : A) × (r ≡ Ok x) × (f x ≡ Ok y)
bind_ok (Ok x) f y e = (x, refl, e)
bind_ok (Err d) f y e = absurd cc

field_ok : {A : Type 0} (r : Result A FieldError) (x : A) → field r ≡ Ok x → r ≡ Ok x
field_ok (Ok y) x e = let same : y ≡ x = cc in ap (λ z. Ok z) same
field_ok (Err d) x e = absurd cc

-- a text that is read can be spelled
abbrev pub IsText : List ℕ → Type 0
IsText t = IsUtf8 t × (length t < 2 ^ 64)

pub text_bytes : (bytes : List ℕ) (at : ℕ) (x : List ℕ × ℕ) → text_at bytes at ≡ Ok x → bytes_at bytes at ≡ Ok x
unfolding text_at
text_bytes bytes at x e =
    let read = taken.bind_ok (bytes_at bytes at) (λ text. cond (is_utf8 text.0) (Ok text) (Err (NotText at))) x e in
    let g = taken.guard_else_ok (is_utf8 read.0.0) (NotText at) (Ok read.0) x read.2 in
    read.1 ∙ g.1

-- texts that stand between two places
pub record Passed (count : ℕ) (bytes : List ℕ) (from to : ℕ) : Type 0 where
  pub texts : List (List ℕ)
  pub fit : AllByRecursion IsText texts
  pub count_is : count ≡ length texts
  pub spelled : SpelledAt bytes from (flat_map byte_string texts) to

pub passed : (count : ℕ) (bytes : List ℕ) (from to : ℕ) → IsBytes bytes → from ≤ length bytes → behind_texts count bytes from ≡ Ok to → Passed count bytes from to
unfolding behind_texts
passed zero bytes from to fits le e =
    let same : from ≡ to = cc in
    record { texts = []; fit = tt; count_is = refl; spelled = subst (λ (n : ℕ). SpelledAt bytes from [] n) same (record { parts = refl; next_is = omega arith; within = le }) }
passed (suc more) bytes from to fits le e =
    let first = bind_ok (field (text_at bytes from)) (λ text. behind_texts more bytes text.1) to e in
    let is = field_ok (text_at bytes from) first.0 first.1 in
    let read = text_takes bytes from first.0 fits is in
    let small = bytes_takes bytes from first.0 fits (text_bytes bytes from first.0 is) in
    let rest = passed more bytes first.0.1 to fits read.0.within first.2 in
    record {
      texts = first.0.0 ∷ rest.texts;
      fit = ((read.1, small.1), rest.fit);
      count_is = omega (arith, rest.count_is);
      spelled = SpelledAt-then bytes from first.0.1 to (byte_string first.0.0) (flat_map byte_string rest.texts) read.0 rest.spelled;
    }

pub passed_again : (texts : List (List ℕ)) (area rest : List ℕ) (at : ℕ) → AllByRecursion IsText texts → drop at area ≡ flat_map byte_string texts ++ rest → behind_texts (length texts) area at ≡ Ok (at + length (flat_map byte_string texts))
unfolding behind_texts
passed_again [] area rest at fit e =
    let same : at ≡ at + 0 = omega arith in
    ap (λ (n : ℕ). Ok n) same
passed_again (t ∷ ts) area rest at fit e =
    let here : drop at area ≡ byte_string t ++ (flat_map byte_string ts ++ rest) = e ∙ append_assoc (byte_string t) (flat_map byte_string ts) rest in
    let read = text_again area at t (flat_map byte_string ts ++ rest) fit.0.1 fit.0.0 here in
    let next = passed_again ts area rest (at + length (byte_string t)) fit.1 (drop_behind area (byte_string t) (flat_map byte_string ts ++ rest) at here) in
    let place : at + length (byte_string t) + length (flat_map byte_string ts) ≡ at + length (byte_string t ++ flat_map byte_string ts) = omega (arith, length-append (byte_string t) (flat_map byte_string ts)) in
    rw read (next ∙ ap (λ (n : ℕ). Ok n) place)

-- what stands between the two places is so many texts, to its end
pub area_whole : (count : ℕ) (bytes : List ℕ) (from to : ℕ) → IsBytes bytes → from ≤ length bytes → behind_texts count bytes from ≡ Ok to
    → behind_texts count (take (to - from) (drop from bytes)) 0 ≡ Ok (length (take (to - from) (drop from bytes)))
area_whole count bytes from to fits le e =
    let p = passed count bytes from to fits le e in
    let area = flat_map byte_string p.texts in
    let up : from ≤ to = omega (arith, p.spelled.next_is) in
    let is : take (to - from) (drop from bytes) ≡ flat_map byte_string p.texts = between bytes (flat_map byte_string p.texts) (drop to bytes) from to p.spelled.parts refl up p.spelled.within in
    let whole = passed_again p.texts (flat_map byte_string p.texts) [] 0 p.fit (sym (append-nil (flat_map byte_string p.texts))) in
    let end : 0 + length (flat_map byte_string p.texts) ≡ length (flat_map byte_string p.texts) = omega arith in
    ap (λ (a : List ℕ). behind_texts count a 0) is ∙ ap (λ (n : ℕ). behind_texts n (flat_map byte_string p.texts) 0) p.count_is ∙ whole ∙ ap (λ (n : ℕ). Ok n) end ∙ ap (λ (a : List ℕ). Ok (length a)) (sym is)

pub area_none : (bytes : List ℕ) (at : ℕ) → behind_texts 0 (take (at - at) (drop at bytes)) 0 ≡ Ok (length (take (at - at) (drop at bytes)))
unfolding behind_texts
area_none bytes at =
    let none : at - at ≡ 0 = omega arith in
    rw none refl

-- ---- a text of such an area

-- one more text stands there
pub text_stands : (left more : ℕ) (bytes : List ℕ) (at end : ℕ) → left ≡ more + 1 → behind_texts left bytes at ≡ Ok end → (x : List ℕ × ℕ) × (text_at bytes at ≡ Ok x) × (behind_texts more bytes x.1 ≡ Ok end)
unfolding behind_texts
text_stands zero more bytes at end one e = absurd (omega arith)
text_stands (suc left) more bytes at end one e =
    let first = bind_ok (field (text_at bytes at)) (λ text. behind_texts left bytes text.1) end e in
    let same : left ≡ more = omega arith in
    (first.0, field_ok (text_at bytes at) first.0 first.1, ap (λ (n : ℕ). behind_texts n bytes first.0.1) (sym same) ∙ first.2)

-- a text and the place behind it
abbrev text_done : List ℕ × ℕ → Result (List ℕ × ℕ) FieldError
text_done x = Ok x

same_text : (x y : List ℕ × ℕ) → text_done x ≡ text_done y → x ≡ y
same_text x y e = cc

pub area_passed : (left more : ℕ) (bytes : List ℕ) (at end : ℕ) (got : List ℕ × ℕ) → left ≡ more + 1 → behind_texts left bytes at ≡ Ok end → bytes_at bytes at ≡ Ok got → behind_texts more bytes got.1 ≡ Ok end
area_passed left more bytes at end got one e read =
    let there = text_stands left more bytes at end one e in
    let same = same_text there.0 got (sym (text_bytes bytes at there.0 there.1) ∙ read) in
    ap (λ (x : List ℕ × ℕ). behind_texts more bytes x.1) (sym same) ∙ there.2

pub area_bytes : (left : ℕ) (bytes : List ℕ) (at end : ℕ) (fault : FieldError) → 0 < left → behind_texts left bytes at ≡ Ok end → bytes_at bytes at ≡ Err fault → ⊥
area_bytes left bytes at end fault some e read =
    let there = text_stands left (left - 1) bytes at end (omega arith) e in
    let wrong : text_done there.0 ≡ Err fault = sym (text_bytes bytes at there.0 there.1) ∙ read in
    cc

pub area_texts : (left : ℕ) (bytes : List ℕ) (at end : ℕ) (fault : FieldError) → 0 < left → behind_texts left bytes at ≡ Ok end → text_at bytes at ≡ Err fault → ⊥
area_texts left bytes at end fault some e read =
    let there = text_stands left (left - 1) bytes at end (omega arith) e in
    let wrong : text_done there.0 ≡ Err fault = sym there.1 ∙ read in
    cc
