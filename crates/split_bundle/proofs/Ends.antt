-- The end of a file: the footer and what stands behind it.
use Rattle.std.proofs.Common.{◌≡◌, ℕ, ◌+◌, ◌-◌, ◌<◌, ◌≤◌, ◌^◌, List, [], ◌++◌, length, take, drop, Result, Ok, Err, refl, sym, ap, ◌∙◌, arith, append_assoc, length-append}
use Rattle.std.specs.List.{slice_index}
use Rattle.std.proofs.lemmas.Bool.{lt-ltb, le-ltb}
use Rattle.std.proofs.lemmas.List.{drop-append-le, take_at}
use Rattle.std.proofs.lemmas.List.Prefix.{end_rest, at_reads}
use Rattle.byte_fields.specs.declared.field_error.FieldError.{FieldError}
use Rattle.byte_fields.specs.Spelling.{eight}
use Rattle.byte_fields.specs.Reading.{eight_at}
use Rattle.byte_fields.proofs.Taken.{eight_again}
use Rattle.split_bundle.specs.declared.split_error.SplitError.{SplitError}
use Rattle.split_bundle.specs.declared.split_error.SplitError.TheVariants.{Truncated}
use Rattle.split_bundle.specs.Files.{foot, ending}
use Rattle.split_bundle.specs.Reading.{footer_by, footer_in}

abbrev trailer : ℕ → List ℕ
trailer len = eight len ++ foot

abbrev read : List ℕ → Result (List ℕ) SplitError
read bytes = Ok bytes

abbrev got : ℕ × ℕ → Result (ℕ × ℕ) FieldError
got x = Ok x

-- where a trailer stands at the end, the footer is sought by its length
pub foot_found : (pre tail : List ℕ) (len size : ℕ) → len < 2 ^ 64 → tail ≡ pre ++ trailer len → footer_in size tail ≡ footer_by size tail (got (len, length tail - 12 + 8))
unfolding footer_in
foot_found pre tail len size fits e =
    let long : length tail ≡ length pre + 12 = ap (λ (l : List ℕ). length l) e ∙ length-append pre (trailer len) in
    let enough = le-ltb (length tail) 12 (omega arith) in
    let last : drop (length tail - 4) tail ≡ foot = end_rest tail foot (pre ++ eight len) (e ∙ sym (append_assoc pre (eight len) foot)) in
    let at : length tail - 4 + 3 ≡ length tail - 1 = omega arith in
    let version : slice_index tail (length tail - 1) ≡ 2 = ap (λ (i : ℕ). slice_index tail i) (sym at) ∙ at_reads 0 tail foot (length tail - 4) [] last 3 (omega arith) in
    let number : eight_at tail (length tail - 12) ≡ got (len, length tail - 12 + 8) = eight_again tail (length tail - 12) len foot fits (end_rest tail (trailer len) pre e) in
    rw (enough, last, version, number) refl

-- the end of two pieces, which is not shorter than the second one
pub end_of_two : (x y tail : List ℕ) (k : ℕ) → tail ≡ drop k (x ++ y) → k ≤ length x → tail ≡ drop k x ++ y
end_of_two x y tail k e le = e ∙ drop-append-le k x y le

-- the whole footer is in the end of the file
pub footer_found : (front footer tail : List ℕ) (size : ℕ) → 4 ≤ length front → length footer < 2 ^ 64 → size ≡ length front + (length footer + 12)
    → tail ≡ drop (size - length tail) (front ++ ending footer) → length footer + 12 ≤ length tail → footer_in size tail ≡ Ok footer
footer_found front footer tail size head fits size_is e long =
    let k : ℕ = size - length tail in
    let le : k ≤ length front = omega arith in
    let a : tail ≡ drop k front ++ ending footer = end_of_two front (ending footer) tail k e le in
    let b : tail ≡ (drop k front ++ footer) ++ trailer (length footer) = a ∙ sym (append_assoc (drop k front) footer (trailer (length footer))) in
    let room = le-ltb (size - 16) (length footer) (omega arith) in
    let held = le-ltb (length tail - 12) (length footer) (omega arith) in
    let all : length (ending footer) ≡ length footer + 12 = length-append footer (trailer (length footer)) in
    let place : length tail - 12 - length footer ≡ length tail - length (ending footer) = omega (arith, all) in
    let last : drop (length tail - 12 - length footer) tail ≡ ending footer = ap (λ (i : ℕ). drop i tail) place ∙ end_rest tail (ending footer) (drop k front) a in
    let found : take (length footer) (drop (length tail - 12 - length footer) tail) ≡ footer = ap (λ (l : List ℕ). take (length footer) l) last ∙ take_at footer (trailer (length footer)) (length footer) refl in
    foot_found (drop k front ++ footer) tail (length footer) size fits b ∙ rw (room, held, found) refl

-- some of it is not
pub footer_cut : (front footer tail : List ℕ) (size : ℕ) → 4 ≤ length front → length footer < 2 ^ 64 → size ≡ length front + (length footer + 12)
    → tail ≡ drop (size - length tail) (front ++ ending footer) → length tail < length footer + 12 → 12 ≤ length tail → footer_in size tail ≡ Err (Truncated (size - 12 - length footer))
footer_cut front footer tail size head fits size_is e short long =
    let k : ℕ = size - length tail in
    let both : length (front ++ footer) ≡ length front + length footer = length-append front footer in
    let le : k ≤ length (front ++ footer) = omega (arith, both) in
    let e1 : tail ≡ drop k ((front ++ footer) ++ trailer (length footer)) = e ∙ ap (λ (l : List ℕ). drop k l) (sym (append_assoc front footer (trailer (length footer)))) in
    let b : tail ≡ drop k (front ++ footer) ++ trailer (length footer) = end_of_two (front ++ footer) (trailer (length footer)) tail k e1 le in
    let room = le-ltb (size - 16) (length footer) (omega arith) in
    let held = lt-ltb (length tail - 12) (length footer) (omega arith) in
    foot_found (drop k (front ++ footer)) tail (length footer) size fits b ∙ rw (room, held) refl

-- not even the trailer is
pub trailer_cut : (tail : List ℕ) (size : ℕ) → length tail < 12 → footer_in size tail ≡ Err (Truncated (size - 12))
unfolding footer_in
trailer_cut tail size short = rw (lt-ltb (length tail) 12 short) refl
