-- The paths of the fields that can serve, kept in a set.
use Rattle.std.proofs.Common.{◌≡◌, ℕ, suc, ◌+◌, ◌||◌, ◌&&◌, Bool, true, false, List, [], ◌∷◌, ◌++◌, take, slice_get, Some, refl, ap, sym, ◌∙◌, arith}
use Rattle.std.specs.Prelude.{cond}
use Rattle.std.specs.Ordering.{nat_cmp, is_eq}
use Rattle.std.specs.Cmp.Lexicographic.{slice_cmp}
use Rattle.std.specs.Str.{bytes_eq}
use Rattle.std.proofs.lemmas.Map.Text.{is_eq-slice_cmp}
use Rattle.index_config.specs.declared.raw.RawField.{RawField}
use Rattle.index_config.specs.declared.raw.Purpose.{Purpose}
use Rattle.index_config.specs.Fields.{can_serve, has_such}
use Rattle.index_config.proofs.Doubles.{parted, or_false, or_more, cond_or}

such_append : (purpose : Purpose) (q : List ℕ) (xs : List RawField) (raw : RawField)
    → has_such purpose q (xs ++ raw ∷ []) ≡ (has_such purpose q xs || (bytes_eq raw.path q && can_serve purpose raw))
such_append purpose q [] raw = or_false (bytes_eq raw.path q && can_serve purpose raw)
such_append purpose q (r ∷ xs) raw =
    or_more (bytes_eq r.path q && can_serve purpose r) _ (has_such purpose q xs) (bytes_eq raw.path q && can_serve purpose raw) (such_append purpose q xs raw)

and_true : (b : Bool) → (b && true) ≡ b
and_true true = refl
and_true false = refl

and_false : (b : Bool) → (b && false) ≡ false
and_false true = refl
and_false false = refl

-- those of one field more
one_more : (purpose : Purpose) (raws : List RawField) (i next : ℕ) (raw : RawField) (q : List ℕ) → next ≡ i + 1 → slice_get raws i ≡ Some raw
    → has_such purpose q (take next raws) ≡ (has_such purpose q (take i raws) || (bytes_eq raw.path q && can_serve purpose raw))
one_more purpose raws i next raw q n at =
    let after : next ≡ suc i = omega arith in
    ap (λ m. has_such purpose q (take m raws)) after ∙ ap (has_such purpose q) (parted raws i raw at).1 ∙ such_append purpose q (take i raws) raw

-- a field that can serve is put in
pub put_step : (purpose : Purpose) (raws : List RawField) (i next : ℕ) (raw : RawField) (path q : List ℕ) (old new : Bool) → next ≡ i + 1 → slice_get raws i ≡ Some raw
    → path ≡ raw.path → can_serve purpose raw ≡ true → old ≡ has_such purpose q (take i raws) → new ≡ cond (is_eq (slice_cmp nat_cmp path q)) true old
    → new ≡ has_such purpose q (take next raws)
put_step purpose raws i next raw path q old new n at p can o e =
    let same : is_eq (slice_cmp nat_cmp path q) ≡ (bytes_eq raw.path q && can_serve purpose raw) =
    is_eq-slice_cmp path q ∙ ap (λ x. bytes_eq x q) p ∙ sym (and_true (bytes_eq raw.path q)) ∙ ap (λ c. bytes_eq raw.path q && c) (sym can) in
    e ∙ cond_or (is_eq (slice_cmp nat_cmp path q)) old ∙ ap (λ x. x || is_eq (slice_cmp nat_cmp path q)) o
    ∙ ap (λ x. has_such purpose q (take i raws) || x) same ∙ sym (one_more purpose raws i next raw q n at)

-- any other is passed over
pub pass_step : (purpose : Purpose) (raws : List RawField) (i next : ℕ) (raw : RawField) (q : List ℕ) (old : Bool) → next ≡ i + 1 → slice_get raws i ≡ Some raw
    → can_serve purpose raw ≡ false → old ≡ has_such purpose q (take i raws) → old ≡ has_such purpose q (take next raws)
pass_step purpose raws i next raw q old n at can o =
    let none : (bytes_eq raw.path q && can_serve purpose raw) ≡ false = ap (λ c. bytes_eq raw.path q && c) can ∙ and_false (bytes_eq raw.path q) in
    o ∙ sym (or_false (has_such purpose q (take i raws))) ∙ ap (λ x. has_such purpose q (take i raws) || x) (sym none) ∙ sym (one_more purpose raws i next raw q n at)
