-- The field for what is not mapped, which mode dynamic adds.
use Rattle.std.proofs.Common.{◌≡◌, ℕ, suc, ◌+◌, true, false, slice_get, List, [], ◌∷◌, ◌++◌, Option, Some, None, refl, ap, subst, arith, inl, inr}
use Rattle.std.specs.Prelude.{IfSome}
use Rattle.std.proofs.lemmas.Bool.{cases_Bool, both_ways}
use Rattle.std.specs.Ordering.{nat_cmp, is_lt}
use Rattle.std.specs.Cmp.Lexicographic.{slice_cmp}
use Rattle.std.specs.Str.{bytes_eq}
use Rattle.toml.specs.Data.{Items}
use Rattle.doc_value.specs.declared.schema.Kind.{Kind}
use Rattle.doc_value.specs.Documents.{IsDynamic, number_from, number_of}
use Rattle.index_config.specs.declared.config.Mode.{Mode}
use Rattle.index_config.specs.declared.config.Mode.TheVariants as modes
use Rattle.index_config.specs.declared.raw.RawField.{RawField}
use Rattle.index_config.specs.declared.raw.Purpose.TheVariants as purposes
use Rattle.index_config.specs.Accepted.{HoldsUnmapped}
use Rattle.index_config.specs.Fields.{has_path, has_text, reference_faults, placed, sorted_by, in_order, field_of, fields_of, number_named, dynamic_path, dynamic_raw, dynamic_raws, dynamic_name, schema_with}
use Rattle.index_config.proofs.Distinct.{AreDistinct, itself, or-later, path-free}
use Rattle.index_config.proofs.Serving.{such-stands, listed-such}

-- each of these that has the path of this one is this one
abbrev AreOwn : RawField → List RawField → Type 0
AreOwn one [] = Unit {0}
AreOwn one (r ∷ rs) = (bytes_eq r.path one.path ≡ true → r ≡ one) × AreOwn one rs

own-free : (one : RawField) (raws : List RawField) → has_path one.path raws ≡ false → AreOwn one raws
own-free one [] f = tt
own-free one (r ∷ rs) f =
    let parts = path-free r rs one.path f in
    (λ e. absurd (both_ways (bytes_eq r.path one.path) parts.0 e), own-free one rs parts.1)

module _ (one : RawField) where
  placed-own : (raw : RawField) (rs : List RawField) → (bytes_eq raw.path one.path ≡ true → raw ≡ one) → AreOwn one rs → AreOwn one (placed raw rs)
  placed-own raw [] own h = (own, tt)
  placed-own raw (r ∷ rs) own h =
      elim (cases_Bool (is_lt (slice_cmp nat_cmp r.path raw.path))) [
        | inl before ↦ rw before (h.0, placed-own raw rs own h.1)
        | inr after ↦ rw after (own, h)
      ]

  sorted-own : (kind : Option Kind) (raw : RawField) (rs : List RawField) → (bytes_eq raw.path one.path ≡ true → raw ≡ one) → AreOwn one rs
      → AreOwn one (sorted_by kind raw rs)
  sorted-own None raw rs own h = h
  sorted-own (Some kind) raw rs own h = placed-own raw rs own h

  ordered-own : (raws : List RawField) → AreOwn one raws → AreOwn one (in_order raws)
  ordered-own [] h = tt
  ordered-own (raw ∷ raws) h = sorted-own raw.kind raw (in_order raws) h.0 (ordered-own raws h.1)

  module _ (tags : Items) where
    own-found : (n : ℕ) (rs : List RawField) (k : ℕ) → AreOwn one rs → number_from n (fields_of tags rs) one.path ≡ Some k
        → (m : ℕ) × ((k ≡ n + m) × (slice_get (fields_of tags rs) m ≡ Some (field_of tags one)))
    own-found n [] k h e = absurd (cc)
    own-found n (r ∷ rs) k h e =
        elim (cases_Bool (bytes_eq r.path one.path)) [
          | inl same ↦
              let here : Some n ≡ Some k = rw same at e in
              let first : n ≡ k = cc in
              (0, (omega arith, ap (λ (x : RawField). Some (field_of tags x)) (h.0 same)))
          | inr other ↦
              let more = own-found (suc n) rs k h.1 (rw other at e) in
              (suc more.0, (omega (arith, more.1.0), more.1.1))
        ]

    found-has : (n : ℕ) (path : List ℕ) (rs : List RawField) → has_path path rs ≡ true → (k : ℕ) × (number_from n (fields_of tags rs) path ≡ Some k)
    found-has n path [] h = absurd (cc)
    found-has n path (r ∷ rs) h =
        elim (cases_Bool (bytes_eq r.path path)) [
          | inl same ↦ (n, rw same refl)
          | inr other ↦
              let more = found-has (suc n) path rs (rw other at h) in
              (more.0, rw other more.1)
        ]

placed-has : (raw : RawField) (rs : List RawField) → has_path raw.path (placed raw rs) ≡ true
placed-has raw [] = rw (itself raw.path) refl
placed-has raw (r ∷ rs) =
    elim (cases_Bool (is_lt (slice_cmp nat_cmp r.path raw.path))) [
      | inl before ↦ rw before (or-later (bytes_eq r.path raw.path) _ (placed-has raw rs))
      | inr after ↦ rw (after, itself raw.path) refl
    ]

-- no tag field is that of what is not mapped, since it is a list of texts
no-tag : (rest : List RawField) (tags : Items) (place : List ℕ) → has_path dynamic_path rest ≡ false
    → reference_faults purposes.Tag (dynamic_raw ∷ rest) place 0 tags ≡ [] → has_text dynamic_path tags ≡ false
no-tag rest tags place free e =
    elim (cases_Bool (has_text dynamic_path tags)) [
      | inl tagged ↦
          absurd (both_ways (has_path dynamic_path rest) free (such-stands purposes.Tag dynamic_path rest (listed-such (dynamic_raw ∷ rest) place 0 tags dynamic_path e tagged)))
      | inr plain ↦ plain
    ]

module _ (tags : Items) (rest : List RawField) (own : AreDistinct (dynamic_raw ∷ rest)) where
  -- its number, and what has that number
  number : (k : ℕ) × (number_of (fields_of tags (in_order (dynamic_raw ∷ rest))) dynamic_path ≡ Some k)
  number = found-has dynamic_raw tags 0 dynamic_path (in_order (dynamic_raw ∷ rest)) (placed-has dynamic_raw (in_order rest))

  stands : slice_get (fields_of tags (in_order (dynamic_raw ∷ rest))) number.0 ≡ Some (field_of tags dynamic_raw)
  stands =
      let found = own-found dynamic_raw tags 0 (in_order (dynamic_raw ∷ rest)) number.0
      (ordered-own dynamic_raw (dynamic_raw ∷ rest) (λ e. refl, own-free dynamic_raw rest own.0)) number.1 in
      let same : found.0 ≡ number.0 = omega (arith, found.1.0) in
      subst (λ (m : ℕ). slice_get (fields_of tags (in_order (dynamic_raw ∷ rest))) m ≡ Some (field_of tags dynamic_raw)) same found.1.1

  own-dynamic : (place : List ℕ) → reference_faults purposes.Tag (dynamic_raw ∷ rest) place 0 tags ≡ []
      → IfSome (number_of (fields_of tags (in_order (dynamic_raw ∷ rest))) dynamic_path) (IsDynamic (fields_of tags (in_order (dynamic_raw ∷ rest))))
  own-dynamic place e = rw (number.1, stands) (refl, refl, refl, refl, no-tag rest tags place own.0 e, refl)

pub dynamic-fits : (mode : Mode) (tags : Items) (rest : List RawField) (place : List ℕ) → AreDistinct (dynamic_raws mode ++ rest)
    → reference_faults purposes.Tag (dynamic_raws mode ++ rest) place 0 tags ≡ []
    → IfSome (number_named (fields_of tags (in_order (dynamic_raws mode ++ rest))) (dynamic_name mode))
    (IsDynamic (fields_of tags (in_order (dynamic_raws mode ++ rest))))
dynamic-fits modes.Strict tags rest place own e = tt
dynamic-fits modes.Lenient tags rest place own e = tt
dynamic-fits modes.Dynamic tags rest place own e = own-dynamic tags rest own place e

pub dynamic-holds : (mode : Mode) (tags : Items) (rest : List RawField) (path : Option (List ℕ)) → AreDistinct (dynamic_raws mode ++ rest)
    → HoldsUnmapped mode (schema_with (fields_of tags (in_order (dynamic_raws mode ++ rest))) path mode)
dynamic-holds modes.Strict tags rest path own = λ e. cc
dynamic-holds modes.Lenient tags rest path own = λ e. cc
dynamic-holds modes.Dynamic tags rest path own = rw (number tags rest own).1 (refl, rw (stands tags rest own) refl)

-- in mode dynamic nothing else has that path
pub dynamic-free : (mode : Mode) (rest : List RawField) → AreDistinct (dynamic_raws mode ++ rest) → mode ≡ modes.Dynamic → has_path dynamic_path rest ≡ false
dynamic-free modes.Strict rest own e = absurd (cc)
dynamic-free modes.Lenient rest own e = absurd (cc)
dynamic-free modes.Dynamic rest own e = own.0
