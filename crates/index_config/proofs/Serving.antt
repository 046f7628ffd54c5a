-- The fields that the timestamp and the default search fields name.
use Rattle.std.proofs.Common.{◌≡◌, ℕ, zero, suc, ◌+◌, ◌<◌, Bool, true, false, ◌&&◌, slice_get, List, [], ◌∷◌, ◌++◌, length, Option, Some, None, refl, sym, subst, arith, inl, inr}
use Rattle.std.specs.Prelude.{IfSome, MatchOption, option_to_list, unwrap_or}
use Rattle.std.proofs.lemmas.Bool.{cases_Bool, both_ways, or_cases, and_parts}
use Rattle.std.specs.Ordering.{nat_cmp, is_lt}
use Rattle.std.specs.Cmp.Lexicographic.{slice_cmp}
use Rattle.std.specs.Str.{bytes_eq}
use Rattle.toml.specs.Data.{Items, no_items, item, as_str}
use Rattle.doc_value.specs.declared.schema.Field.{Field}
use Rattle.doc_value.specs.declared.schema.Kind.{Kind}
use Rattle.doc_value.specs.declared.schema.Kind.TheVariants as kinds
use Rattle.doc_value.specs.Documents.{IsTimestamp, number_from, number_of, AreNumbers}
use Rattle.doc_value.specs.declared.schema.Tokenizer.{Tokenizer}
use Rattle.doc_value.specs.declared.schema.Tokenizer.TheVariants as tokenizers
use Rattle.index_config.specs.Rules.{member_path}
use Rattle.index_config.specs.declared.raw.RawField.{RawField}
use Rattle.index_config.specs.declared.raw.Purpose.{Purpose}
use Rattle.index_config.specs.declared.raw.Purpose.TheVariants as purposes
use Rattle.index_config.specs.Accepted.{AreTags, IsTagKind, AreTextFields, IsTextKind}
use Rattle.index_config.specs.Fields.{has_path, is_date_kind, can_serve, is_text_kind, is_tag_kind, has_such, has_text, is_word, reference_by, serves, reference_faults, timestamp_faults, placed, sorted_by, in_order, field_of, fields_of, number_named, numbers_of}
use Rattle.index_config.proofs.Distinct.{AreDistinct, both-empty, itself, same-path, path-free}

-- each of these that has this path can serve so
abbrev ServesAt : Purpose → List ℕ → List RawField → Type 0
ServesAt purpose path [] = Unit {0}
ServesAt purpose path (raw ∷ raws) = (bytes_eq raw.path path ≡ true → can_serve purpose raw ≡ true) × ServesAt purpose path raws

free-serves : (purpose : Purpose) (path : List ℕ) (raws : List RawField) → has_path path raws ≡ false → ServesAt purpose path raws
free-serves purpose path [] f = tt
free-serves purpose path (raw ∷ raws) f =
    let parts = path-free raw raws path f in
    (λ e. absurd (both_ways (bytes_eq raw.path path) parts.0 e), free-serves purpose path raws parts.1)

-- where some field can serve, some field has the path
pub such-stands : (purpose : Purpose) (path : List ℕ) (raws : List RawField) → has_such purpose path raws ≡ true → has_path path raws ≡ true
such-stands purpose path [] h = absurd (cc)
such-stands purpose path (raw ∷ raws) h =
    elim (cases_Bool (bytes_eq raw.path path)) [
      | inl same ↦ rw same refl
      | inr other ↦ rw other (such-stands purpose path raws (rw other at h))
    ]

serves-at : (purpose : Purpose) (path : List ℕ) (raws : List RawField) → AreDistinct raws → has_such purpose path raws ≡ true → ServesAt purpose path raws
serves-at purpose path [] d h = absurd (cc)
serves-at purpose path (raw ∷ raws) d h =
    elim (or_cases (bytes_eq raw.path path && can_serve purpose raw) (has_such purpose path raws) h) [
      | inl own ↦
          let parts = and_parts (bytes_eq raw.path path) (can_serve purpose raw) own in
          (λ e. parts.1, free-serves purpose path raws (subst (λ (p : List ℕ). has_path p raws ≡ false) (same-path raw.path path parts.0) d.0))
      | inr later ↦ (
        λ e. absurd (both_ways (has_path path raws) (subst (λ (p : List ℕ). has_path p raws ≡ false) (same-path raw.path path e) d.0)
            (such-stands purpose path raws later)),
        serves-at purpose path raws d.1 later,
      )
    ]

placed-serves : (purpose : Purpose) (path : List ℕ) (raw : RawField) (rs : List RawField) → (bytes_eq raw.path path ≡ true → can_serve purpose raw ≡ true) → ServesAt purpose path rs
    → ServesAt purpose path (placed raw rs)
placed-serves purpose path raw [] own h = (own, tt)
placed-serves purpose path raw (r ∷ rs) own h =
    elim (cases_Bool (is_lt (slice_cmp nat_cmp r.path raw.path))) [
      | inl before ↦ rw before (h.0, placed-serves purpose path raw rs own h.1)
      | inr after ↦ rw after (own, h)
    ]

sorted-serves : (purpose : Purpose) (path : List ℕ) (kind : Option Kind) (raw : RawField) (rs : List RawField) → (bytes_eq raw.path path ≡ true → can_serve purpose raw ≡ true)
    → ServesAt purpose path rs → ServesAt purpose path (sorted_by kind raw rs)
sorted-serves purpose path None raw rs own h = h
sorted-serves purpose path (Some kind) raw rs own h = placed-serves purpose path raw rs own h

ordered-serves : (purpose : Purpose) (path : List ℕ) (raws : List RawField) → ServesAt purpose path raws → ServesAt purpose path (in_order raws)
ordered-serves purpose path [] h = tt
ordered-serves purpose path (raw ∷ raws) h = sorted-serves purpose path raw.kind raw (in_order raws) h.0 (ordered-serves purpose path raws h.1)

date-kind : (kind : Option Kind) → is_date_kind kind ≡ true → unwrap_or kind kinds.Text ≡ kinds.Datetime
date-kind None e = absurd (cc)
date-kind (Some kinds.Text) e = absurd (cc)
date-kind (Some kinds.I64) e = absurd (cc)
date-kind (Some kinds.U64) e = absurd (cc)
date-kind (Some kinds.Bool) e = absurd (cc)
date-kind (Some kinds.Datetime) e = refl
date-kind (Some kinds.TextList) e = absurd (cc)

date-found : (n : ℕ) (tags : Items) (path : List ℕ) (rs : List RawField) (k : ℕ) → ServesAt purposes.Timestamp path rs
    → number_from n (fields_of tags rs) path ≡ Some k → (m : ℕ) × ((k ≡ n + m) × IsTimestamp (fields_of tags rs) m)
date-found n tags path [] k d e = absurd (cc)
date-found n tags path (r ∷ rs) k d e =
    elim (cases_Bool (bytes_eq r.path path)) [
      | inl same ↦
          let here : Some n ≡ Some k = rw same at e in
          let first : n ≡ k = cc in
          let parts = and_parts r.fast (is_date_kind r.kind) (d.0 same) in
          (0, (omega arith, (date-kind r.kind parts.1, parts.0)))
      | inr other ↦
          let more = date-found (suc n) tags path rs k d.1 (rw other at e) in
          (suc more.0, (omega (arith, more.1.0), more.1.1))
    ]

pub timestamp-fits : (needed : Bool) (path : Option (List ℕ)) (tags : Items) (raws : List RawField) → AreDistinct raws → timestamp_faults needed path raws ≡ []
    → IfSome (number_named (fields_of tags (in_order raws)) path) (IsTimestamp (fields_of tags (in_order raws)))
timestamp-fits needed None tags raws d e = tt
timestamp-fits needed (Some path) tags raws d e = by (number_of (fields_of tags (in_order raws)) path) refl
  where
    such : has_such purposes.Timestamp path raws ≡ true
    such =
        elim (cases_Bool (has_such purposes.Timestamp path raws)) [
          | inl stands ↦ stands
          | inr lacks ↦ absurd (let fault = rw lacks at e in cc)
        ]

    by : (o : Option ℕ) → number_of (fields_of tags (in_order raws)) path ≡ o → IfSome o (IsTimestamp (fields_of tags (in_order raws)))
    by None found = tt
    by (Some k) found =
        let date = date-found 0 tags path (in_order raws) k (ordered-serves purposes.Timestamp path raws (serves-at purposes.Timestamp path raws d such)) found in
        subst (IsTimestamp (fields_of tags (in_order raws))) (omega (arith, date.1.0)) date.1.1

found-within : (n : ℕ) (fields : List Field) (path : List ℕ) (k : ℕ) → number_from n fields path ≡ Some k → k < n + length fields
found-within n [] path k e = absurd (cc)
found-within n (f ∷ fs) path k e =
    elim (cases_Bool (bytes_eq f.path path)) [
      | inl same ↦
          let here : Some n ≡ Some k = rw same at e in
          let first : n ≡ k = cc in
          omega arith
      | inr other ↦ omega (arith, found-within (suc n) fs path k (rw other at e))
    ]

named-within : (fields : List Field) (path : Option (List ℕ)) (k : ℕ) → number_named fields path ≡ Some k → k < length fields
named-within fields None k e = absurd (cc)
named-within fields (Some path) k e = omega (arith, found-within 0 fields path k e)

one-more : (fields : List Field) (o : Option ℕ) (ns : List ℕ) → ((k : ℕ) → o ≡ Some k → k < length fields) → AreNumbers fields ns
    → AreNumbers fields (option_to_list o ++ ns)
one-more fields None ns h a = a
one-more fields (Some k) ns h a = (h k refl, a)

pub numbers-fit : (fields : List Field) (items : Items) → AreNumbers fields (numbers_of fields items)
numbers-fit fields no_items = tt
numbers-fit fields (item d ds) =
    one-more fields (number_named fields (as_str d)) (numbers_of fields ds) (named-within fields (as_str d)) (numbers-fit fields ds)

-- fields of texts
text-kind : (kind : Option Kind) → is_text_kind kind ≡ true → IsTextKind (unwrap_or kind kinds.Text)
text-kind None e = absurd (cc)
text-kind (Some kinds.Text) e = tt
text-kind (Some kinds.I64) e = absurd (cc)
text-kind (Some kinds.U64) e = absurd (cc)
text-kind (Some kinds.Bool) e = absurd (cc)
text-kind (Some kinds.Datetime) e = absurd (cc)
text-kind (Some kinds.TextList) e = tt

abbrev IsTextAt : List Field → ℕ → Type 0
IsTextAt fields n = MatchOption (slice_get fields n) ⊥ (λ f. IsTextKind f.kind)

text-found : (n : ℕ) (tags : Items) (path : List ℕ) (rs : List RawField) (k : ℕ) → ServesAt purposes.Default path rs
    → number_from n (fields_of tags rs) path ≡ Some k → (m : ℕ) × ((k ≡ n + m) × IsTextAt (fields_of tags rs) m)
text-found n tags path [] k d e = absurd (cc)
text-found n tags path (r ∷ rs) k d e =
    elim (cases_Bool (bytes_eq r.path path)) [
      | inl same ↦
          let here : Some n ≡ Some k = rw same at e in
          let first : n ≡ k = cc in
          (0, (omega arith, text-kind r.kind (d.0 same)))
      | inr other ↦
          let more = text-found (suc n) tags path rs k d.1 (rw other at e) in
          (suc more.0, (omega (arith, more.1.0), more.1.1))
    ]

passed : (b : Bool) (place : List ℕ) → reference_by b place ≡ [] → b ≡ true
passed true place e = refl
passed false place e = absurd (cc)

module _ (raws : List RawField) (own : AreDistinct raws) where
  -- where some field can serve, each of that path can
  kept : (purpose : Purpose) (path : List ℕ) → has_such purpose path raws ≡ true → ServesAt purpose path (in_order raws)
  kept purpose path h = ordered-serves purpose path raws (serves-at purpose path raws own h)

  module _ (tags : Items) where
    text-number : (path : List ℕ) (o : Option ℕ) (ns : List ℕ) → number_of (fields_of tags (in_order raws)) path ≡ o → has_such purposes.Default path raws ≡ true
        → AreTextFields (fields_of tags (in_order raws)) ns → AreTextFields (fields_of tags (in_order raws)) (option_to_list o ++ ns)
    text-number path None ns e h more = more
    text-number path (Some k) ns e h more =
        let at = text-found 0 tags path (in_order raws) k (kept purposes.Default path h) e in
        (subst (IsTextAt (fields_of tags (in_order raws))) (omega (arith, at.1.0)) at.1.1, more)

    text-item : (o : Option (List ℕ)) (ns : List ℕ) → serves purposes.Default o raws ≡ true → AreTextFields (fields_of tags (in_order raws)) ns
        → AreTextFields (fields_of tags (in_order raws)) (option_to_list (number_named (fields_of tags (in_order raws)) o) ++ ns)
    text-item None ns h more = more
    text-item (Some path) ns h more = text-number path (number_of (fields_of tags (in_order raws)) path) ns refl h more

    pub texts-fit : (place : List ℕ) (n : ℕ) (items : Items) → reference_faults purposes.Default raws place n items ≡ []
        → AreTextFields (fields_of tags (in_order raws)) (numbers_of (fields_of tags (in_order raws)) items)
    texts-fit place n no_items e = tt
    texts-fit place n (item d ds) e =
        let parts = both-empty (reference_by (serves purposes.Default (as_str d) raws) (member_path place n)) (reference_faults purposes.Default raws place (suc n) ds) e in
        text-item (as_str d) (numbers_of (fields_of tags (in_order raws)) ds) (passed (serves purposes.Default (as_str d) raws) (member_path place n) parts.0)
        (texts-fit place (suc n) ds parts.1)

-- tag fields
tag-kind : (kind : Option Kind) (tokenizer : Tokenizer) → is_tag_kind kind tokenizer ≡ true → IsTagKind (unwrap_or kind kinds.Text) tokenizer
tag-kind None t e = absurd (cc)
tag-kind (Some kinds.Text) tokenizers.Raw e = tt
tag-kind (Some kinds.Text) tokenizers.Whitespace e = absurd (cc)
tag-kind (Some kinds.Text) tokenizers.Default e = absurd (cc)
tag-kind (Some kinds.I64) t e = tt
tag-kind (Some kinds.U64) t e = tt
tag-kind (Some kinds.Bool) t e = tt
tag-kind (Some kinds.Datetime) t e = absurd (cc)
tag-kind (Some kinds.TextList) t e = absurd (cc)

word-such : (raws : List RawField) (path : List ℕ) (o : Option (List ℕ)) → serves purposes.Tag o raws ≡ true → is_word path o ≡ true → has_such purposes.Tag path raws ≡ true
word-such raws path None s w = absurd (cc)
word-such raws path (Some v) s w = subst (λ (p : List ℕ). has_such purposes.Tag p raws ≡ true) (same-path v path w) s

pub listed-such : (raws : List RawField) (place : List ℕ) (n : ℕ) (items : Items) (path : List ℕ) → reference_faults purposes.Tag raws place n items ≡ []
    → has_text path items ≡ true → has_such purposes.Tag path raws ≡ true
listed-such raws place n no_items path e h = absurd (cc)
listed-such raws place n (item d ds) path e h =
    let parts = both-empty (reference_by (serves purposes.Tag (as_str d) raws) (member_path place n)) (reference_faults purposes.Tag raws place (suc n) ds) e in
    elim (or_cases (is_word path (as_str d)) (has_text path ds) h) [
      | inl here ↦ word-such raws path (as_str d) (passed (serves purposes.Tag (as_str d) raws) (member_path place n) parts.0) here
      | inr later ↦ listed-such raws place (suc n) ds path parts.1 later
    ]

tags-at : (tags : Items) (rs : List RawField) → ((path : List ℕ) → has_text path tags ≡ true → ServesAt purposes.Tag path rs) → AreTags (fields_of tags rs)
tags-at tags [] h n f a t = absurd (cc)
tags-at tags (r ∷ rs) h zero f a t =
    let here : field_of tags r ≡ f = cc in
    let tagged : has_text r.path tags ≡ true = subst (λ (x : Field). x.tag ≡ true) (sym here) t in
    subst (λ (x : Field). IsTagKind x.kind x.tokenizer) here (tag-kind r.kind r.tokenizer ((h r.path tagged).0 (itself r.path)))
tags-at tags (r ∷ rs) h (suc n) f a t = tags-at tags rs (λ path w. (h path w).1) n f a t

pub tags-fit : (raws : List RawField) (tags : Items) (place : List ℕ) → AreDistinct raws → reference_faults purposes.Tag raws place 0 tags ≡ []
    → AreTags (fields_of tags (in_order raws))
tags-fit raws tags place own e = tags-at tags (in_order raws) (λ path w. kept raws own purposes.Tag path (listed-such raws place 0 tags path e w))
