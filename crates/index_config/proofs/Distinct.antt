-- Where no path is doubled, each field and object has a path of its own, also among those that are put in order.
use Rattle.std.proofs.Common.{◌≡◌, ℕ, Bool, true, false, ◌||◌, List, [], ◌∷◌, ◌++◌, Option, Some, None, refl, sym, subst, inl, inr}
use Rattle.std.proofs.lemmas.Bool.{cases_Bool, both_ways, or_parts}
use Rattle.std.proofs.lemmas.Slice.Eq.{bytes_eq-Decides}
use Rattle.std.specs.Ordering.{nat_cmp, is_lt}
use Rattle.std.specs.Cmp.Lexicographic.{slice_cmp}
use Rattle.std.specs.Str.{bytes_eq}
use Rattle.doc_value.specs.declared.schema.Kind.{Kind}
use Rattle.index_config.specs.declared.raw.RawField.{RawField}
use Rattle.index_config.specs.Fields.{has_path, doubled, duplicate_faults, placed, sorted_by, in_order}

-- no two of these have one path
abbrev pub AreDistinct : List RawField → Type 0
AreDistinct [] = Unit {0}
AreDistinct (raw ∷ raws) = (has_path raw.path raws ≡ false) × AreDistinct raws

-- no path of the one list is one of the other
abbrev pub AreApart : List RawField → List RawField → Type 0
AreApart seen raws = (path : List ℕ) → has_path path seen ≡ true → has_path path raws ≡ false

pub both-empty : {A : Type 0} (xs ys : List A) → xs ++ ys ≡ [] → (xs ≡ []) × (ys ≡ [])
both-empty [] ys e = (refl, e)
both-empty (x ∷ xs) ys e = absurd (cc)

pub itself : (path : List ℕ) → bytes_eq path path ≡ true
itself path = (bytes_eq-Decides path path).1 refl

pub same-path : (a b : List ℕ) → bytes_eq a b ≡ true → a ≡ b
same-path a b e = (bytes_eq-Decides a b).0 e

pub or-later : (a b : Bool) → b ≡ true → (a || b) ≡ true
or-later true b e = refl
or-later false b e = e

pub path-free : (raw : RawField) (raws : List RawField) (path : List ℕ) → has_path path (raw ∷ raws) ≡ false
    → (bytes_eq raw.path path ≡ false) × (has_path path raws ≡ false)
path-free raw raws path e = or_parts (bytes_eq raw.path path) (has_path path raws) e

not-doubled : (b : Bool) (raw : RawField) → doubled b raw ≡ [] → b ≡ false
not-doubled true raw e = absurd (cc)
not-doubled false raw e = refl

has-last : (path : List ℕ) (seen : List RawField) (raw : RawField) → bytes_eq raw.path path ≡ true → has_path path (seen ++ raw ∷ []) ≡ true
has-last path [] raw e = rw e refl
has-last path (r ∷ seen) raw e = or-later (bytes_eq r.path path) _ (has-last path seen raw e)

has-before : (path : List ℕ) (seen : List RawField) (raw : RawField) → has_path path seen ≡ true → has_path path (seen ++ raw ∷ []) ≡ true
has-before path [] raw e = absurd (cc)
has-before path (r ∷ seen) raw e =
    elim (cases_Bool (bytes_eq r.path path)) [
      | inl same ↦ rw same refl
      | inr other ↦ or-later (bytes_eq r.path path) _ (has-before path seen raw (rw other at e))
    ]

-- a path that is new differs from those that stand
pub other-path : (path new : List ℕ) (seen : List RawField) → has_path new seen ≡ false → has_path path seen ≡ true → bytes_eq new path ≡ false
other-path path new seen none some =
    elim (cases_Bool (bytes_eq new path)) [
      | inl same ↦ absurd (both_ways (has_path new seen) none (subst (λ (p : List ℕ). has_path p seen ≡ true) (sym (same-path new path same)) some))
      | inr other ↦ other
    ]

pub distinct : (seen raws : List RawField) → duplicate_faults seen raws ≡ [] → AreDistinct raws × AreApart seen raws
distinct seen [] e = (tt, λ path h. refl)
distinct seen (raw ∷ raws) e =
    let parts = both-empty (doubled (has_path raw.path seen) raw) (duplicate_faults (seen ++ raw ∷ []) raws) e in
    let new : has_path raw.path seen ≡ false = not-doubled (has_path raw.path seen) raw parts.0 in
    let more = distinct (seen ++ raw ∷ []) raws parts.1 in (
      (more.1 raw.path (has-last raw.path seen raw (itself raw.path)), more.0),
      λ path h.
          rw (other-path path raw.path seen new h) (more.1 path (has-before path seen raw h)),
    )

-- a path that is free stays free where others are put in order
pub placed-free : (path : List ℕ) (raw : RawField) (rs : List RawField) → bytes_eq raw.path path ≡ false → has_path path rs ≡ false
    → has_path path (placed raw rs) ≡ false
placed-free path raw [] e f = rw e refl
placed-free path raw (r ∷ rs) e f =
    let parts = path-free r rs path f in
    elim (cases_Bool (is_lt (slice_cmp nat_cmp r.path raw.path))) [
      | inl before ↦ rw (before, parts.0) (placed-free path raw rs e parts.1)
      | inr behind ↦ rw (behind, e, parts.0) parts.1
    ]

sorted-free : (path : List ℕ) (kind : Option Kind) (raw : RawField) (rs : List RawField) → bytes_eq raw.path path ≡ false → has_path path rs ≡ false
    → has_path path (sorted_by kind raw rs) ≡ false
sorted-free path None raw rs e f = f
sorted-free path (Some kind) raw rs e f = placed-free path raw rs e f

pub ordered-free : (path : List ℕ) (raws : List RawField) → has_path path raws ≡ false → has_path path (in_order raws) ≡ false
ordered-free path [] f = refl
ordered-free path (raw ∷ raws) f =
    let parts = path-free raw raws path f in
    sorted-free path raw.kind raw (in_order raws) parts.0 (ordered-free path raws parts.1)
