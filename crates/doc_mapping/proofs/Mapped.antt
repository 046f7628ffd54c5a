-- The mapped fields by their numbers.
use Rattle.std.proofs.Common.{◌≡◌, ℕ, zero, suc, ◌+◌, ◌≤◌, nat_eq, Bool, true, false, ◌||◌, List, [], ◌∷◌, ◌++◌, slice_get, Option, Some, None, refl, ap, sym, ◌∙◌, subst, arith}
use Rattle.std.proofs.lemmas.Bool.Decides.{nat_tests}
use Rattle.std.specs.List.{starts_with}
use Rattle.std.specs.Ordering.{nat_cmp}
use Rattle.std.specs.Cmp.Lexicographic.{slice_cmp}
use Rattle.std.specs.declared.cmp.Ordering.TheVariants.{Equal}
use Rattle.doc_value.specs.declared.schema.Field.{Field}
use Rattle.doc_value.specs.declared.schema.Schema.{Schema}
use Rattle.doc_value.specs.Documents.{PathsRise, mapped_fields, but_number, number_of}
use Rattle.doc_value.proofs.Finding.{found}
use Rattle.dynamic_paths.specs.Leaves.{is_number, is_object}
use Rattle.dynamic_paths.proofs.Others.{others_from, others}
use Rattle.doc_mapping.specs.Faults.{mapped_at, number_of_mapped}
use Rattle.doc_mapping.proofs.Holding.{none_some, number_stands, starts_itself, starts_from}

module _ (schema : Schema) (n : ℕ) (f : Field) where
  -- a mapped field is a field, and not the one for what is not mapped
  pub mapped_is : mapped_at schema n ≡ Some f → (slice_get schema.fields n ≡ Some f) × (is_number schema.dynamic n ≡ false)
  mapped_is e = by (is_number schema.dynamic n) refl
    where
      by : (b : Bool) → is_number schema.dynamic n ≡ b → (slice_get schema.fields n ≡ Some f) × (is_number schema.dynamic n ≡ false)
      by true h = none_some f (rw h at e)
      by false h = (rw h at e, h)

  pub mapped_by : slice_get schema.fields n ≡ Some f → is_number schema.dynamic n ≡ false → mapped_at schema n ≡ Some f
  mapped_by a h = rw h a

-- a number but one
but_from : (o p : Option ℕ) (k : ℕ) → but_number o p ≡ Some k → (p ≡ Some k) × (is_number o k ≡ false)
but_from o None k e = none_some k e
but_from None (Some n) k e = (e, refl)
but_from (Some m) (Some n) k e = by (nat_eq m n) refl
  where
    by : (b : Bool) → nat_eq m n ≡ b → (Some n ≡ Some k) × (nat_eq m k ≡ false)
    by true h = none_some k (rw h at e)
    by false h =
        let whole : Some n ≡ Some k = rw h at e in
        let same : n ≡ k = cc in
        (whole, subst (λ (i : ℕ). nat_eq m i ≡ false) same h)

but_so : (o p : Option ℕ) (k : ℕ) → p ≡ Some k → is_number o k ≡ false → but_number o p ≡ Some k
but_so o None k a h = none_some k a
but_so None (Some n) k a h = a
but_so (Some m) (Some n) k a h =
    let same : n ≡ k = cc in
    let other : nat_eq m n ≡ false = subst (λ (i : ℕ). nat_eq m i ≡ false) (sym same) h in
    rw other a

pub number_is : (schema : Schema) (path : List ℕ) (k : ℕ) → number_of_mapped schema path ≡ Some k → number_of schema.fields path ≡ Some k
number_is schema path k e = (but_from schema.dynamic (number_of schema.fields path) k e).0

-- the number that is found of a path is that of a mapped field with the path
pub stands_mapped : (schema : Schema) (path : List ℕ) (k : ℕ) → number_of_mapped schema path ≡ Some k → (f : Field) × ((mapped_at schema k ≡ Some f) × (f.path ≡ path))
stands_mapped schema path k e =
    let own = but_from schema.dynamic (number_of schema.fields path) k e in
    let at = number_stands 0 schema.fields path k own.0 in
    let same : at.0 ≡ k = omega (arith, at.2.0) in
    let here : slice_get schema.fields k ≡ Some at.1 = subst (λ (i : ℕ). slice_get schema.fields i ≡ Some at.1) same at.2.1 in
    (at.1, (mapped_by schema k at.1 here own.1, at.2.2))

pub found_mapped : (schema : Schema) (n : ℕ) (f : Field) (path : List ℕ) → PathsRise schema.fields → mapped_at schema n ≡ Some f → slice_cmp nat_cmp path f.path ≡ Equal
    → Some n ≡ number_of_mapped schema path
found_mapped schema n f path rise a e =
    let own = mapped_is schema n f a in
    sym (but_so schema.dynamic (number_of schema.fields path) n (sym (found schema.fields n f path rise own.0 e)) own.1)

-- some mapped field's path begins so
or_later : (a b : Bool) → b ≡ true → (a || b) ≡ true
or_later true b h = refl
or_later false b h = h

others_begin : (o : Option ℕ) (m k : ℕ) (fs : List Field) (f : Field) (start : List ℕ) → slice_get fs k ≡ Some f → is_number o (m + k) ≡ false
    → starts_with nat_eq f.path start ≡ true → is_object (others_from o m fs) start ≡ true
others_begin o m k [] f start a h b = none_some f a
others_begin o m zero (g ∷ fs) f start a h b =
    let same : g ≡ f = cc in
    let at : m + 0 ≡ m = omega arith in
    let here : is_number o m ≡ false = subst (λ (i : ℕ). is_number o i ≡ false) at h in
    let begins : starts_with nat_eq g.path start ≡ true = subst (λ (x : Field). starts_with nat_eq x.path start ≡ true) (sym same) b in
    rw here (rw begins refl)
others_begin o m (suc k) (g ∷ fs) f start a h b =
    let at : m + suc k ≡ suc m + k = omega arith in
    by (is_number o m) refl (others_begin o (suc m) k fs f start a (subst (λ (i : ℕ). is_number o i ≡ false) at h) b)
  where
    by : (c : Bool) → is_number o m ≡ c → is_object (others_from o (suc m) fs) start ≡ true → is_object (others_from o m (g ∷ fs)) start ≡ true
    by true e more = rw e more
    by false e more = rw e (or_later (starts_with nat_eq g.path start) (is_object (others_from o (suc m) fs) start) more)

abbrev BeginsAmong : Option ℕ → ℕ → List Field → List ℕ → Type 0
BeginsAmong o m fs start = (k : ℕ) × (f : Field) × ((slice_get fs k ≡ Some f) × (is_number o (m + k) ≡ false) × (starts_with nat_eq f.path start ≡ true))

begin_others : (o : Option ℕ) (m : ℕ) (fs : List Field) (start : List ℕ) → is_object (others_from o m fs) start ≡ true → BeginsAmong o m fs start
begin_others o m [] start h = absurd (let x : false ≡ true = h in cc)
begin_others o m (g ∷ fs) start h = by (is_number o m) refl (begin_others o (suc m) fs start)
  where
    onward : BeginsAmong o (suc m) fs start → BeginsAmong o m (g ∷ fs) start
    onward more =
        let at : suc m + more.0 ≡ m + suc more.0 = omega arith in
        (suc more.0, more.1, (more.2.0, subst (λ (i : ℕ). is_number o i ≡ false) at more.2.1, more.2.2))

    here : is_number o m ≡ false → (is_object (others_from o (suc m) fs) start ≡ true → BeginsAmong o (suc m) fs start) → (c : Bool) → starts_with nat_eq g.path start ≡ c
        → (c || is_object (others_from o (suc m) fs) start) ≡ true → BeginsAmong o m (g ∷ fs) start
    here e more true s w =
        let at : m ≡ m + 0 = omega arith in
        (0, g, (refl, subst (λ (i : ℕ). is_number o i ≡ false) at e, s))
    here e more false s w = onward (more w)

    by : (c : Bool) → is_number o m ≡ c → (is_object (others_from o (suc m) fs) start ≡ true → BeginsAmong o (suc m) fs start) → BeginsAmong o m (g ∷ fs) start
    by true e more = onward (more (rw e at h))
    by false e more = here e more (starts_with nat_eq g.path start) refl (rw e at h)

module _ (schema : Schema) (start : List ℕ) where
  same_objects : is_object (mapped_fields schema) start ≡ is_object (others_from schema.dynamic 0 schema.fields) start
  same_objects = ap (λ (fs : List Field). is_object fs start) (others schema.dynamic schema.fields)

  pub object_begins : (n : ℕ) (f : Field) → mapped_at schema n ≡ Some f → starts_with nat_eq f.path start ≡ true → is_object (mapped_fields schema) start ≡ true
  object_begins n f a b =
      let own = mapped_is schema n f a in
      let at : n ≡ 0 + n = omega arith in
      same_objects ∙ others_begin schema.dynamic 0 n schema.fields f start own.0 (subst (λ (i : ℕ). is_number schema.dynamic i ≡ false) at own.1) b

  pub begins_object : is_object (mapped_fields schema) start ≡ true → (n : ℕ) × (f : Field) × ((mapped_at schema n ≡ Some f) × (starts_with nat_eq f.path start ≡ true))
  begins_object h =
      let s = begin_others schema.dynamic 0 schema.fields start (sym same_objects ∙ h) in
      let at : 0 + s.0 ≡ s.0 = omega arith in
      (s.0, s.1, (mapped_by schema s.0 s.1 s.2.0 (subst (λ (i : ℕ). is_number schema.dynamic i ≡ false) at s.2.1), s.2.2))

pub object_by : (schema : Schema) (n : ℕ) (f : Field) (r x : List ℕ) → mapped_at schema n ≡ Some f → f.path ≡ r ++ 46 ∷ x → is_object (mapped_fields schema) (r ++ 46 ∷ []) ≡ true
object_by schema n f r x a e =
    object_begins schema (r ++ 46 ∷ []) n f a (subst (λ p. starts_with nat_eq p (r ++ 46 ∷ []) ≡ true) (sym e) (starts_itself r x))

pub object_from : (schema : Schema) (w : List ℕ) → is_object (mapped_fields schema) (w ++ 46 ∷ []) ≡ true
    → (n : ℕ) × (f : Field) × ((mapped_at schema n ≡ Some f) × ((rest : List ℕ) × (f.path ≡ w ++ 46 ∷ rest)))
object_from schema w h =
    let s = begins_object schema (w ++ 46 ∷ []) h in
    (s.0, s.1, (s.2.0, starts_from s.1.path w s.2.1))

-- the first number from `low` on that is not the one of the field for what is not mapped
pub record Follows (o : Option ℕ) (low first : ℕ) : Type 0 where
  pub above : low ≤ first
  pub free : is_number o first ≡ false
  pub least : (k : ℕ) → is_number o k ≡ false → low ≤ k → first ≤ k

pub follows_same : (o : Option ℕ) (low : ℕ) → is_number o low ≡ false → Follows o low low
follows_same o low h = record { above = omega arith; free = h; least = λ k g l. l }

pub follows_next : (o : Option ℕ) (low : ℕ) → is_number o low ≡ true → Follows o low (low + 1)
follows_next None low h = absurd (let x : false ≡ true = h in cc)
follows_next (Some m) low h =
    let same : m ≡ low = grind (h, arith, nat_tests) in
    record { above = omega arith; free = grind (same, arith, nat_tests); least = λ k g l. grind (g, l, same, arith, nat_tests) }
