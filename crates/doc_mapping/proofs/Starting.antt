-- Among paths that rise, those that begin alike stand side by side.
use Rattle.std.proofs.Common.{◌≡◌, ◌≢◌, ℕ, zero, suc, ◌+◌, ◌<◌, ◌≤◌, nat_eq, Bool, true, false, List, [], ◌∷◌, ◌++◌, length, take, drop, slice_get, Some, refl, sym, ap, ◌∙◌, subst, arith, ◌⊎◌, inl, inr}
use Rattle.std.specs.List.{starts_with}
use Rattle.std.specs.Ordering.{nat_cmp, is_lt, ordering_then}
use Rattle.std.specs.Cmp.{nat_cmp_is}
use Rattle.std.specs.Cmp.Lexicographic.{slice_cmp}
use Rattle.std.specs.declared.cmp.Ordering.{Ordering}
use Rattle.std.specs.declared.cmp.Ordering.TheVariants.{Less, Equal, Greater}
use Rattle.std.proofs.lemmas.Cmp.{nat_list_cmp_total}
use Rattle.std.proofs.lemmas.Slice.Eq.{bytes_eq-Decides}
use Rattle.std.proofs.lemmas.Option.{slice_get_within}
use Rattle.doc_value.specs.declared.schema.Field.{Field}
use Rattle.doc_value.specs.declared.schema.Schema.{Schema}
use Rattle.doc_value.specs.Documents.{IsBefore, PathsRise, mapped_fields}
use Rattle.doc_value.proofs.Finding.{rise-between}
use Rattle.dynamic_paths.specs.Leaves.{is_object}
use Rattle.doc_mapping.specs.Faults.{mapped_at}
use Rattle.doc_mapping.proofs.Mapped.{mapped_is, mapped_by, object_begins, begins_object, Follows}
use Rattle.doc_mapping.proofs.Numbering.{number_cases}

abbrev pub Begins : List ℕ → List ℕ → Type 0
Begins start path = (rest : List ℕ) × (path ≡ start ++ rest)

own_front : (start rest : List ℕ) → take (length start) (start ++ rest) ≡ start
own_front [] rest = refl
own_front (c ∷ cs) rest = ap (λ z. c ∷ z) (own_front cs rest)

parted : (k : ℕ) (xs : List ℕ) → xs ≡ take k xs ++ drop k xs
parted zero xs = refl
parted (suc k) [] = refl
parted (suc k) (x ∷ xs) = ap (λ z. x ∷ z) (parted k xs)

begins_from : (start path : List ℕ) → starts_with nat_eq path start ≡ true → Begins start path
begins_from start path h =
    let front = (bytes_eq-Decides start (take (length start) path)).0 h in
    (drop (length start) path, parted (length start) path ∙ ap (λ z. z ++ drop (length start) path) (sym front))

begins_so : (start path : List ℕ) → Begins start path → starts_with nat_eq path start ≡ true
begins_so start path h =
    (bytes_eq-Decides start (take (length start) path)).1 (sym (own_front start h.0) ∙ ap (take (length start)) (sym h.1))

-- what begins so doesn't come before
long_after : (start rest : List ℕ) → slice_cmp nat_cmp (start ++ rest) start ≢ Less
long_after [] [] = λ e. cc
long_after [] (x ∷ xs) = λ e. cc
long_after (c ∷ cs) rest = λ e. long_after cs rest (rw (sym (nat_cmp_is c c Equal refl)) at e)

-- a path from `start` up to one that begins so begins so too
between : (start rest x : List ℕ) → slice_cmp nat_cmp x start ≢ Less → (x ≡ start ++ rest) ⊎ (slice_cmp nat_cmp x (start ++ rest) ≡ Less) → Begins start x
between [] rest x a b = (x, refl)
between (c ∷ cs) rest [] a b = absurd (a refl)
between (c ∷ cs) rest (d ∷ ds) a b = by (λ p q. between cs rest ds p q) (number_cases d c)
  where
    first : (o : Ordering) → o ≡ nat_cmp d c → (xs : List ℕ) → slice_cmp nat_cmp (d ∷ ds) (c ∷ xs) ≡ ordering_then o (slice_cmp nat_cmp ds xs)
    first o e xs = ap (λ r. ordering_then r (slice_cmp nat_cmp ds xs)) (sym e)

    by : (slice_cmp nat_cmp ds cs ≢ Less → (ds ≡ cs ++ rest) ⊎ (slice_cmp nat_cmp ds (cs ++ rest) ≡ Less) → Begins cs ds)
        → (d ≡ c) ⊎ ((d < c) ⊎ (c < d)) → Begins (c ∷ cs) (d ∷ ds)
    by more (inl same) =
        let tie : Equal ≡ nat_cmp d c = nat_cmp_is d c Equal same in
        let rests : (ds ≡ cs ++ rest) ⊎ (slice_cmp nat_cmp ds (cs ++ rest) ≡ Less) = elim b [
          | inl e ↦ inl (cc)
          | inr l ↦ inr (sym (first Equal tie (cs ++ rest)) ∙ l)
        ] in
        let deeper = more (λ e. a (first Equal tie cs ∙ e)) rests in
        (deeper.0, λ i. same i ∷ deeper.1 i)
    by more (inr (inl less)) = absurd (a (first Less (nat_cmp_is d c Less less) cs))
    by more (inr (inr above)) = elim b [
      | inl e ↦ absurd (let same : d ≡ c = cc in omega arith)
      | inr l ↦ absurd (let wrong : Greater ≡ Less = sym (first Greater (nat_cmp_is d c Greater above) (cs ++ rest)) ∙ l in cc)
    ]

-- the paths below one place come before, and those from another one on don't
pub record Parts (fields : List Field) (start : List ℕ) (low high : ℕ) : Type 0 where
  pub ordered : low ≤ high
  pub fits : high ≤ length fields
  pub below : (k : ℕ) (f : Field) → slice_get fields k ≡ Some f → k < low → IsBefore f.path start
  pub above : (k : ℕ) (f : Field) → slice_get fields k ≡ Some f → high ≤ k → slice_cmp nat_cmp f.path start ≢ Less

is_less : (o : Ordering) → is_lt o ≡ true → o ≡ Less
is_less Less e = refl
is_less Equal e = absurd (let wrong : false ≡ true = e in cc)
is_less Greater e = absurd (let wrong : false ≡ true = e in cc)

not_less : (o : Ordering) → is_lt o ≡ false → o ≢ Less
not_less o e l = let wrong : true ≡ false = sym (ap is_lt l) ∙ e in cc

same_field : (fields : List Field) (i j : ℕ) (f g : Field) → slice_get fields i ≡ Some f → slice_get fields j ≡ Some g → i ≡ j → f ≡ g
same_field fields i j f g a b e = let both : Some f ≡ Some g = sym a ∙ ap (slice_get fields) e ∙ b in cc

pub parts_higher : (fields : List Field) (start path : List ℕ) (low high middle next : ℕ) (g : Field) → PathsRise fields → Parts fields start low high
    → slice_get fields middle ≡ Some g → path ≡ g.path → middle < high → next ≡ middle + 1 → is_lt (slice_cmp nat_cmp path start) ≡ true → Parts fields start next high
parts_higher fields start path low high middle next g rise h m p u n less = record {
  ordered = omega arith;
  fits = h.fits;
  below = λ k f e l. elim (number_cases k middle) [
    | inl same ↦ subst (λ (y : Field). IsBefore y.path start) (same_field fields middle k g f m e (sym same)) here
    | inr other ↦ elim other [
      | inl lower ↦ nat_list_cmp_total.trans f.path g.path start (rise-between fields k middle f g rise e m lower) here
      | inr more ↦ absurd (omega arith)
    ]
  ];
  above = h.above;
}
  where
    here : IsBefore g.path start
    here = subst (λ x. IsBefore x start) p (is_less (slice_cmp nat_cmp path start) less)

pub parts_lower : (fields : List Field) (start path : List ℕ) (low high middle : ℕ) (g : Field) → PathsRise fields → Parts fields start low high
    → slice_get fields middle ≡ Some g → path ≡ g.path → low ≤ middle → middle < high → is_lt (slice_cmp nat_cmp path start) ≡ false → Parts fields start low middle
parts_lower fields start path low high middle g rise h m p l u less = record {
  ordered = l;
  fits = omega (arith, h.fits);
  below = h.below;
  above = λ k f e from. elim (number_cases k middle) [
    | inl same ↦ subst (λ (y : Field). slice_cmp nat_cmp y.path start ≢ Less) (same_field fields middle k g f m e (sym same)) here
    | inr other ↦ elim other [
      | inl lower ↦ absurd (omega arith)
      | inr more ↦ λ before. here (nat_list_cmp_total.trans g.path f.path start (rise-between fields middle k g f rise m e more) before)
    ]
  ];
}
  where
    here : slice_cmp nat_cmp g.path start ≢ Less
    here = subst (λ x. slice_cmp nat_cmp x start ≢ Less) p (not_less (slice_cmp nat_cmp path start) less)

fails : (b : Bool) → (b ≡ true → ⊥) → b ≡ false
fails true h = absurd (h refl)
fails false h = refl

module _ (schema : Schema) (start : List ℕ) (low high : ℕ) (parts : Parts schema.fields start low high) where
  none_begins : ((n : ℕ) (f : Field) → mapped_at schema n ≡ Some f → starts_with nat_eq f.path start ≡ true → ⊥) → is_object (mapped_fields schema) start ≡ false
  none_begins h = fails (is_object (mapped_fields schema) start) (λ has. let s = begins_object schema start has in h s.0 s.1 s.2.0 s.2.1)

  lower_fails : (k : ℕ) (f : Field) → slice_get schema.fields k ≡ Some f → k < low → starts_with nat_eq f.path start ≡ true → ⊥
  lower_fails k f a l h =
      let begins = begins_from start f.path h in
      long_after start begins.0 (subst (λ x. slice_cmp nat_cmp x start ≡ Less) begins.1 (parts.below k f a l))

  pub none_left : length schema.fields ≤ low → false ≡ is_object (mapped_fields schema) start
  none_left l = sym (none_begins (λ k f a h.
      let here = (mapped_is schema k f a).0 in
      let w : k < length schema.fields = slice_get_within schema.fields k f here in
      lower_fails k f here (omega (arith, w, l)) h))

module _ (schema : Schema) (start : List ℕ) (low high first : ℕ) (parts : Parts schema.fields start low high) (met : high ≤ low) (next : Follows schema.dynamic low first) where
  -- a mapped field's number is below the middle, or not below the first number behind it
  sides : (k : ℕ) (f : Field) → mapped_at schema k ≡ Some f → (k < low) ⊎ (first ≤ k)
  sides k f a = elim (number_cases k low) [
    | inl same ↦ inr (next.least k (mapped_is schema k f a).1 (omega (arith, same)))
    | inr other ↦ elim other [ inl less ↦ inl less | inr more ↦ inr (next.least k (mapped_is schema k f a).1 (omega (arith, more))) ]
  ]

  pub no_path : length schema.fields ≤ first → false ≡ is_object (mapped_fields schema) start
  no_path l = sym (none_begins schema start low high parts (λ k f a h. elim (sides k f a) [
    | inl less ↦ lower_fails schema start low high parts k f (mapped_is schema k f a).0 less h
    | inr more ↦ let w : k < length schema.fields = slice_get_within schema.fields k f (mapped_is schema k f a).0 in absurd (omega (arith, w, more, l))
  ]))

  pub first_tells : PathsRise schema.fields → (g : Field) → slice_get schema.fields first ≡ Some g → starts_with nat_eq g.path start ≡ is_object (mapped_fields schema) start
  first_tells rise g m = by (starts_with nat_eq g.path start) refl
    where
      later : starts_with nat_eq g.path start ≡ false → (k : ℕ) (f : Field) → slice_get schema.fields k ≡ Some f → first ≤ k → starts_with nat_eq f.path start ≡ true → ⊥
      later lacks k f a l h = elim (number_cases k first) [
        | inl same ↦
            let has : starts_with nat_eq g.path start ≡ true = subst (λ (y : Field). starts_with nat_eq y.path start ≡ true) (sym (same_field schema.fields first k g f m a (sym same))) h in
            let wrong : true ≡ false = sym has ∙ lacks in
            cc
        | inr other ↦ elim other [
          | inl lower ↦ absurd (omega (arith, lower, l))
          | inr more ↦
              let begins = begins_from start f.path h in
              let before : slice_cmp nat_cmp g.path (start ++ begins.0) ≡ Less = subst (λ x. slice_cmp nat_cmp g.path x ≡ Less) begins.1 (rise-between schema.fields first k g f rise m a more) in
              let from : high ≤ first = omega (arith, next.above, met) in
              let has : starts_with nat_eq g.path start ≡ true = begins_so start g.path (between start begins.0 g.path (parts.above first g m from) (inr before)) in
              let wrong : true ≡ false = sym has ∙ lacks in
              cc
        ]
      ]

      by : (b : Bool) → starts_with nat_eq g.path start ≡ b → b ≡ is_object (mapped_fields schema) start
      by true h = sym (object_begins schema start first g (mapped_by schema first g m next.free) h)
      by false h = sym (none_begins schema start low high parts (λ k f a b. elim (sides k f a) [
        | inl less ↦ lower_fails schema start low high parts k f (mapped_is schema k f a).0 less b
        | inr more ↦ later h k f (mapped_is schema k f a).0 more b
      ]))
